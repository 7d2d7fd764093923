use Rattle.cert_verifier.proofs.Verdicts.{answer-valid, answer-claim, answer-accepted, answer-fault}
use Rattle.cert_verifier.proofs.verifying.verify.Goals as goal

pub returns : goal.returns
returns c = record {
  valid = answer-valid c.args.inst.now c.args.plan.now c.check_plan.result c.requires.fits c.check_plan.ensures;
  claim = answer-claim c.args.inst.now c.args.plan.now c.check_plan.result c.requires.fits c.check_plan.ensures;
  accepted = answer-accepted c.args.inst.now c.args.plan.now c.check_plan.result c.check_plan.ensures;
  fault = answer-fault c.args.inst.now c.args.plan.now c.check_plan.result c.check_plan.ensures;
}
