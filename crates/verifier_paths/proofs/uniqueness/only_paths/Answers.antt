use Rattle.verifier_paths.specs.Kept.{forbidden_by}
use Rattle.verifier_paths.proofs.LeftOut.{have_paths}
use Rattle.verifier_paths.proofs.uniqueness.only_paths.Goals as goal

pub returns-then-branch : goal.returns-then-branch
returns-then-branch c = record {
  left = (
    have_paths c.args.inst.now (forbidden_by c.args.forbidden.now) c.in-Some.paths.items (rw c.in-Some.is at c.in_ok-paths.ensures.paths),
    c.in_ok-any_second-in-Some.ensures.yes c.if-branch.true,
  );
}
