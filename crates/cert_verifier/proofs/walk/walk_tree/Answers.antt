use Rattle.std.proofs.Common.{◌≡◌, ◌≢◌, ◌<◌, ◌≤◌, length, reverse, List, Some, Option, Result, Err, ap, sym, subst, rules}
use Rattle.std.specs.Prelude.{IfErr, ℤ}
use Rattle.cert_verifier.specs.declared.walk.Turn.{Turn}
use Rattle.cert_verifier.specs.declared.rejected.Rejected.{Rejected}
use Rattle.cert_verifier.specs.declared.rejected.Rejected.TheVariants.{OutOfMemory}
use Rattle.cert_verifier.specs.RecordRules.{TreeFinds}
use Rattle.cert_verifier.specs.Walks.{region_of_marks}
use Rattle.cert_verifier.proofs.PlanSteps.{fits_numbers}
use Rattle.cert_verifier.proofs.StepLaws.{so_far-start, so_far-stands, so_far-step, so_far-fault, so_far-end, record_at}
use Rattle.cert_verifier.proofs.walk.walk_tree.Goals as goal

pub visit-requires-clause-fits : goal.visit-requires-clause-fits
visit-requires-clause-fits c = fits_numbers c.args.against.now.inst.now c.args.against.now.plan.now c.requires.sizes c.requires.spelled

pub loop-index-init : goal.loop-index-init
loop-index-init c = record {
  rows = c.in_ok-walk.ensures.rows;
  so_far = so_far-start c.args.against.now.inst.now c.args.against.now.plan.now (reverse c.in_ok-walk.walk.turns.items) (region_of_marks c.in_ok-walk.walk.forbidden c.in_ok-walk.walk.ranges) c.in_ok-walk.walk.least
      (ap (λ (ts : List Turn). reverse ts) c.in_ok-walk.ensures.turns) c.in_ok-walk.ensures.whole c.in_ok-walk.ensures.least c.requires.spelled.whole;
}

pub visit-requires-clause-stands : goal.visit-requires-clause-stands
visit-requires-clause-stands c =
    let plan = c.args.against.now.plan.now in
    let within : c.loop-index.index < length plan.tree = search rules in
    let here = record_at plan.tree c.loop-index.index within in
    so_far-stands c.args.against.now.inst.now plan c.loop-index.index (reverse c.loop-index.walk.turns.items) (region_of_marks c.loop-index.walk.forbidden c.loop-index.walk.ranges) c.loop-index.walk.least here.0 c.loop-index.invariant.so_far within here.1

pub loop-index-preserved : goal.loop-index-preserved
loop-index-preserved c =
    let plan = c.args.against.now.plan.now in
    let within : c.loop-index.index < length plan.tree = search rules in
    let here = record_at plan.tree c.loop-index.index within in
    record {
      rows = c.visit.ensures.rows;
      so_far = so_far-step c.args.against.now.inst.now plan c.loop-index.index (reverse c.loop-index.walk.turns.items) (reverse c.visit.new.self.turns.items)
          (region_of_marks c.loop-index.walk.forbidden c.loop-index.walk.ranges) (region_of_marks c.visit.new.self.forbidden c.visit.new.self.ranges) c.loop-index.walk.least c.visit.new.self.least here.0
          c.loop-index.invariant.so_far within here.1 (c.in_ok-visit.ensures.found here.0 here.2 (λ e. cc))
          (λ gs place. c.in_ok-visit.ensures.left here.0 gs here.2 place) (λ met least. c.in_ok-visit.ensures.least here.0 met here.2 least);
    }

pub returns-in_err-visit-clause-fault : goal.returns-in_err-visit-clause-fault
returns-in_err-visit-clause-fault c =
    let plan = c.args.against.now.plan.now in
    let within : c.loop-index.index < length plan.tree = search rules in
    let here = record_at plan.tree c.loop-index.index within in
    let e = c.in_err-visit.field-0.0 in
    let same : c.from_residual-in_err-visit.result ≡ Err e = search rules in
    subst (λ (r : Result (Option ℤ) Rejected). IfErr r (λ fault. fault ≢ OutOfMemory → TreeFinds c.args.against.now.inst.now plan plan.tree (Some fault))) (sym same)
    (λ other. so_far-fault c.args.against.now.inst.now plan c.loop-index.index (reverse c.loop-index.walk.turns.items) (region_of_marks c.loop-index.walk.forbidden c.loop-index.walk.ranges) c.loop-index.walk.least here.0 e
    c.loop-index.invariant.so_far within here.1 (c.in_err-visit.ensures.found here.0 here.2 (λ is. other cc)))

pub returns-clause-least : goal.returns-clause-least
returns-clause-least c =
    let plan = c.args.against.now.plan.now in
    let ended : length plan.tree ≤ c.loop-index.index = search rules in
    (so_far-end c.args.against.now.inst.now plan c.loop-index.index (reverse c.loop-index.walk.turns.items) (region_of_marks c.loop-index.walk.forbidden c.loop-index.walk.ranges) c.loop-index.walk.least c.loop-index.invariant.so_far ended).1
