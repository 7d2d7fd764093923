use Rattle.std.proofs.Common.{◌≡◌, Some, true, false, rules, sym, ap, subst, ◌∙◌}
use Rattle.std.specs.Result.{result_err}
use Rattle.proof_tree.specs.Cuts.{AreRests}
use Rattle.cert_verifier.specs.declared.rejected.Rejected.{Rejected}
use Rattle.cert_verifier.specs.PlanRules.{PlanFinds}
use Rattle.cert_verifier.proofs.PlanSteps.{plan-size, plan-design, plan-cuts, plan-tree, plan-counts, plan-bound, IsSoundTree}
use Rattle.cert_verifier.proofs.CutRules.{cuts_found_none}
use Rattle.cert_verifier.proofs.CostBounds.{stated-small}
use Rattle.cert_verifier.proofs.verifying.check_plan.Goals as goal

pub returns-then-not-has_sizes : goal.returns-then-not-has_sizes
returns-then-not-has_sizes c = λ other. plan-size c.args.inst.now c.args.plan.now (λ sizes.
    let bad : false ≡ true = sym c.if-not-has_sizes.true ∙ c.has_sizes.ensures.tells.1 sizes in
    cc)

pub returns-in_err-check_plan_design : goal.returns-in_err-check_plan_design
returns-in_err-check_plan_design c = λ other.
    let fault = c.in_err-check_plan_design.field-0.0 in
    let same : result_err c.from_residual.result ≡ Some fault = search rules in
    subst (PlanFinds c.args.inst.now c.args.plan.now) (sym same)
    (plan-design c.args.inst.now c.args.plan.now fault (c.has_sizes.ensures.tells.0 c.if-not-has_sizes.false) c.in_err-check_plan_design.ensures)

pub returns-in_err-check_cuts : goal.returns-in_err-check_cuts
returns-in_err-check_cuts c = λ other.
    let fault = c.in_err-check_cuts.field-0.0 in
    let same : result_err c.from_residual-in_err-check_cuts.result ≡ Some fault = search rules in
    let found = rw c.as_slice-cuts.ensures.value at c.in_err-check_cuts.ensures in
    subst (PlanFinds c.args.inst.now c.args.plan.now) (sym same)
    (plan-cuts c.args.inst.now c.args.plan.now fault (c.has_sizes.ensures.tells.0 c.if-not-has_sizes.false) c.in_ok-check_plan_design.ensures found)

pub walk_tree-requires-clause-cuts : goal.walk_tree-requires-clause-cuts
walk_tree-requires-clause-cuts c =
    let same : c.as_slice.result.now ≡ c.in_ok-rests.rests.items = search rules in
    let are_rests : AreRests c.args.inst.now c.args.plan.now.cuts c.in_ok-rests.rests.items = rw c.as_slice-cuts.ensures.value at c.in_ok-rests.ensures in
    record {
      is_list = cuts_found_none c.args.inst.now c.args.plan.now.cuts c.requires.fits.cuts.few (rw c.as_slice-cuts.ensures.value at c.in_ok-check_cuts.ensures);
      are_rests = rw same are_rests;
    }

pub returns-in_err-lowest : goal.returns-in_err-lowest
returns-in_err-lowest c = λ other.
    let fault = c.in_err-lowest.field-0.0 in
    let same : result_err c.from_residual-in_err-lowest.result ≡ Some fault = search rules in
    let found = c.in_err-lowest.ensures.fault (λ is. other (same ∙ ap (λ (f : Rejected). Some f) is)) in
    subst (PlanFinds c.args.inst.now c.args.plan.now) (sym same)
    (plan-tree c.args.inst.now c.args.plan.now fault (c.has_sizes.ensures.tells.0 c.if-not-has_sizes.false) c.in_ok-check_plan_design.ensures (rw c.as_slice-cuts.ensures.value at c.in_ok-check_cuts.ensures) found)

pub returns-in_err-check_counts : goal.returns-in_err-check_counts
returns-in_err-check_counts c = λ other.
    let fault = c.in_err-check_counts.field-0.0 in
    let same : result_err c.from_residual-in_err-check_counts.result ≡ Some fault = search rules in
    let sound : IsSoundTree c.args.inst.now c.args.plan.now = record { sizes = c.has_sizes.ensures.tells.0 c.if-not-has_sizes.false; design = c.in_ok-check_plan_design.ensures; cuts = rw c.as_slice-cuts.ensures.value at c.in_ok-check_cuts.ensures; tree = c.in_ok-lowest.ensures.none } in
    subst (PlanFinds c.args.inst.now c.args.plan.now) (sym same) (plan-counts c.args.inst.now c.args.plan.now fault sound c.in_err-check_counts.ensures)

pub check_bound-requires : goal.check_bound-requires
check_bound-requires c = stated-small c.args.inst.now c.args.plan.now.design c.has_sizes.ensures.lawful c.in_ok-check_plan_design.ensures

pub returns : goal.returns
returns c = λ other.
    let sound : IsSoundTree c.args.inst.now c.args.plan.now = record { sizes = c.has_sizes.ensures.tells.0 c.if-not-has_sizes.false; design = c.in_ok-check_plan_design.ensures; cuts = rw c.as_slice-cuts.ensures.value at c.in_ok-check_cuts.ensures; tree = c.in_ok-lowest.ensures.none } in
    plan-bound c.args.inst.now c.args.plan.now (result_err c.check_bound.result) sound c.in_ok-check_counts.ensures (c.check_bound.ensures c.args.inst.now c.in_ok-lowest.ensures.least)
