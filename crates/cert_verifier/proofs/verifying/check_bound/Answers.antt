use Rattle.std.proofs.Common.{sym, subst, ap, ◌∙◌}
use Rattle.std.specs.Prelude.{pos}
use Rattle.std.specs.Option.{option_map}
use Rattle.std.specs.Result.{result_err}
use Rattle.cert_verifier.specs.Bounds.{IsLowerOf}
use Rattle.cert_verifier.specs.PlanRules.{BoundFinds}
use Rattle.cert_verifier.proofs.LeastLaws.{least_of_both}
use Rattle.cert_verifier.proofs.verifying.check_bound.Goals as goal

pub returns-in-Undecided : goal.returns-in-Undecided
returns-in-Undecided c = λ p least.
    let plan = c.args.plan.now in
    let lower = subst (λ o. IsLowerOf o c.args.lowest c.lower-found.result) (c.as_bound.ensures ∙ ap (option_map (λ cost. pos cost)) c.stated_cost.ensures) c.lower-found.ensures in
    subst (λ status. BoundFinds p plan status (result_err c.check_stated_bound.result)) (sym c.in-Undecided.is)
    (c.lower-found.result, least_of_both p plan c.args.lowest c.lower-found.result least lower, c.check_stated_bound.ensures)
