use Rattle.std.proofs.Common.{◌≤◌, ◌*◌, ℕ, List, length, sym, subst}
use Rattle.plan_base.specs.Facts.{price_limit}
use Rattle.bound_assembly.specs.declared.limits.TheConstants.{MAX_PATH_LINKS}
use Rattle.master_step.specs.Choosing.{all_of, is_allowed, IsLeastAt}
use Rattle.master_step.proofs.SmallValues.{small_price}
use Rattle.master_step.proofs.Looking.{least-price}
use Rattle.master_step.proofs.source.Source.column.Goals as goal

pub returns-clause-within : goal.returns-clause-within
returns-clause-within c =
    let k = c.args.demand.0 in
    let least : IsLeastAt c.args.inst.now c.args.prices.now (is_allowed c.args.self.now k) (all_of c.args.self.now k) (length (all_of c.args.self.now k)) c.in-Some.least =
    subst (λ (prices : List ℕ). IsLeastAt c.args.inst.now prices (is_allowed c.args.self.now k) (all_of c.args.self.now k) (length (all_of c.args.self.now k)) c.in-Some.least) c.as_slice.ensures.value c.in-Some.ensures in
    subst (λ (x : ℕ). x ≤ MAX_PATH_LINKS * price_limit c.args.inst.now) (sym (least-price c.args.inst.now c.args.self.now c.args.prices.now k c.in-Some.least least))
    (small_price c.args.inst.now c.args.self.now c.args.prices.now k c.lawful.ensures c.requires.limit c.requires.source c.requires.columns c.requires.demand)
