use Rattle.std.proofs.Common.{ℕ, ◌*◌, ◌<◌, length, slice_index, arith, subst}
use Rattle.demand_routing.specs.Traffic.{place_at}
use Rattle.demand_routing.proofs.AddedCosts.{added-one}
use Rattle.demand_routing.proofs.WeighedLaws.{added_count, added-at}
use Rattle.demand_routing.proofs.weights.RisesWeigher.weight.Goals as goal

pub added_cost-requires-clause-place : goal.added_cost-requires-clause-place
added_cost-requires-clause-place c =
    let a = c.args.self.now in
    let within : c.args.arc.0 < 2 * length a.table.now.links = subst (λ (n : ℕ). c.args.arc.0 < n) (added_count a.table.now a.loads.now a.load) c.requires.number in
    (rw c.instance.ensures.inst at c.place.ensures.within) (omega (arith, within))

pub returns-clause-value : goal.returns-clause-value
returns-clause-value c =
    let a = c.args.self.now in
    let within : c.args.arc.0 < 2 * length a.table.now.links = subst (λ (n : ℕ). c.args.arc.0 < n) (added_count a.table.now a.loads.now a.load) c.requires.number in
    added-one a.table.now (slice_index a.loads.now) (place_at a.table.now c.args.arc.0) a.load _ _ (rw (c.place.ensures.value, c.instance.ensures.inst) at c.added_cost.ensures.value) (added-at a.table.now a.loads.now a.load c.args.arc.0 within)
