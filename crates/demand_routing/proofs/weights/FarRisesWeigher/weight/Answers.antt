use Rattle.std.proofs.Common.{ℕ, ◌*◌, ◌<◌, length, slice_index, arith, subst}
use Rattle.demand_routing.specs.Traffic.{place_at}
use Rattle.demand_routing.proofs.AddedCosts.{far-one}
use Rattle.demand_routing.proofs.WeighedLaws.{far_count, far-at}
use Rattle.demand_routing.proofs.weights.FarRisesWeigher.weight.Goals as goal

pub far_cost-requires-clause-place : goal.far_cost-requires-clause-place
far_cost-requires-clause-place c =
    let a = c.args.self.now.rises in
    let within : c.args.arc.0 < 2 * length a.table.now.links = subst (λ (n : ℕ). c.args.arc.0 < n) (far_count a.table.now a.loads.now a.load c.args.self.now.far) c.requires.number in
    (rw c.instance.ensures.inst at c.place-place.ensures.within) (omega (arith, within))

pub returns-clause-value : goal.returns-clause-value
returns-clause-value c =
    let a = c.args.self.now.rises in
    let far = c.args.self.now.far in
    let within : c.args.arc.0 < 2 * length a.table.now.links = subst (λ (n : ℕ). c.args.arc.0 < n) (far_count a.table.now a.loads.now a.load far) c.requires.number in
    far-one a.table.now (slice_index a.loads.now) (place_at a.table.now c.args.arc.0) a.load far _ _ (rw (c.place-place.ensures.value, c.instance.ensures.inst) at c.far_cost.ensures.value) (far-at a.table.now a.loads.now a.load far c.args.arc.0 within)
