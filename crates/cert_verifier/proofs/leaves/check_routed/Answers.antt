use Rattle.std.proofs.Common.{inl, inr, refl}
use Rattle.cert_verifier.specs.LeafRules.{LeafFinds}
use Rattle.cert_verifier.specs.Walks.{region_of_marks}
use Rattle.cert_verifier.specs.Routings.{bare_design}
use Rattle.cert_verifier.proofs.RoutingLaws.{loads_are, not_only_paths}
use Rattle.cert_verifier.proofs.LeafFindings.{routed_overfull, routed_decided}
use Rattle.cert_verifier.proofs.leaves.check_routed.Goals as goal

pub returns-in-Missing : goal.returns-in-Missing
unfolding LeafFinds
returns-in-Missing c = λ differs.
    let without = rw c.in-Missing.is at c.in_ok-only_paths.ensures.left in
    rw c.broken.ensures (inl (refl, inr (without, refl)))

pub returns-in-Second : goal.returns-in-Second
unfolding LeafFinds
returns-in-Second c = λ differs.
    let second = rw c.in-Second.is at c.in_ok-only_paths.ensures.left in
    rw c.broken-in-Second.ensures (inr (inl (second.0, refl), inl (refl, inr (not_only_paths _ _ second.1, refl))))

pub returns-in-Some : goal.returns-in-Some
returns-in-Some c = λ differs.
    let at = c.args.at.now in
    let only = rw c.in-Only.is at c.in_ok-only_paths.ensures.left in
    let are_loads = loads_are at.inst.now c.in-Only.paths c.loads_of_paths-loads.result c.lawful.ensures c.loads_of_paths-loads.ensures.value in
    routed_decided at.inst.now at.cuts.now at.cost (region_of_marks at.forbidden.now at.ranges.now) at.index (bare_design c.in-Only.paths) _ c.in-Some.total c.costs_enough.result c.are_within-within.result _ only.1 are_loads c.in-Some.ensures.cost
    c.costs_enough.ensures c.are_within-within.ensures c.routing_or.ensures.ok c.routing_or.ensures.cheap c.routing_or.ensures.long

pub returns-in-None : goal.returns-in-None
returns-in-None c = λ differs.
    let at = c.args.at.now in
    let only = rw c.in-Only.is at c.in_ok-only_paths.ensures.left in
    let are_loads = loads_are at.inst.now c.in-Only.paths c.loads_of_paths-loads.result c.lawful.ensures c.loads_of_paths-loads.ensures.value in
    rw c.broken-in-None.ensures (routed_overfull at.inst.now at.cuts.now at.cost (region_of_marks at.forbidden.now at.ranges.now) at.index (bare_design c.in-Only.paths) _ only.1 are_loads c.in-None.ensures.none)
