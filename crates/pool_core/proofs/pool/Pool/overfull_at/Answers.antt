use Rattle.std.proofs.Common.{◌≡◌, ◌<◌, List, length, refl, sym, subst, rules}
use Rattle.plan_base.specs.declared.parts.Parts.{Parts}
use Rattle.plan_base.specs.Places.{places}
use Rattle.link_steps.specs.declared.range.LoadRange.{LoadRange}
use Rattle.link_steps.specs.Ranges.{AreRanges}
use Rattle.completions.specs.Completions.{ArePaths, CarryLoads, IsFirstOverfull, HasOutside, AreInside}
use Rattle.search_machine.specs.State.{State, ranges_of}
use Rattle.search_machine.proofs.Replacing.{node_at}
use Rattle.search_machine.proofs.Runs.{IsReachable-sound}
use Rattle.search_view.specs.Examining.{HasOnlyPaths}
use Rattle.pool_core.specs.contracts.pool.Pool.{the_view}
use Rattle.pool_core.specs.Routes.{IsOverfullAt, AreCarriedAt}
use Rattle.pool_core.proofs.KeptRanges.{leaf-within, leaf-some, leaf-ranges}
use Rattle.pool_core.proofs.Valuing.{some_then, none_then}
use Rattle.pool_core.proofs.ReadTables.{steps-problem}
use Rattle.pool_core.proofs.RoutedPool.{paths-are, outside-found, overfull-found, carried-found}
use Rattle.pool_core.proofs.pool.Pool.overfull_at.Goals as goal

pub index-requires : goal.index-requires
index-requires c =
    let s = the_view c.self.inside in
    let at : HasOnlyPaths s c.args.node c.args.routing.now.paths = subst (λ (x : State). HasOnlyPaths x c.args.node c.args.routing.now.paths) (sym c.self.view_is) c.requires in
    let within : c.args.node.0 < length c.self.inside.state.grounds.items = leaf-within s c.args.node c.self.inside.state.grounds.items c.self.invariant.kept.has_grounds at.node at.ready.open_node.is_node at.ready.open_node.undone in
    search rules

pub unwrap-ranges-requires : goal.unwrap-ranges-requires
unwrap-ranges-requires c =
    let s = the_view c.self.inside in
    let at : HasOnlyPaths s c.args.node c.args.routing.now.paths = subst (λ (x : State). HasOnlyPaths x c.args.node c.args.routing.now.paths) (sym c.self.view_is) c.requires in
    leaf-some s c.args.node c.self.inside.state.grounds.items c.self.invariant.kept.has_grounds at.node at.ready.open_node.is_node at.ready.open_node.undone _ c.index.result.now c.index.ensures c.ranges-2.result c.ranges-2.ensures

pub outside_link-requires-clause-ranges : goal.outside_link-requires-clause-ranges
outside_link-requires-clause-ranges c =
    let s = the_view c.self.inside in
    let at : HasOnlyPaths s c.args.node c.args.routing.now.paths = subst (λ (x : State). HasOnlyPaths x c.args.node c.args.routing.now.paths) (sym c.self.view_is) c.requires in
    let same : c.deref-2.result.now ≡ ranges_of s.problem at.node =
    leaf-ranges s c.args.node c.self.inside.state.grounds.items c.self.invariant.kept.has_grounds at.node at.ready.open_node.is_node at.ready.open_node.undone _ c.index.result.now c.index.ensures c.ranges-2.result c.ranges-2.ensures c.unwrap-ranges.result
    s.problem c.deref-2.result.now at.node c.unwrap-ranges.ensures refl c.deref-2.ensures refl in
    let are : AreRanges s.problem (ranges_of s.problem at.node) = (node_at s c.args.node.0 at.node (IsReachable-sound s c.self.invariant.kept.pool.reachable) at.ready.open_node.is_node).ranges in
    subst (λ (p : Parts). AreRanges p c.deref-2.result.now) (sym c.deref.ensures) (subst (AreRanges s.problem) (sym same) are)

pub outside_link-requires-clause-paths : goal.outside_link-requires-clause-paths
outside_link-requires-clause-paths c =
    let s = the_view c.self.inside in
    let at : HasOnlyPaths s c.args.node c.args.routing.now.paths = subst (λ (x : State). HasOnlyPaths x c.args.node c.args.routing.now.paths) (sym c.self.view_is) c.requires in
    subst (λ (p : Parts). ArePaths p c.args.routing.now.paths) (sym c.deref.ensures) (paths-are s c.args.node c.args.routing.now.paths at)

pub returns-in-Some-clause-some : goal.returns-in-Some-clause-some
returns-in-Some-clause-some c =
    let s = the_view c.self.inside in
    let at : HasOnlyPaths s c.args.node c.args.routing.now.paths = subst (λ (x : State). HasOnlyPaths x c.args.node c.args.routing.now.paths) (sym c.self.view_is) c.requires in
    let same : c.deref-2.result.now ≡ ranges_of s.problem at.node =
    leaf-ranges s c.args.node c.self.inside.state.grounds.items c.self.invariant.kept.has_grounds at.node at.ready.open_node.is_node at.ready.open_node.undone _ c.index.result.now c.index.ensures c.ranges-2.result c.ranges-2.ensures c.unwrap-ranges.result
    s.problem c.deref-2.result.now at.node c.unwrap-ranges.ensures refl c.deref-2.ensures refl in
    let out : HasOutside s.problem (ranges_of s.problem at.node) c.args.routing.now.paths c.in-Some.link.0 =
    subst (λ (p : Parts). HasOutside p (ranges_of s.problem at.node) c.args.routing.now.paths c.in-Some.link.0) c.deref.ensures
    (subst (λ (xs : List LoadRange). HasOutside c.deref.result.now xs c.args.routing.now.paths c.in-Some.link.0) same c.in-Some.ensures.some) in
    subst (λ (x : State). IsOverfullAt x c.args.node c.in-Some.link) c.self.view_is (outside-found s c.args.node c.args.routing.now.paths at c.in-Some.link out)

pub overfull_link-requires : goal.overfull_link-requires
overfull_link-requires c =
    let s = the_view c.self.inside in
    let at : HasOnlyPaths s c.args.node c.args.routing.now.paths = subst (λ (x : State). HasOnlyPaths x c.args.node c.args.routing.now.paths) (sym c.self.view_is) c.requires in
    record { paths = subst (λ (p : Parts). ArePaths p c.args.routing.now.paths) (sym (steps-problem s s _ _ _ refl c.deref-3.ensures c.self.invariant.kept.table_is c.steps.ensures)) (paths-are s c.args.node c.args.routing.now.paths at) }

pub returns-clause-some : goal.returns-clause-some
returns-clause-some c =
    let s = the_view c.self.inside in
    let at : HasOnlyPaths s c.args.node c.args.routing.now.paths = subst (λ (x : State). HasOnlyPaths x c.args.node c.args.routing.now.paths) (sym c.self.view_is) c.requires in
    some_then c.overfull_link.result _ _
    (λ link first. subst (λ (x : State). IsOverfullAt x c.args.node link) c.self.view_is
    (overfull-found s c.args.node c.args.routing.now.paths at link (subst (λ (p : Parts). IsFirstOverfull p c.args.routing.now.paths link.0) (steps-problem s s _ _ _ refl c.deref-3.ensures c.self.invariant.kept.table_is c.steps.ensures) first)))
    c.overfull_link.ensures.some

pub returns-clause-none : goal.returns-clause-none
returns-clause-none c =
    let s = the_view c.self.inside in
    let at : HasOnlyPaths s c.args.node c.args.routing.now.paths = subst (λ (x : State). HasOnlyPaths x c.args.node c.args.routing.now.paths) (sym c.self.view_is) c.requires in
    let same : c.deref-2.result.now ≡ ranges_of s.problem at.node =
    leaf-ranges s c.args.node c.self.inside.state.grounds.items c.self.invariant.kept.has_grounds at.node at.ready.open_node.is_node at.ready.open_node.undone _ c.index.result.now c.index.ensures c.ranges-2.result c.ranges-2.ensures c.unwrap-ranges.result
    s.problem c.deref-2.result.now at.node c.unwrap-ranges.ensures refl c.deref-2.ensures refl in
    let inside : AreInside s.problem (ranges_of s.problem at.node) c.args.routing.now.paths (places s.problem) =
    subst (λ (p : Parts). AreInside p (ranges_of s.problem at.node) c.args.routing.now.paths (places p)) c.deref.ensures
    (subst (λ (xs : List LoadRange). AreInside c.deref.result.now xs c.args.routing.now.paths (places c.deref.result.now)) same c.in_default.ensures.none) in
    none_then c.overfull_link.result _ _
    (λ carry. subst (λ (x : State). AreCarriedAt x c.args.node c.args.routing.now.paths) c.self.view_is
    (carried-found s c.args.node c.args.routing.now.paths at (subst (λ (p : Parts). CarryLoads p c.args.routing.now.paths (length p.links)) (steps-problem s s _ _ _ refl c.deref-3.ensures c.self.invariant.kept.table_is c.steps.ensures) carry) inside))
    c.overfull_link.ensures.none
