use Rattle.std.proofs.Common.{◌<◌, List, IfSome, refl, subst, rules}
use Rattle.plan_base.specs.declared.ids.ArcId.{ArcId}
use Rattle.plan_base.specs.Arcs.{demand_at}
use Rattle.arc_restrict.specs.Rows.{forbids}
use Rattle.arc_restrict.specs.Restrictions.{IsOnlyPath}
use Rattle.second_path.specs.Others.{IsOtherPath}
use Rattle.second_path.proofs.Deciding.{held_only, held_other}
use Rattle.second_path.proofs.determining.hold_next.Goals.{in-Some+else-demand, in_default}
use Rattle.second_path.proofs.determining.hold_next.Goals as goal

pub returns-in-None-clause-held : goal.returns-in-None-clause-held
returns-in-None-clause-held c =
    let p = c.args.inst.now in
    let r = forbids c.args.r.now in
    let only : IsOnlyPath p r c.args.k.0 c.args.path.now = rw c.in-None.is at c.in_ok-other.ensures.none in
    λ paths is_path so_far. held_only p r paths c.args.k.0 c.args.held (subst (λ (arcs : List ArcId). IsOnlyPath p r c.args.k.0 arcs) is_path only) so_far

pub returns-in-Some-2-clause-held : goal.returns-in-Some-2-clause-held
returns-in-Some-2-clause-held c =
    let p = c.args.inst.now in
    let r = forbids c.args.r.now in
    let k = c.args.k in
    let other : IsOtherPath p r k.0 c.args.path.now c.in-Some-2.other = rw c.in-Some-2.is at c.in_ok-other.ensures.other in
    let larger : IfSome c.args.held (λ old. (demand_at p old.demand.0).load < (demand_at p k.0).load) =
    elim c.match-held.branch [
      | in-Some+else-demand w ↦ search rules
      | in_default w ↦ search rules
    ] in
    λ paths is_path so_far. held_other p r paths k.0 c.args.held (record { demand = k; other = c.in-Some-2.other }) refl (subst (λ (arcs : List ArcId). IsOtherPath p r k.0 arcs c.in-Some-2.other) is_path other) larger so_far
