use Rattle.std.proofs.Common.{◌≡◌, ◌<◌, length, List, Option, IfSome, subst, arith}
use Rattle.plan_base.specs.declared.ids.ArcId.{ArcId}
use Rattle.arc_restrict.specs.Rows.{forbids}
use Rattle.second_path.specs.Others.{IsCutOff}
use Rattle.arc_restrict.specs.Restrictions.{IsPermittedPath}
use Rattle.second_path.specs.Searching.{ArePaths}
use Rattle.second_path.proofs.Deciding.{has_paths, no_paths, paths_more}
use Rattle.second_path.proofs.determining.first_paths.Goals as goal

pub loop-place-init : goal.loop-place-init
loop-place-init c = (c.requires.room, no_paths c.args.inst.now (forbids c.args.r.now) c.args.paths.now.items c.requires.none)

pub loop-place-preserved : goal.loop-place-preserved
loop-place-preserved c =
    let p = c.args.inst.now in
    let r = forbids c.args.r.now in
    let k = c.loop-place.place in
    let permitted = subst (λ (found : Option (List ArcId)). IfSome found (IsPermittedPath p r k)) c.in-Some.is c.in_ok-path.ensures.path in
    (c.in_ok-path.ensures.room, rw c.in_ok-push-in-Some.ensures.items (paths_more p r k c.loop-place.paths.items c.in-Some.path c.loop-place.invariant.1 permitted))

pub returns-clause-paths : goal.returns-clause-paths
returns-clause-paths c =
    let all : c.loop-place.place ≡ length c.args.inst.now.demands = omega (arith, c.loop-place-test.false, c.loop-place.auto.place-end, c.demands-place-end.ensures.value) in
    subst (λ n. ArePaths c.args.inst.now (forbids c.args.r.now) n c.loop-place.paths.items) all c.loop-place.invariant.1

pub returns-in-None-clause-empty : goal.returns-in-None-clause-empty
returns-in-None-clause-empty c =
    let within : c.loop-place.place < length c.args.inst.now.demands = omega (arith, c.loop-place-test.true, c.demands-place-end.ensures.value) in
    let cut : IsCutOff c.args.inst.now (forbids c.args.r.now) c.loop-place.place c.first_path.new.search.met.items = rw c.in-None.is at c.in_ok-path.ensures.none in
    record {
      is_demand = within;
      cut_off = cut;
      lowest = has_paths c.args.inst.now (forbids c.args.r.now) c.loop-place.place c.loop-place.paths.items c.loop-place.invariant.1;
    }
