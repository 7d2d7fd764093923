use Rattle.std.proofs.Common.{rules, ◌≡◌, true, None, length, subst}
use Rattle.arc_restrict.specs.Rows.{forbids}
use Rattle.second_path.specs.Ways.{may_take}
use Rattle.second_path.specs.Others.{holds}
use Rattle.second_path.specs.Searching.{IsFreeRoute, IsInVain}
use Rattle.second_path.proofs.Blocking.{only_source, path_found}
use Rattle.second_path.proofs.Closing.{cut_off}
use Rattle.second_path.proofs.others.first_path.Goals as goal

pub returns-in-Some-clause-path : goal.returns-in-Some-clause-path
returns-in-Some-clause-path c =
    let d = c.demand-demand.result.now in
    let route : IsFreeRoute c.args.inst.now (may_take c.args.inst.now (forbids c.args.r.now) c.args.k.0 None) c.block.new.self.blocked.items d.source d.target c.in-Some.arcs.items = rw c.in-Some.is at c.in_ok-arcs.ensures.route in
    path_found c.args.inst.now (forbids c.args.r.now) c.args.k.0 d c.block.new.self.blocked.items c.in-Some.arcs.items _ c.demand-demand.ensures.value route c.from_vec.ensures

pub returns-in-None-clause-none : goal.returns-in-None-clause-none
returns-in-None-clause-none c =
    let d = c.demand-demand.result.now in
    let first = c.block.new.self.blocked.items in
    let met = c.find_route.new.search.met.items in
    let count : length met ≡ c.args.inst.now.nodes = search rules in
    let vain : IsInVain c.args.inst.now (may_take c.args.inst.now (forbids c.args.r.now) c.args.k.0 None) first d.source d.target met c.find_route.new.search.arrivals.items = rw c.in-None.is at c.in_ok-arcs.ensures.none in
    cut_off c.args.inst.now (forbids c.args.r.now) c.args.k.0 d first met c.find_route.new.search.arrivals.items c.demand-demand.ensures.value count
    (λ v is. only_source c.unblock.new.self.blocked.items d.source.0 v c.unblock.ensures.free (subst (λ set. holds set v ≡ true) c.block.ensures.value is))
    vain
