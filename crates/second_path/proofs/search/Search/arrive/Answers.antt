use Rattle.std.proofs.Common.{rules, ◌≡◌, ◌<◌, true, false, length, get_or}
use Rattle.std.proofs.lemmas.List.{get_or_default}
use Rattle.arc_restrict.specs.Rows.{forbids}
use Rattle.second_path.specs.Ways.{may_take}
use Rattle.second_path.proofs.Trees.{arrival_at}
use Rattle.second_path.proofs.search.Search.arrive.Goals as goal

pub returns-clause-arrival : goal.returns-clause-arrival
returns-clause-arrival c =
    let taken : may_take c.args.ways.now.inst.now (forbids c.args.ways.now.restriction.now) c.args.ways.now.demand.0 c.args.ways.now.left_out c.args.arc ≡ true = search rules in
    let within : c.head-head.result.0 < length c.args.self.now.met.items = search rules in
    let unmet : get_or c.args.self.now.met.items c.head-head.result.0 false ≡ false = search (rules, get_or_default) in
    arrival_at c.args.ways.now.inst.now _ c.args.arc c.head-head.result c.args.self.now.met.items c.args.self.now.arrivals.items c.push.new.self.items taken c.head-head.ensures.value unmet within c.in_ok-push.ensures.items
