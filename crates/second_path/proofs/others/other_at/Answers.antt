use Rattle.std.proofs.Common.{rules, ◌≡◌, ◌<◌, ◌++◌, length, take, ap, subst, ◌∙◌}
use Rattle.plan_base.specs.declared.ids.NodeId.{NodeId}
use Rattle.plan_base.specs.declared.parts.Demand.{Demand}
use Rattle.arc_restrict.specs.Rows.{forbids}
use Rattle.second_path.specs.Ways.{may_take}
use Rattle.second_path.specs.Searching.{IsFreeRoute, IsInVain}
use Rattle.second_path.proofs.Blocking.{read-start, other_found}
use Rattle.second_path.proofs.Closing.{no_other_at}
use Rattle.second_path.proofs.others.other_at.Goals as goal

pub returns-in-None-clause-none : goal.returns-in-None-clause-none
returns-in-None-clause-none c =
    let p = c.args.ways.now.inst.now in
    let r = forbids c.args.ways.now.restriction.now in
    let k = c.args.ways.now.demand.0 in
    let path = c.args.path.now in
    let first = c.args.search.now.blocked.items in
    let met = c.find_route.new.search.met.items in
    let arrivals = c.find_route.new.search.arrivals.items in
    let start = c.tail-start.result in
    let target = c.demand.result.now.target in
    let within : c.args.place < length c.as_slice.result.now = search rules in
    let is_start = read-start p c.as_slice.result.now path c.args.place _ start c.as_slice.ensures.value within c.tail-start.ensures.value in
    let vain : IsInVain p (may_take p r k c.args.ways.now.left_out) first start target met arrivals = rw c.in-None.is at c.in_ok-way.ensures.none in
    no_other_at p r k path c.args.place first met start arrivals c.requires.path c.requires.place
    (ap (λ (v : NodeId). v.0) is_start ∙ c.requires.path.simple.goes_on c.args.place c.requires.place)
    c.requires.blocked target (ap (λ (d : Demand). d.target) c.demand.ensures.value)
    (subst (λ out. IsInVain p (may_take p r k out) first start target met arrivals) c.requires.left_out vain)

pub returns-in_ok-joined-in-Some-clause-other : goal.returns-in_ok-joined-in-Some-clause-other
returns-in_ok-joined-in-Some-clause-other c =
    let p = c.args.ways.now.inst.now in
    let r = forbids c.args.ways.now.restriction.now in
    let k = c.args.ways.now.demand.0 in
    let path = c.args.path.now in
    let first = c.args.search.now.blocked.items in
    let start = c.tail-start.result in
    let target = c.demand.result.now.target in
    let within : c.args.place < length c.as_slice.result.now = search rules in
    let is_start = read-start p c.as_slice.result.now path c.args.place _ start c.as_slice.ensures.value within c.tail-start.ensures.value in
    let route : IsFreeRoute p (may_take p r k c.args.ways.now.left_out) first start target c.in-Some.way.items = rw c.in-Some.is at c.in_ok-way.ensures.route in
    let is_joined : c.in_ok-joined-in-Some.field-0 ≡ take c.args.place path ++ c.in-Some.way.items = search rules in
    other_found p r k path c.args.place first start target c.in-Some.way.items c.in_ok-joined-in-Some.field-0 c.requires.path c.requires.place
    is_start (ap (λ (d : Demand). d.target) c.demand.ensures.value) c.requires.blocked
    (subst (λ out. IsFreeRoute p (may_take p r k out) first start target c.in-Some.way.items) c.requires.left_out route)
    is_joined
