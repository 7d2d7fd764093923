use Rattle.std.proofs.Common.{◌≡◌, ◌<◌, ◌≤◌, ◌+◌, ◌-◌, length, subst, sym, ◌∙◌, arith}
use Rattle.second_path.specs.Searching.{IsBefore}
use Rattle.second_path.proofs.Visits.{takes_arcs, few_arrivals}
use Rattle.second_path.proofs.search.Search.run.Goals as goal

pub go_on-requires-clause-arc : goal.go_on-requires-clause-arc
go_on-requires-clause-arc c =
    let within : c.loop-place.place < length c.loop-place.self.arrivals.items = omega arith in
    takes_arcs c.args.ways.now.inst.now _ _ _ _ (c.loop-place.invariant.0.search.tree.taken c.loop-place.place within)

pub loop-place-smaller : goal.loop-place-smaller
loop-place-smaller c =
    let within : c.loop-place.place < length c.loop-place.self.arrivals.items = omega arith in
    let few : length c.loop-place.self.arrivals.items ≤ c.args.ways.now.inst.now.nodes =
    few_arrivals c.args.ways.now.inst.now _ _ _ _ c.lawful.ensures (takes_arcs c.args.ways.now.inst.now _ _ _) c.loop-place.invariant.0.search.tree in
    let smaller : c.args.ways.now.inst.now.nodes - (c.loop-place.place + 1) < c.args.ways.now.inst.now.nodes - c.loop-place.place = omega (arith, within, few) in
    smaller

pub loop-place-init : goal.loop-place-init
loop-place-init c = (c.in_ok-begin.ensures.spent, c.in_ok-begin.ensures.nodes, c.in_ok-begin.ensures.blocked)

pub loop-place-preserved : goal.loop-place-preserved
loop-place-preserved c = (c.in_ok-go_on.ensures.spent _ _ c.loop-place.invariant.0, c.in_ok-go_on.ensures.nodes, c.in_ok-go_on.ensures.blocked ∙ c.loop-place.invariant.2)

pub returns-clause-whole : goal.returns-clause-whole
returns-clause-whole c =
    let spent = c.loop-place.invariant.0 in
    let all : c.loop-place.place ≡ length c.loop-place.self.arrivals.items = omega (arith, spent.room) in
    record {
      search = spent.search;
      spent = λ v before. spent.spent v (subst (λ n. IsBefore c.args.ways.now.inst.now c.args.start c.loop-place.self.arrivals.items n v) (sym all) before);
    }
