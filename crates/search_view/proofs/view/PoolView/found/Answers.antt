use Rattle.std.proofs.Common.{◌≡◌, Option, subst}
use Rattle.std.specs.Prelude.{IfSome}
use Rattle.std.specs.Arc.{arc_value}
use Rattle.arc_restrict.specs.Rows.{forbids}
use Rattle.search_machine.specs.State.{Node, restriction_of}
use Rattle.search_machine.specs.Machine.{IsReachable}
use Rattle.search_view.proofs.TaskLaws.{HasRound, has-round}
use Rattle.search_view.proofs.Reading.{if_ok}
use Rattle.search_view.proofs.Fitting.{prices-fit, priced-fits}
use Rattle.search_view.proofs.view.PoolView.found.Goals as goal

pub find-requires-clause-prices : goal.find-requires-clause-prices
find-requires-clause-prices c =
    prices-fit c.args.self.now c.args.node _ _ c.round_at.result.now (subst IsReachable c.self.view_is c.self.invariant.pool.reachable) c.requires.round
    c.problem.ensures c.round_at.ensures c.prices.ensures

pub returns : goal.returns
returns c =
    let h : HasRound c.args.self.now c.args.node = has-round c.args.self.now c.args.node c.requires.round in
    let forbidden : forbids c.rows_at.result.now ≡ restriction_of h.node = subst (λ (o : Option Node). IfSome o (λ (x : Node). forbids c.rows_at.result.now ≡ restriction_of x)) h.is_node c.rows_at.ensures in
    if_ok c.find.result _ _
    (λ found none. priced-fits c.args.self.now c.args.node c.args.demand.0 (arc_value found) c.problem.result.now c.prices.result.now (forbids c.rows_at.result.now) c.round_at.result.now h
    c.problem.ensures c.round_at.ensures c.prices.ensures forbidden none)
    c.find.ensures.accepted
