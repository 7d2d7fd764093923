use Rattle.std.proofs.Common.{◌≡◌, Some, sym, ap, ◌∙◌}
use Rattle.search_nodes.specs.SearchStates.{machine_state}
use Rattle.search_machine.specs.State.{State, round_of}
use Rattle.search_machine.specs.Gathering.{first_ungathered}
use Rattle.search_machine.proofs.Runs.{IsReachable-sound}
use Rattle.search_view.proofs.Reading.{shown-value}
use Rattle.search_view.proofs.Valuing.{round-lists, round-few}
use Rattle.search_view.proofs.view.PoolView.first_ungathered.Goals as goal

pub first_ungathered-requires-clause-lists : goal.first_ungathered-requires-clause-lists
first_ungathered-requires-clause-lists c =
    let s = machine_state c.self.inside.state.now in
    let is : Some c.in-Some.round.now ≡ round_of c.args.self.now c.args.node = shown-value _ _ _ _ c.active_round.ensures c.in-Some.is in
    round-lists s c.args.node c.in-Some.round.now (IsReachable-sound s c.self.invariant.pool.reachable) (is ∙ ap (λ (x : State). round_of x c.args.node) (sym c.self.view_is))

pub first_ungathered-requires-clause-few : goal.first_ungathered-requires-clause-few
first_ungathered-requires-clause-few c =
    let s = machine_state c.self.inside.state.now in
    let is : Some c.in-Some.round.now ≡ round_of c.args.self.now c.args.node = shown-value _ _ _ _ c.active_round.ensures c.in-Some.is in
    round-few s c.args.node c.in-Some.round.now (IsReachable-sound s c.self.invariant.pool.reachable) (is ∙ ap (λ (x : State). round_of x c.args.node) (sym c.self.view_is))

pub returns-in-Some : goal.returns-in-Some
returns-in-Some c =
    let is : Some c.in-Some.round.now ≡ round_of c.args.self.now c.args.node = shown-value _ _ _ _ c.active_round.ensures c.in-Some.is in
    c.first_ungathered.ensures ∙ ap (first_ungathered c.self.inside.state.now.columns) is ∙ ap (λ (x : State). first_ungathered x.columns (round_of c.args.self.now c.args.node)) c.self.view_is
