use Rattle.std.proofs.Common.{◌<◌, ◌≤◌, length, false, ◌∙◌, sym, ap}
use Rattle.search_machine.specs.PlanOf.{status_by}
use Rattle.search_machine.proofs.Runs.{IsReachable-sound}
use Rattle.search_nodes.specs.SearchStates.{machine_state}
use Rattle.plan_of_search.proofs.DonePlans.{status-undecided, status-closed}
use Rattle.plan_of_search.proofs.planning.status.Goals as goal

pub returns-then-state-as_slice : goal.returns-then-state-as_slice
returns-then-state-as_slice c =
    let less : c.args.state.now.examined < length c.args.state.now.nodes.items = rw (sym c.as_slice.ensures.value) c.if-state-as_slice.true in
    status-undecided (machine_state c.args.state.now) (IsReachable-sound _ c.requires) less

pub returns-in-Some : goal.returns-in-Some
returns-in-Some c =
    let all : length c.args.state.now.nodes.items ≤ c.args.state.now.examined = rw (sym c.as_slice.ensures.value) c.if-state-as_slice.false in
    sym (ap (status_by false) c.in-Some.is) ∙ status-closed (machine_state c.args.state.now) (IsReachable-sound _ c.requires) all

pub returns-in-None : goal.returns-in-None
returns-in-None c =
    let all : length c.args.state.now.nodes.items ≤ c.args.state.now.examined = rw (sym c.as_slice.ensures.value) c.if-state-as_slice.false in
    sym (ap (status_by false) c.in-None.is) ∙ status-closed (machine_state c.args.state.now) (IsReachable-sound _ c.requires) all
