-- A search comes to its end.
use Rattle.std.proofs.Common.{◌≡◌, ◌+◌, ◌-◌, ◌<◌, false, arith}
use Rattle.search_machine.specs.State.{State}
use Rattle.search_machine.specs.Machine.{IsReachable}
use Rattle.search_machine.specs.PlanOf.{is_done}
use Rattle.search_machine.specs.Tasks.{LeadsTo}
use Rattle.search_machine.proofs.Runs.{IsReachable-sound}
use Rattle.search_view.proofs.TaskLaws.{not_done-unspent}
use Rattle.search_machine.proofs.Leads.{LeadsTo-base}

-- a node that is examined leaves less to examine
pub less-left : (s t : State) → IsReachable s → is_done s ≡ false → LeadsTo s t → t.examined ≡ s.examined + 1 → t.budget - t.examined < s.budget - s.examined
less-left s t h not_done leads one =
    let b = (LeadsTo-base s t leads).budget in
    let below = not_done-unspent s (IsReachable-sound s h) not_done in
    omega (arith, b, below, one)
