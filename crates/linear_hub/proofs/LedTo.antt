-- Seats that worked in threads.
use Rattle.search_machine.specs.State.{State}
use Rattle.ticket_turns.specs.declared.view.Entry.{Entry}
use Rattle.std.proofs.Common.{List}
use Rattle.linear_hub.specs.Calls.{Call}
use Rattle.linear_hub.specs.Histories.{IsLedTo}
use Rattle.linear_hub.specs.Seats.{HasEnded}

-- the pool of an ended hub
pub led : {L : Type 0} (seen_by : L → List (Entry Call)) (opening : State) (seats : List L) (s : State) → HasEnded seen_by opening seats s → IsLedTo opening s
led seen_by opening seats s h = (h.history, h.leads)
