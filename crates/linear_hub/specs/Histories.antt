-- Legal histories.
use Rattle.std.specs.Prelude.{◌≡◌, List, [], ◌∷◌}
use Rattle.ticket_turns.specs.declared.view.Entry.{Entry}
use Rattle.search_machine.specs.State.{State}
use Rattle.linear_hub.specs.Calls.{Call, Moves}

-- the calls can lead from one state to the other, one after another
abbrev pub Leads : State → List (Entry Call) → State → Type 0
Leads old [] new = old ≡ new
Leads old (e ∷ es) new = (between : State) × Moves old e.call between × Leads between es new

-- the calls can lead somewhere from this state
abbrev pub IsLegalHistory : State → List (Entry Call) → Type 0
IsLegalHistory opening history = (s : State) × Leads opening history s

-- some calls can lead from one state to the other
abbrev pub IsLedTo : State → State → Type 0
IsLedTo old new = (history : List (Entry Call)) × Leads old history new
