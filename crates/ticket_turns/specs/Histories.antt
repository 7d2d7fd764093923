-- Histories, and whose calls stand in them.
use Rattle.std.specs.Prelude.{◌≡◌, ◌==◌, ◌≤◌, ℕ, ⊤, List, [], ◌∷◌, length, if◌then◌else◌}
use Rattle.ticket_turns.specs.declared.view.Entry.{Entry}
use Rattle.ticket_turns.specs.declared.view.Role.{Role}
use Rattle.ticket_turns.specs.declared.view.Role.TheVariants.{Maker, Caller, Guest}
use Rattle.ticket_turns.specs.declared.view.View.{View}

-- to which values histories lead
abbrev pub Leading : Type 0 → Type 0 → Type 1
Leading D C = List (Entry C) → D → Type 0

-- a history leads to some value
abbrev pub IsLegal : {D C : Type 0} → Leading D C → List (Entry C) → Type 0
IsLegal {D} leads history = (value : D) × leads history value

-- the calls of the caller of this number, in their order
abbrev pub calls_by : {C : Type 0} → ℕ → List (Entry C) → List (Entry C)
calls_by n [] = []
calls_by n (e ∷ es) = if e.by == n then e ∷ calls_by n es else calls_by n es

-- this holds of each of these calls
abbrev pub HoldsOfAll : {C : Type 0} → (Entry C → Type 0) → List (Entry C) → Type 0
HoldsOfAll Fact [] = ⊤
HoldsOfAll Fact (e ∷ es) = Fact e × HoldsOfAll Fact es

-- a caller's own calls are all that the history has under its number; numbers that the maker has not given yet have none
abbrev pub OwnCalls : {C : Type 0} → List (Entry C) → Role → List (Entry C) → Type 0
OwnCalls history (Maker m) mine = (n : ℕ) → m ≤ n → calls_by n history ≡ []
OwnCalls history (Caller n) mine = calls_by n history ≡ mine
OwnCalls history Guest mine = ⊤

-- the pass has a caller's number
abbrev pub IsCaller : Role → Type 0
IsCaller (Maker m) = ⊥
IsCaller (Caller n) = ⊤
IsCaller Guest = ⊥

-- the number of a caller
abbrev pub number_of : Role → ℕ
number_of (Maker m) = 0
number_of (Caller n) = n
number_of Guest = 0

-- the call as the next one of whoever has this view
abbrev pub entry_of : {C : Type 0} → View C → C → Entry C
entry_of v call = record { by = number_of v.role; number = length v.mine; call = call }
