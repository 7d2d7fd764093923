-- Where histories of additions lead.
use Rattle.std.specs.Prelude.{◌≡◌, ℕ, ◌+◌, ◌%◌, ◌^◌, List, [], ◌∷◌}
use Rattle.ticket_turns.specs.declared.view.Entry.{Entry}
use Rattle.gate_histories.specs.declared.sum.Added.{Added}

-- an amount that was added, with the sum that was told
abbrev pub added_of : ℕ → ℕ → Added
added_of amount told = record { amount = amount; told = told }

-- from the one sum to the other: each call was told the sum when its amount was added
abbrev pub Runs : ℕ → List (Entry Added) → ℕ → Type 0
Runs sum [] last = sum ≡ last
Runs sum (e ∷ es) last = (e.call.told ≡ (sum + e.call.amount) % 2 ^ 64) × Runs e.call.told es last

-- the same from 0 on
abbrev pub IsSumOf : List (Entry Added) → ℕ → Type 0
IsSumOf history sum = Runs 0 history sum
