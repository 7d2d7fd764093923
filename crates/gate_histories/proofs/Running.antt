use Rattle.std.proofs.Common.{◌≡◌, ℕ, ◌+◌, ◌%◌, ◌^◌, List, [], ◌∷◌, ◌++◌, refl, ap, sym, subst, ◌∙◌}
use Rattle.ticket_turns.specs.declared.view.Entry.{Entry}
use Rattle.ticket_turns.specs.Histories.{entry_of}
use Rattle.ticket_turns.specs.Steps.{Knowing}
use Rattle.ticket_turns.specs.Passes.{HasEntered}
use Rattle.gate_histories.specs.declared.sum.Added.{Added}
use Rattle.gate_histories.specs.Sums.{added_of, Runs, IsSumOf}

-- One addition more.

-- a history that leads to a sum, with an addition to this sum behind it, leads to the sum that the addition is told
pub runs_on : (sum last : ℕ) (history : List (Entry Added)) (e : Entry Added) → Runs sum history last → e.call.told ≡ (last + e.call.amount) % 2 ^ 64 → Runs sum (history ++ e ∷ []) e.call.told
runs_on sum last [] e runs told = (told ∙ ap (λ (n : ℕ). (n + e.call.amount) % 2 ^ 64) (sym runs), refl)
runs_on sum last (x ∷ xs) e runs told = (runs.0, runs_on x.call.told last xs e runs.1 told)

-- the history that a pass has seen when it enters, with its own addition behind, leads to the sum that it tells
pub sums_on : (old inside : Knowing ℕ Added) (found amount told : ℕ) → HasEntered IsSumOf old inside found → told ≡ (found + amount) % 2 ^ 64 → IsSumOf (inside.0.seen ++ entry_of inside.0 (added_of amount told) ∷ []) told
sums_on old inside found amount told h is =
    let e = entry_of inside.0 (added_of amount told) in
    subst (λ l. IsSumOf (l ++ e ∷ []) told) (sym (ap (λ (x : Knowing ℕ Added). x.0.seen) h.after)) (runs_on 0 found h.history e h.can is)
