-- Where no open leaf comes next, all is done.
use Rattle.std.proofs.Common.{◌≡◌, ℕ, ◌+◌, ◌<◌, ◌≤◌, ◌⊎◌, inl, inr, true, false, length, sym, subst, ◌∙◌, arith}
use Rattle.search_machine.specs.State.{State}
use Rattle.search_machine.specs.Machine.{IsReachable}
use Rattle.search_machine.specs.PlanOf.{is_done}
use Rattle.search_view.specs.Work.{is_next}
use Rattle.search_machine.proofs.Runs.{IsReachable-sound}
use Rattle.search_view.proofs.TaskLaws.{branch_id, none_next-done, not_done-unspent}

-- no node before this place is next, and neither is this one
pub none-more : (s : State) (place : ℕ) → ((n : ℕ) → n < place → is_next s (branch_id n) ≡ false) → is_next s (branch_id place) ≡ false
    → (n : ℕ) → n < place + 1 → is_next s (branch_id n) ≡ false
none-more s place before here n within = elim (last_or n place (omega arith)) [
  | inl e ↦ subst (λ (k : ℕ). is_next s (branch_id k) ≡ false) (sym e) here
  | inr less ↦ before n less
]
  where
    last_or : (a b : ℕ) → a ≤ b → (a ≡ b) ⊎ (a < b)
    last_or a b h = grind arith

-- in a state that is not done, some node is next
pub never-none : (s : State) → IsReachable s → is_done s ≡ false → ((n : ℕ) → n < length s.nodes → is_next s (branch_id n) ≡ false) → ⊥
never-none s h not_done none = let bad : true ≡ false = sym (none_next-done s (IsReachable-sound s h) none) ∙ not_done in cc

-- a state that can be reached and is not done has budget left
pub reachable-unspent : (s : State) → IsReachable s → is_done s ≡ false → s.examined < s.budget
reachable-unspent s h not_done = not_done-unspent s (IsReachable-sound s h) not_done
