-- What a node with a round has, and what of it is not priced.
use Rattle.std.proofs.Common.{◌≡◌, ℕ, false, Option, Some, None, slice_get, ap}
use Rattle.std.specs.Prelude.{is_some, option_and_then, IsSome}
use Rattle.plan_base.specs.declared.ids.BranchId.{BranchId}
use Rattle.search_machine.specs.declared.tree.Found.{Found}
use Rattle.search_machine.specs.State.{Round, State, round_of}
use Rattle.search_machine.specs.Offering.{is_priced}
use Rattle.search_view.proofs.TaskLaws.{HasRound, round_of-has}

-- a node that is there with its round is found to have a round by its number
pub has-some : (s : State) (id : BranchId) → HasRound s id → IsSome (round_of s id)
has-some s id h = ap is_some (round_of-has s id h)

-- a demand for which the round has no path is not priced in it
pub not_priced-at : (round : Round) (k : ℕ) → slice_get round.found k ≡ Some None → is_priced (Some round) k ≡ false
not_priced-at round k h = ap (λ (o : Option (Option Found)). is_some (option_and_then (λ found. found) o)) h
