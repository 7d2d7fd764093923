-- What is known of the state that a call under the lock finds. No clause can name it once the lock is free.
use Rattle.std.specs.Prelude.{ℕ, List}
use Rattle.plan_base.specs.declared.parts.Parts.{Parts}
use Rattle.proof_tree.specs.declared.cuts.Cut.{Cut}
use Rattle.search_machine.specs.State.{State}
use Rattle.search_machine.specs.Tasks.{IsSearchState}

-- the search has a state of which this holds
pub record HasState (p : Parts) (cuts : List Cut) (budget : ℕ) (Fact : State → Type 0) : Type 0 where
  pub state : State
  pub of_search : IsSearchState p cuts budget state
  pub fact : Fact state

-- the search has a state from which such a step leads on
pub record HasStep (p : Parts) (cuts : List Cut) (budget : ℕ) (Step : State → State → Type 0) : Type 0 where
  pub old : State
  pub new : State
  pub of_search : IsSearchState p cuts budget old
  pub step : Step old new
