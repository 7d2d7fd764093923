-- No choice, or one: how far it reaches and what it costs.
use Rattle.std.specs.Prelude.{ℕ, ◌≡◌, ◌<◌, ◌≤◌, ◌+◌, ⊤, List, length, Option, Some, None, slice_index_or}
use Rattle.explicit_steps.specs.declared.choices.Choice.{Choice}

-- the choice of this number; past the end it has no capacity and costs nothing
abbrev pub choice_at : List Choice → ℕ → Choice
choice_at choices number = slice_index_or choices number (record { capacity = 0; cost = 0 })

-- it is no choice, or the number of one
abbrev pub IsPick : List Choice → Option ℕ → Type 0
IsPick choices None = ⊤
IsPick choices (Some number) = number < length choices

-- the greatest load that it carries beside the pre-installed capacity, in load grains
abbrev pub reach_with : ℕ → List Choice → Option ℕ → ℕ
reach_with pre choices None = pre
reach_with pre choices (Some number) = pre + (choice_at choices number).capacity

-- what it costs, in cost grains; no choice costs nothing
abbrev pub cost_with : List Choice → Option ℕ → ℕ
cost_with choices None = 0
cost_with choices (Some number) = (choice_at choices number).cost

-- the one is the other or comes before it: no choice first, then the numbers in their order
abbrev pub IsUpTo : Option ℕ → Option ℕ → Type 0
IsUpTo None other = ⊤
IsUpTo (Some number) None = ⊥
IsUpTo (Some number) (Some other) = number ≤ other

-- no choice and no single one carries the load
abbrev pub CannotReach : ℕ → List Choice → ℕ → Type 0
CannotReach pre choices load = (pick : Option ℕ) → IsPick choices pick → reach_with pre choices pick < load

-- it is what no choice or a single one costs that carries the load, and all that carry it cost at least as much
pub record IsLeastCost (pre : ℕ) (choices : List Choice) (load cost : ℕ) : Type 0 where
  pub pick : Option ℕ
  pub is_pick : IsPick choices pick
  pub reaches : load ≤ reach_with pre choices pick
  pub attained : cost_with choices pick ≡ cost
  pub least : (other : Option ℕ) → IsPick choices other → load ≤ reach_with pre choices other → cost ≤ cost_with choices other

-- no choice or a single one reaches so far, and none reaches farther
pub record IsGreatestReach (pre : ℕ) (choices : List Choice) (reach : ℕ) : Type 0 where
  pub pick : Option ℕ
  pub is_pick : IsPick choices pick
  pub attained : reach_with pre choices pick ≡ reach
  pub greatest : (other : Option ℕ) → IsPick choices other → reach_with pre choices other ≤ reach
