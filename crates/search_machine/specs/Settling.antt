-- Settlings: no further version of a node is published.
use Rattle.std.specs.Prelude.{ℕ, ◌≡◌, ◌⊎◌, true, false, Option, Some, option_map, ℤ}
use Rattle.plan_base.specs.declared.ids.BranchId.{BranchId}
use Rattle.plan_base.specs.First.{◌or_else◌}
use Rattle.master_step.specs.Outcomes.{IsGain, HasStalled}
use Rattle.search_machine.specs.declared.answers.Settle.{Settle}
use Rattle.search_machine.specs.declared.answers.Settle.TheVariants as settle
use Rattle.search_machine.specs.State.{Round, Node, State, ranges_of, round_of}
use Rattle.search_machine.specs.Changes.{with_node, stale_fault, first_gap}
use Rattle.search_machine.specs.Gathering.{columns_for, first_ungathered, has_enough, IsGathered}

-- why a settling is refused before prices are valued, the first cause first: spent, stale, a demand not priced, a path
-- that is no column
unfoldable pub settle_fault : State → BranchId → ℕ → Option Settle
settle_fault s id version =
    stale_fault settle.Spent settle.Stale s id version
    or_else option_map settle.Incomplete (first_gap (round_of s id))
    or_else option_map settle.Ungathered (first_ungathered s.columns (round_of s id))

-- the node's gathered round of this version is its last: the node has had enough versions, or no price step gains
pub record Settles (old : State) (id : BranchId) (version : ℕ) (new : State) : Type 0 where
  pub node : Node
  pub round : Round
  pub is_gathered : IsGathered old id version node round
  pub no_more : (has_enough old node ≡ true) ⊎ HasStalled old.problem old.cuts (ranges_of old.problem node) (columns_for old node) round.prices
  pub becomes : new ≡ with_node old id (record node { settled = true })

-- a price step gains, and the node has not had enough versions: the restricted values before and after the step
pub record IsImprovable (old : State) (id : BranchId) (version : ℕ) (before after : ℤ) (new : State) : Type 0 where
  pub node : Node
  pub round : Round
  pub is_gathered : IsGathered old id version node round
  pub not_enough : has_enough old node ≡ false
  pub is_gain : IsGain old.problem old.cuts (ranges_of old.problem node) (columns_for old node) round.prices before after
  pub unchanged : new ≡ old

-- a settling is answered so and leads from old to new; a refused one changes nothing
abbrev pub SettleStep : State → BranchId → ℕ → Settle → State → Type 0
SettleStep old id version settle.Done new = Settles old id version new
SettleStep old id version (settle.Improves before after) new = IsImprovable old id version before after new
SettleStep old id version refusal new = (settle_fault old id version ≡ Some refusal) × (new ≡ old)
