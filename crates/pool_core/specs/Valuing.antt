-- What may come of a node whose round is complete or gathered; no public contract cites it.
use Rattle.std.specs.Prelude.{ℕ, ◌≡◌, ◌⊎◌, Bool, true, false, List, ℤ, ◌≤ℤ◌}
use Rattle.plan_base.specs.declared.ids.BranchId.{BranchId}
use Rattle.master_step.specs.Restricted.{IsRestrictedValue}
use Rattle.master_step.specs.Outcomes.{IsGain, HasStalled}
use Rattle.search_machine.specs.State.{Round, Node, State, ranges_of}
use Rattle.search_machine.specs.Gathering.{columns_for, has_enough, IsCompleteRound, IsGathered}
use Rattle.search_machine.specs.Publishing.{MayFollow, IsBetterStep, IsCrowdStep, IsMark}

-- it has had enough versions, or no step gains
abbrev pub HasNoMore : State → Node → Round → Type 0
HasNoMore s node round = (has_enough s node ≡ true) ⊎ HasStalled s.problem s.cuts (ranges_of s.problem node) (columns_for s node) round.prices

-- a step gains, and it has not had enough versions: the restricted values before and after the step
abbrev pub Improves : State → ℤ → ℤ → Node → Round → Type 0
Improves s before after node round = (has_enough s node ≡ false) × IsGain s.problem s.cuts (ranges_of s.problem node) (columns_for s node) round.prices before after

-- the node of the number may be settled
pub record IsToSettle (s : State) (id : BranchId) (version : ℕ) : Type 0 where
  pub node : Node
  pub round : Round
  pub is_gathered : IsGathered s id version node round
  pub no_more : HasNoMore s node round

-- the node of the number has a complete round of the version
pub record IsCompleteAt (s : State) (id : BranchId) (version : ℕ) : Type 0 where
  pub node : Node
  pub round : Round
  pub is_complete : IsCompleteRound s id version node round

-- the prices are better than those of the round or its crowd step, and this is the mark that follows
pub record MayReplace (s : State) (node : Node) (round : Round) (prices : List ℕ) (mark : Bool) : Type 0 where
  pub gains : IsBetterStep s node round prices ⊎ IsCrowdStep s node round prices
  pub is_mark : IsMark s node round prices mark

-- the prices are neither, and these are the restricted values of the round's prices and of them
pub record HasNoGain (s : State) (node : Node) (round : Round) (prices : List ℕ) (before after : ℤ) : Type 0 where
  pub is_before : IsRestrictedValue s.problem s.cuts (ranges_of s.problem node) (columns_for s node) round.prices before
  pub is_after : IsRestrictedValue s.problem s.cuts (ranges_of s.problem node) (columns_for s node) prices after
  pub not_greater : after ≤ℤ before
  pub no_crowd_step : IsCrowdStep s node round prices → ⊥

-- the prices may be published for the node of the number, with this mark
pub record IsToPublish (s : State) (id : BranchId) (seen : ℕ) (prices : List ℕ) (mark : Bool) : Type 0 where
  pub node : Node
  pub round : Round
  pub may : MayFollow s id seen prices node round
  pub gains : IsBetterStep s node round prices ⊎ IsCrowdStep s node round prices
  pub is_mark : IsMark s node round prices mark
