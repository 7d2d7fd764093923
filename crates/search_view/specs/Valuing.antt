-- A node whose round is gathered, and the columns that it permits.
use Rattle.std.specs.Prelude.{ℕ, ◌≡◌, ◌<◌, length, Some, slice_get}
use Rattle.plan_base.specs.declared.ids.BranchId.{BranchId}
use Rattle.search_machine.specs.State.{Round, Node, State}
use Rattle.arc_restrict.specs.Restrictions.{Forbidden}
use Rattle.column_pool.specs.Columns.{Columns, columns_at, permitted_at}
use Rattle.search_machine.specs.Gathering.{IsGathered}

-- the node of the number has a gathered round
pub record IsGatheredAt (s : State) (id : BranchId) : Type 0 where
  pub version : ℕ
  pub node : Node
  pub round : Round
  pub is_gathered : IsGathered s id version node round

-- it is so of the node of the number and its round
abbrev pub ForRound : State → BranchId → (Node → Round → Type 0) → Type 0
ForRound s id Holds = (node : Node) (round : Round) → slice_get s.nodes id.0 ≡ Some node → node.round ≡ Some round → Holds node round

-- for each of so many demands the columns that a restriction permits
pub record ArePermittedLists (count : ℕ) (r : Forbidden) (columns lists : Columns) : Type 0 where
  pub count_is : length lists ≡ count
  pub each : (k : ℕ) → k < count → columns_at lists k ≡ permitted_at r columns k
