-- What one thread's steps at a leaf keep; no public contract cites it.
use Rattle.std.specs.Prelude.{ℕ, zero, suc, ◌+◌, ◌-◌, ◌*◌, ◌≡◌, ◌<◌, Bool, true, false, length, Option, Some, None, slice_get}
use Rattle.plan_base.specs.declared.ids.BranchId.{BranchId}
use Rattle.plan_base.specs.declared.ids.DemandId.{DemandId}
use Rattle.search_machine.specs.declared.limits.TheConstants.{MAX_VERSIONS}
use Rattle.search_machine.specs.declared.tree.HeldCut.{HeldCut}
use Rattle.search_machine.specs.State.{Round, Node, State, left_of}
use Rattle.column_pool.specs.declared.brief.Brief.{Brief}
use Rattle.search_machine.specs.Gathering.{IsGathered, IsBriefOf}
use Rattle.search_machine.specs.Tasks.{IsToPrice}
pub use Rattle.search_machine.specs.Tasks.{LeadsTo}
pub use Rattle.search_view.specs.Work.{is_next}

-- the demand is to be priced in the node's round of the version
abbrev pub IsGap : State → BranchId → ℕ → DemandId → Type 0
IsGap s id version k = (slot : ℕ) × IsToPrice s id slot version k

-- 1 for a node without a cut
abbrev pub cut_left : Option HeldCut → ℕ
cut_left None = 1
cut_left (Some cut) = 0

-- 1 for a node that is not settled
abbrev pub unsettled_left : Bool → ℕ
unsettled_left true = 0
unsettled_left false = 1

-- twice the versions that a node may still complete, and one more where its round is complete
abbrev pub versions_left : ℕ → ℕ → ℕ
versions_left completed zero = 2 * (MAX_VERSIONS - completed) + 1
versions_left completed (suc left) = 2 * (MAX_VERSIONS - completed)

-- how many steps are left at the most at a node of so many demands, before it is closed or divided
abbrev pub steps_by : ℕ → ℕ → Option Round → Option HeldCut → Bool → ℕ
steps_by demands completed None cut settled = (2 * MAX_VERSIONS + 1) * (demands + 3)
steps_by demands completed (Some round) cut settled = versions_left completed (left_of round) * (demands + 3) + (left_of round + cut_left cut + unsettled_left settled)

-- the same of the node that is there
abbrev pub steps_in : ℕ → Option Node → ℕ
steps_in demands None = 0
steps_in demands (Some node) = steps_by demands node.completed node.round node.cut node.settled

-- the same of the node of this number
abbrev pub steps_left : State → BranchId → ℕ
steps_left s id = steps_in (length s.problem.demands) (slice_get s.nodes id.0)

-- the node is an open leaf still, with fewer steps left, and no other node is examined
pub record IsCloser (s t : State) (id : BranchId) : Type 0 where
  pub examined : t.examined ≡ s.examined
  pub next : is_next t id ≡ true
  pub fewer : steps_left t id < steps_left s id

-- events lead from the one state to the other, and change no node and no count that a step goes by
pub record KeepsNodes (s t : State) : Type 0 where
  pub leads : LeadsTo s t
  pub problem : t.problem ≡ s.problem
  pub nodes : t.nodes ≡ s.nodes
  pub examined : t.examined ≡ s.examined
  pub budget : t.budget ≡ s.budget

-- the node's complete round of the version is gathered, and this is what a master step is told of it
pub record IsBriefed (s : State) (id : BranchId) (version : ℕ) (brief : Brief) : Type 0 where
  pub node : Node
  pub round : Round
  pub is_gathered : IsGathered s id version node round
  pub is_brief : IsBriefOf s id node round brief
