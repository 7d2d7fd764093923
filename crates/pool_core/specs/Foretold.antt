-- What an opening or a publishing would answer now, before it is made.
use Rattle.std.specs.Prelude.{ℕ, ◌≡◌, ◌⊎◌, ⊤, Bool, List, Some, None, Result, Ok, Err}
use Rattle.plan_base.specs.declared.ids.BranchId.{BranchId}
use Rattle.search_machine.specs.declared.answers.Opened.{Opened}
use Rattle.search_machine.specs.declared.answers.RoundFault.{RoundFault}
use Rattle.search_machine.specs.declared.answers.Publish.{Publish}
use Rattle.search_machine.specs.declared.answers.Publish.TheVariants as publish
use Rattle.search_machine.specs.State.{Round, Node, State}
use Rattle.search_machine.specs.Opening.{open_fault, IsLowestFreeSlot, OpenStep}
use Rattle.pool_core.specs.declared.pool.following.Following.{Following}
use Rattle.search_machine.specs.Publishing.{publish_fault, MayFollow, IsBetterStep, IsCrowdStep, IsMark, PublishStep}

-- an opening of the node is answered so: with the lowest free slot and the next version, or with the first cause why not
abbrev pub IsOpenAnswer : State → BranchId → Result Opened RoundFault → Type 0
IsOpenAnswer s id (Ok opened) = (open_fault s id ≡ None) × IsLowestFreeSlot s opened.slot × (opened.version ≡ s.next_version)
IsOpenAnswer s id (Err fault) = open_fault s id ≡ Some fault

-- no opening of the node is answered otherwise
abbrev pub IsOnlyOpening : State → BranchId → Opened → Type 0
IsOnlyOpening s id opened = (answer : Result Opened RoundFault) (new : State) → OpenStep s id answer new → answer ≡ Ok opened

-- the prices would be published, in the slot of the node's round, with the next version and this mark
pub record IsFollowing (s : State) (id : BranchId) (seen : ℕ) (prices : List ℕ) (next : Following) : Type 0 where
  pub allowed : publish_fault s id seen prices ≡ None
  pub node : Node
  pub round : Round
  pub may : MayFollow s id seen prices node round
  pub gains : IsBetterStep s node round prices ⊎ IsCrowdStep s node round prices
  pub is_mark : IsMark s node round prices next.crowd_tried
  pub slot_is : next.slot ≡ round.slot
  pub version_is : next.version ≡ s.next_version

-- a publishing is answered so; one that is refused would change nothing
abbrev pub IsPublishAnswer : State → BranchId → ℕ → List ℕ → Publish → Type 0
IsPublishAnswer s id seen prices (publish.Published slot version) =
    (mark : Bool) × IsFollowing s id seen prices (record { slot = slot; version = version; crowd_tried = mark })
IsPublishAnswer s id seen prices refusal = PublishStep s id seen prices refusal s

-- where the answer is a success, this holds of its slot and its version
abbrev pub IfPublished : Publish → (ℕ → ℕ → Type 0) → Type 0
IfPublished (publish.Published slot version) Holds = Holds slot version
IfPublished refusal Holds = ⊤

-- where the answer is a refusal, this holds
abbrev pub IfRefused : Publish → Type 0 → Type 0
IfRefused (publish.Published slot version) Holds = ⊤
IfRefused refusal Holds = Holds

-- no publishing of these prices is answered otherwise
abbrev pub IsOnlyPublishing : State → BranchId → ℕ → List ℕ → Publish → Type 0
IsOnlyPublishing s id seen prices answer = (given : Publish) (new : State) → PublishStep s id seen prices given new → given ≡ answer
