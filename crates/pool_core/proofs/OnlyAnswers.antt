-- What an opening or a publishing would answer is what it answers.
use Rattle.std.proofs.Common.{◌≡◌, ℕ, suc, List, Option, Some, None, slice_get, true, sym, ap, ap₂, ◌∙◌, arith}
use Rattle.std.specs.Prelude.{Ok, Err}
use Rattle.plan_base.specs.declared.ids.BranchId.{BranchId}
use Rattle.search_machine.specs.declared.answers.Opened.{Opened}
use Rattle.search_machine.specs.declared.answers.RoundFault.{RoundFault}
use Rattle.search_machine.specs.declared.answers.Publish.{Publish}
use Rattle.search_machine.specs.declared.answers.Publish.TheVariants as publish
use Rattle.branch_tree.specs.declared.node.Fate.{Fate}
use Rattle.search_machine.specs.State.{Round, Node, State, state_by, state_in, state_of}
use Rattle.search_machine.specs.Opening.{is_waiting, MayOpen}
use Rattle.search_machine.specs.Publishing.{publish_fault, Publishes, PublishStep}
use Rattle.search_machine.proofs.Frames.{one_at}
use Rattle.search_machine.proofs.OneAnswer.{slot-one, gains-not_no_gain}
use Rattle.pool_core.specs.Valuing.{IsToPublish}
use Rattle.pool_core.specs.declared.pool.following.Following.{Following}
use Rattle.pool_core.specs.Foretold.{IsOpenAnswer, IsOnlyOpening, IsFollowing, IsPublishAnswer, IfPublished, IsOnlyPublishing}
use Rattle.pool_core.proofs.Publishable.{publish_fault-refusal}

-- Openings

-- an opening that is foretold to succeed is answered with the foretold slot and version, and not otherwise
pub only-opening : (s : State) (id : BranchId) (opened : Opened) → IsOpenAnswer s id (Ok opened) → IsOnlyOpening s id opened
only-opening s id opened is (Ok other) new step =
    let slot : other.slot ≡ opened.slot = slot-one s other.slot opened.slot step.slot is.1 in
    let version : other.version ≡ opened.version = step.version ∙ sym is.2 in
    λ i. Ok (record { slot = slot i; version = version i })
only-opening s id opened is (Err fault) new step =
    let bad : ◌≡◌ {A = Option RoundFault} None (Some fault) = sym is.0 ∙ step.0 in absurd (cc)

-- a node that may be opened waits
pub may_open-waits : (s : State) (id : BranchId) → MayOpen s id → is_waiting (state_of s id) ≡ true
may_open-waits s id may = ap (λ (o : Option Node). is_waiting (state_in o)) may.is_node ∙ ap₂ (λ (f : Fate) (r : Option Round). is_waiting (state_by f r)) may.undone may.no_round

-- Publishings

module _ (s : State) (id : BranchId) (seen : ℕ) (prices : List ℕ) (next : Following) (will : IsFollowing s id seen prices next) where
  -- each refusal would be the first cause why not
  not_refused : (refusal : Publish) → publish_fault s id seen prices ≡ Some refusal → ⊥
  not_refused refusal is = let bad : ◌≡◌ {A = Option Publish} None (Some refusal) = sym will.allowed ∙ is in cc

  -- whatever node and round are there, they are these
  same_node : (node : Node) → slice_get s.nodes id.0 ≡ Some node → node ≡ will.node
  same_node node is = one_at s.nodes id.0 node will.node is will.may.is_gathered.complete_round.is_node

  same_round : (node : Node) (round : Round) → slice_get s.nodes id.0 ≡ Some node → node.round ≡ Some round → round ≡ will.round
  same_round node round is_node is_round =
      let both : Some round ≡ Some will.round = sym is_round ∙ (ap (λ (x : Node). x.round) (same_node node is_node) ∙ will.may.is_gathered.complete_round.is_round) in
      cc

  published-same : (slot version : ℕ) (new : State) → Publishes s id seen prices slot version new → publish.Published slot version ≡ publish.Published next.slot next.version
  published-same slot version new step =
      let is = step.may.is_gathered.complete_round in
      let slots : slot ≡ next.slot = step.slot_is ∙ (ap (λ (r : Round). r.slot) (same_round step.node step.round is.is_node is.is_round) ∙ sym will.slot_is) in
      let versions : version ≡ next.version = step.version_is ∙ sym will.version_is in
      λ i. publish.Published (slots i) (versions i)

  -- prices that would be published are answered with the foretold slot and version, and not otherwise
  pub only-publishing : IsOnlyPublishing s id seen prices (publish.Published next.slot next.version)
  only-publishing (publish.Published slot version) new step = published-same slot version new step
  only-publishing (publish.NoGain before after) new step = absurd (gains-not_no_gain s id seen prices new will.node will.round before after will.may will.gains step)
  only-publishing (publish.Spent x) new step = absurd (not_refused (publish.Spent x) step.0)
  only-publishing (publish.Stale x) new step = absurd (not_refused (publish.Stale x) step.0)
  only-publishing publish.Settled new step = absurd (not_refused publish.Settled step.0)
  only-publishing (publish.Incomplete x) new step = absurd (not_refused (publish.Incomplete x) step.0)
  only-publishing (publish.Rounds x) new step = absurd (not_refused (publish.Rounds x) step.0)
  only-publishing (publish.PriceCount x) new step = absurd (not_refused (publish.PriceCount x) step.0)
  only-publishing (publish.OverPrice x) new step = absurd (not_refused (publish.OverPrice x) step.0)
  only-publishing publish.Unlawful new step = absurd (not_refused publish.Unlawful step.0)
  only-publishing (publish.Ungathered x) new step = absurd (not_refused (publish.Ungathered x) step.0)

-- what may be published follows
pub following-of : (s : State) (id : BranchId) (seen : ℕ) (prices : List ℕ) (next : Following) → publish_fault s id seen prices ≡ None → (to : IsToPublish s id seen prices next.crowd_tried) → next.slot ≡ to.round.slot
    → next.version ≡ s.next_version → IsFollowing s id seen prices next
following-of s id seen prices next allowed to slot_is version_is =
    record { allowed = allowed; node = to.node; round = to.round; may = to.may; gains = to.gains; is_mark = to.is_mark; slot_is = slot_is; version_is = version_is }

-- a refusal is no success
abbrev IsNoSuccess : Publish → Type 0
IsNoSuccess answer = IfPublished answer (λ slot version. ⊥)

-- a fault that refuses a publishing is no success
pub fault-no_success : (s : State) (id : BranchId) (seen : ℕ) (prices : List ℕ) (refusal : Publish) → publish_fault s id seen prices ≡ Some refusal → IsNoSuccess refusal
fault-no_success s id seen prices (publish.Published slot version) is =
    let step : Publishes s id seen prices slot version s = publish_fault-refusal s id seen prices (publish.Published slot version) is in
    let more : s.next_version ≡ suc s.next_version = ap (λ (t : State). t.next_version) step.becomes in
    omega arith
fault-no_success s id seen prices (publish.NoGain before after) is = tt
fault-no_success s id seen prices (publish.Spent x) is = tt
fault-no_success s id seen prices (publish.Stale x) is = tt
fault-no_success s id seen prices publish.Settled is = tt
fault-no_success s id seen prices (publish.Incomplete x) is = tt
fault-no_success s id seen prices (publish.Rounds x) is = tt
fault-no_success s id seen prices (publish.PriceCount x) is = tt
fault-no_success s id seen prices (publish.OverPrice x) is = tt
fault-no_success s id seen prices publish.Unlawful is = tt
fault-no_success s id seen prices (publish.Ungathered x) is = tt

-- what is said of a success holds of an answer that is none
pub no_success-if : (answer : Publish) (Holds : ℕ → ℕ → Type 0) → IsNoSuccess answer → IfPublished answer Holds
no_success-if (publish.Published slot version) Holds none = absurd none
no_success-if (publish.NoGain before after) Holds none = tt
no_success-if (publish.Spent x) Holds none = tt
no_success-if (publish.Stale x) Holds none = tt
no_success-if publish.Settled Holds none = tt
no_success-if (publish.Incomplete x) Holds none = tt
no_success-if (publish.Rounds x) Holds none = tt
no_success-if (publish.PriceCount x) Holds none = tt
no_success-if (publish.OverPrice x) Holds none = tt
no_success-if publish.Unlawful Holds none = tt
no_success-if (publish.Ungathered x) Holds none = tt

-- an answer that is no success and leaves the state as it was is one that is foretold of the publishing
pub refusal-answer : (s : State) (id : BranchId) (seen : ℕ) (prices : List ℕ) (answer : Publish) → IsNoSuccess answer → PublishStep s id seen prices answer s → IsPublishAnswer s id seen prices answer
refusal-answer s id seen prices (publish.Published slot version) none is = absurd none
refusal-answer s id seen prices (publish.NoGain before after) none is = is
refusal-answer s id seen prices (publish.Spent x) none is = is
refusal-answer s id seen prices (publish.Stale x) none is = is
refusal-answer s id seen prices publish.Settled none is = is
refusal-answer s id seen prices (publish.Incomplete x) none is = is
refusal-answer s id seen prices (publish.Rounds x) none is = is
refusal-answer s id seen prices (publish.PriceCount x) none is = is
refusal-answer s id seen prices (publish.OverPrice x) none is = is
refusal-answer s id seen prices publish.Unlawful none is = is
refusal-answer s id seen prices (publish.Ungathered x) none is = is
