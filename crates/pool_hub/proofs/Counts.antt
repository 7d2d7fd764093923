-- Openings and publishings accept no path, also where memory was wanting.
use Rattle.std.proofs.Common.{ℕ, ◌≡◌, List, ap, ◌∙◌, Result, Ok, Err, IfOk, OnErr}
use Rattle.std.specs.declared.alloc.AllocError.{AllocError}
use Rattle.plan_base.specs.declared.ids.BranchId.{BranchId}
use Rattle.search_machine.specs.declared.answers.Opened.{Opened}
use Rattle.search_machine.specs.declared.answers.RoundFault.{RoundFault}
use Rattle.search_machine.specs.declared.answers.Publish.{Publish}
use Rattle.search_machine.specs.declared.answers.Publish.TheVariants as publish
use Rattle.search_machine.specs.State.{State}
use Rattle.search_machine.specs.Opening.{OpenStep}
use Rattle.search_machine.specs.Publishing.{PublishStep}

-- opening a node accepts no path
pub open_counts : (p q : State) (total : ℕ) (X Y : Type 0) (id : BranchId) (r : Result (Result Opened RoundFault) AllocError) → p.accepted ≡ total
    → IfOk r (λ answer. OpenStep p id answer q) → OnErr r ((q ≡ p) × X × Y) → q.accepted ≡ total
open_counts p q total X Y id (Ok (Ok opened)) is event same = ap (λ (s : State). s.accepted) event.becomes ∙ is
open_counts p q total X Y id (Ok (Err fault)) is event same = ap (λ (s : State). s.accepted) event.1 ∙ is
open_counts p q total X Y id (Err wanting) is event same = ap (λ (s : State). s.accepted) same.0 ∙ is

publish_counts_if : (p q : State) (total : ℕ) (id : BranchId) (seen : ℕ) (prices : List ℕ) (answer : Publish) → p.accepted ≡ total → PublishStep p id seen prices answer q → q.accepted ≡ total
publish_counts_if p q total id seen prices (publish.Spent examined) is event = ap (λ (s : State). s.accepted) event.1 ∙ is
publish_counts_if p q total id seen prices (publish.Stale current) is event = ap (λ (s : State). s.accepted) event.1 ∙ is
publish_counts_if p q total id seen prices publish.Settled is event = ap (λ (s : State). s.accepted) event.1 ∙ is
publish_counts_if p q total id seen prices (publish.Incomplete demand) is event = ap (λ (s : State). s.accepted) event.1 ∙ is
publish_counts_if p q total id seen prices (publish.Rounds done) is event = ap (λ (s : State). s.accepted) event.1 ∙ is
publish_counts_if p q total id seen prices (publish.PriceCount needed) is event = ap (λ (s : State). s.accepted) event.1 ∙ is
publish_counts_if p q total id seen prices (publish.OverPrice link) is event = ap (λ (s : State). s.accepted) event.1 ∙ is
publish_counts_if p q total id seen prices publish.Unlawful is event = ap (λ (s : State). s.accepted) event.1 ∙ is
publish_counts_if p q total id seen prices (publish.Ungathered demand) is event = ap (λ (s : State). s.accepted) event.1 ∙ is
publish_counts_if p q total id seen prices (publish.NoGain before after) is event = ap (λ (s : State). s.accepted) event.unchanged ∙ is
publish_counts_if p q total id seen prices (publish.Published slot version) is event = ap (λ (s : State). s.accepted) event.becomes ∙ is

-- publishing prices accepts no path
pub publish_counts : (p q : State) (total : ℕ) (X Y : Type 0) (id : BranchId) (seen : ℕ) (prices : List ℕ) (r : Result Publish AllocError) → p.accepted ≡ total
    → IfOk r (λ answer. PublishStep p id seen prices answer q) → OnErr r ((q ≡ p) × X × Y) → q.accepted ≡ total
publish_counts p q total X Y id seen prices (Ok answer) is event same = publish_counts_if p q total id seen prices answer is event
publish_counts p q total X Y id seen prices (Err wanting) is event same = ap (λ (s : State). s.accepted) same.0 ∙ is
