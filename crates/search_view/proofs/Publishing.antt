-- What is published of a slot: the round of the node that has it.
use Rattle.std.proofs.Common.{◌≡◌, ℕ, ◌<◌, List, length, get_or, Option, Some, None, slice_get, refl, sym, ap, subst, ◌∙◌, arith}
use Rattle.std.specs.Prelude.{IsSomeAnd}
use Rattle.std.proofs.lemmas.Option.{slice_get_within, slice_get-get_or}
use Rattle.plan_base.specs.declared.ids.BranchId.{BranchId}
use Rattle.dual_versions.specs.declared.published.Published.{Published}
use Rattle.search_machine.specs.State.{Round, Node, State, restriction_of}
use Rattle.search_machine.specs.Opening.{HasSlot, IsTaken}
use Rattle.search_machine.specs.Nodes.{IsSoundRound}
use Rattle.search_machine.proofs.Frames.{one_at}
use Rattle.search_machine.proofs.Replacing.{node_at}
use Rattle.search_machine.proofs.Runs.{IsReachable-sound}
use Rattle.search_nodes.specs.Rounds.{IsPublishedBy}
use Rattle.search_nodes.specs.declared.slot.Slot.{Slot}
use Rattle.search_nodes.specs.declared.slot.Slot.TheVariants.{Free, Of}
use Rattle.search_nodes.specs.Slots.{holder_in}
use Rattle.search_view.specs.Views.{IsTakenBy, IsPool, IsPublishedAt}

published-at : (s : State) (slot : ℕ) (id : BranchId) (item : Node) (published : Published) (round : Option Round) → item.round ≡ round → slice_get s.nodes id.0 ≡ Some item
    → IsPublishedBy round id slot (Some published) → IsPublishedAt s slot (Some published)
published-at s slot id item published None has is shown = absurd shown
published-at s slot id item published (Some round) has is shown =
    let node : published.node ≡ id = ap (λ (p : Published). p.node) shown.1 in (
      item,
      round,
      subst (λ (b : BranchId). slice_get s.nodes b.0 ≡ Some item) (sym node) is,
      has,
      shown.0,
      sym (ap (λ (p : Published). p.version) shown.1),
      sym (ap (λ (p : Published). p.prices) shown.1),
    )

-- what the node that has the slot publishes is published of the slot
pub published-here : (s : State) (slot : ℕ) (id : BranchId) (item : Node) (found : Option Published) → slice_get s.nodes id.0 ≡ Some item → IsTakenBy s slot id.0
    → IsPublishedBy item.round id slot found → IsPublishedAt s slot found
published-here s slot id item None is taken none = absurd (none (subst (HasSlot slot) (one_at s.nodes id.0 taken.0 item taken.1 is) taken.2))
published-here s slot id item (Some published) is taken shown = published-at s slot id item published item.round refl is shown

module _ (s : State) (places : List Slot) (h : IsPool s places) (slot : ℕ) where
  -- the node that a slot names has a round with this slot
  pub held-by : (id : BranchId) → holder_in (slice_get places slot) ≡ Some id → IsTakenBy s slot id.0
  held-by id is = by (slice_get places slot) refl is
    where
      by : (o : Option Slot) → slice_get places slot ≡ o → holder_in o ≡ Some id → IsTakenBy s slot id.0
      by None at e = absurd (let bad : ◌≡◌ {A = Option BranchId} None (Some id) = e in cc)
      by (Some (Free place)) at e = absurd (let bad : ◌≡◌ {A = Option BranchId} None (Some id) = e in cc)
      by (Some (Of other)) at e =
          let same : other ≡ id = (let both : Some other ≡ Some id = e in cc) in
          h.has_places.taken slot id (at ∙ ap (λ (x : BranchId). Some (Of x)) same)

  -- the node that a slot names has a number below the count of nodes
  pub holder-within : (id : BranchId) → holder_in (slice_get places slot) ≡ Some id → id.0 < length s.nodes
  holder-within id is = let t = held-by id is in slice_get_within s.nodes id.0 t.0 t.1

  -- a slot that is taken is one of the 64
  taken-within : IsTaken s slot → slot < length places
  taken-within taken = by taken.1.round refl taken.3
    where
      by : (o : Option Round) → taken.1.round ≡ o → IsSomeAnd o (λ r. r.slot ≡ slot) → slot < length places
      by None is has = absurd has
      by (Some round) is has =
          let sound : IsSoundRound s.problem s.cuts (restriction_of taken.1) round = (rw is at ((node_at s taken.0 taken.1 (IsReachable-sound s h.reachable) taken.2).round)).1 in
          let within = sound.slot in
          let count = h.has_places.count in
          omega arith

  -- where no node is named, no round has the slot
  pub none-published : holder_in (slice_get places slot) ≡ None → IsTaken s slot → ⊥
  none-published none taken = by (slice_get places slot) refl none
    where
      by : (o : Option Slot) → slice_get places slot ≡ o → holder_in o ≡ None → ⊥
      by None is e = let bad : ◌≡◌ {A = Option Slot} None (Some (get_or places slot (Of (record { 0 = 0 })))) = sym is ∙ slice_get-get_or places slot (Of (record { 0 = 0 })) (taken-within taken) in cc
      by (Some (Free place)) is e = h.has_places.free slot place is taken
      by (Some (Of id)) is e = let bad : ◌≡◌ {A = Option BranchId} (Some id) None = e in cc
