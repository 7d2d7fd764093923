-- Prices that are not refused may follow those of the node's round; and a refusal is none of the answers that are no refusals.
use Rattle.std.proofs.Common.{◌≡◌, ℕ, ◌+◌, ◌<◌, Bool, true, false, not, List, length, take, Option, Some, None, slice_get, refl, sym, ap, subst, ◌∙◌, arith}
use Rattle.std.specs.Prelude.{⊤, option_map, nat_lt, nat_le, ◌==◌}
use Rattle.std.proofs.lemmas.Bool.{eqb-true}
use Rattle.std.proofs.lemmas.Bool.Decides.{nat_tests}
use Rattle.plan_base.specs.declared.ids.BranchId.{BranchId}
use Rattle.plan_base.specs.declared.ids.DemandId.{DemandId}
use Rattle.plan_base.specs.declared.parts.Parts.{Parts}
use Rattle.plan_base.specs.First.{◌or_else◌, when, first_in}
use Rattle.plan_base.specs.Facts.{price_limit}
use Rattle.plan_base.specs.Places.{places, link_of_place}
use Rattle.plan_base.proofs.Bools.{not-false}
use Rattle.plan_base.proofs.FirstFault.{or_else-none, when-none}
use Rattle.proof_tree.specs.declared.cuts.Cut.{Cut}
use Rattle.search_machine.specs.declared.limits.TheConstants.{MAX_VERSIONS}
use Rattle.search_machine.specs.declared.answers.Publish.{Publish}
use Rattle.search_machine.specs.declared.answers.Publish.TheVariants as publish
use Rattle.search_machine.specs.State.{Round, Node, State, round_of}
use Rattle.search_machine.specs.Changes.{is_spent, version_in, is_version, stale_fault, first_gap}
use Rattle.search_machine.specs.Readiness.{completed_in, settled_in}
use Rattle.search_machine.specs.Gathering.{first_ungathered}
use Rattle.search_machine.specs.Publishing.{price_fault, unlawful_fault, publish_fault, MayFollow, PublishStep}
use Rattle.search_machine.proofs.RefusedNumbers.{first_in-at, unfaulted-lawful, unlawful_only}
use Rattle.pool_core.proofs.Answering.{gathered_fault-none}

-- the prices may follow those of the node's round
pub record HasFollowing (s : State) (id : BranchId) (seen : ℕ) (prices : List ℕ) : Type 0 where
  pub node : Node
  pub round : Round
  pub may : MayFollow s id seen prices node round

not_reached : (limit count : ℕ) → nat_le limit count ≡ false → count < limit
not_reached limit count h = grind (arith, nat_tests)

-- where no fault is found, the prices may follow those of the node's gathered round
pub publish_fault-none : (s : State) (id : BranchId) (seen : ℕ) (prices : List ℕ) → publish_fault s id seen prices ≡ None → HasFollowing s id seen prices
unfolding publish_fault
publish_fault-none s id seen prices h =
    let width = places s.problem + length s.cuts in
    let a = stale_fault publish.Spent publish.Stale s id seen in
    let b = when (settled_in (slice_get s.nodes id.0)) publish.Settled in
    let c = option_map publish.Incomplete (first_gap (round_of s id)) in
    let d = when (nat_le MAX_VERSIONS (completed_in (slice_get s.nodes id.0))) (publish.Rounds (completed_in (slice_get s.nodes id.0))) in
    let e = when (not (length prices == width)) (publish.PriceCount width) in
    let f = first_in (price_fault s.problem) (take (places s.problem) prices) in
    let g = unlawful_fault s.problem s.cuts prices in
    let i = option_map publish.Ungathered (first_ungathered s.columns (round_of s id)) in
    let one = or_else-none a (b or_else c or_else d or_else e or_else f or_else g or_else i) h in
    let two = or_else-none b (c or_else d or_else e or_else f or_else g or_else i) one.1 in
    let three = or_else-none c (d or_else e or_else f or_else g or_else i) two.1 in
    let four = or_else-none d (e or_else f or_else g or_else i) three.1 in
    let five = or_else-none e (f or_else g or_else i) four.1 in
    let six = or_else-none f (g or_else i) five.1 in
    let seven = or_else-none g i six.1 in
    let has = gathered_fault-none publish.Spent publish.Stale publish.Incomplete publish.Ungathered s id seen one.0 three.0 seven.1 in
    let is_node = has.is_gathered.complete_round.is_node in
    let count : length prices ≡ places s.problem + length s.cuts = eqb-true _ _ (not-false _ (when-none _ (publish.PriceCount width) five.0)) in
    record {
      node = has.node;
      round = has.round;
      may = record {
        is_gathered = has.is_gathered;
        not_settled = sym (ap settled_in is_node) ∙ when-none _ publish.Settled two.0;
        room = not_reached MAX_VERSIONS has.node.completed (sym (ap (λ (o : Option Node). nat_le MAX_VERSIONS (completed_in o)) is_node) ∙ when-none _ (publish.Rounds (completed_in (slice_get s.nodes id.0))) four.0);
        are_numbers = record { count = count; lawful = unfaulted-lawful s.problem s.cuts prices (omega (arith, count)) six.0 seven.0 };
      };
    }

-- where the read pool tells of no fault, there is none
pub unrefused-prices : (read now : State) (id : BranchId) (seen : ℕ) (prices : List ℕ) (fault : Option Publish) → read ≡ now → fault ≡ publish_fault read id seen prices → fault ≡ None → publish_fault now id seen prices ≡ None
unrefused-prices read now id seen prices fault is told none = sym (told ∙ ap (λ (s : State). publish_fault s id seen prices) is) ∙ none

-- an answer that is no refusal
abbrev NoRefusal : Publish → Type 0
NoRefusal (publish.Published slot version) = ⊤
NoRefusal (publish.NoGain old new) = ⊤
NoRefusal answer = ⊥

module _ (a : Publish) (plain : NoRefusal a) where
  -- no refusal is such an answer
  other : (refusal : Publish) → (NoRefusal refusal → ⊥) → Some refusal ≡ Some a → ⊥
  other refusal bad is = let same : refusal ≡ a = cc in bad (subst NoRefusal (sym same) plain)

  not_none : ◌≡◌ {A = Option Publish} None (Some a) → ⊥
  not_none is = cc

  -- no list of causes that are refusals tells such an answer
  none-or : (f g : Option Publish) → (f ≡ Some a → ⊥) → (g ≡ Some a → ⊥) → (f or_else g) ≡ Some a → ⊥
  none-or None g first second is = second is
  none-or (Some r) g first second is = first is

  not-when : (test : Bool) (refusal : Publish) → (NoRefusal refusal → ⊥) → when test refusal ≡ Some a → ⊥
  not-when true refusal bad is = other refusal bad is
  not-when false refusal bad is = not_none is

  not-map : (make : DemandId → Publish) (o : Option DemandId) → ((k : DemandId) → NoRefusal (make k) → ⊥) → option_map make o ≡ Some a → ⊥
  not-map make None bad is = not_none is
  not-map make (Some k) bad is = other (make k) (bad k) is

  not-price : (p : Parts) (prices : List ℕ) → first_in (price_fault p) prices ≡ Some a → ⊥
  not-price p prices h =
      let w = first_in-at (price_fault p) prices a h in
      not-when (nat_lt (price_limit p) w.1) (publish.OverPrice (record { 0 = link_of_place p w.0 })) (λ b. b) w.2

  not-unlawful : (p : Parts) (cuts : List Cut) (prices : List ℕ) → unlawful_fault p cuts prices ≡ Some a → ⊥
  not-unlawful p cuts prices h = subst NoRefusal (unlawful_only p cuts prices a h) plain

  no_refusal : (s : State) (id : BranchId) (seen : ℕ) (prices : List ℕ) → publish_fault s id seen prices ≡ Some a → ⊥
  unfolding publish_fault
  no_refusal s id seen prices h =
      let node = slice_get s.nodes id.0 in
      let width = places s.problem + length s.cuts in
      none-or _ _ (none-or _ _ (not-when (is_spent s) (publish.Spent s.examined) (λ b. b)) (not-when (not (is_version (version_in (round_of s id)) seen)) (publish.Stale (version_in (round_of s id))) (λ b. b)))
      (none-or _ _ (not-when (settled_in node) publish.Settled (λ b. b))
      (none-or _ _ (not-map publish.Incomplete (first_gap (round_of s id)) (λ k b. b))
      (none-or _ _ (not-when (nat_le MAX_VERSIONS (completed_in node)) (publish.Rounds (completed_in node)) (λ b. b))
      (none-or _ _ (not-when (not (length prices == width)) (publish.PriceCount width) (λ b. b))
      (none-or _ _ (not-price s.problem (take (places s.problem) prices))
      (none-or _ _ (not-unlawful s.problem s.cuts prices) (not-map publish.Ungathered (first_ungathered s.columns (round_of s id)) (λ k b. b)))))))) h

-- a fault is a refusal
pub publish_fault-refusal : (s : State) (id : BranchId) (seen : ℕ) (prices : List ℕ) (refusal : Publish) → publish_fault s id seen prices ≡ Some refusal → PublishStep s id seen prices refusal s
publish_fault-refusal s id seen prices (publish.Spent x) h = (h, refl)
publish_fault-refusal s id seen prices (publish.Stale x) h = (h, refl)
publish_fault-refusal s id seen prices publish.Settled h = (h, refl)
publish_fault-refusal s id seen prices (publish.Incomplete x) h = (h, refl)
publish_fault-refusal s id seen prices (publish.Rounds x) h = (h, refl)
publish_fault-refusal s id seen prices (publish.PriceCount x) h = (h, refl)
publish_fault-refusal s id seen prices (publish.OverPrice x) h = (h, refl)
publish_fault-refusal s id seen prices publish.Unlawful h = (h, refl)
publish_fault-refusal s id seen prices (publish.Ungathered x) h = (h, refl)
publish_fault-refusal s id seen prices (publish.NoGain old new) h = absurd (no_refusal (publish.NoGain old new) tt s id seen prices h)
publish_fault-refusal s id seen prices (publish.Published slot version) h = absurd (no_refusal (publish.Published slot version) tt s id seen prices h)
