-- What an opening, a settling or a publishing answers at a state is one.
use Rattle.std.proofs.Common.{◌≡◌, ℕ, ◌<◌, ◌≤◌, ◌⊎◌, inl, inr, Bool, true, false, List, Option, Some, None, slice_get, refl, sym, ap, subst, ◌∙◌, arith, ℤ, ◌≤ℤ◌}
use Rattle.std.specs.Prelude.{Result, Ok, Err, ◌<ℤ◌, nat_le}
use Rattle.std.proofs.lemmas.Int.{ints}
use Rattle.std.proofs.lemmas.Bool.Decides.{nat_tests}
use Rattle.plan_base.specs.declared.ids.BranchId.{BranchId}
use Rattle.plan_base.proofs.Bools.{not-true}
use Rattle.plan_base.proofs.FirstFault.{none-or_else, none-when}
use Rattle.master_step.specs.Restricted.{IsRestrictedValue}
use Rattle.master_step.specs.Outcomes.{IsGain, HasStalled}
use Rattle.master_step.proofs.Uniqueness.{value-unique, gain-unique, gain-not_stalled}
use Rattle.search_machine.specs.declared.limits.TheConstants.{MAX_ROUNDS}
use Rattle.search_machine.specs.declared.answers.Opened.{Opened}
use Rattle.search_machine.specs.declared.answers.RoundFault.{RoundFault}
use Rattle.search_machine.specs.declared.answers.RoundFault.TheVariants as round_fault
use Rattle.search_machine.specs.declared.answers.Publish.{Publish}
use Rattle.search_machine.specs.declared.answers.Publish.TheVariants as publish
use Rattle.search_machine.specs.declared.answers.Settle.{Settle}
use Rattle.search_machine.specs.declared.answers.Settle.TheVariants as settle
use Rattle.search_machine.specs.State.{Round, Fate, Undone, Node, State, ranges_of, active_count, state_by, state_of, state_in}
use Rattle.search_machine.specs.Changes.{is_spent}
use Rattle.search_machine.specs.Opening.{is_waiting, open_fault, IsLowestFreeSlot, Opens, OpenStep}
use Rattle.search_machine.specs.Gathering.{columns_for, IsGathered, has_enough}
use Rattle.search_machine.specs.Settling.{settle_fault, Settles, IsImprovable, SettleStep}
use Rattle.search_machine.specs.Publishing.{publish_fault, MayFollow, IsBetterStep, IsCrowdStep, Publishes, IsNoGain, PublishStep}
use Rattle.search_machine.proofs.Frames.{one_at}
use Rattle.search_machine.proofs.Unrefused.{settle-unrefused, publish-unrefused}

-- a call is refused, or succeeds and is not refused; where its successes answer one thing, it answers one thing
one_by : {A : Type 0} (fault : Option A) (Succeeds : A → Type 0) → ((a : A) → Succeeds a → fault ≡ None) → ((a b : A) → Succeeds a → Succeeds b → a ≡ b)
    → (a b : A) → (fault ≡ Some a) ⊎ Succeeds a → (fault ≡ Some b) ⊎ Succeeds b → a ≡ b
one_by {A} fault Succeeds free one a b x y = elim x [
  | inl refused ↦ elim y [
    | inl other ↦ let e : Some a ≡ Some b = sym refused ∙ other in cc
    | inr success ↦ let bad : ◌≡◌ {A = Option A} None (Some a) = sym (free b success) ∙ refused in absurd cc
  ]
  | inr success ↦ elim y [
    | inl refused ↦ let bad : ◌≡◌ {A = Option A} None (Some b) = sym (free a success) ∙ refused in absurd cc
    | inr other ↦ one a b success other
  ]
]

-- Openings

either_way : (x y : ℕ) → (x ≤ y) ⊎ (y < x)
either_way x y = grind arith

-- there is at most one lowest free slot
pub slot-one : (s : State) (a b : ℕ) → IsLowestFreeSlot s a → IsLowestFreeSlot s b → a ≡ b
slot-one s a b x y = elim (either_way a b) [
  | inr more ↦ absurd (y.free (x.lowest b more))
  | inl most ↦ elim (either_way b a) [
    | inr less ↦ absurd (x.free (y.lowest a less))
    | inl least ↦ omega arith
  ]
]

unspent : (s : State) → s.examined < s.budget → is_spent s ≡ false
unspent s h = grind (arith, nat_tests)

not_reached : (limit count : ℕ) → count < limit → nat_le limit count ≡ false
not_reached limit count h = grind (arith, nat_tests)

waits : (fate : Fate) (round : Option Round) → fate ≡ Undone → round ≡ None → is_waiting (state_by fate round) ≡ true
waits fate round undone none = rw (undone, none) refl

open-unrefused : (s t : State) (id : BranchId) (opened : Opened) → Opens s id opened t → open_fault s id ≡ None
unfolding open_fault
open-unrefused s t id opened e =
    let may = e.may in
    let waiting : is_waiting (state_of s id) ≡ true = ap (λ (o : Option Node). is_waiting (state_in o)) may.is_node ∙ waits may.node.fate may.node.round may.undone may.no_round in
    none-or_else _ _ (none-when _ (round_fault.Spent s.examined) (unspent s may.not_spent))
    (none-or_else _ _ (none-when _ (round_fault.NotOpen (state_of s id)) (not-true _ waiting))
    (none-when _ (round_fault.Crowded (active_count s)) (not_reached MAX_ROUNDS (active_count s) may.room)))

abbrev opened_as : ℕ → ℕ → Opened
opened_as slot version = record { slot = slot; version = version }

-- an opening of one node at one state has one answer
pub opening-one : (s t u : State) (id : BranchId) (a b : Result Opened RoundFault) → OpenStep s id a t → OpenStep s id b u → a ≡ b
opening-one s t u id (Ok a) (Ok b) x y =
    let slot = slot-one s a.slot b.slot x.slot y.slot in
    let version = x.version ∙ sym y.version in
    let one : a ≡ b = ap (λ (n : ℕ). opened_as n a.version) slot ∙ ap (opened_as b.slot) version in
    ap (λ (o : Opened). Ok o) one
opening-one s t u id (Ok a) (Err f) x y = let bad : ◌≡◌ {A = Option RoundFault} None (Some f) = sym (open-unrefused s t id a x) ∙ y.0 in absurd cc
opening-one s t u id (Err f) (Ok b) x y = let bad : ◌≡◌ {A = Option RoundFault} None (Some f) = sym (open-unrefused s u id b y) ∙ x.0 in absurd cc
opening-one s t u id (Err f) (Err g) x y = let e : Some f ≡ Some g = sym x.0 ∙ y.0 in let same : f ≡ g = cc in ap (λ (o : RoundFault). Err o) same

-- Settlings and publishings: the node and its round are one

one_round : (s : State) (id : BranchId) (n m : Node) (a b : Round) → slice_get s.nodes id.0 ≡ Some n → slice_get s.nodes id.0 ≡ Some m → n.round ≡ Some a → m.round ≡ Some b → (m ≡ n) × (b ≡ a)
one_round s id n m a b is_n is_m is_a is_b =
    let same : m ≡ n = one_at s.nodes id.0 m n is_m is_n in
    let rounds : Some b ≡ Some a = sym is_b ∙ ap (λ (x : Node). x.round) same ∙ is_a in
    (same, cc)

-- what is so of the columns of the one node at the prices of its round is so of the other
moved : (s : State) (n m : Node) (a b : Round) (P : Node → List ℕ → Type 0) → (m ≡ n) × (b ≡ a) → P m b.prices → P n a.prices
moved s n m a b P same h = subst (λ (x : Node). P x a.prices) same.0 (subst (λ (r : Round). P m r.prices) same.1 h)

not_both : (v w : ℤ) → v <ℤ w → w ≤ℤ v → ⊥
not_both v w h k = omega (arith, ints)

false-not_true : (b : Bool) → b ≡ false → b ≡ true → ⊥
false-not_true b f t = let bad : true ≡ false = sym t ∙ f in cc

abbrev SettleSucceeds : State → BranchId → ℕ → Settle → Type 0
SettleSucceeds s id version settle.Done = (t : State) × Settles s id version t
SettleSucceeds s id version (settle.Improves before after) = (t : State) × IsImprovable s id version before after t
SettleSucceeds s id version answer = ⊥

module _ (s : State) (id : BranchId) (version : ℕ) where
  settle-cases : (t : State) (a : Settle) → SettleStep s id version a t → (settle_fault s id version ≡ Some a) ⊎ SettleSucceeds s id version a
  settle-cases t settle.Done x = inr (t, x)
  settle-cases t (settle.Improves before after) x = inr (t, x)
  settle-cases t (settle.Spent y) x = inl x.0
  settle-cases t (settle.Stale y) x = inl x.0
  settle-cases t (settle.Incomplete y) x = inl x.0
  settle-cases t (settle.Ungathered y) x = inl x.0

  settle-free : (a : Settle) → SettleSucceeds s id version a → settle_fault s id version ≡ None
  settle-free settle.Done x = settle-unrefused s id version x.1.node x.1.round x.1.is_gathered
  settle-free (settle.Improves before after) x = settle-unrefused s id version x.1.node x.1.round x.1.is_gathered
  settle-free a x = absurd x

  -- where a node has had enough versions or its round is stalled, no settling answers that a step gains
  pub no_more-not_improves : (u : State) (node : Node) (round : Round) (before after : ℤ) → IsGathered s id version node round
      → (has_enough s node ≡ true) ⊎ HasStalled s.problem s.cuts (ranges_of s.problem node) (columns_for s node) round.prices → IsImprovable s id version before after u → ⊥
  no_more-not_improves u node round before after is no_more y =
      let a = is.complete_round in
      let b = y.is_gathered.complete_round in
      let same = one_round s id node y.node round y.round a.is_node b.is_node a.is_round b.is_round in
      let gain : IsGain s.problem s.cuts (ranges_of s.problem node) (columns_for s node) round.prices before after = moved s node y.node round y.round (λ n prices. IsGain s.problem s.cuts (ranges_of s.problem n) (columns_for s n) prices before after) same y.is_gain in
      elim no_more [
        | inl enough ↦ false-not_true (has_enough s y.node) y.not_enough (ap (has_enough s) same.0 ∙ enough)
        | inr stalled ↦ gain-not_stalled s.problem s.cuts (ranges_of s.problem node) (columns_for s node) round.prices before stalled.0 after gain stalled.1
      ]

  improves-one : (t u : State) (v w g h : ℤ) → IsImprovable s id version v g t → IsImprovable s id version w h u → settle.Improves v g ≡ settle.Improves w h
  improves-one t u v w g h x y =
      let a = x.is_gathered.complete_round in
      let b = y.is_gathered.complete_round in
      let same = one_round s id x.node y.node x.round y.round a.is_node b.is_node a.is_round b.is_round in
      let other : IsGain s.problem s.cuts (ranges_of s.problem x.node) (columns_for s x.node) x.round.prices w h = moved s x.node y.node x.round y.round (λ n prices. IsGain s.problem s.cuts (ranges_of s.problem n) (columns_for s n) prices w h) same y.is_gain in
      let before : v ≡ w = value-unique s.problem s.cuts (ranges_of s.problem x.node) (columns_for s x.node) x.round.prices v w x.is_gain.is_raise.is_old other.is_raise.is_old in
      let after : g ≡ h = gain-unique s.problem s.cuts (ranges_of s.problem x.node) (columns_for s x.node) x.round.prices v w g h x.is_gain other in
      ap (λ (z : ℤ). settle.Improves z g) before ∙ ap (λ (z : ℤ). settle.Improves w z) after

  settle-both : (a b : Settle) → SettleSucceeds s id version a → SettleSucceeds s id version b → a ≡ b
  settle-both settle.Done settle.Done x y = refl
  settle-both settle.Done (settle.Improves before after) x y = absurd (no_more-not_improves y.0 x.1.node x.1.round before after x.1.is_gathered x.1.no_more y.1)
  settle-both (settle.Improves before after) settle.Done x y = absurd (no_more-not_improves x.0 y.1.node y.1.round before after y.1.is_gathered y.1.no_more x.1)
  settle-both (settle.Improves v g) (settle.Improves w h) x y = improves-one x.0 y.0 v w g h x.1 y.1
  settle-both settle.Done b x y = absurd y
  settle-both (settle.Improves v g) b x y = absurd y
  settle-both a b x y = absurd x

-- a settling of one version at one state has one answer
pub settling-one : (s t u : State) (id : BranchId) (version : ℕ) (a b : Settle) → SettleStep s id version a t → SettleStep s id version b u → a ≡ b
settling-one s t u id version a b x y =
    one_by (settle_fault s id version) (SettleSucceeds s id version) (settle-free s id version) (settle-both s id version) a b (settle-cases s id version t a x) (settle-cases s id version u b y)

abbrev PublishSucceeds : State → BranchId → ℕ → List ℕ → Publish → Type 0
PublishSucceeds s id seen prices (publish.Published slot version) = (t : State) × Publishes s id seen prices slot version t
PublishSucceeds s id seen prices (publish.NoGain before after) = (t : State) × IsNoGain s id seen prices before after t
PublishSucceeds s id seen prices answer = ⊥

module _ (s : State) (id : BranchId) (seen : ℕ) (prices : List ℕ) where
  -- the restricted value over the columns that a node permits
  abbrev HasValue : Node → List ℕ → ℤ → Type 0
  HasValue node ps value = IsRestrictedValue s.problem s.cuts (ranges_of s.problem node) (columns_for s node) ps value

  publish-cases : (t : State) (a : Publish) → PublishStep s id seen prices a t → (publish_fault s id seen prices ≡ Some a) ⊎ PublishSucceeds s id seen prices a
  publish-cases t (publish.Published slot version) x = inr (t, x)
  publish-cases t (publish.NoGain before after) x = inr (t, x)
  publish-cases t (publish.Spent y) x = inl x.0
  publish-cases t (publish.Stale y) x = inl x.0
  publish-cases t publish.Settled x = inl x.0
  publish-cases t (publish.Incomplete y) x = inl x.0
  publish-cases t (publish.Rounds y) x = inl x.0
  publish-cases t (publish.PriceCount y) x = inl x.0
  publish-cases t (publish.OverPrice y) x = inl x.0
  publish-cases t publish.Unlawful x = inl x.0
  publish-cases t (publish.Ungathered y) x = inl x.0

  publish-free : (a : Publish) → PublishSucceeds s id seen prices a → publish_fault s id seen prices ≡ None
  publish-free (publish.Published slot version) x = publish-unrefused s id seen x.1.node x.1.round prices x.1.may
  publish-free (publish.NoGain before after) x = publish-unrefused s id seen x.1.node x.1.round prices x.1.may
  publish-free a x = absurd x

  published-one : (t u : State) (slot other version next : ℕ) → Publishes s id seen prices slot version t → Publishes s id seen prices other next u → publish.Published slot version ≡ publish.Published other next
  published-one t u slot other version next x y =
      let a = x.may.is_gathered.complete_round in
      let b = y.may.is_gathered.complete_round in
      let same = one_round s id x.node y.node x.round y.round a.is_node b.is_node a.is_round b.is_round in
      let slots : slot ≡ other = x.slot_is ∙ sym (ap (λ (r : Round). r.slot) same.1) ∙ sym y.slot_is in
      let versions : version ≡ next = x.version_is ∙ sym y.version_is in
      ap (λ (n : ℕ). publish.Published n version) slots ∙ ap (λ (n : ℕ). publish.Published other n) versions

  no_gain-one : (t u : State) (v w g h : ℤ) → IsNoGain s id seen prices v g t → IsNoGain s id seen prices w h u → publish.NoGain v g ≡ publish.NoGain w h
  no_gain-one t u v w g h x y =
      let a = x.may.is_gathered.complete_round in
      let b = y.may.is_gathered.complete_round in
      let same = one_round s id x.node y.node x.round y.round a.is_node b.is_node a.is_round b.is_round in
      let old : HasValue x.node x.round.prices w = moved s x.node y.node x.round y.round (λ n ps. HasValue n ps w) same y.is_before in
      let new : HasValue x.node prices h = subst (λ (n : Node). HasValue n prices h) same.0 y.is_after in
      let before : v ≡ w = value-unique s.problem s.cuts (ranges_of s.problem x.node) (columns_for s x.node) x.round.prices v w x.is_before old in
      let after : g ≡ h = value-unique s.problem s.cuts (ranges_of s.problem x.node) (columns_for s x.node) prices g h x.is_after new in
      ap (λ (z : ℤ). publish.NoGain z g) before ∙ ap (λ (z : ℤ). publish.NoGain w z) after

  -- where the prices are better or the crowd step, no publishing answers that they gain nothing
  pub gains-not_no_gain : (u : State) (node : Node) (round : Round) (v g : ℤ) → MayFollow s id seen prices node round
      → IsBetterStep s node round prices ⊎ IsCrowdStep s node round prices → IsNoGain s id seen prices v g u → ⊥
  gains-not_no_gain u node round v g may gains y =
      let a = may.is_gathered.complete_round in
      let b = y.may.is_gathered.complete_round in
      let same = one_round s id y.node node y.round round b.is_node a.is_node b.is_round a.is_round in
      elim gains [
        | inl better ↦
            let old : HasValue y.node y.round.prices better.before = moved s y.node node y.round round (λ n ps. HasValue n ps better.before) same better.is_before in
            let new : HasValue y.node prices better.after = subst (λ (n : Node). HasValue n prices better.after) same.0 better.is_after in
            let before : better.before ≡ v = value-unique s.problem s.cuts (ranges_of s.problem y.node) (columns_for s y.node) y.round.prices better.before v old y.is_before in
            let after : better.after ≡ g = value-unique s.problem s.cuts (ranges_of s.problem y.node) (columns_for s y.node) prices better.after g new y.is_after in
            not_both better.before better.after better.greater (subst (λ (z : ℤ). z ≤ℤ better.before) (sym after) (subst (λ (z : ℤ). g ≤ℤ z) (sym before) y.not_greater))
        | inr crowd ↦ y.no_crowd_step (subst (λ (r : Round). IsCrowdStep s y.node r prices) same.1 (subst (λ (n : Node). IsCrowdStep s n round prices) same.0 crowd))
      ]

  publish-both : (a b : Publish) → PublishSucceeds s id seen prices a → PublishSucceeds s id seen prices b → a ≡ b
  publish-both (publish.Published slot version) (publish.Published other next) x y = published-one x.0 y.0 slot other version next x.1 y.1
  publish-both (publish.Published slot version) (publish.NoGain v g) x y = absurd (gains-not_no_gain y.0 x.1.node x.1.round v g x.1.may x.1.gains y.1)
  publish-both (publish.NoGain v g) (publish.Published slot version) x y = absurd (gains-not_no_gain x.0 y.1.node y.1.round v g y.1.may y.1.gains x.1)
  publish-both (publish.NoGain v g) (publish.NoGain w h) x y = no_gain-one x.0 y.0 v w g h x.1 y.1
  publish-both (publish.Published slot version) b x y = absurd y
  publish-both (publish.NoGain v g) b x y = absurd y
  publish-both a b x y = absurd x

-- a publishing of the same prices at one state has one answer
pub publishing-one : (s t u : State) (id : BranchId) (seen : ℕ) (prices : List ℕ) (a b : Publish) → PublishStep s id seen prices a t → PublishStep s id seen prices b u → a ≡ b
publishing-one s t u id seen prices a b x y =
    one_by (publish_fault s id seen prices) (PublishSucceeds s id seen prices) (publish-free s id seen prices) (publish-both s id seen prices) a b (publish-cases s id seen prices t a x) (publish-cases s id seen prices u b y)
