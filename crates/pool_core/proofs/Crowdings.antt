-- Prices that are to replace those of a round: whether they are its crowd prices, and the mark that follows.
use Rattle.std.proofs.Common.{◌≡◌, ℕ, ◌↔◌, inl, inr, Bool, true, false, List, get_or, Option, Some, None, slice_get, refl, sym, ap, subst, ◌∙◌}
use Rattle.std.specs.Prelude.{ℤ, int_lt, ◌||◌, not, is_some, is_none, IsTrue, IfSome, IfNone}
use Rattle.plan_base.specs.declared.ids.BranchId.{BranchId}
use Rattle.plan_base.specs.declared.parts.Parts.{Parts}
use Rattle.master_step.specs.Restricted.{IsRestrictedValue}
use Rattle.master_step.specs.Outcomes.{HasGain, HasStalled, AreCrowdPrices}
use Rattle.master_step.proofs.Uniqueness.{gain-not_stalled}
use Rattle.master_step.proofs.Trying.{int_lt-true, int_lt-false}
use Rattle.search_machine.specs.declared.answers.Publish.{Publish}
use Rattle.search_machine.specs.State.{Round, Node, State, ranges_of, round_of}
use Rattle.search_machine.specs.Gathering.{columns_for}
use Rattle.search_machine.specs.Publishing.{publish_fault, IsCrowding, IsCrowdStep, IsMark, IsNoGain}
use Rattle.search_view.specs.Valuing.{IsGatheredAt, ForRound}
use Rattle.pool_core.specs.Valuing.{MayReplace, HasNoGain, IsToPublish}
use Rattle.pool_core.proofs.Publishable.{HasFollowing, publish_fault-none, unrefused-prices}
use Rattle.search_view.proofs.Valuing.{same-round, read-node}

module _ (s : State) (id : BranchId) (read : Round) (old prices : List ℕ) (p : Parts) (is_p : p ≡ s.problem) (is : Some read ≡ round_of s id) (is_old : old ≡ read.prices) where
  -- the crowd prices of the round that is read are those of the node's own
  own-crowd : (x : Node) (round : Round) → slice_get s.nodes id.0 ≡ Some x → x.round ≡ Some round → AreCrowdPrices p old prices → AreCrowdPrices s.problem round.prices prices
  own-crowd x round is_node is_round h =
      let now : old ≡ round.prices = is_old ∙ ap (λ (r : Round). r.prices) (same-round s id read x round is is_node is_round) in
      subst (λ (ps : List ℕ). AreCrowdPrices s.problem ps prices) now (subst (λ (q : Parts). AreCrowdPrices q old prices) is_p h)

  read-crowd : (x : Node) (round : Round) → slice_get s.nodes id.0 ≡ Some x → x.round ≡ Some round → AreCrowdPrices s.problem round.prices prices → AreCrowdPrices p old prices
  read-crowd x round is_node is_round h =
      let now : old ≡ round.prices = is_old ∙ ap (λ (r : Round). r.prices) (same-round s id read x round is is_node is_round) in
      subst (λ (q : Parts). AreCrowdPrices q old prices) (sym is_p) (subst (λ (ps : List ℕ). AreCrowdPrices s.problem ps prices) (sym now) h)

  -- prices that are no crowd prices of the round that is read are not crowding
  pub not_crowding : (AreCrowdPrices p old prices → ⊥) → ForRound s id (λ x round. IsTrue false ↔ IsCrowding s x round prices)
  not_crowding not_so x round is_node is_round = (
    λ bad. absurd (let e : false ≡ true = bad in cc),
    λ crowding. absurd (not_so (read-crowd x round is_node is_round crowding.are_crowd)),
  )

  crowding-by : (gain : Option ℤ) → AreCrowdPrices p old prices → IfSome gain (λ new. ForRound s id (λ x round. HasGain s.problem s.cuts (ranges_of s.problem x) (columns_for s x) round.prices new))
      → IfNone gain (ForRound s id (λ x round. HasStalled s.problem s.cuts (ranges_of s.problem x) (columns_for s x) round.prices)) → ForRound s id (λ x round. IsTrue (is_none gain) ↔ IsCrowding s x round prices)
  crowding-by None crowd some none x round is_node is_round = (
    λ so. record { stalled = none x round is_node is_round; are_crowd = own-crowd x round is_node is_round crowd },
    λ crowding. refl,
  )
  crowding-by (Some new) crowd some none x round is_node is_round =
      let had : HasGain s.problem s.cuts (ranges_of s.problem x) (columns_for s x) round.prices new = some x round is_node is_round in (
        λ bad. absurd (let e : false ≡ true = bad in cc),
        λ crowding. absurd (gain-not_stalled s.problem s.cuts (ranges_of s.problem x) (columns_for s x) round.prices had.0 crowding.stalled.0 new had.1 crowding.stalled.1),
      )

  -- crowd prices of the round are crowding just where no gain of a step is found
  pub crowding-told : (told : Bool) (gain : Option ℤ) → is_some gain ≡ not told → AreCrowdPrices p old prices → IfSome gain (λ new. ForRound s id (λ x round. HasGain s.problem s.cuts (ranges_of s.problem x) (columns_for s x) round.prices new))
      → IfNone gain (ForRound s id (λ x round. HasStalled s.problem s.cuts (ranges_of s.problem x) (columns_for s x) round.prices)) → ForRound s id (λ x round. IsTrue told ↔ IsCrowding s x round prices)
  crowding-told told gain same crowd some none =
      subst (λ (b : Bool). ForRound s id (λ x round. IsTrue b ↔ IsCrowding s x round prices)) (told-none told gain same) (crowding-by gain crowd some none)
    where
      told-none : (b : Bool) (o : Option ℤ) → is_some o ≡ not b → is_none o ≡ b
      told-none true None is = refl
      told-none true (Some new) is = sym is
      told-none false None is = sym is
      told-none false (Some new) is = refl

-- The mark

module _ (s : State) (x : Node) (round : Round) (prices : List ℕ) where
  -- the mark that follows is set where crowd prices were tried before or are tried now
  pub mark-of : (tried crowding : Bool) → tried ≡ x.crowd_tried → (IsTrue crowding ↔ IsCrowding s x round prices) → IsMark s x round prices (tried || crowding)
  mark-of true true is told = record { set = λ c. refl; kept = λ not_so. absurd (not_so (told.0 refl)) }
  mark-of true false is told = record { set = λ c. refl; kept = λ not_so. is }
  mark-of false true is told = record { set = λ c. refl; kept = λ not_so. absurd (not_so (told.0 refl)) }
  mark-of false false is told = record { set = λ c. told.1 c; kept = λ not_so. is }

  tried-no_step : x.crowd_tried ≡ true → IsCrowdStep s x round prices → ⊥
  tried-no_step tried step = let bad : true ≡ false = sym tried ∙ step.not_tried in cc

-- the value of the round's prices, as they are read
pub value-at : (s : State) (id : BranchId) (read : Round) (prices : List ℕ) (old : ℤ) → Some read ≡ round_of s id → prices ≡ read.prices
    → ForRound s id (λ x round. IsRestrictedValue s.problem s.cuts (ranges_of s.problem x) (columns_for s x) prices old) → ForRound s id (λ x round. IsRestrictedValue s.problem s.cuts (ranges_of s.problem x) (columns_for s x) round.prices old)
value-at s id read prices old is is_prices valued x round is_node is_round =
    subst (λ (ps : List ℕ). IsRestrictedValue s.problem s.cuts (ranges_of s.problem x) (columns_for s x) ps old) (is_prices ∙ ap (λ (r : Round). r.prices) (same-round s id read x round is is_node is_round)) (valued x round is_node is_round)

-- what is measured before the mark: whether crowd prices were tried, the restricted values of the round's prices and of the new ones, and whether these crowd
pub record IsMeasured (s : State) (id : BranchId) (prices : List ℕ) (old new : ℤ) (tried crowding : Bool) : Type 0 where
  pub is_tried : ForRound s id (λ x round. tried ≡ x.crowd_tried)
  pub is_old : ForRound s id (λ x round. IsRestrictedValue s.problem s.cuts (ranges_of s.problem x) (columns_for s x) round.prices old)
  pub is_new : ForRound s id (λ x round. IsRestrictedValue s.problem s.cuts (ranges_of s.problem x) (columns_for s x) prices new)
  pub told : ForRound s id (λ x round. IsTrue crowding ↔ IsCrowding s x round prices)

-- the same as it is read
pub measured : (kept now view : State) (id : BranchId) (item : Node) (read : Round) (shown prices : List ℕ) (old new : ℤ) (tried crowding : Bool) → kept ≡ now → view ≡ now → item ≡ get_or kept.nodes id.0 item → tried ≡ item.crowd_tried
    → Some read ≡ round_of view id → shown ≡ read.prices
    → ForRound view id (λ x round. IsRestrictedValue view.problem view.cuts (ranges_of view.problem x) (columns_for view x) shown old)
    → ForRound view id (λ x round. IsRestrictedValue view.problem view.cuts (ranges_of view.problem x) (columns_for view x) prices new)
    → ForRound now id (λ x round. IsTrue crowding ↔ IsCrowding now x round prices) → IsMeasured now id prices old new tried crowding
measured kept now view id item read shown prices old new tried crowding same is_view at is_tried is_read is_shown is_old is_new told = record {
  is_tried = λ x round is_node is_round. is_tried ∙ ap (λ (n : Node). n.crowd_tried) (read-node kept now id item x same at is_node);
  is_old = value-at now id read shown old (is_read ∙ ap (λ (s : State). round_of s id) is_view) is_shown
      (subst (λ (s : State). ForRound s id (λ x round. IsRestrictedValue s.problem s.cuts (ranges_of s.problem x) (columns_for s x) shown old)) is_view is_old);
  is_new = subst (λ (s : State). ForRound s id (λ x round. IsRestrictedValue s.problem s.cuts (ranges_of s.problem x) (columns_for s x) prices new)) is_view is_new;
  told = told;
}

module _ (s : State) (id : BranchId) (prices : List ℕ) (old new : ℤ) (tried crowding : Bool) (m : IsMeasured s id prices old new tried crowding) where
  -- prices of a greater restricted value may replace those of the round, with the mark that follows
  pub greater-follows : (mark : Bool) → int_lt old new ≡ true → mark ≡ (tried || crowding) → ForRound s id (λ x round. MayReplace s x round prices mark)
  greater-follows mark more is x round is_node is_round = record {
    gains = inl (record { before = old; after = new; is_before = m.is_old x round is_node is_round; is_after = m.is_new x round is_node is_round; greater = int_lt-true old new more });
    is_mark = subst (IsMark s x round prices) (sym is) (mark-of s x round prices tried crowding (m.is_tried x round is_node is_round) (m.told x round is_node is_round));
  }

  -- crowd prices of a stalled round, where none were tried, may replace its prices and set the mark
  pub crowd-follows : tried ≡ false → crowding ≡ true → ForRound s id (λ x round. MayReplace s x round prices true)
  crowd-follows not_tried so x round is_node is_round =
      let c : IsCrowding s x round prices = (m.told x round is_node is_round).0 so in
      record {
        gains = inr (record { not_tried = sym (m.is_tried x round is_node is_round) ∙ not_tried; crowding = c });
        is_mark = record { set = λ again. refl; kept = λ not_so. absurd (not_so c) };
      }

  no_gain-by : int_lt old new ≡ false → ForRound s id (λ x round. IsCrowdStep s x round prices → ⊥) → ForRound s id (λ x round. HasNoGain s x round prices old new)
  no_gain-by less not_so x round is_node is_round = record {
    is_before = m.is_old x round is_node is_round;
    is_after = m.is_new x round is_node is_round;
    not_greater = int_lt-false old new less;
    no_crowd_step = not_so x round is_node is_round;
  }

  -- prices of no greater restricted value gain nothing where crowd prices were tried before
  pub tried-no_gain : int_lt old new ≡ false → tried ≡ true → ForRound s id (λ x round. HasNoGain s x round prices old new)
  tried-no_gain less so = no_gain-by less (λ x round is_node is_round. tried-no_step s x round prices (sym (m.is_tried x round is_node is_round) ∙ so))

  -- prices of no greater restricted value gain nothing where they are not crowding
  pub none-no_gain : int_lt old new ≡ false → crowding ≡ false → ForRound s id (λ x round. HasNoGain s x round prices old new)
  none-no_gain less none = no_gain-by less (λ x round is_node is_round step. let bad : false ≡ true = sym none ∙ (m.told x round is_node is_round).1 step.crowding in cc)

-- The event

-- a node for which prices may follow has a gathered round
pub following-gathered : (s : State) (id : BranchId) (seen : ℕ) (prices : List ℕ) → HasFollowing s id seen prices → IsGatheredAt s id
following-gathered s id seen prices h = record { version = seen; node = h.node; round = h.round; is_gathered = h.may.is_gathered }

-- prices that may follow and may replace those of the round may be published for the node, with the same mark
pub to-publish : (s : State) (id : BranchId) (seen : ℕ) (prices : List ℕ) (mark : Bool) → HasFollowing s id seen prices → ForRound s id (λ x round. MayReplace s x round prices mark) → IsToPublish s id seen prices mark
to-publish s id seen prices mark h may =
    let is = h.may.is_gathered.complete_round in
    let w = may h.node h.round is.is_node is.is_round in
    record { node = h.node; round = h.round; may = h.may; gains = w.gains; is_mark = w.is_mark }

-- the same where the read pool tells of no fault
pub told-publish : (read now : State) (id : BranchId) (seen : ℕ) (prices : List ℕ) (fault : Option Publish) (mark : Bool) → read ≡ now → fault ≡ publish_fault read id seen prices → fault ≡ None
    → ForRound now id (λ x round. MayReplace now x round prices mark) → IsToPublish now id seen prices mark
told-publish read now id seen prices fault mark is told none may = to-publish now id seen prices mark (publish_fault-none now id seen prices (unrefused-prices read now id seen prices fault is told none)) may

-- where the prices gain nothing and the state stays, the answer that nothing is gained is the event
pub no-gain : (s t : State) (id : BranchId) (seen : ℕ) (prices : List ℕ) (before after : ℤ) → HasFollowing s id seen prices → ForRound s id (λ x round. HasNoGain s x round prices before after) → t ≡ s
    → IsNoGain s id seen prices before after t
no-gain s t id seen prices before after h not_so same =
    let is = h.may.is_gathered.complete_round in
    let w = not_so h.node h.round is.is_node is.is_round in
    record { node = h.node; round = h.round; may = h.may; is_before = w.is_before; is_after = w.is_after; not_greater = w.not_greater; no_crowd_step = w.no_crowd_step; unchanged = same }
