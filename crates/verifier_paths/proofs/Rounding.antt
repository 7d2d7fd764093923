-- Rounds: what one more gives, and where no more are wanted.
use Rattle.std.proofs.Common.{◌≡◌, ℕ, zero, suc, ◌+◌, ◌*◌, ◌/◌, ◌<◌, ◌≤◌, inl, inr, Bool, true, false, eqb, List, [], ◌∷◌, ◌++◌, length, get_or, replicate, slice_index, Option, Some, None, IsTrue, IfSome, if◌then◌else◌, refl, sym, ap, subst, ◌∙◌, arith, length-append}
use Rattle.std.proofs.Math.ListN.{length-set}
use Rattle.std.proofs.Math.Nat.{mul-le-mul}
use Rattle.std.specs.Bool.{Decides}
use Rattle.std.specs.Option.{option_eq}
use Rattle.std.proofs.lemmas.Bool.{cases_eq, ltb-true, eqb-true, eq-eqb}
use Rattle.std.proofs.lemmas.List.{get_or-set_same, get_or-set_other, get_or-replicate, length-replicate}
use Rattle.std.proofs.lemmas.List.Elements.{All-from_get_or}
use Rattle.std.proofs.lemmas.List.Sums.{sum_by-le}
use Rattle.plan_base.specs.declared.ids.NodeId.{NodeId}
use Rattle.plan_base.specs.declared.ids.ArcId.{ArcId}
use Rattle.plan_base.specs.declared.parts.Parts.{Parts}
use Rattle.plan_base.specs.declared.limits.TheConstants.{MAX_PRICED_LOAD}
use Rattle.plan_base.specs.Facts.{IsInstance, price_limit}
use Rattle.plan_base.specs.Arcs.{is_arc, is_back, tail_of, link_of, no_link}
use Rattle.plan_base.specs.Places.{place_of}
use Rattle.plan_base.proofs.Bools.{and-first}
use Rattle.plan_base.proofs.PathLaws.{length-IsSimplePath}
use Rattle.plan_base.proofs.PriceLaws.{price_limit_le}
use Rattle.arc_restrict.specs.Prices.{price_of, AreWithinLimit}
use Rattle.verifier_paths.specs.Labels.{label_at, first_labels, IsAtMost, AreSmall, IsWay, HasWay, AreLeastWithin, AreLeast, IsAlong, AreOffered, LeavesBelow, HasOffered}
use Rattle.verifier_paths.proofs.Ways.{way_on, has_last, price-push, route_of_way, simple_of_way}
use Rattle.verifier_paths.proofs.Offers.{known, at_most, at_most-le}

-- arcs that may be taken exist
abbrev pub TakesArcs : Parts → (ArcId → Bool) → Type 0
TakesArcs p takes = (a : ArcId) → IsTrue (takes a) → IsTrue (is_arc p a)

either : {X : Type 0} (b : Bool) (P : X → Type 0) {x y : X} → P x → P y → P (if b then x else y)
either true P on_true on_false = on_true
either false P on_true on_false = on_false

-- the tail of an arc is a node
pub tail-within : (p : Parts) (a : ArcId) → IsInstance p → IsTrue (is_arc p a) → (tail_of p a).0 < p.nodes
tail-within p a inst is =
    let inside = ltb-true (link_of a) (length p.links) (and-first _ _ is) in
    let lawful = inst.links (link_of a) no_link inside in
    either (is_back a) (λ (n : NodeId). n.0 < p.nodes) lawful.target lawful.source

half-below : (n m : ℕ) → n / 2 < m → n < 2 * m
half-below n m h = grind arith

-- the number of an arc is below twice the count of links
pub number-within : (p : Parts) (a : ArcId) → IsTrue (is_arc p a) → a.0 < 2 * length p.links
number-within p a is = half-below a.0 (length p.links) (ltb-true (link_of a) (length p.links) (and-first _ _ is))

-- ---- one round

-- a round: from least costs of at most so many arcs to those of one arc more
abbrev pub IsRound : Parts → (ArcId → Bool) → (List ArcId → ℕ) → List (Option ℕ) → List (Option ℕ) → Type 0
IsRound p takes cost old new = (source most : ℕ)
    → AreLeastWithin p takes cost source most old → AreLeastWithin p takes cost source (suc most) new

offered-way : (p : Parts) (takes : ArcId → Bool) (prices : List ℕ) (old new : List (Option ℕ)) (source most v : ℕ) (arcs : List ArcId) → IsInstance p → TakesArcs p takes
    → AreOffered p takes prices old (LeavesBelow p p.nodes) old new → AreLeastWithin p takes (price_of p prices) source most old
    → v < p.nodes → IsWay p takes source v arcs → length arcs ≤ suc most → IsAtMost (label_at new v) (price_of p prices arcs)
offered-way p takes prices old new source most v [] inst are h least within way few = h.kept v 0 ((least.each v within).least [] way (omega arith))
offered-way p takes prices old new source most v (b ∷ arcs) inst are h least within way few =
    let l = has_last p takes source v b arcs way in
    let size : length (b ∷ arcs) ≡ length l.front + 1 = ap length l.is ∙ length-append l.front (l.last ∷ []) in
    let tail = known _ _ ((least.each (tail_of p l.last).0 (tail-within p l.last inst (are l.last l.taken))).least l.front l.way (omega (arith, size, few))) in
    let offer = h.offered l.last tail.price (tail-within p l.last inst (are l.last l.taken)) l.taken tail.is in
    let sum : price_of p prices (b ∷ arcs) ≡ price_of p prices l.front + slice_index prices (place_of p l.last) = ap (price_of p prices) l.is ∙ price-push p prices l.front l.last in
    subst (λ (w : ℕ). IsAtMost (label_at new w) (price_of p prices (b ∷ arcs))) l.leads (at_most-le _ _ _ offer (omega (arith, sum, tail.within)))

along-way : (p : Parts) (takes : ArcId → Bool) (prices : List ℕ) (old : List (Option ℕ)) (source most v price : ℕ) → IsInstance p → TakesArcs p takes
    → AreLeastWithin p takes (price_of p prices) source most old → IsAlong p takes prices old v price → HasWay p takes (price_of p prices) source v (suc most) price
along-way p takes prices old source most v price inst are least along =
    let before = (least.each (tail_of p along.arc).0 (tail-within p along.arc inst (are along.arc along.taken))).attained along.before along.tail in
    let size : length (before.arcs ++ along.arc ∷ []) ≡ length before.arcs + 1 = length-append before.arcs (along.arc ∷ []) in
    let sum = price-push p prices before.arcs along.arc in
    record {
      arcs = before.arcs ++ along.arc ∷ [];
      way = subst (λ (w : ℕ). IsWay p takes source w (before.arcs ++ along.arc ∷ [])) along.leads (way_on p takes source (tail_of p along.arc).0 before.arcs along.arc before.way along.taken refl);
      few = omega (arith, size, before.few);
      costs = omega (arith, sum, before.costs, along.sum);
    }

-- where all arcs were offered, the round is done
pub round_law : (p : Parts) (takes : ArcId → Bool) (prices : List ℕ) (old new : List (Option ℕ)) → IsInstance p → TakesArcs p takes
    → AreOffered p takes prices old (LeavesBelow p p.nodes) old new → IsRound p takes (price_of p prices) old new
round_law p takes prices old new inst are h source most least = record {
  count = h.count ∙ least.count;
  each = λ v within. record {
    attained = λ price is. elim (h.from v price is) [
      | inl was ↦ (
          let before = (least.each v within).attained price was in
          record { arcs = before.arcs; way = before.way; few = omega (arith, before.few); costs = before.costs })
      | inr along ↦ along-way p takes prices old source most v price inst are least along
    ];
    least = λ arcs way few. offered-way p takes prices old new source most v arcs inst are h least within way few;
  };
}

-- then no arc offers less any more from the old prices
pub round_offers : (p : Parts) (takes : ArcId → Bool) (prices : List ℕ) (old new : List (Option ℕ)) → IsInstance p → TakesArcs p takes
    → AreOffered p takes prices old (LeavesBelow p p.nodes) old new → HasOffered p takes prices old new
round_offers p takes prices old new inst are h = λ a price taken tail. h.offered a price (tail-within p a inst (are a taken)) taken tail

-- ---- the first prices

-- where no price is known, none is offered
pub none_offers : (p : Parts) (takes : ArcId → Bool) (prices : List ℕ) (old : List (Option ℕ)) → IsInstance p → TakesArcs p takes → HasOffered p takes prices (replicate p.nodes None) old
none_offers p takes prices old inst are = λ a price taken tail.
    let none : label_at (replicate p.nodes None) (tail_of p a).0 ≡ None = get_or-replicate p.nodes (tail_of p a).0 None None (tail-within p a inst (are a taken)) in
    absurd (let bad : None ≡ Some price = sym none ∙ tail in cc)

-- before the first round the labels are least prices of ways without arcs
pub first_least : (p : Parts) (takes : ArcId → Bool) (prices : List ℕ) (source : ℕ) → source < p.nodes → AreLeastWithin p takes (price_of p prices) source 0 (first_labels p.nodes source)
first_least p takes prices source within = record {
  count = length-set (replicate p.nodes None) source (Some 0) ∙ length-replicate p.nodes None;
  each = λ v inside. elim (cases_eq v source) [
    | inl here ↦ (
        let is : label_at (first_labels p.nodes source) v ≡ Some 0 = ap (label_at (first_labels p.nodes source)) here ∙ get_or-set_same (replicate p.nodes None) source (Some 0) None (let size = length-replicate {A = Option ℕ} p.nodes None in omega (arith, size, within)) in
        record {
          attained = λ price at. record { arcs = []; way = sym here; few = omega arith; costs = (let both : Some 0 ≡ Some price = sym is ∙ at in cc) };
          least = λ arcs way few. at_most _ 0 _ is (omega arith);
        })
    | inr other ↦ (
        let is : label_at (first_labels p.nodes source) v ≡ None = get_or-set_other (replicate p.nodes None) source v (Some 0) None other ∙ get_or-replicate p.nodes v None None inside in
        record {
          attained = λ price at. absurd (let bad : None ≡ Some price = sym is ∙ at in cc);
          least = λ arcs way few. absurd (no_way v arcs other way few);
        })
  ];
}
  where
    no_way : (v : ℕ) (arcs : List ArcId) → (v ≡ source → ⊥) → IsWay p takes source v arcs → length arcs ≤ 0 → ⊥
    no_way v [] other way few = other (sym way)
    no_way v (a ∷ arcs) other way few = omega (arith, few)

-- ---- sums of prices stay small

price-at_most : (p : Parts) (prices : List ℕ) (q : ℕ) → AreWithinLimit p prices → slice_index prices q ≤ price_limit p
price-at_most p [] q limit = omega arith
price-at_most p (x ∷ xs) zero limit = limit 0 0 (omega arith)
price-at_most p (x ∷ xs) (suc q) limit = price-at_most p xs q (λ i d below. limit (suc i) d (omega (arith, below)))

-- the price of a path is at most the price limit times its count of arcs
pub price-few : (p : Parts) (prices : List ℕ) (arcs : List ArcId) → AreWithinLimit p prices → price_of p prices arcs ≤ length arcs * price_limit p
price-few p prices arcs limit = sum_by-le (λ (a : ArcId). slice_index prices (place_of p a)) (price_limit p) arcs (λ i d below. price-at_most p prices (place_of p (get_or arcs i d)) limit)

-- labels of few rounds are so small that one price more still fits a machine integer
pub least-small : (p : Parts) (takes : ArcId → Bool) (prices : List ℕ) (source most : ℕ) (labels : List (Option ℕ)) → AreWithinLimit p prices → most ≤ 511
    → AreLeastWithin p takes (price_of p prices) source most labels → AreSmall labels
least-small p takes prices source most labels limit few least =
    All-from_get_or (λ label. IfSome label (λ price. price ≤ 511 * MAX_PRICED_LOAD)) labels None (λ v within. one v (label_at labels v) refl (omega (arith, within, least.count)))
  where
    one : (v : ℕ) (label : Option ℕ) → label_at labels v ≡ label → v < p.nodes → IfSome label (λ price. price ≤ 511 * MAX_PRICED_LOAD)
    one v None is within = tt
    one v (Some price) is within =
        let w = (least.each v within).attained price is in
        let low = price-few p prices w.arcs limit in
        let product : length w.arcs * price_limit p ≤ 511 * MAX_PRICED_LOAD = mul-le-mul (let le : length w.arcs ≤ 511 = omega (arith, w.few, few) in le) (price_limit_le p) in
        omega (arith, low, product, w.costs)

-- ---- the last round

-- after as many rounds as leave a simple path room, the prices are least of all ways
pub rounds_done : (p : Parts) (takes : ArcId → Bool) (prices : List ℕ) (source : NodeId) (most : ℕ) (labels : List (Option ℕ)) → IsInstance p → TakesArcs p takes → source.0 < p.nodes
    → p.nodes ≤ most + 1 → most ≤ p.nodes → AreLeastWithin p takes (price_of p prices) source.0 most labels → AreLeast p takes (price_of p prices) source.0 labels
rounds_done p takes prices source most labels inst are within enough few least = record {
  count = least.count;
  attained = λ v price inside is.
      let w = (least.each v inside).attained price is in
      record { arcs = w.arcs; way = w.way; few = omega (arith, w.few, few); costs = w.costs };
  least = λ v arcs inside way.
      let r = route_of_way p takes prices source.0 v arcs way in
      let short = length-IsSimplePath p (record { source = source; target = record { 0 = v }; load = 0; hops = None }) r.arcs inst within
      (simple_of_way p takes (record { source = source; target = record { 0 = v }; load = 0; hops = None }) r.arcs are r.way r.once) in
      at_most-le _ _ _ ((least.each v inside).least r.arcs r.way (omega (arith, short, enough))) r.low;
}

-- a round that changes nothing is followed by such rounds
more_rounds : (p : Parts) (takes : ArcId → Bool) (cost : List ArcId → ℕ) (source most : ℕ) (labels : List (Option ℕ)) → IsRound p takes cost labels labels
    → AreLeastWithin p takes cost source most labels → (more all : ℕ) → all ≡ more + most → AreLeastWithin p takes cost source all labels
more_rounds p takes cost source most labels fixed least zero all is = subst (λ (n : ℕ). AreLeastWithin p takes cost source n labels) (let same : most ≡ all = omega (arith, is) in same) least
more_rounds p takes cost source most labels fixed least (suc more) zero is = absurd (omega (arith, is))
more_rounds p takes cost source most labels fixed least (suc more) (suc all) is = fixed source all (more_rounds p takes cost source most labels fixed least more all (omega (arith, is)))

-- a round that changes no label has found the least prices of all ways
pub fixed_round : (p : Parts) (takes : ArcId → Bool) (cost : List ArcId → ℕ) (source most : ℕ) (labels : List (Option ℕ)) → IsRound p takes cost labels labels
    → most ≤ p.nodes → AreLeastWithin p takes cost source most labels → AreLeast p takes cost source labels
fixed_round p takes cost source most labels fixed few least = record {
  count = least.count;
  attained = λ v price inside is.
      let w = (least.each v inside).attained price is in
      record { arcs = w.arcs; way = w.way; few = omega (arith, w.few, few); costs = w.costs };
  least = λ v arcs inside way. ((more_rounds p takes cost source most labels fixed least (length arcs) (length arcs + most) refl).each v inside).least arcs way (omega arith);
}

-- ---- equal lists

-- equal prices of nodes are found equal
pub label-Decides : (one other : Option ℕ) → Decides (option_eq eqb one other) (one ≡ other)
label-Decides None None = (λ h. refl, λ is. refl)
label-Decides None (Some y) = (λ h. cc, λ is. cc)
label-Decides (Some x) None = (λ h. cc, λ is. cc)
label-Decides (Some x) (Some y) = (λ h. ap (λ n. Some n) (eqb-true x y h), λ is. eq-eqb x y (let same : x ≡ y = cc in same))
