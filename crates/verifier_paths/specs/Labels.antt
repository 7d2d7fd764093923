-- Costs of ways from one node, as rounds of relaxing find them.
use Rattle.std.specs.Prelude.{ℕ, ◌≡◌, ◌<◌, ◌≤◌, ◌+◌, ◌*◌, ◌==◌, ◌&&◌, ◌⊎◌, Bool, false, not, List, [], ◌∷◌, length, slice_index, slice_index_or, slice_set, replicate, IsTrue, All, Option, Some, None, MatchOption, IfSome, if◌then◌else◌, nat_le}
use Rattle.plan_base.specs.declared.ids.ArcId.{ArcId}
use Rattle.plan_base.specs.declared.parts.Parts.{Parts}
use Rattle.plan_base.specs.Arcs.{is_arc, tail_of, head_of}
use Rattle.plan_base.specs.Places.{place_of}
use Rattle.plan_base.specs.declared.limits.TheConstants.{MAX_PRICED_LOAD}
use Rattle.verifier_paths.specs.declared.limits.TheConstants.{MAX_WAY_ARCS}
use Rattle.arc_restrict.specs.Restrictions.{Forbidden}
use Rattle.verifier_paths.specs.declared.rounds.Ways.{Ways}
use Rattle.verifier_paths.specs.Kept.{forbidden_by}

-- the arc is the one that is left out
abbrev pub is_omitted : Option ArcId → ArcId → Bool
is_omitted None a = false
is_omitted (Some out) a = out.0 == a.0

-- the arc exists, is not forbidden to the demand, and is not left out
abbrev pub may_take : Parts → Forbidden → ℕ → Option ArcId → ArcId → Bool
may_take p r k left_out a = is_arc p a && (not (r k a) && not (is_omitted left_out a))

-- the arcs that these ways may take
abbrev pub open_arcs : Ways → ArcId → Bool
open_arcs ways = may_take ways.inst.now (forbidden_by ways.forbidden.now) ways.demand.0 ways.left_out

-- the price that is known of a node
abbrev pub label_at : List (Option ℕ) → ℕ → Option ℕ
label_at labels v = slice_index_or labels v None

-- the lower of a known price and an offered one
abbrev pub lower_of : Option ℕ → ℕ → Option ℕ
lower_of None offered = Some offered
lower_of (Some price) offered = if nat_le price offered then Some price else Some offered

-- what an arc offers to its head, where its tail has a price
abbrev pub offered_to : Parts → List ℕ → ArcId → Option ℕ → List (Option ℕ) → List (Option ℕ)
offered_to p prices a None new = new
offered_to p prices a (Some price) new =
    slice_set new (head_of p a).0 (lower_of (label_at new (head_of p a).0) (price + slice_index prices (place_of p a)))

-- one arc is relaxed, from the old prices into the new ones
abbrev pub IsRelaxed : Parts → (ArcId → Bool) → List ℕ → List (Option ℕ) → ArcId → List (Option ℕ) → List (Option ℕ) → Type 0
IsRelaxed p takes prices old a before after =
    after ≡ (if takes a then offered_to p prices a (label_at old (tail_of p a).0) before else before)

-- there is a price, and it is at most the bound
abbrev pub IsAtMost : Option ℕ → ℕ → Type 0
IsAtMost label bound = MatchOption label ⊥ (λ price. price ≤ bound)

-- a price of a node: that of the arc's tail and the arc's own
pub record IsAlong (p : Parts) (takes : ArcId → Bool) (prices : List ℕ) (old : List (Option ℕ)) (v price : ℕ) : Type 0 where
  pub arc : ArcId
  pub taken : IsTrue (takes arc)
  pub leads : (head_of p arc).0 ≡ v
  pub before : ℕ
  pub tail : label_at old (tail_of p arc).0 ≡ Some before
  pub sum : before + slice_index prices (place_of p arc) ≡ price

-- prices are what they were, or lower ones along arcs; and all arcs of this kind were offered to their heads
pub record AreOffered (p : Parts) (takes : ArcId → Bool) (prices : List ℕ) (old : List (Option ℕ)) (kind : ArcId → Type 0) (before after : List (Option ℕ)) : Type 0 where
  pub count : length after ≡ length before
  pub from : (v price : ℕ) → label_at after v ≡ Some price → (label_at before v ≡ Some price) ⊎ IsAlong p takes prices old v price
  pub kept : (v bound : ℕ) → IsAtMost (label_at before v) bound → IsAtMost (label_at after v) bound
  pub offered : (a : ArcId) (price : ℕ) → kind a → IsTrue (takes a) → label_at old (tail_of p a).0 ≡ Some price → IsAtMost (label_at after (head_of p a).0) (price + slice_index prices (place_of p a))

-- the arc leaves the node of this number
abbrev pub Leaves : Parts → ℕ → ArcId → Type 0
Leaves p v a = (tail_of p a).0 ≡ v

-- the arc leaves a node of a number below this one
abbrev pub LeavesBelow : Parts → ℕ → ArcId → Type 0
LeavesBelow p n a = (tail_of p a).0 < n

-- no arc offers to its head, from the earlier prices, less than what is known
abbrev pub HasOffered : Parts → (ArcId → Bool) → List ℕ → List (Option ℕ) → List (Option ℕ) → Type 0
HasOffered p takes prices earlier old = (a : ArcId) (price : ℕ) → IsTrue (takes a) → label_at earlier (tail_of p a).0 ≡ Some price
    → IsAtMost (label_at old (head_of p a).0) (price + slice_index prices (place_of p a))

-- the prices before the first round: that of the source alone is known
abbrev pub first_labels : ℕ → ℕ → List (Option ℕ)
first_labels nodes source = slice_set (replicate nodes None) source (Some 0)

-- no price is above that of a way of the most arcs at the greatest price limit that an instance can have
abbrev pub AreSmall : List (Option ℕ) → Type 0
AreSmall labels = All (λ label. IfSome label (λ price. price ≤ MAX_WAY_ARCS * MAX_PRICED_LOAD)) labels

-- a way from one node to another: arcs that may be taken, each from where the last one led
abbrev pub IsWay : Parts → (ArcId → Bool) → ℕ → ℕ → List ArcId → Type 0
IsWay p takes from to [] = from ≡ to
IsWay p takes from to (a ∷ arcs) = IsTrue (takes a) × ((tail_of p a).0 ≡ from) × IsWay p takes (head_of p a).0 to arcs

-- there is a way of at most so many arcs that costs so much
pub record HasWay (p : Parts) (takes : ArcId → Bool) (cost : List ArcId → ℕ) (from to most price : ℕ) : Type 0 where
  pub arcs : List ArcId
  pub way : IsWay p takes from to arcs
  pub few : length arcs ≤ most
  pub costs : cost arcs ≡ price

-- the least cost of the ways of at most so many arcs to a node, or none where there is no such way
pub record IsLeastTo (p : Parts) (takes : ArcId → Bool) (cost : List ArcId → ℕ) (source most node : ℕ) (label : Option ℕ) : Type 0 where
  pub attained : (price : ℕ) → label ≡ Some price → HasWay p takes cost source node most price
  pub least : (arcs : List ArcId) → IsWay p takes source node arcs → length arcs ≤ most → IsAtMost label (cost arcs)

-- each node has the least cost of the ways of at most so many arcs to it
pub record AreLeastWithin (p : Parts) (takes : ArcId → Bool) (cost : List ArcId → ℕ) (source most : ℕ) (labels : List (Option ℕ)) : Type 0 where
  pub count : length labels ≡ p.nodes
  pub each : (v : ℕ) → v < p.nodes → IsLeastTo p takes cost source most v (label_at labels v)

-- each node has the least cost of all ways to it, and a way of no more arcs than there are nodes costs that
pub record AreLeast (p : Parts) (takes : ArcId → Bool) (cost : List ArcId → ℕ) (source : ℕ) (labels : List (Option ℕ)) : Type 0 where
  pub count : length labels ≡ p.nodes
  pub attained : (v price : ℕ) → v < p.nodes → label_at labels v ≡ Some price → HasWay p takes cost source v p.nodes price
  pub least : (v : ℕ) (arcs : List ArcId) → v < p.nodes → IsWay p takes source v arcs → IsAtMost (label_at labels v) (cost arcs)
