-- Least prices of ways are least prices of permitted paths.
use Rattle.std.proofs.Common.{◌≡◌, ℕ, ◌*◌, ◌/◌, max, ◌<◌, ◌≤◌, Bool, true, false, not, ◌&&◌, List, length, Option, Some, None, IsTrue, IfSome, All, MatchOption, refl, subst, arith}
use Rattle.std.proofs.Math.Nat.{mul-le-mul, mul-le-mul_left}
use Rattle.std.proofs.lemmas.List.Elements.{All-weaker, All-from_get_or}
use Rattle.plan_base.specs.declared.ids.ArcId.{ArcId}
use Rattle.plan_base.specs.declared.parts.Parts.{Parts}
use Rattle.plan_base.specs.declared.limits.TheConstants.{MAX_PRICED_LOAD}
use Rattle.plan_base.specs.Facts.{IsInstance, total_load, price_limit}
use Rattle.plan_base.specs.Arcs.{is_arc, no_arc, demand_at}
use Rattle.plan_base.specs.Paths.{arc_at}
use Rattle.plan_base.proofs.Bools.{and-first}
use Rattle.plan_base.proofs.PathLaws.{length-IsSimplePath}
use Rattle.arc_restrict.specs.Restrictions.{Forbidden, IsPermittedPath, HasNoPath}
use Rattle.arc_restrict.specs.Prices.{price_of, AreWithinLimit, IsLeastPrice}
use Rattle.verifier_paths.specs.declared.rounds.Ways.{Ways}
use Rattle.verifier_paths.specs.Kept.{forbidden_by}
use Rattle.verifier_paths.specs.Labels.{label_at, may_take, open_arcs, is_omitted, IsAtMost, IsWay, AreLeast}
use Rattle.verifier_paths.proofs.Ways.{MeetOnce, route_of_way, simple_of_way, way-all, way_of_simple}
use Rattle.verifier_paths.proofs.Rounding.{TakesArcs, price-few}

-- what may be taken is an arc
pub takes_arcs : (p : Parts) (r : Forbidden) (k : ℕ) (out : Option ArcId) → TakesArcs p (may_take p r k out)
takes_arcs p r k out a taken = and-first (is_arc p a) _ taken

-- so is what ways may take
pub open_are_arcs : (ways : Ways) → TakesArcs ways.inst.now (open_arcs ways)
open_are_arcs ways = takes_arcs ways.inst.now (forbidden_by ways.forbidden.now) ways.demand.0 ways.left_out

three : (a b c : Bool) → (a && (not b && not c)) ≡ true → (b ≡ false) × (c ≡ false)
three true false false h = (refl, refl)
three true false true h = cc
three true true c h = cc
three false b c h = cc

all-three : (a b c : Bool) → a ≡ true → b ≡ false → c ≡ false → (a && (not b && not c)) ≡ true
all-three a b c is_a not_b not_c = rw (is_a, not_b, not_c) refl

-- an arc that may be taken is not forbidden
pub taken_permitted : (p : Parts) (r : Forbidden) (k : ℕ) (out : Option ArcId) (a : ArcId) → IsTrue (may_take p r k out a) → r k a ≡ false
taken_permitted p r k out a taken = (three (is_arc p a) (r k a) (is_omitted out a) taken).0

-- an arc that may be taken is not the one to be left out
pub taken_not_left_out : (p : Parts) (r : Forbidden) (k : ℕ) (out : Option ArcId) (a : ArcId) → IsTrue (may_take p r k out a) → is_omitted out a ≡ false
taken_not_left_out p r k out a taken = (three (is_arc p a) (r k a) (is_omitted out a) taken).1

-- an arc that is neither forbidden nor left out may be taken
pub takes_of : (p : Parts) (r : Forbidden) (k : ℕ) (out : Option ArcId) (a : ArcId) → IsTrue (is_arc p a) → r k a ≡ false → is_omitted out a ≡ false → IsTrue (may_take p r k out a)
takes_of p r k out a is permitted kept = all-three (is_arc p a) (r k a) (is_omitted out a) is permitted kept

-- the arcs of a permitted path may be taken
pub path-taken : (p : Parts) (r : Forbidden) (k : ℕ) (arcs : List ArcId) → IsPermittedPath p r k arcs → All (λ a. IsTrue (may_take p r k None a)) arcs
path-taken p r k arcs h = All-from_get_or (λ a. IsTrue (may_take p r k None a)) arcs no_arc (λ i within. takes_of p r k None (arc_at arcs i) (h.simple.are_arcs i within) (h.permitted i no_arc within) refl)

-- a way to the demand's target that meets no node twice is a permitted path
pub permitted_of_way : (p : Parts) (r : Forbidden) (k : ℕ) (out : Option ArcId) (arcs : List ArcId) → IsWay p (may_take p r k out) (demand_at p k).source.0 (demand_at p k).target.0 arcs → MeetOnce p (demand_at p k).source.0 arcs → IsPermittedPath p r k arcs
permitted_of_way p r k out arcs way once = record {
  simple = simple_of_way p (may_take p r k out) (demand_at p k) arcs (takes_arcs p r k out) way once;
  permitted = All-weaker (λ a. IsTrue (may_take p r k out a)) (λ a. r k a ≡ false) (λ a taken. taken_permitted p r k out a taken) arcs (way-all p (may_take p r k out) (demand_at p k).source.0 (demand_at p k).target.0 arcs way);
}

-- a label that is at most a bound tells a price that is at most the bound
pub label-below : (label : Option ℕ) (price bound : ℕ) → label ≡ Some price → IsAtMost label bound → price ≤ bound
label-below label price bound is h = subst (λ (x : Option ℕ). IsAtMost x bound) is h

-- the labels tell the least price of a permitted path, or that there is none
pub least-price : (p : Parts) (r : Forbidden) (prices : List ℕ) (k : ℕ) (labels : List (Option ℕ)) (label : Option ℕ) → (demand_at p k).target.0 < p.nodes
    → AreLeast p (may_take p r k None) (price_of p prices) (demand_at p k).source.0 labels → label_at labels (demand_at p k).target.0 ≡ label
    → MatchOption label (HasNoPath p r k) (λ price. IsLeastPrice p r prices k price)
least-price p r prices k labels None within least is = λ arcs path.
    subst (λ (x : Option ℕ). IsAtMost x (price_of p prices arcs)) is
    (least.least (demand_at p k).target.0 arcs within (way_of_simple p (may_take p r k None) (demand_at p k) arcs path.simple (path-taken p r k arcs path)))
least-price p r prices k labels (Some price) within least is =
    let takes = may_take p r k None in
    let way = least.attained (demand_at p k).target.0 price within is in
    let route = route_of_way p takes prices (demand_at p k).source.0 (demand_at p k).target.0 way.arcs way.way in
    let low = label-below _ price _ is (least.least (demand_at p k).target.0 route.arcs within route.way) in
    record {
      path = route.arcs;
      permitted = permitted_of_way p r k None route.arcs route.way route.once;
      attained = omega (arith, low, route.low, way.costs);
      least = λ other path. label-below _ price _ is (least.least (demand_at p k).target.0 other within (way_of_simple p takes (demand_at p k) other path.simple (path-taken p r k other path)));
    }

quotient-times : (x n m : ℕ) → 0 < n → m ≤ n → (x / n) * m ≤ x
quotient-times x n m positive le = grind (arith, mul-le-mul_left (x / n) le)

limit-total : (p : Parts) → price_limit p * total_load p ≤ MAX_PRICED_LOAD
limit-total p = quotient-times MAX_PRICED_LOAD (max (total_load p) 1) (total_load p) (omega arith) (omega arith)

products : (arcs limit total price : ℕ) → arcs ≤ 511 → price ≤ arcs * limit → limit * total ≤ MAX_PRICED_LOAD → price * total ≤ 511 * MAX_PRICED_LOAD
products arcs limit total price few low small =
    let one : price * total ≤ (arcs * limit) * total = mul-le-mul low (let le : total ≤ total = omega arith in le) in
    let two : arcs * (limit * total) ≤ 511 * MAX_PRICED_LOAD = mul-le-mul few small in
    let same : (arcs * limit) * total ≡ arcs * (limit * total) = grind arith in
    omega (arith, one, two, same)

-- a least price with the total load is small
pub price-within : (p : Parts) (r : Forbidden) (prices : List ℕ) (k price : ℕ) → IsInstance p → (demand_at p k).source.0 < p.nodes → AreWithinLimit p prices → IsLeastPrice p r prices k price → price * total_load p ≤ 511 * MAX_PRICED_LOAD
price-within p r prices k price inst source limit h =
    let short = length-IsSimplePath p (demand_at p k) h.path inst source h.permitted.simple in
    let low = price-few p prices h.path limit in
    let nodes = inst.nodes in
    products (length h.path) (price_limit p) (total_load p) price (omega (arith, short, nodes)) (omega (arith, low, h.attained)) (limit-total p)

-- least prices of a demand's paths, times the total load, fit a machine integer
pub label-within : (p : Parts) (r : Forbidden) (prices : List ℕ) (k : ℕ) (label : Option ℕ) → IsInstance p → (demand_at p k).source.0 < p.nodes → AreWithinLimit p prices
    → MatchOption label (HasNoPath p r k) (λ price. IsLeastPrice p r prices k price) → IfSome label (λ price. price * total_load p ≤ 511 * MAX_PRICED_LOAD)
label-within p r prices k None inst source limit h = tt
label-within p r prices k (Some price) inst source limit h = price-within p r prices k price inst source limit h
