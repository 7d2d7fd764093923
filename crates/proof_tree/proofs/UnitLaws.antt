-- The cost of each design is a multiple of the unit of costs, and there is one unit.
use Rattle.std.proofs.Common.{◌≡◌, ℕ, zero, suc, ◌+◌, ◌*◌, ◌<◌, ◌≤◌, inl, inr, max, Bool, true, false, length, slice_index, if◌then◌else◌, ap, subst, ◌∙◌, arith}
use Rattle.std.specs.Prelude.{ℤ, pos, ◌+ℤ◌, ◌≤ℤ◌, ◌<ℤ◌}
use Rattle.std.proofs.Math.Nat.{mul-le-mul_right}
use Rattle.std.proofs.lemmas.Int.{ints}
use Rattle.plan_base.specs.declared.parts.Parts.{Parts}
use Rattle.plan_base.specs.declared.path.Design.{Design}
use Rattle.plan_base.specs.Sums.{sum_below}
use Rattle.plan_base.specs.Arcs.{link_at, demand_at}
use Rattle.plan_base.specs.Paths.{uses_place}
use Rattle.plan_base.specs.Places.{is_two_way}
use Rattle.plan_base.specs.Designs.{path_at, counts_at, module_at, load_from, load_at, carried, module_cost_with, link_cost, cost_of}
use Rattle.plan_base.proofs.SumsBelow.{sum_below-times}
use Rattle.link_steps.specs.Unit.{IsMultiple, DividesCosts, IsUnit}
use Rattle.link_steps.proofs.Order.{either_way}

none : (unit : ℕ) → IsMultiple unit 0
none unit = (0, omega arith)

plus : (unit n m : ℕ) → IsMultiple unit n → IsMultiple unit m → IsMultiple unit (n + m)
plus unit n m x y =
    let is_x = x.1 in
    let is_y = y.1 in
    (x.0 + y.0, omega (arith, is_x, is_y))

times : (unit c n : ℕ) → IsMultiple unit n → IsMultiple unit (c * n)
times unit c n x = (c * x.0, omega (arith, ap (λ (y : ℕ). c * y) x.1))

sums : (unit : ℕ) (f : ℕ → ℕ) (n : ℕ) → ((i : ℕ) → i < n → IsMultiple unit (f i)) → IsMultiple unit (sum_below f n)
sums unit f zero h = none unit
sums unit f (suc n) h = plus unit (sum_below f n) (f n) (sums unit f n (λ i below. h i (omega arith))) (h n (omega arith))

-- what is left of a number from a smaller one on
pub left_of : (load top : ℕ) → load ≤ top → (left : ℕ) × (load + left ≡ top)
left_of zero top h = (top, omega arith)
left_of (suc load) zero h = absurd (omega arith)
left_of (suc load) (suc top) h = let w = left_of load top (omega arith) in (w.0, (let e = w.1 in omega arith))

-- what is left of a multiple without a multiple
pub multiple-rest : (of n rest : ℕ) → IsMultiple of (n + rest) → IsMultiple of n → IsMultiple of rest
multiple-rest of n rest whole part =
    let is_whole = whole.1 in
    let is_part = part.1 in
    elim (either_way part.0 whole.0) [
      | inl le ↦ (let more = left_of part.0 whole.0 le in (more.0, (let same : (part.0 + more.0) * of ≡ n + rest = ap (λ (x : ℕ). x * of) more.1 ∙ is_whole in omega (arith, same, is_part))))
      | inr less ↦ (0, (let fewer : suc whole.0 ≤ part.0 = omega (arith, less) in let le = mul-le-mul_right of fewer in omega (arith, le, is_whole, is_part)))
    ]

-- a unit is above 0, and divides all costs
pub unit-positive : (p : Parts) (unit : ℕ) → IsUnit p unit → 0 < unit
unit-positive p unit is = omega (arith, is.is_unit)

-- the unit divides the cost of each module, and each routing cost times each load
pub unit-divides : (p : Parts) (unit : ℕ) → IsUnit p unit → DividesCosts p unit
unit-divides p unit is = by_divisor is.divisor is.is_greatest.divides is.is_unit
  where
    by_one : (n : ℕ) → IsMultiple 1 n
    by_one n = (n, omega arith)

    by_divisor : (n : ℕ) → DividesCosts p n → unit ≡ max n 1 → DividesCosts p unit
    by_divisor zero divides same = subst (λ (x : ℕ). DividesCosts p x) (let one : 1 ≡ unit = omega (arith, same) in one) (record { modules = λ e m within below. by_one (module_at (link_at p e) m).cost; routing = λ e k within below. by_one ((link_at p e).routing * (demand_at p k).load) })
    by_divisor (suc n) divides same = subst (λ (x : ℕ). DividesCosts p x) (let itself : suc n ≡ unit = omega (arith, same) in itself) divides

both_divide : (a b : ℕ) → IsMultiple a b → IsMultiple b a → a ≡ b
both_divide a b (zero, is) (y, is_y) =
    let nothing : b ≡ 0 = omega (arith, is) in
    let product : y * b ≡ y * 0 = ap (λ (x : ℕ). y * x) nothing in
    omega (arith, nothing, product, is_y)
both_divide a b (suc x, is) (zero, is_y) =
    let nothing : a ≡ 0 = omega (arith, is_y) in
    let product : suc x * a ≡ suc x * 0 = ap (λ (z : ℕ). suc x * z) nothing in
    omega (arith, nothing, product, is)
both_divide a b (suc x, is) (suc y, is_y) = omega (arith, is, is_y)

-- an instance has one unit
pub unit-unique : (p : Parts) (one other : ℕ) → IsUnit p one → IsUnit p other → one ≡ other
unit-unique p one other h k =
    let same : h.divisor ≡ k.divisor = both_divide h.divisor k.divisor (k.is_greatest.greatest h.divisor h.is_greatest.divides) (h.is_greatest.greatest k.divisor k.is_greatest.divides) in
    omega (arith, h.is_unit, k.is_unit, same)

routed : (p : Parts) (unit : ℕ) (d : Design) (e q : ℕ) → DividesCosts p unit → e < length p.links → IsMultiple unit ((link_at p e).routing * load_at p d q)
unfolding load_from
routed p unit d e q is within =
    subst (λ (n : ℕ). IsMultiple unit n) (sum_below-times (link_at p e).routing (load_from p d q) (length p.demands))
    (sums unit (λ k. (link_at p e).routing * load_from p d q k) (length p.demands) (λ k below. of_demand k below (uses_place p q (path_at d k))))
  where
    of_demand : (k : ℕ) → k < length p.demands → (b : Bool) → IsMultiple unit ((link_at p e).routing * (if b then (demand_at p k).load else 0))
    of_demand k below true = is.routing e k within below
    of_demand k below false = times unit (link_at p e).routing 0 (none unit)

link_multiple : (p : Parts) (unit : ℕ) (d : Design) (e : ℕ) → DividesCosts p unit → e < length p.links → IsMultiple unit (link_cost p d e)
link_multiple p unit d e is within =
    plus unit ((link_at p e).routing * carried p d e) (module_cost_with (link_at p e) (counts_at d e))
    (by_cases (is_two_way p.orient))
    (sums unit (λ m. slice_index (counts_at d e) m * (module_at (link_at p e) m).cost) (length (link_at p e).modules) (λ m below. times unit (slice_index (counts_at d e) m) (module_at (link_at p e) m).cost (is.modules e m within below)))
  where
    two : (x y : ℕ) → IsMultiple unit ((link_at p e).routing * x) → IsMultiple unit ((link_at p e).routing * y) → IsMultiple unit ((link_at p e).routing * (x + y))
    two x y h k = subst (λ (n : ℕ). IsMultiple unit n) (let r = (link_at p e).routing in let same : r * x + r * y ≡ r * (x + y) = omega arith in same) (plus unit _ _ h k)

    by_cases : (b : Bool) → IsMultiple unit ((link_at p e).routing * (load_at p d (if b then 2 * e else e) + (if b then load_at p d (2 * e + 1) else 0)))
    by_cases true = two _ _ (routed p unit d e (2 * e) is within) (routed p unit d e (2 * e + 1) is within)
    by_cases false = two _ _ (routed p unit d e e is within) (times unit (link_at p e).routing 0 (none unit))

-- each design's cost is a multiple of what divides all costs
pub cost-multiple : (p : Parts) (unit : ℕ) (d : Design) → IsUnit p unit → IsMultiple unit (cost_of p d)
cost-multiple p unit d is = sums unit (link_cost p d) (length p.links) (λ e below. link_multiple p unit d e (unit-divides p unit is) below)

-- a multiple that is below another one and a unit is at most it
multiple-le : (unit x y : ℕ) → IsMultiple unit x → IsMultiple unit y → x < y + unit → x ≤ y
multiple-le unit x y h k below =
    let is_x = h.1 in
    let is_y = k.1 in
    elim (either_way h.0 k.0) [
      | inl few ↦ (let le = mul-le-mul_right unit few in omega (arith, le, is_x, is_y))
      | inr many ↦ (let less : suc k.0 ≤ h.0 = omega (arith, many) in let le = mul-le-mul_right unit less in absurd (omega (arith, le, is_x, is_y, below)))
    ]

-- where a bound is above a design's cost less the unit, no design that the bound holds for costs less
pub unit-enough : (p : Parts) (unit : ℕ) (bound : ℤ) (stated d : Design) → IsUnit p unit → pos (cost_of p stated) <ℤ (bound +ℤ pos unit) → bound ≤ℤ pos (cost_of p d) → cost_of p stated ≤ cost_of p d
unit-enough p unit bound stated d is enough dual =
    multiple-le unit (cost_of p stated) (cost_of p d) (cost-multiple p unit stated is) (cost-multiple p unit d is) (below (cost_of p stated) (cost_of p d) unit bound enough dual)
  where
    below : (c x u : ℕ) (b : ℤ) → pos c <ℤ (b +ℤ pos u) → b ≤ℤ pos x → c < x + u
    below c x u b h k = omega (arith, ints)
