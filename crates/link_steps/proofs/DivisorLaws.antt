-- Common divisors, and how Euclid's algorithm finds them.
use Rattle.std.proofs.Common.{◌≡◌, ℕ, ◌+◌, ◌-◌, ◌*◌, ◌/◌, ◌%◌, ◌<◌, ◌≤◌, inl, inr, max, length, refl, subst, ap, arith}
use Rattle.std.proofs.Math.Nat.{div-add-mod', mul-le-mul_right}
use Rattle.std.proofs.lemmas.List.Sums.{get_or-le-sum_by}
use Rattle.plan_base.specs.declared.parts.Link.{Link}
use Rattle.plan_base.specs.declared.parts.Parts.{Parts}
use Rattle.plan_base.specs.declared.parts.Demand.{Demand}
use Rattle.plan_base.specs.Facts.{total_load}
use Rattle.plan_base.specs.Arcs.{link_at, demand_at, no_demand}
use Rattle.plan_base.specs.Designs.{module_at}
use Rattle.link_steps.specs.Unit.{IsMultiple, IsUnit}
use Rattle.link_steps.specs.Divisors.{IsCommonDivisor, IsDivisorBefore, DividesWith, IsModuleDivisor}
use Rattle.link_steps.proofs.Order.{either_way, before_or_last}

multiple-zero : (of : ℕ) → IsMultiple of 0
multiple-zero of = (0, omega arith)

multiple-self : (of : ℕ) → IsMultiple of of
multiple-self of = (1, omega arith)

multiple-plus : (of n m : ℕ) → IsMultiple of n → IsMultiple of m → IsMultiple of (n + m)
multiple-plus of n m (i, is) (j, js) = (i + j, omega (arith, is, js))

multiple-times : (of n times : ℕ) → IsMultiple of n → IsMultiple of (n * times)
multiple-times of n times (i, is) = (i * times, omega (arith, ap (λ (x : ℕ). x * times) is))

-- what divides a sum and its first part divides the rest
multiple-rest : (of n m : ℕ) → IsMultiple of (n + m) → IsMultiple of n → IsMultiple of m
multiple-rest of n m (i, is) (j, js) =
    elim (either_way i j) [
      | inl le ↦ (let product = mul-le-mul_right of le in (0, omega (arith, product, is, js)))
      | inr lt ↦ (let parts : (i - j) + j ≡ i = omega arith in let product = ap (λ (x : ℕ). x * of) parts in (i - j, omega (arith, product, is, js)))
    ]

-- a divisor of a multiple
multiple-trans : (a b c : ℕ) → IsMultiple a b → IsMultiple b c → IsMultiple a c
multiple-trans a b c (i, is) (j, js) = (j * i, omega (arith, ap (λ (x : ℕ). j * x) is, js))

-- a number and its rest
rest-is : (a b times : ℕ) → a * times ≡ b * times * (a / b) + a % b * times
rest-is a b times = omega (arith, ap (λ (x : ℕ). x * times) (div-add-mod' a b))

-- one step of the algorithm
pub IsCommonDivisor-step : (a b divisor : ℕ) → IsCommonDivisor b (a % b) divisor → IsCommonDivisor a b divisor
IsCommonDivisor-step a b divisor is =
    record {
      first = (let whole = multiple-plus divisor (b * 1 * (a / b)) (a % b * 1) (multiple-times divisor (b * 1) (a / b) (multiple-times divisor b 1 is.first)) (multiple-times divisor (a % b) 1 is.second) in
          let same : b * 1 * (a / b) + a % b * 1 ≡ a = omega (arith, rest-is a b 1) in rw same at whole);
      second = is.first;
      greatest = λ other times of_a of_b.
          is.greatest other times of_b
          (multiple-rest other (b * times * (a / b)) (a % b * times) (rw (rest-is a b times) at of_a) (multiple-times other (b * times) (a / b) of_b));
    }

-- the last step
pub IsCommonDivisor-last : (a b : ℕ) → b ≡ 0 → IsCommonDivisor a b a
IsCommonDivisor-last a b none = record {
  first = multiple-self a;
  second = rw none (multiple-zero a);
  greatest = λ other times of_a of_b. of_a;
}

-- Numbers of a list, one after the other.

-- before the first number of a list, the divisor is 0
pub IsDivisorBefore-none : (number : ℕ → ℕ) → IsDivisorBefore number 0 0
IsDivisorBefore-none number = record { each = λ i below. absurd (omega arith); greatest = λ other times all. rw (let none : 0 * times ≡ 0 = omega arith in none) (multiple-zero other) }

-- the common divisor of the divisor so far and the next number is the divisor of one number more
pub IsDivisorBefore-next : (number : ℕ → ℕ) (n before divisor : ℕ) → IsDivisorBefore number n before → IsCommonDivisor before (number n) divisor → IsDivisorBefore number (n + 1) divisor
IsDivisorBefore-next number n before divisor old is = record {
  each = λ i below. elim (before_or_last i n below) [ inl earlier ↦ multiple-trans divisor before (number i) is.first (old.each i earlier) | inr new ↦ rw new is.second ];
  greatest = λ other times all. is.greatest other times (old.greatest other times (λ i below. all i (omega arith))) (all n (omega arith));
}

-- it divides a number and the costs of a link's modules before a count, and whatever divides all these divides it
pub record DividesTo (l : Link) (count number divisor : ℕ) : Type 0 where
  pub old : IsMultiple divisor number
  pub modules : (m : ℕ) → m < count → IsMultiple divisor (module_at l m).cost
  pub greatest : (other : ℕ) → IsMultiple other number → ((m : ℕ) → m < count → IsMultiple other (module_at l m).cost) → IsMultiple other divisor

-- before the first module, the divisor is the number itself
pub DividesTo-none : (l : Link) (number : ℕ) → DividesTo l 0 number number
DividesTo-none l number = record { old = multiple-self number; modules = λ m below. absurd (omega arith); greatest = λ other of_old all. of_old }

greatest-once : (a b divisor other : ℕ) → IsCommonDivisor a b divisor → IsMultiple other a → IsMultiple other b → IsMultiple other divisor
greatest-once a b divisor other is of_a of_b =
    let once = is.greatest other 1 (multiple-times other a 1 of_a) (multiple-times other b 1 of_b) in
    rw (let same : divisor * 1 ≡ divisor = omega arith in same) at once

-- with one module more, the divisor is the common divisor of the one so far and the module's cost
pub DividesTo-next : (l : Link) (n number before cost divisor : ℕ) → cost ≡ (module_at l n).cost → DividesTo l n number before → IsCommonDivisor before cost divisor → DividesTo l (n + 1) number divisor
DividesTo-next l n number before cost divisor cost_is old is = record {
  old = multiple-trans divisor before number is.first old.old;
  modules = λ m below. elim (before_or_last m n below) [ inl earlier ↦ multiple-trans divisor before (module_at l m).cost is.first (old.modules m earlier) | inr new ↦ rw (new, ← cost_is) is.second ];
  greatest = λ other of_old all. greatest-once before cost divisor other is (old.greatest other of_old (λ m below. all m (omega arith))) (rw cost_is (all n (omega arith)));
}

-- at the end of the modules, the divisor is that of the number and of the costs of all of them
pub DividesTo-all : (l : Link) (n number divisor : ℕ) → n ≡ length l.modules → DividesTo l n number divisor → DividesWith l number divisor
DividesTo-all l n number divisor is all = record {
  old = all.old;
  modules = λ m within. all.modules m (omega (arith, is, within));
  greatest = λ other of_old each. all.greatest other of_old (λ m below. each m (omega (arith, is, below)));
}

-- before the first link, the divisor of the module costs is 0
pub IsModuleDivisor-none : (p : Parts) → IsModuleDivisor p 0 0
IsModuleDivisor-none p = record { divides = λ e m below. absurd (omega arith); greatest = λ other all. multiple-zero other }

-- with one link more, the divisor is that of the one so far and of the costs of the link's modules
pub IsModuleDivisor-next : (p : Parts) (n before divisor : ℕ) (l : Link) → l ≡ link_at p n → IsModuleDivisor p n before → DividesWith l before divisor → IsModuleDivisor p (n + 1) divisor
IsModuleDivisor-next p n before divisor l l_is old with_l =
    let is : DividesWith (link_at p n) before divisor = subst (λ (x : Link). DividesWith x before divisor) l_is with_l in
    record {
      divides = λ e m below within. elim (before_or_last e n below) [
        | inl earlier ↦ multiple-trans divisor before (module_at (link_at p e) m).cost is.old (old.divides e m earlier within)
        | inr new ↦ rw new (is.modules m (rw new at within))
      ];
      greatest = λ other all. is.greatest other (old.greatest other (λ e m below. all e m (omega arith))) (λ m within. all n m (omega arith) within);
    }

-- a demand's load is at most the total load
pub load-le-total : (p : Parts) (k : ℕ) → k < length p.demands → (demand_at p k).load ≤ total_load p
load-le-total p k within = get_or-le-sum_by (λ (d : Demand). d.load) p.demands k no_demand within

-- The unit.

product-multiple : (divisor routing load r l : ℕ) → IsMultiple divisor (r * l) → IsMultiple r routing → IsMultiple l load → IsMultiple divisor (routing * load)
product-multiple divisor routing load r l of_product (i, is) (j, js) =
    let whole : r * l * (i * j) ≡ routing * load = rw (← is, ← js) (omega arith) in
    rw whole at (multiple-times divisor (r * l) (i * j) of_product)

-- the unit is 1 or the common divisor of that of module costs and that of routing costs times that of loads
pub IsUnit-made : (p : Parts) (modules routing load divisor : ℕ) → IsModuleDivisor p (length p.links) modules → IsDivisorBefore (λ e. (link_at p e).routing) (length p.links) routing → IsDivisorBefore (λ k. (demand_at p k).load) (length p.demands) load
    → IsCommonDivisor modules (routing * load) divisor → IsUnit p (max divisor 1)
IsUnit-made p modules routing load divisor of_modules of_routing of_load is = record {
  divisor = divisor;
  is_greatest = record {
    divides = record {
      modules = λ e m e_within m_within. multiple-trans divisor modules _ is.first (of_modules.divides e m e_within m_within);
      routing = λ e k e_within k_within. product-multiple divisor (link_at p e).routing (demand_at p k).load routing load is.second (of_routing.each e e_within) (of_load.each k k_within);
    };
    greatest = λ other all. greatest-once modules (routing * load) divisor other is (of_modules.greatest other all.modules)
        (of_routing.greatest other load (λ e e_within.
        rw (let turned : (link_at p e).routing * load ≡ load * (link_at p e).routing = omega arith in turned)
        (of_load.greatest other (link_at p e).routing (λ k k_within. rw (let turned : (demand_at p k).load * (link_at p e).routing ≡ (link_at p e).routing * (demand_at p k).load = omega arith in turned) (all.routing e k e_within k_within)))));
  };
  is_unit = refl;
}

-- the divisor of the module costs, as the modules of a link and the links are gone through
pub ruleset module_divisors = (DividesTo-none, DividesTo-next, DividesTo-all, IsModuleDivisor-none, IsModuleDivisor-next)
