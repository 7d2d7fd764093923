-- What links without a useful module may carry, and that no link may carry more than the total load.
use Rattle.std.proofs.Common.{◌≡◌, ℕ, ◌*◌, ◌<◌, ◌≤◌, Bool, true, false, List, length, slice_index, nat_lt, refl, arith}
use Rattle.std.proofs.lemmas.Bool.{ltb-false}
use Rattle.plan_base.specs.declared.parts.CountLaw.{CountLaw}
use Rattle.plan_base.specs.declared.parts.CountLaw.TheVariants.{Any, AtMostOne}
use Rattle.plan_base.specs.declared.parts.Module.{Module}
use Rattle.plan_base.specs.declared.parts.Link.{Link}
use Rattle.plan_base.specs.declared.parts.Parts.{Parts}
use Rattle.plan_base.specs.Facts.{total_load, is_useful, useful_load, top_load}
use Rattle.plan_base.specs.Designs.{module_at, no_module, capacity_with}
use Rattle.plan_base.proofs.Bools.{list_any-false_at}
use Rattle.plan_base.proofs.SumsBelow.{sum_below-zero}

useful-le : (law : CountLaw) (l : Link) (total : ℕ) → useful_load law l total ≤ total
useful-le Any l total = omega arith
useful-le AtMostOne l total = omega arith

-- the most that a link may carry is at most the total load
pub top-le : (p : Parts) (l : Link) → top_load p l ≤ total_load p
top-le p l = by_cases (is_useful l) refl
  where
    by_cases : (b : Bool) → is_useful l ≡ b → top_load p l ≤ total_load p
    by_cases true is = rw is (useful-le p.law l (total_load p))
    by_cases false is = rw is (omega arith)

-- without a useful module, counts add no capacity
pub capacity-useless : (l : Link) (counts : List ℕ) → is_useful l ≡ false → capacity_with l counts ≡ l.pre
capacity-useless l counts none =
    let each : (m : ℕ) → m < length l.modules → slice_index counts m * (module_at l m).capacity ≡ 0 = λ m below.
    (let empty : (module_at l m).capacity ≡ 0 = omega (arith, ltb-false _ _ (list_any-false_at (λ (x : Module). nat_lt 0 x.capacity) l.modules m no_module below none)) in rw empty (omega arith)) in
    omega (arith, sum_below-zero (λ m. slice_index counts m * (module_at l m).capacity) (length l.modules) each)
