-- A number that is rounded up to a multiple of the unit is at most each multiple that it was at most.
use Rattle.std.proofs.Common.{ℕ, ◌+◌, ◌*◌, ◌<◌, ◌≤◌, mul-le-mul_right, lt_of_mul-lt-mul_right, arith}
use Rattle.std.specs.Int.{div_ceil}
use Rattle.std.specs.Prelude.{ℤ, pos, negsuc, ◌≤ℤ◌}
use Rattle.std.proofs.lemmas.Grind.{div_ceil_times}
use Rattle.std.proofs.lemmas.Int.{ints}
use Rattle.plan_base.specs.declared.parts.Parts.{Parts}
use Rattle.plan_base.specs.declared.path.Design.{Design}
use Rattle.plan_base.specs.Designs.{cost_of}
use Rattle.link_steps.specs.Unit.{IsMultiple, IsUnit}
use Rattle.proof_tree.proofs.UnitLaws.{unit-positive, cost-multiple}
use Rattle.plan_table.specs.Tables.{rounded_up}

-- the multiple that a number is rounded up to is the least one not below it
least : (unit n most : ℕ) → 0 < unit → IsMultiple unit most → n ≤ most → div_ceil n unit * unit ≤ most
least unit n most positive (times, is) below =
    let more : div_ceil n unit * unit < n + unit = (div_ceil_times n unit positive).1 in
    let less : div_ceil n unit * unit < (times + 1) * unit = omega (arith, more, is, below) in
    let few : div_ceil n unit ≤ times = let f = lt_of_mul-lt-mul_right unit less in omega (arith, f) in
    let le = mul-le-mul_right unit few in
    omega (arith, le, is)

-- a bound that is raised is one still
pub rounded_up-le : (p : Parts) (unit : ℕ) (bound : ℤ) (d : Design) → IsUnit p unit → bound ≤ℤ pos (cost_of p d) → rounded_up unit bound ≤ℤ pos (cost_of p d)
rounded_up-le p unit (pos n) d is below =
    let le : div_ceil n unit * unit ≤ cost_of p d = least unit n (cost_of p d) (unit-positive p unit is) (cost-multiple p unit d is) (omega (arith, ints, below)) in
    omega (arith, ints, le)
rounded_up-le p unit (negsuc n) d is below = below
