-- The measure in which demands and capacities are compared.
use Rattle.std.specs.Prelude.{ℕ, zero, suc, ◌+◌, ◌-◌, ◌*◌, ◌/◌, ◌%◌, ◌==◌, max, Bool, if◌then◌else◌}
use Rattle.std.specs.List.{list_all}
use Rattle.plan_base.specs.declared.parts.Parts.{Parts}
use Rattle.plan_base.specs.Facts.{total_load}
use Rattle.demand_worth.specs.declared.limits.TheConstants.{MAX_MEASURES}

-- a number divides the load of each demand
abbrev pub divides_loads : Parts → ℕ → Bool
divides_loads p n = list_all (λ k. k.load % n == 0) p.demands

-- the greatest number up to a limit that passes a test, 0 where none above 0 does
abbrev pub greatest_up_to : (ℕ → Bool) → ℕ → ℕ
greatest_up_to test zero = 0
greatest_up_to test (suc n) = if test (suc n) then suc n else greatest_up_to test n

-- the greatest common divisor of the loads, in load grains; 0 where there is no load
unfoldable pub load_divisor : Parts → ℕ
load_divisor p = greatest_up_to (divides_loads p) (total_load p)

-- a quotient, rounded up
abbrev pub quotient_up : ℕ → ℕ → ℕ
quotient_up n divisor = (n + divisor - 1) / divisor

-- the least multiple of the divisor of which MAX_MEASURES come to at least the total; 1 where the divisor is 0
abbrev pub measure_by : ℕ → ℕ → ℕ
measure_by divisor total = max (divisor * quotient_up total (MAX_MEASURES * divisor)) 1

-- the measure of an instance, in load grains
abbrev pub measure : Parts → ℕ
measure p = measure_by (load_divisor p) (total_load p)
