use Rattle.std.proofs.Common.{◌≡◌, [], ◌∷◌, ◌%◌, refl, arith, ap}
use Rattle.std.proofs.Math.Nat.{mod-eq_of_lt}
use Rattle.demand_worth.specs.Measures.{load_divisor, divides_loads, measure_by}
use Rattle.demand_worth.specs.Worked.{loaded}
use Rattle.demand_worth.proofs.Divisors.{greatest_up_to-is}
use Rattle.demand_worth.proofs.laws.worked_measures.Goals as goal

pub returns-clause-one_over : goal.returns-clause-one_over
unfolding load_divisor
returns-clause-one_over c =
    ap (λ d. measure_by d 65537) (greatest_up_to-is (divides_loads (loaded (1 ∷ 65536 ∷ []))) 65537 1 (omega arith) (λ positive. refl)
    (λ d after to. let rest : 1 % d ≡ 1 = mod-eq_of_lt after in rw rest refl))

pub returns-clause-just : goal.returns-clause-just
unfolding load_divisor
returns-clause-just c =
    ap (λ d. measure_by d 65536) (greatest_up_to-is (divides_loads (loaded (1 ∷ 65535 ∷ []))) 65536 1 (omega arith) (λ positive. refl)
    (λ d after to. let rest : 1 % d ≡ 1 = mod-eq_of_lt after in rw rest refl))

pub returns-clause-even : goal.returns-clause-even
unfolding load_divisor
returns-clause-even c =
    ap (λ d. measure_by d 131072) (greatest_up_to-is (divides_loads (loaded (2 ∷ 131070 ∷ []))) 131072 2 (omega arith) (λ positive. refl)
    (λ d after to. let rest : 2 % d ≡ 2 = mod-eq_of_lt after in rw rest refl))
