-- Where no demand is left to price, the round is complete.
use Rattle.std.proofs.Common.{◌≡◌, ℕ, ◌*◌, ◌≤◌, length, get_or, Option, Some, None, arith}
use Rattle.std.proofs.lemmas.List.Sums.{sum_by-le}
use Rattle.plan_base.specs.First.{first_in}
use Rattle.plan_base.proofs.FirstFault.{first_in-none}
use Rattle.search_machine.specs.declared.tree.Found.{Found}
use Rattle.search_machine.specs.State.{Round, gap_of, left_of}
use Rattle.search_machine.specs.Changes.{gap_at}

gap_at-none : (k : ℕ) (o : Option Found) → gap_at k o ≡ None → gap_of o ≤ 0
gap_at-none k None h = absurd (cc)
gap_at-none k (Some found) h = omega arith

-- where no demand is left, the round is complete
pub first_gap-none : (round : Round) → first_in gap_at round.found ≡ None → left_of round ≡ 0
first_gap-none round h =
    let most : left_of round ≤ length round.found * 0 = sum_by-le gap_of 0 round.found (λ k d within. gap_at-none k (get_or round.found k d) (first_in-none gap_at round.found h k d within)) in
    omega arith
