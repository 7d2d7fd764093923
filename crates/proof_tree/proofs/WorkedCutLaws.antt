-- What the worked cuts of the triangle and of two links count.
use Rattle.std.proofs.Common.{◌≡◌, ℕ, zero, suc, ◌<◌, Bool, true, false, ◌==◌, ◌||◌, refl, arith, lit≤, lit<}
use Rattle.plan_base.specs.declared.parts.Orient.TheVariants.{Directed, Undirected, Bidirected}
use Rattle.plan_base.specs.Sums.{sum_below}
use Rattle.plan_base.specs.Designs.{load_from, load_at}
use Rattle.proof_tree.specs.Cuts.{place_crosses, counted_at, IsCut}
use Rattle.proof_tree.specs.WorkedCuts.{oriented, only_b, parallel, one_each, around_a}

-- of the links of the triangle, ab and bc have an end in b; only bc leaves b, and so does the way back over ab
pub undirected-crosses : (q : ℕ) → q < 3 → place_crosses (oriented Undirected) only_b q ≡ (q == 0 || q == 1)
undirected-crosses zero below = refl
undirected-crosses (suc zero) below = refl
undirected-crosses (suc (suc zero)) below = refl
undirected-crosses (suc (suc (suc q))) below = absurd (omega arith)

-- of the places of the directed triangle, only that of bc crosses the set of b
pub directed-crosses : (q : ℕ) → q < 3 → place_crosses (oriented Directed) only_b q ≡ (q == 1)
directed-crosses zero below = refl
directed-crosses (suc zero) below = refl
directed-crosses (suc (suc zero)) below = refl
directed-crosses (suc (suc (suc q))) below = absurd (omega arith)

-- where each direction of a link has a place, the way back over ab and the way there over bc cross the set of b
pub bidirected-crosses : (q : ℕ) → q < 6 → place_crosses (oriented Bidirected) only_b q ≡ (q == 1 || q == 2)
bidirected-crosses zero below = refl
bidirected-crosses (suc zero) below = refl
bidirected-crosses (suc (suc zero)) below = refl
bidirected-crosses (suc (suc (suc zero))) below = refl
bidirected-crosses (suc (suc (suc (suc zero)))) below = refl
bidirected-crosses (suc (suc (suc (suc (suc zero))))) below = refl
bidirected-crosses (suc (suc (suc (suc (suc (suc q)))))) below = absurd (omega arith)

-- the set of a is a cut of the two parallel links, whether or not what is installed is left out
pub around_a-cut : (counts_installed : Bool) → IsCut parallel (around_a counts_installed)
around_a-cut counts_installed = record { count = refl; some = (0, true, lit< tt, refl, refl); not_all = (1, false, lit< tt, refl, refl); is_tally = record { some = lit≤ tt; within = lit≤ tt }; small = lit≤ tt }

-- each of two loads of 10 counts 3
pub parallel-counted : sum_below (λ q. counted_at parallel (around_a false) q (load_at parallel one_each q)) 2 ≡ 6_000_000
unfolding load_from
parallel-counted = refl

-- beyond what is installed no load is left
pub parallel-none : sum_below (λ q. counted_at parallel (around_a true) q (load_at parallel one_each q)) 2 ≡ 0
unfolding load_from
parallel-none = refl
