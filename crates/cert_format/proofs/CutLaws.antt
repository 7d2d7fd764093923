-- The line of a cut of the plan is read exactly where it is written so.
use Rattle.std.proofs.Common.{◌≡◌, ℕ, zero, suc, ◌^◌, ◌≤◌, ◌==◌, ◌&&◌, nat_lt, nat_le, Bool, true, false, cond, List, [], ◌∷◌, length, codes, Some, None, refl, sym, ap, subst, ◌∙◌, arith}
use Rattle.std.specs.Option.{option_map}
use Rattle.std.specs.List.{AllByRecursion}
use Rattle.std.proofs.lemmas.List.Elements.{recursion_from_All}
use Rattle.std.proofs.lemmas.Bool.{and_parts, and_from, ltb-true, lt-ltb, leb-true, le-leb}
use Rattle.plan_base.specs.declared.limits.TheConstants.{MAX_NODES}
use Rattle.proof_tree.specs.declared.cuts.Cut.{Cut as LoadCut}
use Rattle.proof_tree.specs.Spellings.{FitsCuts}
use Rattle.plan_tokens.specs.Words.{◌>>=◌, row, numbers_after_word}
use Rattle.plan_tokens.proofs.NumberWords.{then-some, map-some}
use Rattle.cert_format.specs.Grammar.{counted, members, bit, numbers_of_cut, cut_line, HasCutFields}
use Rattle.cert_format.specs.Bodies.{set_of, load_cut_with, load_cut_in, load_cut_row}
use Rattle.cert_format.proofs.BodyLaws.{AreSmall, row_takes, row_again}
use Rattle.cert_format.proofs.ReadingLaws.{pair_of}
use Rattle.cert_format.proofs.RecordLaws.{when_some, set_takes, set_again, set_small}

-- a cut with an answer for each of so many nodes, and its numbers within their fields
abbrev pub GoodCut : ℕ → LoadCut → Type 0
GoodCut nodes cut = (length cut.nodes ≡ nodes) × HasCutFields cut

-- the cuts of a plan that fits
pub good_cuts : (nodes : ℕ) (cuts : List LoadCut) → FitsCuts nodes cuts → AllByRecursion HasCutFields cuts → AllByRecursion (GoodCut nodes) cuts
good_cuts nodes cuts fits fields =
    let long : LoadCut → Type 0 = λ cut. length cut.nodes ≡ nodes in
    pair_of long HasCutFields cuts (recursion_from_All long cuts fits.each) fields

bit-takes : (n : ℕ) → n ≤ 1 → n ≡ bit (n == 1)
bit-takes zero few = refl
bit-takes (suc zero) few = refl
bit-takes (suc (suc n)) few = absurd (omega (arith, few))

bit-again : (b : Bool) → (bit b == 1) ≡ b
bit-again true = refl
bit-again false = refl

-- what is written for yes or no is at most 1
pub bit_few : (b : Bool) → bit b ≤ 1
bit_few true = omega arith
bit_few false = omega arith

-- the tests of the numbers of a cut
abbrev are-within : ℕ → ℕ → ℕ → Bool
are-within period first installed = nat_lt period (2 ^ 64) && nat_lt first (2 ^ 64) && nat_le installed 1

in-takes : (nodes : ℕ) (ns : List ℕ) (cut : LoadCut) → load_cut_in nodes ns ≡ Some cut → GoodCut nodes cut × (ns ≡ numbers_of_cut cut)
unfolding load_cut_in
in-takes nodes [] cut e = absurd cc
in-takes nodes (period ∷ []) cut e = absurd cc
in-takes nodes (period ∷ first ∷ []) cut e = absurd cc
in-takes nodes (period ∷ first ∷ installed ∷ ns) cut e =
    let (test, made) = when_some (are-within period first installed) (option_map (load_cut_with period first installed) (set_of nodes ns)) cut e in
    let (fs, found, is) = map-some (set_of nodes ns) (load_cut_with period first installed) cut made in
    let parts = and_parts (nat_lt period (2 ^ 64) && nat_lt first (2 ^ 64)) (nat_le installed 1) test in
    let grains = and_parts (nat_lt period (2 ^ 64)) (nat_lt first (2 ^ 64)) parts.0 in
    let set = set_takes nodes ns fs found in
    subst (λ (x : LoadCut). GoodCut nodes x × (period ∷ first ∷ installed ∷ ns ≡ numbers_of_cut x)) is (
      (set.0, (ltb-true period (2 ^ 64) grains.0, ltb-true first (2 ^ 64) grains.1)),
      ap (λ k. period ∷ first ∷ k ∷ ns) (bit-takes installed (leb-true installed 1 parts.1)) ∙ ap (λ ms. period ∷ first ∷ bit (installed == 1) ∷ ms) set.1,
    )

-- a cut of the plan that is read has an answer for each node, its numbers fit, and the line is its own
pub cut_takes : (nodes : ℕ) (body : List ℕ) (cut : LoadCut) → load_cut_row nodes body ≡ Some cut → GoodCut nodes cut × (body ≡ cut_line cut)
unfolding load_cut_row
cut_takes nodes body cut e =
    let (ns, first, later) = then-some (numbers_after_word (codes "C") body) (load_cut_in nodes) cut e in
    let c = in-takes nodes ns cut later in
    (c.0, (row_takes (codes "C") body ns first).1 ∙ ap (row (codes "C")) c.1)

-- the cut with another answer
abbrev with-bit : LoadCut → Bool → LoadCut
with-bit cut t = record { nodes = cut.nodes; period = cut.period; first = cut.first; counts_installed = t }

in-again : (nodes : ℕ) (cut : LoadCut) → GoodCut nodes cut → load_cut_in nodes (numbers_of_cut cut) ≡ Some cut
unfolding load_cut_in
in-again nodes cut g =
    let b : ℕ = bit cut.counts_installed in
    let numbers : List ℕ = counted (members 0 cut.nodes) in
    let test : are-within cut.period cut.first b ≡ true =
    and_from (nat_lt cut.period (2 ^ 64) && nat_lt cut.first (2 ^ 64)) (nat_le b 1)
    (and_from (nat_lt cut.period (2 ^ 64)) (nat_lt cut.first (2 ^ 64)) (lt-ltb cut.period (2 ^ 64) g.1.0) (lt-ltb cut.first (2 ^ 64) g.1.1)) (le-leb b 1 (bit_few cut.counts_installed)) in
    ap (λ t. cond t (option_map (load_cut_with cut.period cut.first b) (set_of nodes numbers)) None) test
    ∙ ap (option_map (load_cut_with cut.period cut.first b)) (set_again nodes cut.nodes g.0)
    ∙ ap (λ t. Some (with-bit cut t)) (bit-again cut.counts_installed)

-- the line of a cut with an answer for each node and numbers that fit is read as this cut
pub cut_again : (nodes : ℕ) (cut : LoadCut) → AreSmall (numbers_of_cut cut) → GoodCut nodes cut → load_cut_row nodes (cut_line cut) ≡ Some cut
unfolding load_cut_row
cut_again nodes cut small g = ap (λ o. o >>= load_cut_in nodes) (row_again (codes "C") (numbers_of_cut cut) small) ∙ in-again nodes cut g

-- the numbers of a cut are small
pub cut_numbers_small : (nodes : ℕ) (cut : LoadCut) → nodes ≤ MAX_NODES → GoodCut nodes cut → AreSmall (numbers_of_cut cut)
cut_numbers_small nodes cut few g = (omega (arith, g.1.0), (omega (arith, g.1.1), (omega (arith, bit_few cut.counts_installed), set_small nodes cut.nodes few g.0)))

-- ---- a cut that is read with any count of nodes

-- none of so many nodes
abbrev nobody : ℕ → List Bool
nobody zero = []
nobody (suc n) = false ∷ nobody n

nobody-long : (n : ℕ) → length (nobody n) ≡ n
nobody-long zero = refl
nobody-long (suc n) = ap (λ k. suc k) (nobody-long n)

no-members : (at n : ℕ) → members at (nobody n) ≡ []
unfolding members
no-members at zero = refl
no-members at (suc n) = no-members (suc at) n

-- a cut of no nodes
abbrev pub empty_cut : ℕ → LoadCut
empty_cut nodes = record { nodes = nobody nodes; period = 0; first = 0; counts_installed = false }

-- the line of a cut of no nodes is read as this cut
pub empty_again : (nodes : ℕ) → load_cut_row nodes (cut_line (empty_cut nodes)) ≡ Some (empty_cut nodes)
empty_again nodes =
    let none : AreSmall (counted []) = (omega arith, tt) in
    let small : AreSmall (counted (members 0 (nobody nodes))) = subst (λ ms. AreSmall (counted ms)) (sym (no-members 0 nodes)) none in
    cut_again nodes (empty_cut nodes) (omega arith, (omega arith, (omega arith, small))) (nobody-long nodes, (omega arith, omega arith))
