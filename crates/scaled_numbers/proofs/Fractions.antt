-- The digits behind a point, without the zeros at their end.
use Rattle.std.proofs.Common.{◌≡◌, ℕ, zero, suc, ◌+◌, ◌-◌, ◌*◌, ◌/◌, ◌%◌, ◌^◌, ◌<◌, ◌≤◌, List, [], ◌∷◌, ◌++◌, length, take, drop, replicate, decimal, refl, sym, ap, ◌∙◌, append_assoc, arith}
use Rattle.std.proofs.Math.Nat.{pow-suc, pow-le-pow_right}
use Rattle.std.proofs.lemmas.Fmt.{length-decimal-le_wide}
use Rattle.std.proofs.lemmas.List.{take-append-drop, take-replicate, length-append, length-replicate}
use Rattle.std.proofs.Math.Seq.{take-append_seam}
use Rattle.scaled_numbers.specs.Canonical.{padded, fraction_digits, behind_point, grains_text}
use Rattle.scaled_numbers.specs.Kept.{shown}

-- without its last digit, a fraction fits one place less
pub one_less : (places n : ℕ) → 0 < places → n < 10 ^ places → n / 10 < 10 ^ (places - 1)
one_less zero n some small = absurd (omega arith)
one_less (suc places) n some small =
    let less : suc places - 1 ≡ places = omega arith in
    let more : 10 ^ suc places ≡ 10 ^ places * 10 = pow-suc 10 places in
    rw less (omega (arith, more, small))

-- a fraction of at most 64 places is within the range of decimal
pub wide : (places n : ℕ) → places ≤ 64 → n < 10 ^ places → n < 10 ^ 64
wide places n within small = omega (arith, pow-le-pow_right {n = 10} (omega arith) within)

-- a fraction has at most as many digits as places
pub few_digits : (places n : ℕ) → 0 < places → places ≤ 64 → n < 10 ^ places → length (decimal n) ≤ places
few_digits places n some within small = length-decimal-le_wide places n some small (wide places n within small)

-- digits that are not empty stand behind a point
pub pointed : (digits : List ℕ) → 0 < length digits → behind_point digits ≡ 46 ∷ digits
pointed [] some = absurd (omega arith)
pointed (digit ∷ digits) some = refl

-- digits that are shown are filled up with zeros in front
pub shown-padded : (places n : ℕ) → 0 < places → shown places n ≡ padded places n
shown-padded zero n some = absurd (omega arith)
shown-padded (suc places) n some = refl

-- filled up with zeros, a fraction has as many digits as places
pub length-padded : (places n : ℕ) → length (decimal n) ≤ places → length (padded places n) ≡ places
length-padded places n small = omega (arith, length-append (replicate (places - length (decimal n)) 48) (decimal n), length-replicate {A = ℕ} (places - length (decimal n)) 48)

-- what stands in the bytes where the digits are written over zeros
pub take-written : (places n start : ℕ) (bytes rest : List ℕ) → places ≤ 12 → length (decimal n) ≤ places → start + length (decimal n) ≡ places + 1
    → drop start bytes ≡ decimal n ++ rest → take start bytes ≡ take start (46 ∷ replicate 12 48) → take (places + 1) bytes ≡ 46 ∷ padded places n
take-written places n start bytes rest within fits ends written before =
    let zeros : ℕ = places - length (decimal n) in
    let from : start ≡ suc zeros = omega arith in
    let front : take start bytes ≡ 46 ∷ replicate zeros 48 = before ∙ ap (λ k. take k (46 ∷ replicate 12 48)) from ∙ ap (λ ds. 46 ∷ ds) (take-replicate zeros 12 48 (omega arith)) in
    let all : bytes ≡ (46 ∷ padded places n) ++ rest = sym (take-append-drop start bytes) ∙ ap (λ xs. xs ++ drop start bytes) front ∙ ap (λ ys. (46 ∷ replicate zeros 48) ++ ys) written ∙ sym (append_assoc (46 ∷ replicate zeros 48) (decimal n) rest) in
    let long : places + 1 ≡ length (46 ∷ padded places n) = omega (arith, length-padded places n fits) in
    ap (take (places + 1)) all ∙ ap (λ k. take k ((46 ∷ padded places n) ++ rest)) long ∙ take-append_seam (46 ∷ padded places n) rest

-- The text is appended in two pieces.
pub two_pieces : (front : List ℕ) (value scale : ℕ) → front ++ grains_text value scale ≡ (front ++ decimal (value / 10 ^ scale)) ++ behind_point (fraction_digits scale (value % 10 ^ scale))
unfolding grains_text
two_pieces front value scale = sym (append_assoc front (decimal (value / 10 ^ scale)) (behind_point (fraction_digits scale (value % 10 ^ scale))))
