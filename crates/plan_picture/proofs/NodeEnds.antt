-- Demands that end at a node, counted from the first on.
use Rattle.std.proofs.Common.{◌≡◌, ◌<◌, ◌≤◌, ◌⊎◌, ◌+◌, ◌||◌, ℕ, zero, suc, Bool, true, false, refl, add-one, arith, inl, inr}
use Rattle.std.proofs.lemmas.Bool.{cases_lt}
use Rattle.plan_base.specs.declared.parts.Parts.{Parts}
use Rattle.plan_picture.specs.Pictures.{ends_at, any_ends_at}

-- none of one demand more
pub none_more : (p : Parts) (n k : ℕ) → any_ends_at p n k ≡ false → ends_at p n k ≡ false → any_ends_at p n (k + 1) ≡ false
none_more p n k none here = rw (add-one, none, here) refl

or-true : (b : Bool) → (b || true) ≡ true
or-true true = refl
or-true false = refl

some-at : (p : Parts) (n k count : ℕ) → ends_at p n k ≡ true → (k < count → any_ends_at p n count ≡ true) → k < suc count → (k < count) ⊎ (count ≤ k) → any_ends_at p n (suc count) ≡ true
some-at p n k count here before within (inl below) = rw (before below) refl
some-at p n k count here before within (inr above) =
    let last : count ≡ k = omega (arith, within, above) in
    rw (last, here) (or-true (any_ends_at p n k))

-- one that is among so many
pub some_found : (p : Parts) (n k count : ℕ) → k < count → ends_at p n k ≡ true → any_ends_at p n count ≡ true
some_found p n k zero within here = absurd (omega (arith, within))
some_found p n k (suc count) within here = some-at p n k count here (λ below. some_found p n k count below here) within (cases_lt k count)
