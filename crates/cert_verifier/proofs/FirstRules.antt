-- The first rule that does not hold, as a chain of checks finds it.
use Rattle.std.proofs.Common.{◌≡◌, inl, inr, Option, Some, None, refl}
use Rattle.cert_verifier.specs.Rules.{unless, ◌then_by◌}

-- the rule holds
pub unless-holds : {F : Type 0} (H : Type 0) (fault : F) → H → unless H fault None
unless-holds H fault h = inl (h, refl)

-- the rule does not hold
pub unless-fails : {F : Type 0} (H : Type 0) (fault : F) → (H → ⊥) → unless H fault (Some fault)
unless-fails H fault broken = inr (broken, refl)

-- the first rule of several does not hold
pub first-fails : {F : Type 0} (H : Type 0) (fault : F) (further : Option F → Type 0) → (H → ⊥) → (unless H fault then_by further) (Some fault)
first-fails H fault further broken = inl (refl, inr (broken, refl))

-- the first rule of several holds
pub first-holds : {F : Type 0} (H : Type 0) (fault : F) (further : Option F → Type 0) (found : Option F) → H → further found → (unless H fault then_by further) found
first-holds H fault further found h more = inr (inl (h, refl), more)

-- how a check goes through a chain of rules: each rule holds, or is told
pub ruleset first_rules = (unless-holds, unless-fails, first-fails, first-holds)

-- no rule is broken: each holds
pub unless-none : {F : Type 0} (H : Type 0) (fault : F) → unless H fault None → H
unless-none H fault (inl h) = h.0
unless-none H fault (inr broken) = absurd (let bad : None ≡ Some fault = broken.1 in cc)
