-- Chains of rules: what it is to find nothing, and that not two things are found.
use Rattle.std.proofs.Common.{◌≡◌, ◌⊎◌, inl, inr, true, false, Option, Some, None, sym, ◌∙◌}
use Rattle.std.specs.Prelude.{IsSome}
use Rattle.cert_verifier.specs.Rules.{unless, ◌then_by◌}

-- no rule is broken: neither one of the first nor one of the further
pub then_by-none : {A B C : Type 0} → ((false ≡ true) × A) ⊎ (B × C) → B × C
then_by-none (inl some) = absurd (let bad : false ≡ true = some.0 in cc)
then_by-none (inr both) = both

-- at most one thing is found
abbrev pub FindsOne : {F : Type 0} → (Option F → Type 0) → Type 0
FindsOne {F} finds = (a b : Option F) → finds a → finds b → a ≡ b

-- a rule finds at most one thing
pub unless-one : {F : Type 0} (H : Type 0) (fault : F) → FindsOne (unless H fault)
unless-one H fault a b (inl x) (inl y) = x.1 ∙ sym y.1
unless-one H fault a b (inl x) (inr y) = absurd (y.0 x.0)
unless-one H fault a b (inr x) (inl y) = absurd (x.0 y.0)
unless-one H fault a b (inr x) (inr y) = x.1 ∙ sym y.1

some_none : {F : Type 0} (a : Option F) → IsSome a → a ≡ None → ⊥
some_none None some is = let bad : false ≡ true = some in cc
some_none (Some x) some is = cc

-- where rules find at most one thing, and so do the further ones, they do one after the other
pub then_by-one : {F : Type 0} (first further : Option F → Type 0) → FindsOne first → FindsOne further → FindsOne (first then_by further)
then_by-one first further one other a b (inl x) (inl y) = one a b x.1 y.1
then_by-one first further one other a b (inl x) (inr y) = absurd (some_none a x.0 (one a None x.1 y.0))
then_by-one first further one other a b (inr x) (inl y) = absurd (some_none b y.0 (one b None y.1 x.0))
then_by-one first further one other a b (inr x) (inr y) = other a b x.1 y.1
