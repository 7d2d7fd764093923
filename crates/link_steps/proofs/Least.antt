-- Where there is anything, something least is not absent.
use Rattle.std.proofs.Common.{ℕ, zero, suc, ◌<◌, ◌≤◌, inl, inr, arith}
use Rattle.link_steps.proofs.Order.{either_way}

-- one of the things, and none has a smaller measure
pub record IsLeastOf {A : Type 0} (P : A → Type 0) (measure : A → ℕ) (a : A) : Type 0 where
  pub holds : P a
  pub least : (b : A) → P b → measure a ≤ measure b

none_below : {A : Type 0} (P : A → Type 0) (measure : A → ℕ) → ((a : A) → IsLeastOf P measure a → ⊥) → (n : ℕ) (a : A) → P a → measure a < n → ⊥
none_below P measure none zero a h below = omega arith
none_below P measure none (suc n) a h below =
    none a (record { holds = h; least = λ b hb. elim (either_way (measure a) (measure b)) [ inl le ↦ le | inr lt ↦ absurd (none_below P measure none n b hb (omega arith)) ] })

-- where there is one of the things, a least one is not absent
pub least_not_absent : {A : Type 0} (P : A → Type 0) (measure : A → ℕ) (a : A) → P a → ((b : A) → IsLeastOf P measure b → ⊥) → ⊥
least_not_absent P measure a h none = none_below P measure none (suc (measure a)) a h (omega arith)
