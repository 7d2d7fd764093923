-- Rules in a stated order: the first that does not hold is the one that is told.
use Rattle.std.specs.Prelude.{◌≡◌, ◌⊎◌, Option, Some, None, IsSome}

-- what a rule finds: nothing where it holds, and else its fault
abbrev pub unless : {F : Type 0} → Type 0 → F → Option F → Type 0
unless holds fault found = (holds × (found ≡ None)) ⊎ ((holds → ⊥) × (found ≡ Some fault))

infixr 3 ◌then_by◌
-- what the first rules find, or else what the further rules find
abbrev pub ◌then_by◌ : {F : Type 0} → (Option F → Type 0) → (Option F → Type 0) → Option F → Type 0
(first then_by further) found = (IsSome found × first found) ⊎ (first None × further found)
