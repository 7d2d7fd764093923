-- Lists of three items.
use Rattle.std.proofs.Common.{◌≡◌, ◌≤◌, ◌<◌, List, [], ◌∷◌, length, get_or, refl, arith}

-- a list of three has these three items
pub three_items : {A : Type 0} (items : List A) (one two three : A) → 3 ≤ length items → length items < 4 → one ≡ get_or items 0 one → two ≡ get_or items 1 two → three ≡ get_or items 2 three → items ≡ one ∷ two ∷ three ∷ []
three_items [] one two three least most first second third = absurd (omega (arith, least))
three_items (a ∷ []) one two three least most first second third = absurd (omega (arith, least))
three_items (a ∷ b ∷ []) one two three least most first second third = absurd (omega (arith, least))
three_items (a ∷ b ∷ c ∷ []) one two three least most first second third = rw (first, second, third) refl
three_items (a ∷ b ∷ c ∷ d ∷ items) one two three least most first second third = absurd (omega (arith, most))
