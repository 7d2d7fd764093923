-- Lists that grow by one item for each number, and the states behind the draws of each.
use Rattle.std.proofs.Common.{◌≡◌, ℕ, ◌+◌, ◌*◌, List, [], ◌∷◌, ◌++◌, map, refl, sym, ap, ◌∙◌, append_assoc, add-one, arith}
use Rattle.std.specs.List.{range_with_len}
use Rattle.std.proofs.Math.Nat.{zero-add}
use Rattle.std.proofs.lemmas.List.FromFn.{map-range_with_len_more}
use Rattle.instance_maker.specs.Draws.{next_state, state_after}

-- one item more
pub item_more : {X : Type 0} (f : ℕ → X) (n : ℕ) (x : X) (old new : List X) → old ≡ map f (range_with_len 0 n) → x ≡ f n → new ≡ old ++ x ∷ [] → new ≡ map f (range_with_len 0 (n + 1))
item_more f n x old new is_old is_x is_new =
    is_new ∙ ap (λ ys. old ++ ys ∷ []) is_x ∙ ap (λ ys. ys ++ f n ∷ []) is_old ∙ sym (map-range_with_len_more f 0 n n (zero-add n))

-- one item more behind others
pub item_behind : {X : Type 0} (f : ℕ → X) (n : ℕ) (x : X) (front old new : List X) → old ≡ front ++ map f (range_with_len 0 n) → x ≡ f n → new ≡ old ++ x ∷ [] → new ≡ front ++ map f (range_with_len 0 (n + 1))
item_behind f n x front old new is_old is_x is_new =
    is_new ∙ ap (λ ys. old ++ ys ∷ []) is_x ∙ ap (λ ys. ys ++ f n ∷ []) is_old ∙ append_assoc front (map f (range_with_len 0 n)) (f n ∷ []) ∙ ap (λ ys. front ++ ys) (sym (map-range_with_len_more f 0 n n (zero-add n)))

-- one draw more
next : (first n : ℕ) → state_after first (n + 1) ≡ next_state (state_after first n)
next first n = rw add-one refl

-- the state behind two more draws
pub two_more : (first i : ℕ) → next_state (next_state (state_after first (2 * i))) ≡ state_after first (2 * (i + 1))
two_more first i =
    let e : 2 * (i + 1) ≡ 2 * i + 1 + 1 = omega arith in
    sym (ap (state_after first) e ∙ next first (2 * i + 1) ∙ ap next_state (next first (2 * i)))

-- the state behind three more draws
pub three_more : (first i : ℕ) → next_state (next_state (next_state (state_after first (3 * i)))) ≡ state_after first (3 * (i + 1))
three_more first i =
    let e : 3 * (i + 1) ≡ 3 * i + 1 + 1 + 1 = omega arith in
    sym (ap (state_after first) e ∙ next first (3 * i + 1 + 1) ∙ ap next_state (next first (3 * i + 1) ∙ ap next_state (next first (3 * i))))

-- the steps of loops that make a list from draws
pub ruleset list_steps = (item_more, item_behind, two_more, three_more)
