-- What a loop over numbers has written so far.
use Rattle.std.proofs.Common.{◌≡◌, ℕ, ◌+◌, List, [], ◌∷◌, ◌++◌, sym, ap, ◌∙◌}
use Rattle.std.specs.List.{flat_map, range_with_len}
use Rattle.std.proofs.Math.Nat.{zero-add}
use Rattle.std.proofs.lemmas.List.{flat_map_more, map-id}
use Rattle.std.proofs.lemmas.List.FromFn.{map-range_with_len_more}

-- one number more
next : (n : ℕ) → range_with_len 0 (n + 1) ≡ range_with_len 0 n ++ n ∷ []
next n =
    sym (map-id (range_with_len 0 (n + 1))) ∙ map-range_with_len_more (λ (i : ℕ). i) 0 n n (zero-add n)
    ∙ ap (λ ns. ns ++ n ∷ []) (map-id (range_with_len 0 n))

-- with the text of the next number, a loop over numbers has written the texts of one number more
pub counted_more : (f : ℕ → List ℕ) (n : ℕ) (text old new : List ℕ) → old ≡ text ++ flat_map f (range_with_len 0 n) → new ≡ old ++ f n → new ≡ text ++ flat_map f (range_with_len 0 (n + 1))
counted_more f n text old new is_old is_new =
    is_new ∙ ap (λ bytes. bytes ++ f n) is_old ∙ flat_map_more f text (range_with_len 0 n) n
    ∙ ap (λ ns. text ++ flat_map f ns) (sym (next n))
