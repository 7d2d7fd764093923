-- A limit before others that are shared one by one.
use Rattle.std.proofs.Common.{◌≡◌, ℕ, ◌+◌, ◌<◌, List, [], ◌∷◌, ◌++◌, length, get_or, take, map, sym, ap, ◌∙◌}
use Rattle.std.proofs.lemmas.List.{map-append, take_more}

module _ {X Y : Type 0} (f : X → Y) (first : Y) where
  -- one more limit is shared
  pub limits_next : (all xs : List X) (i : ℕ) (x y : X) → i < length xs → y ≡ get_or xs i y → f x ≡ f y → map f all ≡ first ∷ map f (take i xs)
      → map f (all ++ (x ∷ [])) ≡ first ∷ map f (take (i + 1) xs)
  limits_next all xs i x y within read same before =
      let more : map f (take (i + 1) xs) ≡ map f (take i xs) ++ (f (get_or xs i y) ∷ []) = ap (map f) (take_more xs i y within) ∙ map-append f (take i xs) (get_or xs i y ∷ []) in
      let item : f x ≡ f (get_or xs i y) = same ∙ ap f read in
      map-append f all (x ∷ [])
      ∙ (ap (λ (zs : List Y). zs ++ (f x ∷ [])) before
      ∙ (ap (λ (z : Y). first ∷ (map f (take i xs) ++ (z ∷ []))) item ∙ ap (λ (zs : List Y). first ∷ zs) (sym more)))
