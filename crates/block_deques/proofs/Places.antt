-- Reading lists at a place.
use Rattle.std.proofs.Common.{◌≡◌, ◌≢◌, ℕ, zero, suc, ◌<◌, ◌⊎◌, List, [], ◌∷◌, ◌++◌, length, map, set, Some, slice_get, get_or, inl, inr, ⊎_elim, refl, ap, sym, ◌∙◌, arith}

-- an item at a place is one item
pub some_same : {A : Type 0} (x y : A) → Some x ≡ Some y → x ≡ y
some_same x y e = cc e

-- what stands in a list with one item more stood there before or is the new one
pub got_end : {A : Type 0} (xs : List A) (x u : A) (k : ℕ) → slice_get (xs ++ x ∷ []) k ≡ Some u → (slice_get xs k ≡ Some u) ⊎ ((k ≡ length xs) × (x ≡ u))
got_end [] x u zero e = inr (refl, cc e)
got_end [] x u (suc k) e = absurd (cc e)
got_end (y ∷ xs) x u zero e = inl e
got_end (y ∷ xs) x u (suc k) e = ⊎_elim (λ t. inl t) (λ (t : (k ≡ length xs) × (x ≡ u)). inr (ap suc t.0, t.1)) (got_end xs x u k e)

-- the new item stands at the end
pub got_last : {A : Type 0} (xs : List A) (x : A) → slice_get (xs ++ x ∷ []) (length xs) ≡ Some x
got_last [] x = refl
got_last (y ∷ xs) x = got_last xs x

-- an item stands behind those before it
pub at_seam : {A : Type 0} (xs : List A) (x : A) (ys : List A) → slice_get (xs ++ x ∷ ys) (length xs) ≡ Some x
at_seam [] x ys = refl
at_seam (z ∷ xs) x ys = at_seam xs x ys

-- what stands in a list stands in a longer one
pub got_longer : {A : Type 0} (xs ys : List A) (u : A) (k : ℕ) → slice_get xs k ≡ Some u → slice_get (xs ++ ys) k ≡ Some u
got_longer [] ys u k e = absurd (cc e)
got_longer (y ∷ xs) ys u zero e = e
got_longer (y ∷ xs) ys u (suc k) e = got_longer xs ys u k e

-- after a write, a place has the new item or what it had
pub set_cases : {A : Type 0} (xs : List A) (i : ℕ) (y u : A) (k : ℕ) → slice_get (set xs i y) k ≡ Some u → ((k ≡ i) × (y ≡ u)) ⊎ ((k ≢ i) × (slice_get xs k ≡ Some u))
set_cases [] i y u k e = absurd (cc e)
set_cases (x ∷ xs) zero y u zero e = inl (refl, cc e)
set_cases (x ∷ xs) zero y u (suc k) e = inr ((λ h. omega arith), e)
set_cases (x ∷ xs) (suc i) y u zero e = inr ((λ h. omega arith), e)
set_cases (x ∷ xs) (suc i) y u (suc k) e = ⊎_elim (λ t. inl (ap suc t.0, t.1)) (λ t. let n = t.0 in inr ((λ h. n (omega arith)), t.1)) (set_cases xs i y u k e)

-- what is read by default within a list stands there
pub item_there : {A : Type 0} (xs : List A) (i : ℕ) (x : A) → i < length xs → x ≡ get_or xs i x → slice_get xs i ≡ Some x
item_there [] i x l e = absurd (omega arith)
item_there (z ∷ xs) zero x l e = ap (λ u. Some u) (sym e)
item_there (z ∷ xs) (suc i) x l e = item_there xs i x (omega arith) e

-- there is an item at each place
pub there : {A : Type 0} (xs : List A) (k : ℕ) → k < length xs → (x : A) × (slice_get xs k ≡ Some x)
there [] k l = absurd (omega arith)
there (x ∷ xs) zero l = (x, refl)
there (x ∷ xs) (suc k) l = there xs k (omega arith)

-- after a write, the item stands at its place and the others stay
pub got_set : {A : Type 0} (xs : List A) (i : ℕ) (x y : A) → slice_get xs i ≡ Some x → (slice_get (set xs i y) i ≡ Some y) × ((k : ℕ) → k ≢ i → slice_get (set xs i y) k ≡ slice_get xs k)
got_set [] i x y at = absurd (cc at)
got_set (z ∷ xs) zero x y at = (refl, elsewhere)
  where
    elsewhere : (k : ℕ) → k ≢ 0 → slice_get (set (z ∷ xs) 0 y) k ≡ slice_get (z ∷ xs) k
    elsewhere zero ne = absurd (ne refl)
    elsewhere (suc k) ne = refl
got_set (z ∷ xs) (suc i) x y at = let r = got_set xs i x y at in (r.0, elsewhere r.1)
  where
    elsewhere : ((k : ℕ) → k ≢ i → slice_get (set xs i y) k ≡ slice_get xs k) → (k : ℕ) → k ≢ suc i → slice_get (set (z ∷ xs) (suc i) y) k ≡ slice_get (z ∷ xs) k
    elsewhere r zero ne = refl
    elsewhere r (suc k) ne = r k (λ e. ne (ap suc e))

-- a change that f does not see
pub map-set_same : {A B : Type 0} (f : A → B) (xs : List A) (i : ℕ) (x y : A) → slice_get xs i ≡ Some x → f y ≡ f x → map f (set xs i y) ≡ map f xs
map-set_same f [] i x y at e = absurd (cc at)
map-set_same f (z ∷ xs) zero x y at e = ap (λ u. u ∷ map f xs) (e ∙ ap f (some_same x z (sym at)))
map-set_same f (z ∷ xs) (suc i) x y at e = ap (λ us. f z ∷ us) (map-set_same f xs i x y at e)

-- two lists that give the same at each place
pub map-pointwise : {A B C : Type 0} (f : A → C) (g : B → C) (xs : List A) (ys : List B) → length xs ≡ length ys → ((k : ℕ) (x : A) (y : B) → slice_get xs k ≡ Some x → slice_get ys k ≡ Some y → f x ≡ g y) → map f xs ≡ map g ys
map-pointwise f g [] [] e same = refl
map-pointwise f g [] (y ∷ ys) e same = absurd (omega arith)
map-pointwise f g (x ∷ xs) [] e same = absurd (omega arith)
map-pointwise {A} {B} {C} f g (x ∷ xs) (y ∷ ys) e same =
    let first : f x ≡ g y = same 0 x y refl refl in
    let rest : map f xs ≡ map g ys = map-pointwise f g xs ys (omega arith) (λ k u v a b. same (suc k) u v a b) in
    ap (λ (u : C). u ∷ map f xs) first ∙ ap (λ (us : List C). g y ∷ us) rest

-- what a mapped list has at a place comes from there
pub got_map : {A B : Type 0} (f : A → B) (xs : List A) (k : ℕ) (y : B) → slice_get (map f xs) k ≡ Some y → (x : A) × (slice_get xs k ≡ Some x) × (f x ≡ y)
got_map f [] k y e = absurd (cc e)
got_map f (x ∷ xs) zero y e = (x, refl, some_same (f x) y e)
got_map f (x ∷ xs) (suc k) y e = got_map f xs k y e

-- what a mapped list has at the place of an item
pub map_got : {A B : Type 0} (f : A → B) (xs : List A) (k : ℕ) (x : A) → slice_get xs k ≡ Some x → slice_get (map f xs) k ≡ Some (f x)
map_got f [] k x e = absurd (cc e)
map_got f (z ∷ xs) zero x e = ap (λ u. Some (f u)) (some_same z x e)
map_got f (z ∷ xs) (suc k) x e = map_got f xs k x e
