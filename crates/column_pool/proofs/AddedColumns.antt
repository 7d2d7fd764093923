-- An addition keeps the columns of a demand different simple paths, and not too many.
use Rattle.std.proofs.Common.{◌≡◌, ◌≢◌, ℕ, zero, suc, ◌+◌, ◌<◌, ◌⊎◌, inl, inr, Bool, true, false, not, ◌||◌, ◌&&◌, ◌==◌, List, [], ◌∷◌, ◌++◌, length, get_or, take, drop, Option, Some, None, slice_get, refl, sym, ap, subst, ◌∙◌, arith, length-append, length-drop}
use Rattle.std.specs.Prelude.{nat_lt, if◌then◌else◌, filter}
use Rattle.std.proofs.lemmas.Bool.{ltb-true, eqb-false}
use Rattle.std.proofs.lemmas.List.{get_or-set_same, get_or-set_other, get_or-replicate, length-set, length-replicate, append-nil}
use Rattle.std.proofs.lemmas.List.Elements.{All-push, All-drop, All-nil, All-cons, All-head, All-tail, filter_more}
use Rattle.plan_base.specs.declared.ids.ArcId.{ArcId}
use Rattle.plan_base.specs.declared.parts.Parts.{Parts}
use Rattle.plan_base.specs.Arcs.{demand_at}
use Rattle.plan_base.specs.Paths.{IsSimplePath}
use Rattle.arc_restrict.specs.Restrictions.{Forbidden, IsPermitted}
use Rattle.column_pool.specs.declared.limits.TheConstants.{MAX_COLUMNS}
use Rattle.column_pool.specs.Columns.{Columns, columns_at, no_columns, is_same_path, is_column, with_last, column_added, columns_with, is_permitted, AreColumnsOf, AreColumns}

is_same_path-same : (path : List ArcId) → is_same_path path path ≡ true
is_same_path-same [] = refl
is_same_path-same (a ∷ path) = by (a.0 == a.0) refl (is_same_path-same path)
  where
    by : (b : Bool) → (a.0 == a.0) ≡ b → is_same_path path path ≡ true → (b && is_same_path path path) ≡ true
    by true e h = h
    by false e h = absurd (eqb-false _ _ e refl)

or_true : (b : Bool) → (b || true) ≡ true
or_true true = refl
or_true false = refl

-- a path that is read is a column
is_column-at : (paths : List (List ArcId)) (i : ℕ) (path : List ArcId) → slice_get paths i ≡ Some path → is_column paths path ≡ true
is_column-at [] i path is = absurd (cc)
is_column-at (other ∷ paths) zero path is =
    let same : other ≡ path = cc in
    let here : is_same_path other path ≡ true = subst (λ (x : List ArcId). is_same_path x path ≡ true) (sym same) (is_same_path-same path) in
    rw here refl
is_column-at (other ∷ paths) (suc i) path is = rw (is_column-at paths i path is) (or_true (is_same_path other path))

-- the last of a list is a column
is_column-last : (paths : List (List ArcId)) (path : List ArcId) → is_column (paths ++ path ∷ []) path ≡ true
is_column-last [] path = rw (is_same_path-same path) refl
is_column-last (other ∷ paths) path = rw (is_column-last paths path) (or_true (is_same_path other path))

-- after a path is added, it is one of the columns
pub is_column-added : (paths : List (List ArcId)) (path : List ArcId) → is_column (column_added paths path) path ≡ true
is_column-added paths path = by (is_column paths path) refl
  where
    by : (b : Bool) → is_column paths path ≡ b → is_column (if b then paths else with_last paths path) path ≡ true
    by true e = e
    by false e = is_column-last (if nat_lt (length paths) MAX_COLUMNS then paths else drop 1 paths) path

-- where a path stands in a longer list
slice_get-append_cases : (xs ys : List (List ArcId)) (i : ℕ) (z : List ArcId) → slice_get (xs ++ ys) i ≡ Some z → (slice_get xs i ≡ Some z) ⊎ ((j : ℕ) × (i ≡ length xs + j) × (slice_get ys j ≡ Some z))
slice_get-append_cases [] ys i z is = inr (i, omega arith, is)
slice_get-append_cases (x ∷ xs) ys zero z is = inl is
slice_get-append_cases (x ∷ xs) ys (suc i) z is =
    elim (slice_get-append_cases xs ys i z is) [ inl w ↦ inl w | inr w ↦ inr (w.0, (let e = w.1 in omega arith), w.2) ]

-- the oldest goes
AreColumnsOf-drop : (p : Parts) (k : ℕ) (paths : List (List ArcId)) → AreColumnsOf p k paths → AreColumnsOf p k (drop 1 paths)
AreColumnsOf-drop p k [] h = h
AreColumnsOf-drop p k (path ∷ paths) h = record {
  simple = All-drop (λ x. IsSimplePath p (demand_at p k) x) 1 (path ∷ paths) h.simple;
  few = (let c = h.few in omega arith);
  different = λ i j x a b. (let e : suc i ≡ suc j = h.different (suc i) (suc j) x a b in omega arith);
}

not_in-drop : (paths : List (List ArcId)) (path : List ArcId) → is_column paths path ≡ false → is_column (drop 1 paths) path ≡ false
not_in-drop [] path h = h
not_in-drop (other ∷ paths) path h = second (is_same_path other path) (is_column paths path) h
  where
    second : (a b : Bool) → (a || b) ≡ false → b ≡ false
    second true b e = absurd (cc)
    second false b e = e

-- a new path goes to the end
AreColumnsOf-push : (p : Parts) (k : ℕ) (paths : List (List ArcId)) (path : List ArcId) → AreColumnsOf p k paths → length paths < MAX_COLUMNS → IsSimplePath p (demand_at p k) path
    → is_column paths path ≡ false → AreColumnsOf p k (paths ++ (path ∷ []))
AreColumnsOf-push p k paths path h room simple new = record {
  simple = All-push (λ x. IsSimplePath p (demand_at p k) x) paths path h.simple simple;
  few = (let l = length-append paths (path ∷ []) in omega arith);
  different = λ i j x a b. elim (slice_get-append_cases paths (path ∷ []) i x a) [
    | inl u ↦ elim (slice_get-append_cases paths (path ∷ []) j x b) [
      | inl v ↦ h.different i j x u v
      | inr v ↦ absurd (not_both i x u v.0 v.2)
    ]
    | inr u ↦ elim (slice_get-append_cases paths (path ∷ []) j x b) [
      | inl v ↦ absurd (not_both j x v u.0 u.2)
      | inr v ↦ (let a0 = only u.0 x u.2 in let b0 = only v.0 x v.2 in let c = u.1 in let d = v.1 in omega arith)
    ]
  ];
}
  where
    only : (i : ℕ) (x : List ArcId) → slice_get (path ∷ []) i ≡ Some x → i ≡ 0
    only zero x is = refl
    only (suc i) x is = absurd (let bad : ◌≡◌ {A = Option (List ArcId)} None (Some x) = is in cc)

    is_path : (i : ℕ) (x : List ArcId) → slice_get (path ∷ []) i ≡ Some x → x ≡ path
    is_path zero x is = cc
    is_path (suc i) x is = absurd (let bad : ◌≡◌ {A = Option (List ArcId)} None (Some x) = is in cc)

    not_both : (i : ℕ) (x : List ArcId) → slice_get paths i ≡ Some x → (j : ℕ) → slice_get (path ∷ []) j ≡ Some x → ⊥
    not_both i x u j v =
        let same : x ≡ path = is_path j x v in
        let yes : is_column paths path ≡ true = is_column-at paths i path (u ∙ ap (λ (y : List ArcId). Some y) same) in
        let bad : true ≡ false = sym yes ∙ new in
        cc

AreColumnsOf-added : (p : Parts) (k : ℕ) (paths : List (List ArcId)) (path : List ArcId) → AreColumnsOf p k paths → IsSimplePath p (demand_at p k) path → AreColumnsOf p k (column_added paths path)
AreColumnsOf-added p k paths path h simple = by (is_column paths path) refl
  where
    push : (b : Bool) → nat_lt (length paths) MAX_COLUMNS ≡ b → is_column paths path ≡ false → AreColumnsOf p k ((if b then paths else drop 1 paths) ++ (path ∷ []))
    push true less new = AreColumnsOf-push p k paths path h (ltb-true _ _ less) simple new
    push false more new =
        AreColumnsOf-push p k (drop 1 paths) path (AreColumnsOf-drop p k paths h) (let l = length-drop 1 paths in let c = h.few in omega arith) simple (not_in-drop paths path new)

    by : (b : Bool) → is_column paths path ≡ b → AreColumnsOf p k (if b then paths else with_last paths path)
    by true e = h
    by false e = push (nat_lt (length paths) MAX_COLUMNS) refl e

either_same : (x y : ℕ) → (x ≡ y) ⊎ (x ≢ y)
either_same x y = grind arith

-- adding a simple path of a demand to its columns keeps all columns lawful
pub AreColumns-with : (p : Parts) (columns : Columns) (k : ℕ) (path : List ArcId) → AreColumns p columns → k < length p.demands → IsSimplePath p (demand_at p k) path → AreColumns p (columns_with columns k path)
AreColumns-with p columns k path h within simple = record {
  count = length-set columns k (column_added (columns_at columns k) path) ∙ h.count;
  each = λ j below. elim (either_same j k) [
    | inl here ↦ subst (λ (i : ℕ). AreColumnsOf p i (columns_at (columns_with columns k path) i)) (sym here)
        (subst (AreColumnsOf p k) (sym (get_or-set_same columns k (column_added (columns_at columns k) path) [] (let c = h.count in omega arith)))
        (AreColumnsOf-added p k (columns_at columns k) path (h.each k within) simple))
    | inr there ↦ subst (AreColumnsOf p j) (sym (get_or-set_other columns k j (column_added (columns_at columns k) path) [] there)) (h.each j below)
  ];
}

AreColumnsOf-none : (p : Parts) (k : ℕ) → AreColumnsOf p k []
AreColumnsOf-none p k = record {
  simple = All-nil (λ x. IsSimplePath p (demand_at p k) x);
  few = omega arith;
  different = λ i j x a b. absurd (let bad : ◌≡◌ {A = Option (List ArcId)} None (Some x) = a in cc);
}

-- no columns are lawful ones
pub AreColumns-none : (p : Parts) → AreColumns p (no_columns p)
AreColumns-none p = record {
  count = length-replicate {A = List (List ArcId)} (length p.demands) [];
  each = λ k below. subst (AreColumnsOf p k) (sym (get_or-replicate {A = List (List ArcId)} (length p.demands) k [] [] below)) (AreColumnsOf-none p k);
}

-- the test tells whether the path is permitted
pub IsPermitted-told : (r : Forbidden) (k : ℕ) (path : List ArcId) → is_permitted r k path ≡ true → IsPermitted r k path
IsPermitted-told r k [] h = All-nil (λ a. r k a ≡ false)
IsPermitted-told r k (a ∷ path) h = by (r k a) refl h (IsPermitted-told r k path)
  where
    by : (b : Bool) → r k a ≡ b → (not b && is_permitted r k path) ≡ true → (is_permitted r k path ≡ true → IsPermitted r k path) → IsPermitted r k (a ∷ path)
    by true e bad rest = absurd (cc)
    by false e told rest = All-cons (λ x. r k x ≡ false) a path e (rest told)

-- a permitted path passes the test
pub told-IsPermitted : (r : Forbidden) (k : ℕ) (path : List ArcId) → IsPermitted r k path → is_permitted r k path ≡ true
told-IsPermitted r k [] h = refl
told-IsPermitted r k (a ∷ path) h =
    let here : r k a ≡ false = All-head (λ x. r k x ≡ false) a path h in
    rw (here, told-IsPermitted r k path (All-tail (λ x. r k x ≡ false) a path h)) refl

-- one column more is looked at
pub kept_next : (r : Forbidden) (k : ℕ) (columns kept : List (List ArcId)) (i : ℕ) (path : List ArcId) → i < length columns → path ≡ get_or columns i path → kept ≡ filter (is_permitted r k) (take i columns)
    → IsPermitted r k path → kept ++ path ∷ [] ≡ filter (is_permitted r k) (take (i + 1) columns)
kept_next r k columns kept i path within read is permitted =
    let next = filter_more (is_permitted r k) columns i path within in
    let told : is_permitted r k (get_or columns i path) ≡ true = subst (λ (x : List ArcId). is_permitted r k x ≡ true) read (told-IsPermitted r k path permitted) in
    let same : filter (is_permitted r k) (take (i + 1) columns) ≡ filter (is_permitted r k) (take i columns) ++ get_or columns i path ∷ [] = rw told at next in
    ap (λ (xs : List (List ArcId)). xs ++ path ∷ []) is ∙ ap (λ (x : List ArcId). filter (is_permitted r k) (take i columns) ++ x ∷ []) read ∙ sym same

-- a column that is not permitted is left out
pub skipped_next : (r : Forbidden) (k : ℕ) (columns kept : List (List ArcId)) (i : ℕ) (path : List ArcId) → i < length columns → path ≡ get_or columns i path → kept ≡ filter (is_permitted r k) (take i columns)
    → (IsPermitted r k path → ⊥) → kept ≡ filter (is_permitted r k) (take (i + 1) columns)
skipped_next r k columns kept i path within read is refused = by (is_permitted r k path) refl
  where
    next : filter (is_permitted r k) (take (i + 1) columns) ≡ filter (is_permitted r k) (take i columns) ++ (if is_permitted r k (get_or columns i path) then get_or columns i path ∷ [] else [])
    next = filter_more (is_permitted r k) columns i path within

    by : (b : Bool) → is_permitted r k path ≡ b → kept ≡ filter (is_permitted r k) (take (i + 1) columns)
    by true e = absurd (refused (IsPermitted-told r k path e))
    by false e =
        let told : is_permitted r k (get_or columns i path) ≡ false = subst (λ (x : List ArcId). is_permitted r k x ≡ false) read e in
        is ∙ sym (rw told at next ∙ append-nil (filter (is_permitted r k) (take i columns)))
