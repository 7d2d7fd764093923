-- Facts of entries by number.
use Rattle.std.proofs.Common.{ℕ, zero, suc, ◌≡◌, refl, ap, sym, ◌∙◌, List, Option, None, [], ◌∷◌, ◌++◌, map, option_map}
use Rattle.std.proofs.Math.ListN.{get_or-map}
use Rattle.leaf_tasks.specs.Entries.{entry_at}

-- a missing entry at the end changes none
pub entry_at_push : {A : Type 0} (xs : List (Option A)) (k : ℕ) → entry_at (xs ++ None ∷ []) k ≡ entry_at xs k
entry_at_push [] zero = refl
entry_at_push [] (suc k) = refl
entry_at_push (x ∷ xs) zero = refl
entry_at_push (x ∷ xs) (suc k) = entry_at_push xs k

-- an entry is looked up before or after it is seen as another thing
pub entry_at_map : {A B : Type 0} (f : A → B) (xs : List (Option A)) (k : ℕ) → entry_at (map (option_map f) xs) k ≡ option_map f (entry_at xs k)
entry_at_map f xs k = get_or-map (option_map f) xs k None

-- an entry that is kept is also kept as it is seen
pub entry_kept : {A B : Type 0} (f : A → B) (old new : List (Option A)) (seen : List (Option B)) (k : ℕ) → map (option_map f) old ≡ seen → entry_at new k ≡ entry_at old k → entry_at (map (option_map f) new) k ≡ entry_at seen k
entry_kept f old new seen k view_is kept = entry_at_map f new k ∙ ap (option_map f) kept ∙ sym (entry_at_map f old k) ∙ ap (λ xs. entry_at xs k) view_is
