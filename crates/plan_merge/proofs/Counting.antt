-- What the loops of merging keep.
use Rattle.std.proofs.Common.{◌≡◌, ℕ, zero, suc, ◌+◌, ◌-◌, ◌≤◌, ◌<◌, List, [], ◌∷◌, ◌++◌, get_or, drop, length, Bool, true, false, Option, arith, refl, sym, ap, ap₂, subst, ◌∙◌, append_assoc}
use Rattle.std.specs.Prelude.{◌&&◌, ◌||◌, ◌==◌, if◌then◌else◌, ℤ}
use Rattle.plan_base.specs.declared.ids.ArcId.{ArcId}
use Rattle.proof_tree.specs.Plans.{is_open}
use Rattle.proof_tree.specs.declared.tree.TreeNode.{TreeNode}
use Rattle.proof_tree.specs.declared.tree.TreeNode.TheVariants.{Split, Loads, Leaf}
use Rattle.plan_merge.specs.declared.bounded_record.BoundedRecord.{BoundedRecord}
use Rattle.plan_merge.specs.Merging.{trees_behind, trees_length, first_tree, behind_first, same_arcs, same_split, lesser, least_bound, some_open, examined_of, better_of, merged_by, merged}
use Rattle.plan_merge.proofs.MergeLaws.{behind-shorter}

-- a list from a place on is the item there and what is behind it
pub drop-read : {A : Type 0} (xs : List A) (i : ℕ) (x : A) → i < length xs → x ≡ get_or xs i x → drop i xs ≡ x ∷ drop (suc i) xs
drop-read [] i x within is = absurd (omega arith)
drop-read (y ∷ ys) zero x within is = ap (λ z. z ∷ ys) (sym is)
drop-read (y ∷ ys) (suc i) x within is = drop-read ys i x (omega arith) is

-- the same of the item before a place
pub drop-before : {A : Type 0} (xs : List A) (n : ℕ) (x : A) → 0 < n → n ≤ length xs → x ≡ get_or xs (n - 1) x → drop (n - 1) xs ≡ x ∷ drop n xs
drop-before xs n x some within is =
    let next : suc (n - 1) ≡ n = omega arith in
    drop-read xs (n - 1) x (omega arith) is ∙ ap (λ m. x ∷ drop m xs) next

-- so many items from the end on were read
pub record IsLeastFrom (xs : List BoundedRecord) (least : Option ℤ) (place : ℕ) : Type 0 where
  pub within : place ≤ length xs
  pub is : least ≡ least_bound (drop place xs)

pub record IsSomeFrom (xs : List BoundedRecord) (some : Bool) (place : ℕ) : Type 0 where
  pub within : place ≤ length xs
  pub is : some ≡ some_open (drop place xs)

pub record IsCountFrom (xs : List BoundedRecord) (count place : ℕ) : Type 0 where
  pub within : count + place ≤ length xs
  pub is : count ≡ examined_of (drop place xs)

pub least-next : (xs : List BoundedRecord) (least now : Option ℤ) (n : ℕ) (x : BoundedRecord) → IsLeastFrom xs least n → 0 < n → x ≡ get_or xs (n - 1) x → now ≡ lesser x.bound least → IsLeastFrom xs now (n - 1)
least-next xs least now n x h some read is = record {
  within = (let w = h.within in omega arith);
  is = is ∙ ap (lesser x.bound) h.is ∙ sym (ap least_bound (drop-before xs n x some h.within read));
}

pub some-next : (xs : List BoundedRecord) (some now here : Bool) (n : ℕ) (x : BoundedRecord) → IsSomeFrom xs some n → 0 < n → x ≡ get_or xs (n - 1) x → here ≡ is_open x.node → now ≡ (here || some) → IsSomeFrom xs now (n - 1)
some-next xs some now here n x h positive read open' is = record {
  within = (let w = h.within in omega arith);
  is = is ∙ ap₂ (λ (a b : Bool). a || b) open' h.is ∙ sym (ap some_open (drop-before xs n x positive h.within read));
}

pub count-next : (xs : List BoundedRecord) (count here : ℕ) (n : ℕ) (x : BoundedRecord) → IsCountFrom xs count n → 0 < n → x ≡ get_or xs (n - 1) x → here ≡ (if is_open x.node then 0 else 1) → here ≤ 1 → IsCountFrom xs (here + count) (n - 1)
count-next xs count here n x h some read is few = record {
  within = (let w = h.within in omega arith);
  is = ap₂ (λ (a b : ℕ). a + b) is h.is ∙ sym (ap examined_of (drop-before xs n x some (let w = h.within in omega arith) read));
}

-- the records so far and those of the trees to come are those of the first tree
pub record IsCounting (nodes : List BoundedRecord) (left place : ℕ) : Type 0 where
  pub sum : place + trees_length left (drop place nodes) ≡ trees_length 1 nodes
  pub few : left ≤ place + 1

pub counting-next : (nodes : List BoundedRecord) (left next place : ℕ) (x : BoundedRecord) → IsCounting nodes left place → 0 < left → place < length nodes → x ≡ get_or nodes place x → next ≡ trees_behind (left - 1) x.node → IsCounting nodes next (place + 1)
counting-next nodes left next place x h some within read is =
    let next_place : suc place ≡ place + 1 = omega arith in
    let before : suc (left - 1) ≡ left = omega arith in
    let read_here : drop place nodes ≡ x ∷ drop (place + 1) nodes = drop-read nodes place x within read ∙ ap (λ (m : ℕ). x ∷ drop m nodes) next_place in
    let here : trees_length left (drop place nodes) ≡ suc (trees_length next (drop (place + 1) nodes)) =
    ap (λ (n : ℕ). trees_length n (drop place nodes)) (sym before) ∙ ap (trees_length (suc (left - 1))) read_here ∙ ap (λ (n : ℕ). suc (trees_length n (drop (place + 1) nodes))) (sym is) in
    record { sum = (let s = h.sum in omega arith); few = (let f = h.few in let b = behind-few (left - 1) x.node in omega arith) }
  where
    behind-few : (k : ℕ) (node : TreeNode) → trees_behind k node ≤ k + 2
    behind-few k (Leaf found) = omega arith
    behind-few k (Split id at left right) = omega arith
    behind-few k (Loads p load) = omega arith

pub counting-end : (nodes : List BoundedRecord) (place : ℕ) → IsCounting nodes 0 place → place ≡ trees_length 1 nodes
counting-end nodes place h = let s = h.sum in let none : trees_length 0 (drop place nodes) ≡ 0 = none_left (drop place nodes) in omega arith
  where
    none_left : (xs : List BoundedRecord) → trees_length 0 xs ≡ 0
    none_left xs = refl

pub counting-all : (nodes : List BoundedRecord) (left place : ℕ) → IsCounting nodes left place → length nodes ≤ place → place ≡ trees_length 1 nodes
counting-all nodes left place h past = let s = h.sum in let none = none_behind left (drop place nodes) (drop_past place nodes past) in omega arith
  where
    drop_past : (n : ℕ) (xs : List BoundedRecord) → length xs ≤ n → drop n xs ≡ []
    drop_past zero [] h = refl
    drop_past zero (x ∷ xs) h = absurd (omega arith)
    drop_past (suc n) [] h = refl
    drop_past (suc n) (x ∷ xs) h = drop_past n xs (omega arith)

    none_behind : (k : ℕ) (xs : List BoundedRecord) → xs ≡ [] → trees_length k xs ≡ 0
    none_behind zero xs is = refl
    none_behind (suc k) xs is = ap (trees_length (suc k)) is

-- what is merged so far, and what the rests come to, are both trees merged
pub record IsMerging (one other all ones others : List BoundedRecord) : Type 0 where
  pub fuel : ℕ
  pub enough : length ones ≤ fuel
  pub same : all ++ merged_by fuel ones others ≡ merged one other

pub drop-shorter : (n : ℕ) (xs : List BoundedRecord) → length (drop n xs) ≤ length xs
drop-shorter zero xs = omega arith
drop-shorter (suc n) [] = omega arith
drop-shorter (suc n) (x ∷ xs) = let shorter = drop-shorter n xs in omega arith

-- lists of different lengths are not the same
pub differ-false : (xs ys : List ArcId) → (length xs ≡ length ys → ⊥) → false ≡ same_arcs xs ys
differ-false [] [] differ = absurd (differ refl)
differ-false [] (y ∷ ys) differ = refl
differ-false (x ∷ xs) [] differ = refl
differ-false (x ∷ xs) (y ∷ ys) differ = sym (ap (λ (b : Bool). x.0 == y.0 && b) (sym (differ-false xs ys (λ same. differ (omega arith)))) ∙ and-false (x.0 == y.0))
  where
    and-false : (b : Bool) → (b && false) ≡ false
    and-false true = refl
    and-false false = refl

-- both rests begin with the same split
pub merging-same : (one other all ones others all' ones' others' : List BoundedRecord) (x y z copy : BoundedRecord) → IsMerging one other all ones others → 0 < length ones → 0 < length others
    → same_split (get_or ones 0 x).node (get_or others 0 y).node ≡ true → copy ≡ get_or ones 0 z → all' ≡ all ++ (copy ∷ []) → ones' ≡ drop 1 ones → others' ≡ drop 1 others → IsMerging one other all' ones' others'
merging-same one other all [] others all' ones' others' x y z copy h some some' same copied more rest rest' = absurd (omega arith)
merging-same one other all (u ∷ us) [] all' ones' others' x y z copy h some some' same copied more rest rest' = absurd (omega arith)
merging-same one other all (u ∷ us) (v ∷ vs) all' ones' others' x y z copy h some some' same copied more rest rest' = by h.fuel h.enough h.same
  where
    alike : same_split u.node v.node ≡ true
    alike = same

    all_is : all' ≡ all ++ (u ∷ [])
    all_is = more ∙ ap (λ (w : BoundedRecord). all ++ (w ∷ [])) copied

    by : (fuel : ℕ) → length (u ∷ us) ≤ fuel → all ++ merged_by fuel (u ∷ us) (v ∷ vs) ≡ merged one other → IsMerging one other all' ones' others'
    by zero enough is = absurd (omega arith)
    by (suc n) enough is = record {
      fuel = n;
      enough = subst (λ (xs : List BoundedRecord). length xs ≤ n) (sym rest) (omega arith);
      same =
          ap (λ (xs : List BoundedRecord). xs ++ merged_by n ones' others') all_is
          ∙ ap₂ (λ (xs ys : List BoundedRecord). (all ++ (u ∷ [])) ++ merged_by n xs ys) rest rest'
          ∙ append_assoc all (u ∷ []) (merged_by n us vs)
          ∙ sym (ap (λ (b : Bool). all ++ (if b then (u ∷ merged_by n us vs) else (better_of (first_tree (u ∷ us)) (first_tree (v ∷ vs)) ++ merged_by n (behind_first (u ∷ us)) (behind_first (v ∷ vs))))) alike)
          ∙ is;
    }

-- they do not, and one of the two first trees stands
pub merging-apart : (one other all ones others all' s t chosen ones' others' : List BoundedRecord) (x y : BoundedRecord) → IsMerging one other all ones others → 0 < length ones → 0 < length others
    → same_split (get_or ones 0 x).node (get_or others 0 y).node ≡ false → s ≡ first_tree ones → t ≡ first_tree others → chosen ≡ better_of s t → all' ≡ all ++ chosen
    → ones' ≡ behind_first ones → others' ≡ behind_first others → IsMerging one other all' ones' others'
merging-apart one other all [] others all' s t chosen ones' others' x y h some some' differ is_s is_t is_chosen more rest rest' = absurd (omega arith)
merging-apart one other all (u ∷ us) [] all' s t chosen ones' others' x y h some some' differ is_s is_t is_chosen more rest rest' = absurd (omega arith)
merging-apart one other all (u ∷ us) (v ∷ vs) all' s t chosen ones' others' x y h some some' differ is_s is_t is_chosen more rest rest' = by h.fuel h.enough h.same
  where
    unlike : same_split u.node v.node ≡ false
    unlike = differ

    all_is : all' ≡ all ++ better_of (first_tree (u ∷ us)) (first_tree (v ∷ vs))
    all_is = more ∙ ap (λ (xs : List BoundedRecord). all ++ xs) (is_chosen ∙ ap₂ (λ (a b : List BoundedRecord). better_of a b) is_s is_t)

    by : (fuel : ℕ) → length (u ∷ us) ≤ fuel → all ++ merged_by fuel (u ∷ us) (v ∷ vs) ≡ merged one other → IsMerging one other all' ones' others'
    by zero enough is = absurd (omega arith)
    by (suc n) enough is = record {
      fuel = n;
      enough = subst (λ (xs : List BoundedRecord). length xs ≤ n) (sym rest) (let shorter = behind-shorter u us in omega arith);
      same =
          ap (λ (xs : List BoundedRecord). xs ++ merged_by n ones' others') all_is
          ∙ ap₂ (λ (xs ys : List BoundedRecord). (all ++ better_of (first_tree (u ∷ us)) (first_tree (v ∷ vs))) ++ merged_by n xs ys) rest rest'
          ∙ append_assoc all (better_of (first_tree (u ∷ us)) (first_tree (v ∷ vs))) (merged_by n (behind_first (u ∷ us)) (behind_first (v ∷ vs)))
          ∙ sym (ap (λ (b : Bool). all ++ (if b then (u ∷ merged_by n us vs) else (better_of (first_tree (u ∷ us)) (first_tree (v ∷ vs)) ++ merged_by n (behind_first (u ∷ us)) (behind_first (v ∷ vs))))) unlike)
          ∙ is;
    }
