-- Two trees of one region merged: where both split alike both go on, else the subtree of greater rank stands.
use Rattle.std.specs.Prelude.{ℕ, zero, suc, ◌+◌, Bool, true, false, not, ◌||◌, List, [], ◌∷◌, ◌++◌, length, take, drop, if◌then◌else◌, Option, Some, None, ℤ, int_lt, ◌&&◌, ◌==◌, nat_le}
use Rattle.plan_base.specs.declared.ids.ArcId.{ArcId}
use Rattle.proof_tree.specs.declared.tree.TreeNode.{TreeNode}
use Rattle.proof_tree.specs.declared.tree.TreeNode.TheVariants.{Split, Loads, Leaf}
use Rattle.proof_tree.specs.Plans.{is_open}
use Rattle.plan_merge.specs.declared.bounded_record.BoundedRecord.{BoundedRecord}

-- how many trees are to come behind a record that is the first of one more than these
abbrev pub trees_behind : ℕ → TreeNode → ℕ
trees_behind k (Leaf evidence) = k
trees_behind k (Split id at left right) = suc (suc k)
trees_behind k (Loads place load) = suc (suc k)

-- how many records the first trees have
abbrev pub trees_length : ℕ → List BoundedRecord → ℕ
trees_length zero xs = 0
trees_length (suc k) [] = 0
trees_length (suc k) (x ∷ xs) = suc (trees_length (trees_behind k x.node) xs)

-- the first tree, and what is behind it
abbrev pub first_tree : List BoundedRecord → List BoundedRecord
first_tree xs = take (trees_length 1 xs) xs

abbrev pub behind_first : List BoundedRecord → List BoundedRecord
behind_first xs = drop (trees_length 1 xs) xs

-- the same arcs in the same order
abbrev pub same_arcs : List ArcId → List ArcId → Bool
same_arcs [] [] = true
same_arcs [] (b ∷ bs) = false
same_arcs (a ∷ more) [] = false
same_arcs (a ∷ more) (b ∷ others) = a.0 == b.0 && same_arcs more others

-- both records are the same split
abbrev pub same_split : TreeNode → TreeNode → Bool
same_split (Split id at left right) (Split k v one other) = id.0 == k.0 && (at.0 == v.0 && (same_arcs left one && same_arcs right other))
same_split (Loads place load) (Loads q c) = place == q && load == c
same_split _ _ = false

-- the lesser of two bounds, where there are any
abbrev pub lesser : Option ℤ → Option ℤ → Option ℤ
lesser None other = other
lesser (Some one) None = Some one
lesser (Some one) (Some other) = Some (if int_lt other one then other else one)

-- the least of the bounds that stand beside them
abbrev pub least_bound : List BoundedRecord → Option ℤ
least_bound [] = None
least_bound (x ∷ xs) = lesser x.bound (least_bound xs)

-- the first bound is at least the second one, none being above all
abbrev pub is_no_lower : Option ℤ → Option ℤ → Bool
is_no_lower None other = true
is_no_lower (Some one) None = false
is_no_lower (Some one) (Some other) = not (int_lt one other)

-- some record is an open leaf
abbrev pub some_open : List BoundedRecord → Bool
some_open [] = false
some_open (x ∷ xs) = is_open x.node || some_open xs

-- how many records are not open
abbrev pub examined_of : List BoundedRecord → ℕ
examined_of [] = 0
examined_of (x ∷ xs) = (if is_open x.node then 0 else 1) + examined_of xs

-- of two trees with open leaves the first has the greater least bound, or the same and no fewer records that are not open
abbrev pub stands_open : List BoundedRecord → List BoundedRecord → Bool
stands_open one other = is_no_lower (least_bound one) (least_bound other) && (not (is_no_lower (least_bound other) (least_bound one)) || nat_le (examined_of other) (examined_of one))

-- of two trees of one region the first stands: a closed one before one that is not, of closed ones that of fewer records
abbrev pub stands_by : Bool → Bool → List BoundedRecord → List BoundedRecord → Bool
stands_by false false one other = nat_le (length one) (length other)
stands_by false true one other = true
stands_by true false one other = false
stands_by true true one other = stands_open one other

abbrev pub stands : List BoundedRecord → List BoundedRecord → Bool
stands one other = stands_by (some_open one) (some_open other) one other

abbrev pub better_of : List BoundedRecord → List BoundedRecord → List BoundedRecord
better_of one other = if stands one other then one else other

-- so many steps of the walk over both
abbrev pub merged_by : ℕ → List BoundedRecord → List BoundedRecord → List BoundedRecord
merged_by zero xs ys = []
merged_by (suc n) [] ys = []
merged_by (suc n) (x ∷ xs) [] = []
merged_by (suc n) (x ∷ xs) (y ∷ ys) = if same_split x.node y.node
    then x ∷ merged_by n xs ys
    else better_of (first_tree (x ∷ xs)) (first_tree (y ∷ ys)) ++ merged_by n (behind_first (x ∷ xs)) (behind_first (y ∷ ys))

-- both trees merged
abbrev pub merged : List BoundedRecord → List BoundedRecord → List BoundedRecord
merged one other = merged_by (length one) one other
