-- The records of a tree are picked in preorder, and what is counted over them is counted over the nodes.
use Rattle.std.proofs.Common.{◌≡◌, ◌≢◌, ℕ, zero, suc, ◌+◌, ◌*◌, ◌<◌, inl, inr, Bool, true, false, ◌||◌, ◌==◌, List, [], ◌∷◌, ◌++◌, length, get_or, set, map, take, Option, Some, None, slice_get, All, refl, sym, ap, subst, ◌∙◌, arith, sum_by, length-set}
use Rattle.std.specs.Prelude.{cond, count_by, option_map}
use Rattle.std.specs.List.{list_any}
use Rattle.std.proofs.lemmas.Bool.{eq-eqb, ne_eqb}
use Rattle.std.proofs.lemmas.List.{map-append, length-map, take_more}
use Rattle.std.proofs.lemmas.List.Sums.{sum_by-cons, sum_by_more, sum_by-take-le}
use Rattle.std.proofs.lemmas.Option.{slice_get-get_or, slice_get-map}
use Rattle.plan_base.specs.Sums.{sum_below}
use Rattle.plan_base.proofs.SumsBelow.{sum_below-same, sum_below-zero, sum_below-plus, sum_below-change}
use Rattle.proof_tree.specs.declared.tree.TreeNode.{TreeNode}
use Rattle.search_machine.specs.State.{Node, State}
use Rattle.search_machine.specs.Machine.{IsReachable}
use Rattle.search_machine.specs.PlanOf.{tree_of}
use Rattle.search_nodes.specs.Records.{record_of}
use Rattle.plan_of_search.specs.PlanParts.{record_in, record_at, preorder_of, times_in, IsOrderOf}
use Rattle.search_machine.proofs.Frames.{same_or_other}
use Rattle.search_machine.proofs.Lists.{slice_get-set_other}
use Rattle.plan_of_search.proofs.PlanBorn.{beyond}
use Rattle.plan_of_search.proofs.PlanNumbers.{records_at-numbers}
use Rattle.plan_of_search.proofs.PlanOnce.{zero_plus, times_in-same, times_in-other, IsReachable-order}

-- Sums

-- a sum from the front
sum_below-front : (f : ℕ → ℕ) (n : ℕ) → sum_below f (suc n) ≡ f 0 + sum_below (λ k. f (suc k)) n
sum_below-front f zero = omega arith
sum_below-front f (suc n) = let before = sum_below-front f n in omega arith

-- a sum over a list, by places
sum_by-places : {X : Type 0} (g : X → ℕ) (xs : List X) (f : ℕ → ℕ) → ((k : ℕ) (x : X) → slice_get xs k ≡ Some x → f k ≡ g x) → sum_by g xs ≡ sum_below f (length xs)
sum_by-places g [] f same = refl
sum_by-places g (x ∷ xs) f same =
    let first = sum_by-cons g x xs in
    let front = sum_below-front f (length xs) in
    let here : f 0 ≡ g x = same 0 x refl in
    let rest = sum_by-places g xs (λ k. f (suc k)) (λ k y is. same (suc k) y is) in
    omega arith

sum_by-map : {X Y : Type 0} (f : Y → ℕ) (g : X → Y) (xs : List X) → sum_by f (map g xs) ≡ sum_by (λ x. f (g x)) xs
sum_by-map f g [] = refl
sum_by-map f g (x ∷ xs) =
    let left = sum_by-cons f (g x) (map g xs) in
    let right = sum_by-cons (λ y. f (g y)) x xs in
    let rest = sum_by-map f g xs in
    omega arith

-- one number of a sum
only_at : (f : ℕ → ℕ) (n k : ℕ) → k < n → sum_below (λ i. cond (i == k) (f i) 0) n ≡ f k
only_at f n k within =
    let change = sum_below-change (λ i. cond (i == k) (f i) 0) (λ i. 0) n k within (λ i below ne. ap (λ (b : Bool). cond b (f i) 0) (ne_eqb i k ne)) in
    let none = sum_below-zero (λ i. 0) n (λ i below. refl) in
    let here : cond (k == k) (f k) 0 ≡ f k = ap (λ (b : Bool). cond b (f k) 0) (eq-eqb k k refl) in
    omega arith

one_more : (t x : ℕ) → (1 + t) * x ≡ x + t * x
one_more t x = grind arith

once_more : (f : ℕ → ℕ) (n : ℕ) (ns : List ℕ) (k : ℕ) → times_in k (n ∷ ns) * f k ≡ cond (k == n) (f k) 0 + times_in k ns * f k
once_more f n ns k = elim (same_or_other k n) [
  | inl e ↦
      let one : times_in k (n ∷ ns) ≡ 1 + times_in k ns = subst (λ (m : ℕ). times_in k (m ∷ ns) ≡ 1 + times_in k ns) e (times_in-same k ns) in
      let here : cond (k == n) (f k) 0 ≡ f k = ap (λ (b : Bool). cond b (f k) 0) (eq-eqb k n e) in
      ap (λ (t : ℕ). t * f k) one ∙ one_more (times_in k ns) (f k) ∙ ap (λ (x : ℕ). x + times_in k ns * f k) (sym here)
  | inr ne ↦
      let none : times_in k (n ∷ ns) ≡ times_in k ns = times_in-other k n ns ne in
      let here : cond (k == n) (f k) 0 ≡ 0 = ap (λ (b : Bool). cond b (f k) 0) (ne_eqb k n ne) in
      ap (λ (t : ℕ). t * f k) none ∙ sym (zero_plus (times_in k ns * f k)) ∙ ap (λ (x : ℕ). x + times_in k ns * f k) (sym here)
]

zero_times : (x : ℕ) → 0 * x ≡ 0
zero_times x = omega arith

-- a sum over a list of numbers, by how often each number is there
sum_by-times : (f : ℕ → ℕ) (count : ℕ) (ns : List ℕ) → All (λ n. n < count) ns → sum_by f ns ≡ sum_below (λ k. times_in k ns * f k) count
sum_by-times f count [] within = sym (sum_below-zero (λ k. times_in k [] * f k) count (λ k below. zero_times (f k)))
sum_by-times f count (n ∷ ns) within =
    let first = sum_by-cons f n ns in
    let rest = sum_by-times f count ns (λ k d below. within (suc k) d (omega arith)) in
    let here = only_at f count n (within 0 0 (omega arith)) in
    let both = sum_below-plus (λ k. cond (k == n) (f k) 0) (λ k. times_in k ns * f k) count in
    let same = sum_below-same (λ k. times_in k (n ∷ ns) * f k) (λ k. cond (k == n) (f k) 0 + times_in k ns * f k) count (λ k below. once_more f n ns k) in
    omega arith

-- where each number is there once, the sum is over all numbers below the count
sum_by-order : (f : ℕ → ℕ) (count : ℕ) (order : List ℕ) → IsOrderOf count order → sum_by f order ≡ sum_below f count
sum_by-order f count order h =
    sum_by-times f count order h.within
    ∙ sum_below-same (λ k. times_in k order * f k) f count (λ k below. ap (λ (t : ℕ). t * f k) (h.once k below) ∙ one_more 0 (f k) ∙ plain (f k))
  where
    plain : (x : ℕ) → x + 0 * x ≡ x
    plain x = omega arith

-- such an order is as long as the count
pub order-length : (count : ℕ) (order : List ℕ) → IsOrderOf count order → length order ≡ count
order-length count order h = sym (ones order) ∙ sum_by-order (λ n. 1) count order h ∙ all count
  where
    ones : (ns : List ℕ) → sum_by (λ n. 1) ns ≡ length ns
    ones [] = refl
    ones (n ∷ ns) = let first = sum_by-cons (λ (m : ℕ). 1) n ns in let rest = ones ns in omega arith

    all : (n : ℕ) → sum_below (λ k. 1) n ≡ n
    all zero = refl
    all (suc n) = let before = all n in omega arith

-- what is summed over the records of a tree is summed over its nodes
pub records_sum : (s : State) (f : TreeNode → ℕ) (g : Node → ℕ) → IsReachable s → ((n : ℕ) (node : Node) → slice_get s.nodes n ≡ Some node → f (record_of node) ≡ g node) → sum_by f (tree_of s) ≡ sum_by g s.nodes
records_sum s f g h same =
    let nodes = s.nodes in
    ap (λ (records : List TreeNode). sum_by f records) (records_at-numbers nodes (length nodes) 0)
    ∙ sum_by-map f (record_at nodes) (preorder_of nodes)
    ∙ sum_by-order (λ n. f (record_at nodes n)) (length nodes) (preorder_of nodes) (IsReachable-order s h)
    ∙ sym (sum_by-places g nodes (λ n. f (record_at nodes n)) (λ n node is. ap (λ (o : Option Node). f (record_in o)) is ∙ same n node is))

-- Whether one is among them

-- where no entry of a list is counted, none passes the test
pub none_counted : {X : Type 0} (test : X → Bool) (xs : List X) → count_by test xs ≡ 0 → list_any test xs ≡ false
none_counted test [] none = refl
none_counted test (x ∷ xs) none = by (λ rest. none_counted test xs rest) (test x) refl
  where
    first : count_by test (x ∷ xs) ≡ cond (test x) 1 0 + count_by test xs
    first = sum_by-cons (λ y. cond (test y) 1 0) x xs

    by : (count_by test xs ≡ 0 → list_any test xs ≡ false) → (b : Bool) → test x ≡ b → (b || list_any test xs) ≡ false
    by below true e = let here : ◌≡◌ {A = ℕ} (cond (test x) 1 0) 1 = ap (λ (b : Bool). cond b 1 0) e in let f = first in absurd (omega arith)
    by below false e = let f = first in below (omega arith)

-- where an entry of a list is counted, one passes the test
pub some_counted : {X : Type 0} (test : X → Bool) (xs : List X) → 0 < count_by test xs → list_any test xs ≡ true
some_counted test [] some = absurd (omega arith)
some_counted test (x ∷ xs) some = by (λ rest. some_counted test xs rest) (test x) refl
  where
    first : count_by test (x ∷ xs) ≡ cond (test x) 1 0 + count_by test xs
    first = sum_by-cons (λ y. cond (test y) 1 0) x xs

    by : (0 < count_by test xs → list_any test xs ≡ true) → (b : Bool) → test x ≡ b → (b || list_any test xs) ≡ true
    by below true e = refl
    by below false e = let here : ◌≡◌ {A = ℕ} (cond (test x) 1 0) 0 = ap (λ (b : Bool). cond b 1 0) e in let f = first in below (omega arith)

-- Picking

-- the records of the first numbers are picked, and those of the other numbers are still there
pub record IsPicking (nodes : List Node) (order : List ℕ) (picked : ℕ) (loose : List (Option TreeNode)) (records : List TreeNode) : Type 0 where
  pub count : length loose ≡ length nodes
  pub left : (n : ℕ) → n < length nodes → times_in n (take picked order) ≡ 0 → slice_get loose n ≡ Some (Some (record_at nodes n))
  pub taken : records ≡ map (record_at nodes) (take picked order)

loose_at : (nodes : List Node) (n : ℕ) → n < length nodes → option_map (λ node. Some (record_of node)) (slice_get nodes n) ≡ Some (Some (record_at nodes n))
loose_at nodes n within = by (slice_get nodes n) refl
  where
    by : (o : Option Node) → slice_get nodes n ≡ o → option_map (λ node. Some (record_of node)) o ≡ Some (Some (record_in o))
    by (Some node) e = refl
    by None e = let far = beyond nodes n e in absurd (omega arith)

-- at first all are there
pub IsPicking-first : (nodes : List Node) (order : List ℕ) (loose : List (Option TreeNode)) → loose ≡ map (λ node. Some (record_of node)) nodes → IsPicking nodes order 0 loose []
IsPicking-first nodes order loose is = record {
  count = ap (λ (xs : List (Option TreeNode)). length xs) is ∙ length-map nodes (λ node. Some (record_of node));
  left = λ n within none. ap (λ (xs : List (Option TreeNode)). slice_get xs n) is ∙ slice_get-map (λ node. Some (record_of node)) nodes n ∙ loose_at nodes n within;
  taken = refl;
}

-- the next number is picked
module _ (nodes : List Node) (order : List ℕ) (i : ℕ) (loose : List (Option TreeNode)) (records : List TreeNode) (are : IsOrderOf (length nodes) order) (h : IsPicking nodes order i loose records) (within : i < length order) where
  abbrev number : ℕ
  number = get_or order i 0

  is_node : number < length nodes
  is_node = are.within i 0 within

  -- the next number of the order is a place of the loose records
  pub number-within : number < length loose
  number-within = let e = h.count in let x = is_node in omega arith

  more : (n : ℕ) → times_in n (take (i + 1) order) ≡ times_in n (take i order) + cond (n == number) 1 0
  more n = sum_by_more (λ m. cond (n == m) 1 0) order i 0 within

  fresh : times_in number (take i order) ≡ 0
  fresh =
      let next = more number in
      let one : ◌≡◌ {A = ℕ} (cond (number == number) 1 0) 1 = ap (λ (b : Bool). cond b 1 0) (eq-eqb number number refl) in
      let most = sum_by-take-le (λ m. cond (number == m) 1 0) order (i + 1) in
      let all = are.once number is_node in
      omega arith

  -- the record of the next number of the order is still there
  pub still_there : slice_get loose number ≡ Some (Some (record_at nodes number))
  still_there = h.left number is_node fresh

  -- what is read there is its record
  pub read_there : (place : Option TreeNode) → place ≡ get_or loose number place → place ≡ Some (record_at nodes number)
  read_there place read =
      let held : slice_get loose number ≡ Some place = slice_get-get_or loose number place number-within ∙ ap (λ (x : Option TreeNode). Some x) (sym read) in
      let both : ◌≡◌ {A = Option (Option TreeNode)} (Some place) (Some (Some (record_at nodes number))) = sym held ∙ still_there in
      cc

  -- when the next record is taken out and put behind the others, one more number is picked
  pub IsPicking-next : (after : List (Option TreeNode)) (picked : List TreeNode) → after ≡ set loose number None → picked ≡ records ++ (record_at nodes number ∷ []) → IsPicking nodes order (i + 1) after picked
  IsPicking-next after picked after_is picked_is = record {
    count = ap (λ (xs : List (Option TreeNode)). length xs) after_is ∙ length-set loose number None ∙ h.count;
    left = λ n is none.
        let next = more n in
        let ne : n ≢ number = λ e. (let one : ◌≡◌ {A = ℕ} (cond (n == number) 1 0) 1 = ap (λ (b : Bool). cond b 1 0) (eq-eqb n number e) in absurd (omega arith)) in
        ap (λ (xs : List (Option TreeNode)). slice_get xs n) after_is ∙ slice_get-set_other loose number n None ne ∙ h.left n is (omega arith);
    taken = picked_is
        ∙ ap (λ (xs : List TreeNode). xs ++ (record_at nodes number ∷ [])) h.taken
        ∙ sym (map-append (record_at nodes) (take i order) (number ∷ []))
        ∙ sym (ap (map (record_at nodes)) (take_more order i 0 within));
  }
