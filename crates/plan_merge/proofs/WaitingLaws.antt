-- The path to a record in preorder, and the trees that wait behind it.
use Rattle.std.proofs.Common.{◌≡◌, ℕ, zero, suc, ◌+◌, ◌-◌, ◌≤◌, ◌<◌, List, [], ◌∷◌, ◌++◌, take, drop, reverse, length, get_or, Bool, refl, sym, ap, ap₂, subst, ◌∙◌, arith, append_assoc}
use Rattle.std.specs.Prelude.{◌&&◌}
use Rattle.std.proofs.lemmas.List.{append-nil, reverse-append, take-take, take-append-le, take_all}
use Rattle.proof_tree.specs.declared.tree.TreeNode.{TreeNode}
use Rattle.proof_tree.specs.declared.tree.TreeNode.TheVariants.{Split, Loads, Leaf}
use Rattle.proof_tree.specs.Plans.{is_open}
use Rattle.branch_tree.specs.declared.node.Limit.{Limit}
use Rattle.branch_tree.specs.declared.node.Limit.TheVariants as limit
use Rattle.plan_merge.specs.declared.bounded_record.BoundedRecord.{BoundedRecord}
use Rattle.plan_merge.specs.declared.start.Start.{Start}
use Rattle.plan_merge.specs.declared.starting.Waiting.{Waiting}
use Rattle.plan_merge.specs.Starts.{limits_below, start_if, starts_at, starts_of}
use Rattle.plan_merge.specs.Waiting.{children_after, limits_after, AreNested, IsNext}
use Rattle.plan_merge.proofs.Counting.{drop-before}

-- what is noted, and the starts of what is left, are all starts
pub record AreStarting (xs : List BoundedRecord) (chosen : List Bool) (place : ℕ) (starts : List Start) (path : List Limit) (waiting : List Waiting) : Type 0 where
  pub same : starts ++ starts_at (reverse path ∷ limits_after path waiting) (drop place xs) (drop place chosen) ≡ starts_of xs chosen
  pub nested : AreNested (length path) waiting

-- limits in common stay where the path changes behind them
limits_after-same : (path path' : List Limit) (depth : ℕ) (waiting : List Waiting) → ((d : ℕ) → d ≤ depth → take d path' ≡ take d path) → AreNested depth waiting → limits_after path' waiting ≡ limits_after path waiting
limits_after-same path path' depth [] common nested = refl
limits_after-same path path' depth (next ∷ waiting) common nested =
    ap₂ (λ (limits : List Limit) (more : List (List Limit)). (next.last ∷ reverse limits) ∷ more) (common next.depth nested.0)
    (limits_after-same path path' next.depth waiting (λ d within. common d (let n = nested.0 in omega (arith, n))) nested.1)

-- the limits of a record's children are those below it
children-below : (path : List Limit) (node : TreeNode) (waiting : List Waiting) → limits_after path (children_after (length path) node ++ waiting) ≡ limits_below (reverse path) node ++ limits_after path waiting
children-below path (Leaf found) waiting = refl
children-below path (Split id at left right) waiting =
    ap (λ (whole : List Limit). (limit.Arcs id left ∷ reverse whole) ∷ (limit.Arcs id right ∷ reverse whole) ∷ limits_after path waiting) (take_all (length path) path (omega arith))
children-below path (Loads place load) waiting =
    ap (λ (whole : List Limit). (limit.UpTo place load ∷ reverse whole) ∷ (limit.Above place load ∷ reverse whole) ∷ limits_after path waiting) (take_all (length path) path (omega arith))

children-nested : (depth : ℕ) (node : TreeNode) (waiting : List Waiting) → AreNested depth waiting → AreNested depth (children_after depth node ++ waiting)
children-nested depth (Leaf found) waiting nested = nested
children-nested depth (Split id at left right) waiting nested = (omega arith, (omega arith, nested))
children-nested depth (Loads place load) waiting nested = (omega arith, (omega arith, nested))

-- a record is read: its start is noted, and its children wait
pub starting-read : (xs : List BoundedRecord) (chosen : List Bool) (place : ℕ) (starts starts' : List Start) (path : List Limit) (waiting waiting' : List Waiting) (x : BoundedRecord) (one : Bool)
    → AreStarting xs chosen place starts path waiting → drop place xs ≡ x ∷ drop (place + 1) xs → drop place chosen ≡ one ∷ drop (place + 1) chosen
    → starts' ≡ starts ++ start_if (is_open x.node && one) (reverse path) x.node → waiting' ≡ children_after (length path) x.node ++ waiting
    → (starts' ++ starts_at (limits_after path waiting') (drop (place + 1) xs) (drop (place + 1) chosen) ≡ starts_of xs chosen) × AreNested (length path) waiting'
starting-read xs chosen place starts starts' path waiting waiting' x one h here here' noted wait = (
  ap₂ (λ (all : List Start) (limits : List (List Limit)). all ++ starts_at limits (drop (place + 1) xs) (drop (place + 1) chosen)) noted (ap (limits_after path) wait ∙ children-below path x.node waiting)
      ∙ append_assoc starts (start_if (is_open x.node && one) (reverse path) x.node) (starts_at (limits_below (reverse path) x.node ++ limits_after path waiting) (drop (place + 1) xs) (drop (place + 1) chosen))
      ∙ sym (ap₂ (λ (nodes : List BoundedRecord) (ones : List Bool). starts ++ starts_at (reverse path ∷ limits_after path waiting) nodes ones) here here')
      ∙ h.same,
  subst (AreNested (length path)) (sym wait) (children-nested (length path) x.node waiting h.nested),
)

-- the next tree that waits is gone on to
pub starting-next : (xs : List BoundedRecord) (chosen : List Bool) (place : ℕ) (starts : List Start) (path path' : List Limit) (waiting waiting' : List Waiting)
    → (starts ++ starts_at (limits_after path (reverse waiting)) (drop place xs) (drop place chosen) ≡ starts_of xs chosen) × AreNested (length path) (reverse waiting)
    → IsNext path waiting path' waiting' → AreStarting xs chosen place starts path' (reverse waiting')
starting-next xs chosen place starts path path' waiting waiting' h is = by (subst (AreNested (length path)) is.first h.1)
  where
    by : AreNested (length path) (is.next ∷ reverse waiting') → AreStarting xs chosen place starts path' (reverse waiting')
    by nested = record {
      same =
          ap (λ (limits : List (List Limit)). starts ++ starts_at limits (drop place xs) (drop place chosen))
          (ap₂ (λ (first : List Limit) (more : List (List Limit)). first ∷ more) first_is (limits_after-same path path' is.next.depth (reverse waiting') common nested.1))
          ∙ sym (ap (λ (ws : List Waiting). starts ++ starts_at (limits_after path ws) (drop place xs) (drop place chosen)) is.first)
          ∙ h.0;
      nested = nested-more (reverse waiting') nested.1;
    }
      where
        length_is : length (take is.next.depth path) ≡ is.next.depth
        length_is = length-take_within is.next.depth path nested.0
          where
            length-take_within : (d : ℕ) (limits : List Limit) → d ≤ length limits → length (take d limits) ≡ d
            length-take_within zero limits few = refl
            length-take_within (suc d) [] few = absurd (omega arith)
            length-take_within (suc d) (l ∷ ls) few = ap suc (length-take_within d ls (omega arith))

        first_is : reverse path' ≡ is.next.last ∷ reverse (take is.next.depth path)
        first_is = ap reverse is.path_is ∙ reverse-append (take is.next.depth path) (is.next.last ∷ [])

        common : (d : ℕ) → d ≤ is.next.depth → take d path' ≡ take d path
        common d within =
            ap (take d) is.path_is ∙ take-append-le d (take is.next.depth path) (is.next.last ∷ []) (omega (arith, length_is)) ∙ take-take d is.next.depth path within

        longer : is.next.depth ≤ length path'
        longer = subst (λ (limits : List Limit). is.next.depth ≤ length limits) (sym is.path_is) (more_length (take is.next.depth path) length_is)
          where
            more_length : (limits : List Limit) → length limits ≡ is.next.depth → is.next.depth ≤ length (limits ++ is.next.last ∷ [])
            more_length limits same = subst (λ (n : ℕ). n ≤ length (limits ++ is.next.last ∷ [])) same (append-longer limits)
              where
                append-longer : (ls : List Limit) → length ls ≤ length (ls ++ is.next.last ∷ [])
                append-longer [] = omega arith
                append-longer (l ∷ ls) = let more = append-longer ls in omega (arith, more)

        nested-more : (ws : List Waiting) → AreNested is.next.depth ws → AreNested (length path') ws
        nested-more [] below = tt
        nested-more (w ∷ ws) below = (let b = below.0 in omega (arith, b, longer), below.1)

-- where no tree waits, or no record is left, all starts are noted
pub starting-none : (starts : List Start) (path : List Limit) (waiting : List Waiting) (nodes : List BoundedRecord) (ones : List Bool) (all : List Start) → starts ++ starts_at (limits_after path waiting) nodes ones ≡ all → waiting ≡ [] → starts ≡ all
starting-none starts path waiting nodes ones all h none =
    sym (append-nil starts) ∙ sym (ap (λ (ws : List Waiting). starts ++ starts_at (limits_after path ws) nodes ones) none) ∙ h

pub starting-past : (xs : List BoundedRecord) (chosen : List Bool) (place : ℕ) (starts : List Start) (path : List Limit) (waiting : List Waiting) → AreStarting xs chosen place starts path waiting → length xs ≤ place → starts ≡ starts_of xs chosen
starting-past xs chosen place starts path waiting h past =
    sym (append-nil starts) ∙ sym (ap (λ (nodes : List BoundedRecord). starts ++ starts_at (reverse path ∷ limits_after path waiting) nodes (drop place chosen)) (drop_past place xs past)) ∙ h.same
  where
    drop_past : (n : ℕ) (ys : List BoundedRecord) → length ys ≤ n → drop n ys ≡ []
    drop_past zero [] l = refl
    drop_past zero (y ∷ ys) l = absurd (omega arith)
    drop_past (suc n) [] l = refl
    drop_past (suc n) (y ∷ ys) l = drop_past n ys (omega arith)

-- the limits from a place on, the last one first
pub reversed-next : (path : List Limit) (n : ℕ) (limit : Limit) (limits limits' : List Limit) → limits ≡ reverse (drop n path) → 0 < n → n ≤ length path → limit ≡ get_or path (n - 1) limit → limits' ≡ limits ++ limit ∷ [] → limits' ≡ reverse (drop (n - 1) path)
reversed-next path n limit limits limits' h some within read more =
    more ∙ ap (λ (ls : List Limit). ls ++ limit ∷ []) h ∙ sym (reverse-append (limit ∷ []) (drop n path)) ∙ ap reverse (sym (drop-before path n limit some within read))

-- a list from a place on
pub drop-get : {A : Type 0} (xs : List A) (place : ℕ) (d : A) → place < length xs → drop place xs ≡ get_or xs place d ∷ drop (place + 1) xs
drop-get xs place d within = let next : suc place ≡ place + 1 = omega arith in here xs place within ∙ ap (λ (n : ℕ). get_or xs place d ∷ drop n xs) next
  where
    here : (ys : List _) (i : ℕ) → i < length ys → drop i ys ≡ get_or ys i d ∷ drop (suc i) ys
    here [] i l = absurd (omega arith)
    here (y ∷ ys) zero l = refl
    here (y ∷ ys) (suc i) l = here ys i (omega arith)
