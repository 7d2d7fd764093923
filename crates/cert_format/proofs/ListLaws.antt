-- Price lists, their numbers, and the lists of a tree.
use Rattle.std.proofs.Common.{◌≡◌, ℕ, zero, suc, ◌+◌, ◌*◌, ◌<◌, ◌≤◌, ◌||◌, nat_eq, nat_lt, inl, inr, Bool, true, false, true≢false, cond, not, List, [], ◌∷◌, ◌++◌, length, take, Option, Some, None, refl, sym, ap, subst, ◌∙◌, append_assoc, length-append, arith}
use Rattle.std.specs.Prelude.{⊤, IfSome, IsTrue, slice_get}
use Rattle.std.specs.List.{AllByRecursion}
use Rattle.std.specs.Cmp.Lexicographic.{pointwise}
use Rattle.std.proofs.lemmas.Bool.{cases_Bool, ltb-true, ltb-false}
use Rattle.std.proofs.lemmas.List.{append-nil, take_all}
use Rattle.std.proofs.lemmas.Slice.Eq.{bytes_eq-Decides}
use Rattle.proof_tree.specs.declared.limits.TheConstants.{MAX_RECORDS}
use Rattle.proof_tree.specs.declared.tree.Evidence.TheVariants.{Bound, Routed, Overfull, Cut, Far, Crowd, Open}
use Rattle.proof_tree.specs.declared.tree.TreeNode.{TreeNode}
use Rattle.proof_tree.specs.declared.tree.TreeNode.TheVariants.{Split, Loads, Leaf}
use Rattle.proof_tree.specs.Shapes.{are_trees}
use Rattle.proof_tree.specs.Spellings.{FitsRecord}
use Rattle.cert_format.specs.declared.limits.TheConstants.{MAX_LISTS}
use Rattle.cert_format.specs.declared.form.Form.{Form}
use Rattle.cert_format.specs.declared.form.Form.TheVariants.{First, Second, Third}
use Rattle.cert_format.specs.Lists.{is_among, number_in, with_list, record_prices, with_some, gathered, lists_of, lists_in, is_list, named_by, named_behind, named_from, IsNext, AreNamed, AreNew}
use Rattle.cert_format.specs.Grammar.{HasRecordFields}
use Rattle.cert_format.specs.Drafts.{AreStated, AreListed}
use Rattle.cert_format.proofs.BodyLaws.{AreSmall}

is-same : (ps list : List ℕ) → pointwise nat_eq ps list ≡ true → ps ≡ list
is-same ps list t = (bytes_eq-Decides ps list).0 t

own : (ps : List ℕ) → pointwise nat_eq ps ps ≡ true
own ps = (bytes_eq-Decides ps ps).1 refl

neither : (a b : Bool) → (a || b) ≡ false → (a ≡ false) × (b ≡ false)
neither true b e = absurd (true≢false e)
neither false b e = (refl, e)

some-same : (x y : List ℕ) → Some x ≡ Some y → x ≡ y
some-same x y e = cc

-- ---- numbers

-- the number of a list, where it is and where it is not the first one
number-first : (ps x : List ℕ) (lists : List (List ℕ)) → pointwise nat_eq ps x ≡ true → number_in (x ∷ lists) ps ≡ 0
number-first ps x lists t = ap (λ b. cond (not b) (1 + number_in lists ps) 0) t

number-later : (ps x : List ℕ) (lists : List (List ℕ)) → pointwise nat_eq ps x ≡ false → number_in (x ∷ lists) ps ≡ 1 + number_in lists ps
number-later ps x lists f = ap (λ b. cond (not b) (1 + number_in lists ps) 0) f

number-behind : (before : List (List ℕ)) (list : List ℕ) (more : List (List ℕ)) → is_among before list ≡ false → number_in (before ++ list ∷ more) list ≡ length before
number-behind [] list more h = number-first list list more (own list)
number-behind (x ∷ before) list more h =
    let p = neither (pointwise nat_eq list x) (is_among before list) h in
    let next : number_in (x ∷ (before ++ list ∷ more)) list ≡ 1 + number_in (before ++ list ∷ more) list = number-later list x (before ++ list ∷ more) p.0 in
    omega (arith, next, number-behind before list more p.1)

number-among : (lists : List (List ℕ)) (ps : List ℕ) (more : List (List ℕ)) → is_among lists ps ≡ true → number_in (lists ++ more) ps < length lists
number-among [] ps more h = absurd (true≢false (sym h))
number-among (x ∷ lists) ps more h = by (pointwise nat_eq ps x) refl (number-among lists ps more)
  where
    by : (b : Bool) → pointwise nat_eq ps x ≡ b → (is_among lists ps ≡ true → number_in (lists ++ more) ps < length lists) → number_in (x ∷ (lists ++ more)) ps < length (x ∷ lists)
    by true t ih = omega (arith, number-first ps x (lists ++ more) t)
    by false f ih = omega (arith, number-later ps x (lists ++ more) f, ih (ap (λ b. b || is_among lists ps) (sym f) ∙ h))

-- the list that has a number is the one of this number
pub list_numbered : (lists : List (List ℕ)) (ps : List ℕ) → number_in lists ps < length lists → slice_get lists (number_in lists ps) ≡ Some ps
list_numbered [] ps lt = absurd (omega (arith, lt))
list_numbered (x ∷ lists) ps lt = by (pointwise nat_eq ps x) refl (list_numbered lists ps)
  where
    by : (b : Bool) → pointwise nat_eq ps x ≡ b → (number_in lists ps < length lists → slice_get lists (number_in lists ps) ≡ Some ps) → slice_get (x ∷ lists) (number_in (x ∷ lists) ps) ≡ Some ps
    by true t ih = ap (slice_get (x ∷ lists)) (number-first ps x lists t) ∙ ap (λ y. Some y) (sym (is-same ps x t))
    by false f ih =
        let next : number_in (x ∷ lists) ps ≡ 1 + number_in lists ps = number-later ps x lists f in
        let next' : number_in (x ∷ lists) ps ≡ suc (number_in lists ps) = omega (arith, next) in
        ap (slice_get (x ∷ lists)) next' ∙ ih (omega (arith, next, lt))

-- each of different lists has its own number
pub number_at : (w : ℕ) (before lists : List (List ℕ)) (n : ℕ) (list : List ℕ) → AreNew w before lists → slice_get lists n ≡ Some list → number_in (before ++ lists) list ≡ length before + n
unfolding AreNew
number_at w before [] n list h e = absurd cc
number_at w before (x ∷ lists) zero list h e =
    let same : x ≡ list = some-same x list e in
    let first : number_in (before ++ x ∷ lists) list ≡ length before = ap (number_in (before ++ x ∷ lists)) (sym same) ∙ number-behind before x lists h.2 in
    omega (arith, first)
number_at w before (x ∷ lists) (suc n) list h e =
    let later : number_in ((before ++ x ∷ []) ++ lists) list ≡ length (before ++ x ∷ []) + n = number_at w (before ++ x ∷ []) lists n list h.3 e in
    let regrouped : number_in ((before ++ x ∷ []) ++ lists) list ≡ number_in (before ++ x ∷ lists) list = ap (λ ls. number_in ls list) (append_assoc before (x ∷ []) lists) in
    omega (arith, later, regrouped, length-append before (x ∷ []))

-- each of different price lists has so many numbers, all of them below 2^128
pub list_good : (w : ℕ) (before lists : List (List ℕ)) (n : ℕ) (list : List ℕ) → AreNew w before lists → slice_get lists n ≡ Some list → (length list ≡ w) × AreSmall list
unfolding AreNew
list_good w before [] n list h e = absurd cc
list_good w before (x ∷ lists) zero list h e = subst (λ y. (length y ≡ w) × AreSmall y) (some-same x list e) (h.0, h.1)
list_good w before (x ∷ lists) (suc n) list h e = list_good w (before ++ x ∷ []) lists n list h.3 e

-- the numbers of different price lists are below 2^128
pub lists_small : (w : ℕ) (before lists : List (List ℕ)) → AreNew w before lists → AllByRecursion AreSmall lists
unfolding AreNew
lists_small w before [] h = tt
lists_small w before (x ∷ lists) h = (h.1, lists_small w (before ++ x ∷ []) lists h.3)

list-fresh : (w : ℕ) (before lists : List (List ℕ)) (n : ℕ) (list : List ℕ) → AreNew w before lists → slice_get lists n ≡ Some list → is_among (before ++ take n lists) list ≡ false
unfolding AreNew
list-fresh w before [] n list h e = absurd cc
list-fresh w before (x ∷ lists) zero list h e = ap (λ ls. is_among ls list) (append-nil before) ∙ ap (is_among before) (sym (some-same x list e)) ∙ h.2
list-fresh w before (x ∷ lists) (suc n) list h e = ap (λ ls. is_among ls list) (sym (append_assoc before (x ∷ []) (take n lists))) ∙ list-fresh w (before ++ x ∷ []) lists n list h.3 e

list-there : (lists : List (List ℕ)) (n : ℕ) (list : List ℕ) (m : ℕ) → slice_get lists n ≡ Some list → n < m → is_among (take m lists) list ≡ true
list-there [] n list m e lt = absurd cc
list-there (x ∷ lists) n list zero e lt = absurd (omega (arith, lt))
list-there (x ∷ lists) zero list (suc m) e lt = ap (λ b. b || is_among (take m lists) list) (ap (pointwise nat_eq list) (some-same x list e) ∙ own list)
list-there (x ∷ lists) (suc n) list (suc m) e lt = ap (λ b. pointwise nat_eq list x || b) (list-there lists n list m e (omega (arith, lt))) ∙ or-true (pointwise nat_eq list x)
  where
    or-true : (b : Bool) → (b || true) ≡ true
    or-true true = refl
    or-true false = refl

take-next : (lists : List (List ℕ)) (n : ℕ) (list : List ℕ) → slice_get lists n ≡ Some list → (take (suc n) lists ≡ take n lists ++ list ∷ []) × (n < length lists)
take-next [] n list e = absurd cc
take-next (x ∷ lists) zero list e = (ap (λ y. y ∷ []) (some-same x list e), omega arith)
take-next (x ∷ lists) (suc n) list e = (let more = take-next lists n list e in (ap (λ ls. x ∷ ls) more.0, omega (arith, more.1)))

-- ---- records that name lists in their order name the first of them

named-step : (w : ℕ) (lists : List (List ℕ)) → AreNew w [] lists → (named : ℕ) → named ≤ length lists → (o : Option (List ℕ)) → IfSome o (IsNext lists named)
    → (with_some (take named lists) o ≡ take (named_by lists named o) lists) × (named_by lists named o ≤ length lists)
named-step w lists new named le None k = (refl, le)
named-step w lists new named le (Some ps) k = by (slice_get lists named) refl
  where
    there : slice_get lists (number_in lists ps) ≡ Some ps
    there = list_numbered lists ps k.listed

    before : is_list ps (slice_get lists named) ≡ false → number_in lists ps < named
    before f = elim (cases_Bool (nat_lt (number_in lists ps) named)) [
      | inl t ↦ ltb-true (number_in lists ps) named t
      | inr g ↦
          (let ge : named ≤ number_in lists ps = ltb-false (number_in lists ps) named g in
          let same : number_in lists ps ≡ named = omega (arith, ge, k.in_order) in
          absurd (true≢false (sym (ap (is_list ps) (ap (slice_get lists) (sym same) ∙ there) ∙ own ps) ∙ f)))
    ]

    old : is_list ps (slice_get lists named) ≡ false → (with_list (take named lists) ps ≡ take (cond (is_list ps (slice_get lists named)) (suc named) named) lists) × (cond (is_list ps (slice_get lists named)) (suc named) named ≤ length lists)
    old f = (
      ap (λ b. cond b (take named lists) (take named lists ++ ps ∷ [])) (list-there lists (number_in lists ps) ps named there (before f)) ∙ ap (λ b. take (cond b (suc named) named) lists) (sym f),
      subst (λ b. cond b (suc named) named ≤ length lists) (sym f) le,
    )

    next : slice_get lists named ≡ Some ps → (with_list (take named lists) ps ≡ take (cond (is_list ps (slice_get lists named)) (suc named) named) lists) × (cond (is_list ps (slice_get lists named)) (suc named) named ≤ length lists)
    next e =
        let t : is_list ps (slice_get lists named) ≡ true = ap (is_list ps) e ∙ own ps in
        let more = take-next lists named ps e in (
          ap (λ b. cond b (take named lists) (take named lists ++ ps ∷ [])) (list-fresh w [] lists named ps new e) ∙ sym more.0 ∙ ap (λ b. take (cond b (suc named) named) lists) (sym t),
          subst (λ b. cond b (suc named) named ≤ length lists) (sym t) (omega (arith, more.1)),
        )

    by : (o : Option (List ℕ)) → slice_get lists named ≡ o → (with_list (take named lists) ps ≡ take (cond (is_list ps (slice_get lists named)) (suc named) named) lists) × (cond (is_list ps (slice_get lists named)) (suc named) named ≤ length lists)
    by None e = old (ap (is_list ps) e)
    by (Some list) e = elim (cases_Bool (pointwise nat_eq ps list)) [
      | inl t ↦ next (e ∙ ap (λ y. Some y) (sym (is-same ps list t)))
      | inr f ↦ old (ap (is_list ps) e ∙ f)
    ]

gathered-named : (w : ℕ) (lists : List (List ℕ)) → AreNew w [] lists → (nodes : List TreeNode) (named : ℕ) → named ≤ length lists → AreNamed Second lists named nodes
    → gathered (take named lists) nodes ≡ take (named_from Second lists named nodes) lists
unfolding gathered AreNamed named_from
gathered-named w lists new [] named le h = refl
gathered-named w lists new (node ∷ nodes) named le h =
    let here = named-step w lists new named le (record_prices node) h.0 in
    ap (λ ls. gathered ls nodes) here.0 ∙ gathered-named w lists new nodes (named_by lists named (record_prices node)) here.1 h.1

-- where records name all lists in their order, these are the lists of the tree
pub lists_named : (w : ℕ) (lists : List (List ℕ)) (nodes : List TreeNode) → AreNew w [] lists → AreNamed Second lists 0 nodes → named_from Second lists 0 nodes ≡ length lists → lists_of nodes ≡ lists
lists_named w lists nodes new h ends =
    gathered-named w lists new nodes 0 (omega arith) h ∙ ap (λ n. take n lists) ends ∙ take_all (length lists) lists (omega arith)

-- ---- the lists of a tree are different, and named in order

prices-good : (nodes w : ℕ) (node : TreeNode) (ps : List ℕ) → record_prices node ≡ Some ps → FitsRecord nodes w node → HasRecordFields node → (length ps ≡ w) × AreSmall ps
prices-good nodes w (Split demand at left right) ps e fits fields = absurd cc
prices-good nodes w (Loads place load) ps e fits fields = absurd cc
prices-good nodes w (Leaf (Bound qs)) ps e fits fields = subst (λ xs. (length xs ≡ w) × AreSmall xs) (some-same qs ps e) (fits, fields)
prices-good nodes w (Leaf Routed) ps e fits fields = absurd cc
prices-good nodes w (Leaf (Overfull link)) ps e fits fields = absurd cc
prices-good nodes w (Leaf (Cut demand reached)) ps e fits fields = absurd cc
prices-good nodes w (Leaf (Far demand)) ps e fits fields = absurd cc
prices-good nodes w (Leaf (Crowd qs)) ps e fits fields = subst (λ xs. (length xs ≡ w) × AreSmall xs) (some-same qs ps e) (fits, fields)
prices-good nodes w (Leaf (Open qs)) ps e fits fields = subst (λ xs. (length xs ≡ w) × AreSmall xs) (some-same qs ps e) (fits, fields)

-- what records add to lists that are there
pub record Gathering (w : ℕ) (lists : List (List ℕ)) (nodes : List TreeNode) : Type 0 where
  pub added : List (List ℕ)
  pub all_is : gathered lists nodes ≡ lists ++ added
  pub new : AreNew w lists added
  pub named : AreNamed Second (lists ++ added) (length lists) nodes
  pub ends : named_from Second (lists ++ added) (length lists) nodes ≡ length (lists ++ added)

at-length : (lists more : List (List ℕ)) → slice_get (lists ++ more) (length lists) ≡ slice_get more 0
at-length [] more = refl
at-length (x ∷ lists) more = at-length lists more

-- what is among the lists is none that is not
not-same : (lists : List (List ℕ)) (ps x : List ℕ) → is_among lists ps ≡ true → is_among lists x ≡ false → pointwise nat_eq ps x ≡ false
not-same lists ps x h k = by (pointwise nat_eq ps x) refl
  where
    by : (b : Bool) → pointwise nat_eq ps x ≡ b → pointwise nat_eq ps x ≡ false
    by true t = absurd (true≢false (sym h ∙ ap (is_among lists) (is-same ps x t) ∙ k))
    by false f = f

-- what is among the lists is not the next one
next-other : (w : ℕ) (lists added : List (List ℕ)) (ps : List ℕ) → AreNew w lists added → is_among lists ps ≡ true → is_list ps (slice_get (lists ++ added) (length lists)) ≡ false
unfolding AreNew
next-other w lists [] ps new h = ap (is_list ps) (at-length lists [])
next-other w lists (x ∷ added) ps new h = ap (is_list ps) (at-length lists (x ∷ added)) ∙ not-same lists ps x h new.2

built : (w : ℕ) (lists : List (List ℕ)) (node : TreeNode) (nodes : List TreeNode) (o : Option (List ℕ)) → record_prices node ≡ o → (added : List (List ℕ)) → gathered (with_some lists o) nodes ≡ lists ++ added → AreNew w lists added
    → IfSome o (IsNext (lists ++ added) (length lists)) → (k : ℕ) → named_by (lists ++ added) (length lists) o ≡ k → AreNamed Second (lists ++ added) k nodes → named_from Second (lists ++ added) k nodes ≡ length (lists ++ added) → Gathering w lists (node ∷ nodes)
unfolding gathered AreNamed named_from
built w lists node nodes o e added all new next k is named ends = record {
  added = added;
  all_is = ap (λ p. gathered (with_some lists p) nodes) e ∙ all;
  new = new;
  named = subst (λ p. IfSome p (IsNext (lists ++ added) (length lists)) × AreNamed Second (lists ++ added) (named_by (lists ++ added) (length lists) p) nodes) (sym e) (next, subst (λ n. AreNamed Second (lists ++ added) n nodes) (sym is) named);
  ends = ap (λ p. named_from Second (lists ++ added) (named_by (lists ++ added) (length lists) p) nodes) e ∙ ap (λ n. named_from Second (lists ++ added) n nodes) is ∙ ends;
}

new-more : (w : ℕ) (lists added : List (List ℕ)) (ps : List ℕ) → (length ps ≡ w) × AreSmall ps → is_among lists ps ≡ false → AreNew w (lists ++ ps ∷ []) added → AreNew w lists (ps ∷ added)
unfolding AreNew
new-more w lists added ps good f new = (good.0, good.1, f, new)

-- records that fit add different new price lists to those that are there, and name all of these in order
pub gathering : (count w : ℕ) (lists : List (List ℕ)) (nodes : List TreeNode) → AllByRecursion (λ node. FitsRecord count w node × HasRecordFields node) nodes → Gathering w lists nodes
unfolding gathered AreNew AreNamed named_from
gathering count w lists [] h = record { added = []; all_is = sym (append-nil lists); new = tt; named = tt; ends = ap length (sym (append-nil lists)) }
gathering count w lists (node ∷ nodes) h = by (record_prices node) refl (gathering count w lists nodes h.1) (λ ps. gathering count w (lists ++ ps ∷ []) nodes h.1)
  where
    old : (ps : List ℕ) → record_prices node ≡ Some ps → is_among lists ps ≡ true → Gathering w lists nodes → Gathering w lists (node ∷ nodes)
    old ps e t g =
        let low : number_in (lists ++ g.added) ps < length lists = number-among lists ps g.added t in
        built w lists node nodes (Some ps) e g.added (ap (λ b. gathered (cond b lists (lists ++ ps ∷ [])) nodes) t ∙ g.all_is) g.new
        (record { listed = omega (arith, low, length-append lists g.added); in_order = omega (arith, low) })
        (length lists) (ap (λ b. cond b (suc (length lists)) (length lists)) (next-other w lists g.added ps g.new t)) g.named g.ends

    fresh : (ps : List ℕ) → record_prices node ≡ Some ps → is_among lists ps ≡ false → Gathering w (lists ++ ps ∷ []) nodes → Gathering w lists (node ∷ nodes)
    fresh ps e f g =
        let good = prices-good count w node ps e h.0.0 h.0.1 in
        let same : (lists ++ ps ∷ []) ++ g.added ≡ lists ++ (ps ∷ g.added) = append_assoc lists (ps ∷ []) g.added in
        let own_number : number_in (lists ++ (ps ∷ g.added)) ps ≡ length lists = number-behind lists ps g.added f in
        let longer : suc (length lists) ≡ length (lists ++ ps ∷ []) = omega (arith, length-append lists (ps ∷ [])) in
        built w lists node nodes (Some ps) e (ps ∷ g.added) (ap (λ b. gathered (cond b lists (lists ++ ps ∷ [])) nodes) f ∙ g.all_is ∙ same) (new-more w lists g.added ps good f g.new)
        (record { listed = omega (arith, own_number, length-append lists (ps ∷ g.added)); in_order = omega (arith, own_number) })
        (length (lists ++ ps ∷ []))
        (ap (λ b. cond b (suc (length lists)) (length lists)) (ap (is_list ps) (at-length lists (ps ∷ g.added)) ∙ own ps) ∙ longer)
        (subst (λ ls. AreNamed Second ls (length (lists ++ ps ∷ [])) nodes) same g.named)
        (subst (λ ls. named_from Second ls (length (lists ++ ps ∷ [])) nodes ≡ length ls) same g.ends)

    some : (ps : List ℕ) → record_prices node ≡ Some ps → Gathering w lists nodes → Gathering w (lists ++ ps ∷ []) nodes → Gathering w lists (node ∷ nodes)
    some ps e g k = elim (cases_Bool (is_among lists ps)) [
      | inl t ↦ old ps e t g
      | inr f ↦ fresh ps e f k
    ]

    by : (o : Option (List ℕ)) → record_prices node ≡ o → Gathering w lists nodes → ((ps : List ℕ) → Gathering w (lists ++ ps ∷ []) nodes) → Gathering w lists (node ∷ nodes)
    by None e g more = built w lists node nodes None e g.added g.all_is g.new tt (length lists) refl g.named g.ends
    by (Some ps) e g more = some ps e g (more ps)

-- ---- a tree has no more lists than leaves

-- how many of the records are leaves
abbrev pub leaves : List TreeNode → ℕ
leaves [] = 0
leaves (Leaf evidence ∷ nodes) = suc (leaves nodes)
leaves (Split demand at left right ∷ nodes) = leaves nodes
leaves (Loads place load ∷ nodes) = leaves nodes

with-few : (lists : List (List ℕ)) (o : Option (List ℕ)) → length (with_some lists o) ≤ suc (length lists)
with-few lists None = omega arith
with-few lists (Some ps) = by (is_among lists ps)
  where
    by : (b : Bool) → length (cond b lists (lists ++ ps ∷ [])) ≤ suc (length lists)
    by true = omega arith
    by false = omega (arith, length-append lists (ps ∷ []))

few-gathered : (lists : List (List ℕ)) (nodes : List TreeNode) → length (gathered lists nodes) ≤ length lists + leaves nodes
unfolding gathered
few-gathered lists [] = omega arith
few-gathered lists (Split demand at left right ∷ nodes) = few-gathered lists nodes
few-gathered lists (Loads place load ∷ nodes) = few-gathered lists nodes
few-gathered lists (Leaf evidence ∷ nodes) = omega (arith, few-gathered (with_some lists (record_prices (Leaf evidence))) nodes, with-few lists (record_prices (Leaf evidence)))

-- in whole trees, twice the count of leaves is the count of records and that of trees together
pub half_leaves : (nodes : List TreeNode) (trees : ℕ) → are_trees trees nodes ≡ true → 2 * leaves nodes ≡ length nodes + trees
half_leaves [] zero e = omega arith
half_leaves [] (suc n) e = absurd (true≢false (sym e))
half_leaves (node ∷ nodes) zero e = absurd (true≢false (sym e))
half_leaves (Leaf evidence ∷ nodes) (suc n) e = omega (arith, half_leaves nodes n e)
half_leaves (Split demand at left right ∷ nodes) (suc n) e = omega (arith, half_leaves nodes (suc (suc n)) e)
half_leaves (Loads place load ∷ nodes) (suc n) e = omega (arith, half_leaves nodes (suc (suc n)) e)

few-lists : (nodes : List TreeNode) → are_trees 1 nodes ≡ true → length nodes ≤ MAX_RECORDS → length (lists_of nodes) ≤ MAX_LISTS
few-lists nodes e few = omega (arith, few, few-gathered [] nodes, half_leaves nodes 1 e)

-- ---- the lists of a version

-- lists that numbers can stand for
abbrev pub AreNumbered : ℕ → List (List ℕ) → Type 0
AreNumbered entries lists = (length lists ≤ MAX_LISTS) × AreNew entries [] lists

-- where the version has price lists, numbers can stand for these
abbrev pub AreGood : Form → ℕ → List (List ℕ) → Type 0
AreGood First entries lists = ⊤
AreGood Second entries lists = AreNumbered entries lists
AreGood Third entries lists = AreNumbered entries lists

numbered-stated : (entries stated : ℕ) (lists : List (List ℕ)) → AreStated entries stated lists → AreNumbered entries lists
numbered-stated entries stated lists h =
    let few : stated ≤ MAX_LISTS = h.0 in
    let within : length lists ≤ stated = h.1 in
    (omega (arith, few, within), h.2)

-- price lists as the version has them are such that numbers can stand for them
pub good_listed : (form : Form) (entries stated : ℕ) (lists : List (List ℕ)) → AreListed form entries stated lists → AreGood form entries lists
good_listed First entries stated lists h = tt
good_listed Second entries stated lists h = numbered-stated entries stated lists h
good_listed Third entries stated lists h = numbered-stated entries stated lists h

-- in a text of the first version no list is named
first-ends : (lists : List (List ℕ)) (named : ℕ) (nodes : List TreeNode) → named_from First lists named nodes ≡ named
unfolding named_from
first-ends lists named [] = refl
first-ends lists named (node ∷ nodes) = first-ends lists named nodes

first-named : (lists : List (List ℕ)) (named : ℕ) (nodes : List TreeNode) → AreNamed First lists named nodes
unfolding AreNamed
first-named lists named [] = tt
first-named lists named (node ∷ nodes) = (tt, first-named lists named nodes)

-- in a text of the third version lists are named as in one of the second
third-ends : (lists : List (List ℕ)) (named : ℕ) (nodes : List TreeNode) → named_from Third lists named nodes ≡ named_from Second lists named nodes
unfolding named_from
third-ends lists named [] = refl
third-ends lists named (node ∷ nodes) = third-ends lists (named_by lists named (record_prices node)) nodes

third-named : (lists : List (List ℕ)) (named : ℕ) (nodes : List TreeNode) → AreNamed Second lists named nodes → AreNamed Third lists named nodes
unfolding AreNamed
third-named lists named [] h = tt
third-named lists named (node ∷ nodes) h = (h.0, third-named lists (named_by lists named (record_prices node)) nodes h.1)

second-named : (lists : List (List ℕ)) (named : ℕ) (nodes : List TreeNode) → AreNamed Third lists named nodes → AreNamed Second lists named nodes
unfolding AreNamed
second-named lists named [] h = tt
second-named lists named (node ∷ nodes) h = (h.0, second-named lists (named_by lists named (record_prices node)) nodes h.1)

-- the lists of a tree are those of a text
pub record AreReady (form : Form) (entries : ℕ) (nodes : List TreeNode) : Type 0 where
  pub listed : AreListed form entries (length (lists_in form nodes)) (lists_in form nodes)
  pub named : AreNamed form (lists_in form nodes) 0 nodes
  pub ends : named_from form (lists_in form nodes) 0 nodes ≡ length (lists_in form nodes)

second-ready : (count entries : ℕ) (nodes : List TreeNode) → IsTrue (are_trees 1 nodes) → length nodes ≤ MAX_RECORDS → AllByRecursion (λ node. FitsRecord count entries node × HasRecordFields node) nodes → AreReady Second entries nodes
second-ready count entries nodes whole few h =
    let g = gathering count entries [] nodes h in
    record {
      listed = (few-lists nodes whole few, omega arith, subst (AreNew entries []) (sym g.all_is) g.new);
      named = subst (λ ls. AreNamed Second ls 0 nodes) (sym g.all_is) g.named;
      ends = subst (λ ls. named_from Second ls 0 nodes ≡ length ls) (sym g.all_is) g.ends;
    }

-- the price lists of a whole tree, the records of which fit, can be told in a text of each version
pub lists_ready : (form : Form) (count entries : ℕ) (nodes : List TreeNode) → IsTrue (are_trees 1 nodes) → length nodes ≤ MAX_RECORDS → AllByRecursion (λ node. FitsRecord count entries node × HasRecordFields node) nodes → AreReady form entries nodes
lists_ready First count entries nodes whole few h = record { listed = (refl, refl); named = first-named [] 0 nodes; ends = first-ends [] 0 nodes }
lists_ready Second count entries nodes whole few h = second-ready count entries nodes whole few h
lists_ready Third count entries nodes whole few h =
    let r = second-ready count entries nodes whole few h in
    record { listed = r.listed; named = third-named (lists_of nodes) 0 nodes r.named; ends = third-ends (lists_of nodes) 0 nodes ∙ r.ends }

-- the lists that a whole text tells are those of its tree
pub lists_told : (form : Form) (entries stated : ℕ) (lists : List (List ℕ)) (nodes : List TreeNode) → AreListed form entries stated lists → AreNamed form lists 0 nodes → named_from form lists 0 nodes ≡ length lists → lists ≡ lists_in form nodes
lists_told First entries stated lists nodes h named ends = h.1
lists_told Second entries stated lists nodes h named ends = sym (lists_named entries lists nodes h.2 named ends)
lists_told Third entries stated lists nodes h named ends = sym (lists_named entries lists nodes h.2 (second-named lists 0 nodes named) (sym (third-ends lists 0 nodes) ∙ ends))

-- ---- one record more

-- with one record more, as many price lists are named as behind this record
pub named_more : (form : Form) (lists : List (List ℕ)) (named : ℕ) (nodes : List TreeNode) (node : TreeNode) → named_from form lists named (nodes ++ node ∷ []) ≡ named_behind form lists (named_from form lists named nodes) node
unfolding named_from
named_more form lists named [] node = refl
named_more form lists named (x ∷ nodes) node = named_more form lists (named_behind form lists named x) nodes node
