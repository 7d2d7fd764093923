-- Where the lists of a tree are within their fields, so are the prices of its records.
use Rattle.std.proofs.Common.{◌≡◌, ℕ, nat_eq, Bool, true, false, true≢false, cond, List, [], ◌∷◌, ◌++◌, Option, Some, None, refl, sym, subst, ap, ◌∙◌, ◌||◌}
use Rattle.std.specs.List.{AllByRecursion}
use Rattle.std.specs.Cmp.Lexicographic.{pointwise}
use Rattle.std.proofs.lemmas.Slice.Eq.{bytes_eq-Decides}
use Rattle.proof_tree.specs.declared.tree.Evidence.TheVariants.{Bound, Routed, Overfull, Cut, Far, Crowd, Open}
use Rattle.proof_tree.specs.declared.tree.TreeNode.{TreeNode}
use Rattle.proof_tree.specs.declared.tree.TreeNode.TheVariants.{Split, Loads, Leaf}
use Rattle.cert_format.specs.Lists.{is_among, with_list, with_some, record_prices, gathered, lists_of}
use Rattle.cert_format.specs.Grammar.{AreWithin, HasRecordFields}
use Rattle.cert_format.specs.Written.{HasShownFields}

abbrev AreInFields : List (List ℕ) → Type 0
AreInFields lists = AllByRecursion (AreWithin 128) lists

front-in : (lists more : List (List ℕ)) → AreInFields (lists ++ more) → AreInFields lists
front-in [] more h = tt
front-in (x ∷ lists) more h = (h.0, front-in lists more h.1)

last-in : (lists : List (List ℕ)) (list : List ℕ) → AreInFields (lists ++ list ∷ []) → AreWithin 128 list
last-in [] list h = h.0
last-in (x ∷ lists) list h = last-in lists list h.1

among-in : (lists : List (List ℕ)) (ps : List ℕ) → AreInFields lists → is_among lists ps ≡ true → AreWithin 128 ps
among-in [] ps h e = absurd (true≢false (sym e))
among-in (x ∷ lists) ps h e = by (pointwise nat_eq ps x) refl (among-in lists ps h.1)
  where
    by : (b : Bool) → pointwise nat_eq ps x ≡ b → (is_among lists ps ≡ true → AreWithin 128 ps) → AreWithin 128 ps
    by true t more = subst (AreWithin 128) (sym ((bytes_eq-Decides ps x).0 t)) h.0
    by false f more = more (ap (λ b. b || is_among lists ps) (sym f) ∙ e)

kept : (lists : List (List ℕ)) (o : Option (List ℕ)) → AreInFields (with_some lists o) → AreInFields lists
kept lists None h = h
kept lists (Some ps) h = by (is_among lists ps) h
  where
    by : (b : Bool) → AreInFields (cond b lists (lists ++ ps ∷ [])) → AreInFields lists
    by true h = h
    by false h = front-in lists (ps ∷ []) h

in-by : (lists : List (List ℕ)) (ps : List ℕ) → AreInFields (with_list lists ps) → AreWithin 128 ps
in-by lists ps h = by (is_among lists ps) refl h
  where
    by : (b : Bool) → is_among lists ps ≡ b → AreInFields (cond b lists (lists ++ ps ∷ [])) → AreWithin 128 ps
    by true t h = among-in lists ps h t
    by false f h = last-in lists ps h

all-kept : (lists : List (List ℕ)) (nodes : List TreeNode) → AreInFields (gathered lists nodes) → AreInFields lists
unfolding gathered
all-kept lists [] h = h
all-kept lists (node ∷ nodes) h = kept lists (record_prices node) (all-kept (with_some lists (record_prices node)) nodes h)

record-fields : (all lists : List (List ℕ)) (node : TreeNode) → HasShownFields all node → AreInFields (with_some lists (record_prices node)) → HasRecordFields node
record-fields all lists (Split demand at left right) h k = h
record-fields all lists (Loads place load) h k = h
record-fields all lists (Leaf (Bound ps)) h k = in-by lists ps k
record-fields all lists (Leaf Routed) h k = tt
record-fields all lists (Leaf (Overfull link)) h k = h
record-fields all lists (Leaf (Cut demand reached)) h k = h
record-fields all lists (Leaf (Far demand)) h k = h
record-fields all lists (Leaf (Crowd ps)) h k = in-by lists ps k
record-fields all lists (Leaf (Open ps)) h k = in-by lists ps k

fields-from : (all lists : List (List ℕ)) (nodes : List TreeNode) → AllByRecursion (HasShownFields all) nodes → AreInFields (gathered lists nodes) → AllByRecursion HasRecordFields nodes
unfolding gathered
fields-from all lists [] h k = tt
fields-from all lists (node ∷ nodes) h k = (
  record-fields all lists node h.0 (all-kept (with_some lists (record_prices node)) nodes k),
  fields-from all (with_some lists (record_prices node)) nodes h.1 k,
)

-- where the price lists of a tree and its records, as their lines show them, fit their fields, so do the records
pub all_fields : (nodes : List TreeNode) (lists : List (List ℕ)) → lists ≡ lists_of nodes → AllByRecursion (AreWithin 128) lists → AllByRecursion (HasShownFields lists) nodes → AllByRecursion HasRecordFields nodes
all_fields nodes lists same h k = fields-from lists [] nodes k (subst AreInFields same h)
