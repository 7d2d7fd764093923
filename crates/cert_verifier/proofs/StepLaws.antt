-- From a record to the next: what is found, what is left, and the leaves so far.
use Rattle.std.proofs.Common.{inl, inr, ◌≡◌, ℕ, suc, ◌+◌, ◌<◌, ◌≤◌, true, false, List, [], ◌∷◌, ◌++◌, length, drop, get_or, Option, Some, None, refl, sym, ap, subst, ◌∙◌, arith, append_assoc, append-nil, add-one}
use Rattle.std.specs.Prelude.{IsTrue, slice_get, ℤ}
use Rattle.std.proofs.lemmas.List.{get_or_default}
use Rattle.std.proofs.lemmas.Option.{slice_get-get_or}
use Rattle.std.proofs.Math.ListN.{drop_of_length-le}
use Rattle.std.proofs.Math.Seq.{drop-cons}
use Rattle.plan_base.specs.declared.parts.Parts.{Parts}
use Rattle.link_steps.specs.Ranges.{AreRanges}
use Rattle.link_steps.proofs.WholeRanges.{AreRanges-whole}
use Rattle.proof_tree.specs.declared.cuts.Cut.{Cut}
use Rattle.proof_tree.specs.declared.tree.TreeNode.{TreeNode}
use Rattle.proof_tree.specs.declared.tree.Evidence.TheVariants.{Routed}
use Rattle.proof_tree.specs.declared.tree.TreeNode.TheVariants.{Leaf}
use Rattle.proof_tree.specs.declared.plan.Plan.{Plan}
use Rattle.proof_tree.specs.Regions.{Region, whole as whole_region}
use Rattle.proof_tree.specs.Shapes.{are_trees}
use Rattle.proof_tree.specs.Trees.{LeafAt, children_at, leaf_here, leaves_at, leaves_of}
use Rattle.cert_verifier.specs.declared.rejected.Rejected.{Rejected}
use Rattle.cert_verifier.specs.declared.walk.Turn.{Turn}
use Rattle.cert_verifier.specs.RecordRules.{RecordFinds, RecordsFind, TreeFinds}
use Rattle.cert_verifier.specs.Walks.{IsTreePlace, StandsAt, AreLeft}
use Rattle.cert_verifier.specs.Bounds.{IsLeastBoundIn}
use Rattle.cert_verifier.proofs.TreeLaws.{after-whole}

-- before the record of this index no rule is broken, and these regions and leaves are had
pub record IsSoFar (p : Parts) (plan : Plan) (index : ℕ) (turns : List Turn) (g : Region) (least : Option ℤ) : Type 0 where
  pub gs : List Region
  pub met : List LeafAt
  pub place : AreLeft p plan.tree turns g gs
  pub finds : (found : Option Rejected) → RecordsFind p plan gs index (drop index plan.tree) found → TreeFinds p plan plan.tree found
  pub whole : IsTrue (are_trees (length gs) (drop index plan.tree))
  pub leaves : leaves_of p plan.tree ≡ met ++ leaves_at gs (drop index plan.tree)
  pub is_least : IsLeastBoundIn p plan.cuts met least

-- no leaf has a bound where there is none
none_met : (p : Parts) (cuts : List Cut) → IsLeastBoundIn p cuts [] None
none_met p cuts b is = absurd (let below : is.0 < 0 = is.2 in omega arith)

-- before the first record no rule is broken, the whole region is left, and no leaf was met
pub so_far-start : (p : Parts) (plan : Plan) (turns : List Turn) (g : Region) (least : Option ℤ) → turns ≡ [] → g ≡ whole_region p → least ≡ None → IsTrue (are_trees 1 plan.tree) → IsSoFar p plan 0 turns g least
so_far-start p plan turns g least at_root empty none whole = record {
  gs = whole_region p ∷ [];
  met = [];
  place = (empty, subst (λ ts. IsTreePlace p plan.tree ts g []) (sym at_root) (refl, subst (λ (x : Region). AreRanges p x.ranges) (sym empty) (AreRanges-whole p)));
  finds = λ found h. h;
  whole = whole;
  leaves = refl;
  is_least = subst (λ least. IsLeastBoundIn p plan.cuts [] least) (sym none) (none_met p plan.cuts);
}

-- where a record follows, a region is left to be answered
first_left : (p : Parts) (nodes : List TreeNode) (turns : List Turn) (g : Region) (gs : List Region) (node : TreeNode) (nodes_after : List TreeNode) → AreLeft p nodes turns g gs → IsTrue (are_trees (length gs) (node ∷ nodes_after))
    → (rest : List Region) × (gs ≡ (g ∷ rest)) × IsTreePlace p nodes turns g rest
first_left p nodes turns g [] node after place whole = absurd (let bad : false ≡ true = whole in cc)
first_left p nodes turns g (next ∷ rest) node after place whole = (rest, ap (λ s. s ∷ rest) (sym place.0), place.1)

drop_here : (nodes : List TreeNode) (index : ℕ) (node : TreeNode) → index < length nodes → get_or nodes index node ≡ node → drop index nodes ≡ (node ∷ drop (index + 1) nodes)
drop_here nodes index node within is = drop-cons nodes index node within ∙ ap (λ x. x ∷ drop (suc index) nodes) is ∙ ap (λ i. node ∷ drop i nodes) (sym (add-one index))

-- the region is the first that is left, and the place is below the turns
record IsHere (p : Parts) (plan : Plan) (index : ℕ) (turns : List Turn) (g : Region) (node : TreeNode) (met : List LeafAt) : Type 0 where
  rest : List Region
  place : IsTreePlace p plan.tree turns g rest
  finds : (found : Option Rejected) → RecordsFind p plan (g ∷ rest) index (node ∷ drop (index + 1) plan.tree) found → TreeFinds p plan plan.tree found
  whole : IsTrue (are_trees (suc (length rest)) (node ∷ drop (index + 1) plan.tree))
  leaves : leaves_of p plan.tree ≡ met ++ leaves_at (g ∷ rest) (node ∷ drop (index + 1) plan.tree)

so_far-here : (p : Parts) (plan : Plan) (index : ℕ) (turns : List Turn) (g : Region) (least : Option ℤ) (node : TreeNode) (h : IsSoFar p plan index turns g least) → index < length plan.tree → get_or plan.tree index node ≡ node → IsHere p plan index turns g node h.met
so_far-here p plan index turns g least node h within is =
    let here = drop_here plan.tree index node within is in
    let whole : IsTrue (are_trees (length h.gs) (node ∷ drop (index + 1) plan.tree)) = subst (λ nodes. IsTrue (are_trees (length h.gs) nodes)) here h.whole in
    let first = first_left p plan.tree turns g h.gs node (drop (index + 1) plan.tree) h.place whole in
    record {
      rest = first.0;
      place = first.2;
      finds = λ found f. h.finds found (subst (λ nodes. RecordsFind p plan h.gs index nodes found) (sym here) (subst (λ gs. RecordsFind p plan gs index (node ∷ drop (index + 1) plan.tree) found) (sym first.1) f));
      whole = subst (λ gs. IsTrue (are_trees (length gs) (node ∷ drop (index + 1) plan.tree))) first.1 whole;
      leaves = h.leaves ∙ ap (λ nodes. h.met ++ leaves_at h.gs nodes) here ∙ ap (λ gs. h.met ++ leaves_at gs (node ∷ drop (index + 1) plan.tree)) first.1;
    }

-- at the next record the walk stands at a place of the tree
pub so_far-stands : (p : Parts) (plan : Plan) (index : ℕ) (turns : List Turn) (g : Region) (least : Option ℤ) (node : TreeNode) → IsSoFar p plan index turns g least → index < length plan.tree → get_or plan.tree index node ≡ node → StandsAt p plan.tree turns g
so_far-stands p plan index turns g least node h within is = let here = so_far-here p plan index turns g least node h within is in record { rest = here.rest; is_place = here.place }

-- a record that breaks no rule, from which the walk goes on
pub so_far-step : (p : Parts) (plan : Plan) (index : ℕ) (turns turns_after : List Turn) (g g_after : Region) (least least_after : Option ℤ) (node : TreeNode)
    → IsSoFar p plan index turns g least → index < length plan.tree → get_or plan.tree index node ≡ node → RecordFinds p plan g index node None
    → ((gs : List Region) → IsTreePlace p plan.tree turns g gs → AreLeft p plan.tree turns_after g_after (children_at g node ++ gs))
    → ((met : List LeafAt) → IsLeastBoundIn p plan.cuts met least → IsLeastBoundIn p plan.cuts (met ++ leaf_here g node) least_after)
    → IsSoFar p plan (index + 1) turns_after g_after least_after
so_far-step p plan index turns turns_after g g_after least least_after node h within is none left lower =
    let here = so_far-here p plan index turns g least node h within is in
    record {
      gs = children_at g node ++ here.rest;
      met = h.met ++ leaf_here g node;
      place = left here.rest here.place;
      finds = λ found f. here.finds found (inr (none, subst (λ i. RecordsFind p plan (children_at g node ++ here.rest) i (drop (index + 1) plan.tree) found) (add-one index) f));
      whole = after-whole g node here.rest (drop (index + 1) plan.tree) here.whole;
      leaves = here.leaves ∙ sym (append_assoc h.met (leaf_here g node) _);
      is_least = lower h.met h.is_least;
    }

-- a record that breaks a rule
pub so_far-fault : (p : Parts) (plan : Plan) (index : ℕ) (turns : List Turn) (g : Region) (least : Option ℤ) (node : TreeNode) (fault : Rejected)
    → IsSoFar p plan index turns g least → index < length plan.tree → get_or plan.tree index node ≡ node → RecordFinds p plan g index node (Some fault) → TreeFinds p plan plan.tree (Some fault)
so_far-fault p plan index turns g least node fault h within is found =
    (so_far-here p plan index turns g least node h within is).finds (Some fault) (inl (refl, found))

-- at the end nothing is left
pub so_far-end : (p : Parts) (plan : Plan) (index : ℕ) (turns : List Turn) (g : Region) (least : Option ℤ) → IsSoFar p plan index turns g least → length plan.tree ≤ index → TreeFinds p plan plan.tree None × IsLeastBoundIn p plan.cuts (leaves_of p plan.tree) least
so_far-end p plan index turns g least h ended =
    let none : drop index plan.tree ≡ [] = drop_of_length-le plan.tree ended in
    let no_more : h.gs ≡ [] = none_left h.gs (subst (λ nodes. IsTrue (are_trees (length h.gs) nodes)) none h.whole) in
    let leaves : leaves_of p plan.tree ≡ h.met = h.leaves ∙ ap (λ nodes. h.met ++ leaves_at h.gs nodes) none ∙ ap (λ gs. h.met ++ leaves_at gs []) no_more ∙ append-nil h.met in
    (h.finds None (subst (λ gs. RecordsFind p plan gs index (drop index plan.tree) None) (sym no_more) refl), subst (λ ls. IsLeastBoundIn p plan.cuts ls least) (sym leaves) h.is_least)
  where
    none_left : (gs : List Region) → IsTrue (are_trees (length gs) []) → gs ≡ []
    none_left [] h = refl
    none_left (g ∷ gs) h = absurd (let bad : false ≡ true = h in cc)

-- the record of a place
pub record_at : (nodes : List TreeNode) (i : ℕ) → i < length nodes → (node : TreeNode) × (get_or nodes i node ≡ node) × (slice_get nodes i ≡ Some node)
record_at nodes i within = (get_or nodes i (Leaf Routed), get_or_default nodes i (get_or nodes i (Leaf Routed)) (Leaf Routed) within, slice_get-get_or nodes i (Leaf Routed) within)
