-- Records break no rule exactly where they are valid trees and of the kinds that the plan may have.
use Rattle.std.proofs.Common.{◌≡◌, ℕ, suc, inl, inr, Bool, true, false, ◌||◌, ◌&&◌, List, [], ◌∷◌, ◌++◌, length, None, refl, sym, ◌∙◌}
use Rattle.std.specs.Prelude.{IsTrue}
use Rattle.std.specs.List.{list_any}
use Rattle.plan_base.specs.declared.parts.Parts.{Parts}
use Rattle.plan_base.proofs.Bools.{or-false_both, or-both_false}
use Rattle.proof_tree.specs.declared.tree.TreeNode.{TreeNode}
use Rattle.proof_tree.specs.declared.tree.TreeNode.TheVariants.{Split, Loads, Leaf}
use Rattle.proof_tree.specs.declared.plan.Plan.{Plan}
use Rattle.proof_tree.specs.Regions.{Region}
use Rattle.proof_tree.specs.Shapes.{are_trees}
use Rattle.proof_tree.specs.Trees.{children_at}
use Rattle.proof_tree.specs.RatedTrees.{IsRatedRecord, AreRatedTrees}
use Rattle.proof_tree.specs.Plans.{stated_cost}
use Rattle.cert_verifier.specs.Kinds.{asks_closed, asks_without_cost, is_wrong_kind}
use Rattle.cert_verifier.specs.RecordRules.{RecordFinds, RecordsFind}
use Rattle.cert_verifier.proofs.FirstRules.{unless-none}
use Rattle.cert_verifier.proofs.RuleLaws.{then_by-none, FindsOne, unless-one, then_by-one}
use Rattle.cert_verifier.proofs.SplitLaws.{split_found_none, split_finds_none, split_finds_one, loads_found_none, loads_find_none, loads_find_one}
use Rattle.cert_verifier.proofs.LeafLaws.{leaf_found_none, leaf_finds_none, leaf_finds_one}

-- a plan of any kind may have splits
split-kind : (plan : Plan) → (asks_closed plan.status && false || (asks_without_cost plan.status plan.design && false)) ≡ false
split-kind plan = both _ _
  where
    both : (a b : Bool) → (a && false || (b && false)) ≡ false
    both true true = refl
    both true false = refl
    both false true = refl
    both false false = refl

-- what it says of a record that no rule is broken
record IsSound (p : Parts) (plan : Plan) (g : Region) (node : TreeNode) : Type 0 where
  valid : IsRatedRecord p plan.cuts (stated_cost plan) g node
  kind : is_wrong_kind plan node ≡ false

record_found_none : (p : Parts) (plan : Plan) (g : Region) (index : ℕ) (node : TreeNode) → RecordFinds p plan g index node None → IsSound p plan g node
record_found_none p plan g index (Leaf evidence) h =
    let leaf = then_by-none h in
    record { valid = leaf_found_none p plan.cuts (stated_cost plan) g index evidence leaf.1; kind = unless-none _ _ leaf.0 }
record_found_none p plan g index (Split id at left right) h = record { valid = split_found_none p g.forbidden index id at left right h; kind = split-kind plan }
record_found_none p plan g index (Loads place load) h = record { valid = loads_found_none p g.ranges index place load h; kind = split-kind plan }

record_finds_none : (p : Parts) (plan : Plan) (g : Region) (index : ℕ) (node : TreeNode) → IsRatedRecord p plan.cuts (stated_cost plan) g node → is_wrong_kind plan node ≡ false → RecordFinds p plan g index node None
record_finds_none p plan g index (Leaf evidence) valid kind = inr (inl (kind, refl), leaf_finds_none p plan.cuts (stated_cost plan) g index evidence valid)
record_finds_none p plan g index (Split id at left right) valid kind = split_finds_none p g.forbidden index id at left right valid
record_finds_none p plan g index (Loads place load) valid kind = loads_find_none p g.ranges index place load valid

-- behind a record as many whole trees follow as regions are left
pub after-whole : (g : Region) (node : TreeNode) (rest : List Region) (nodes : List TreeNode) → IsTrue (are_trees (suc (length rest)) (node ∷ nodes)) → IsTrue (are_trees (length (children_at g node ++ rest)) nodes)
after-whole g (Leaf evidence) rest nodes h = h
after-whole g (Split id at left right) rest nodes h = h
after-whole g (Loads place load) rest nodes h = h

-- what it says of records that no rule is broken
pub record AreSound (p : Parts) (plan : Plan) (gs : List Region) (nodes : List TreeNode) : Type 0 where
  pub valid : AreRatedTrees p plan.cuts (stated_cost plan) gs nodes
  pub kinds : list_any (is_wrong_kind plan) nodes ≡ false

-- records that break no rule are valid trees, and of kinds that the plan may have
pub records_found_none : (p : Parts) (plan : Plan) (nodes : List TreeNode) (gs : List Region) (index : ℕ) → IsTrue (are_trees (length gs) nodes) → RecordsFind p plan gs index nodes None → AreSound p plan gs nodes
records_found_none p plan [] [] index whole h = record { valid = tt; kinds = refl }
records_found_none p plan (node ∷ nodes) [] index whole h = absurd (let bad : false ≡ true = whole in cc)
records_found_none p plan [] (g ∷ gs) index whole h = absurd (let bad : false ≡ true = whole in cc)
records_found_none p plan (node ∷ nodes) (g ∷ gs) index whole h =
    let both = then_by-none h in
    let here = record_found_none p plan g index node both.0 in
    let rest = records_found_none p plan nodes (children_at g node ++ gs) (suc index) (after-whole g node gs nodes whole) both.1 in
    record { valid = (here.valid, rest.valid); kinds = or-both_false _ _ here.kind rest.kinds }

-- valid trees of kinds that the plan may have break no rule
pub records_find_none : (p : Parts) (plan : Plan) (nodes : List TreeNode) (gs : List Region) (index : ℕ) → AreRatedTrees p plan.cuts (stated_cost plan) gs nodes → list_any (is_wrong_kind plan) nodes ≡ false → RecordsFind p plan gs index nodes None
records_find_none p plan [] [] index valid kinds = refl
records_find_none p plan (node ∷ nodes) [] index valid kinds = absurd valid
records_find_none p plan [] (g ∷ gs) index valid kinds = absurd valid
records_find_none p plan (node ∷ nodes) (g ∷ gs) index valid kinds =
    let both = or-false_both _ _ kinds in
    inr (record_finds_none p plan g index node valid.0 both.0, records_find_none p plan nodes (children_at g node ++ gs) (suc index) valid.1 both.1)

record_finds_one : (p : Parts) (plan : Plan) (g : Region) (index : ℕ) (node : TreeNode) → FindsOne (RecordFinds p plan g index node)
record_finds_one p plan g index (Split id at left right) = split_finds_one p g.forbidden index id at left right
record_finds_one p plan g index (Loads place load) = loads_find_one p g.ranges index place load
record_finds_one p plan g index (Leaf evidence) = then_by-one _ _ (unless-one _ _) (leaf_finds_one p plan.cuts (stated_cost plan) g index evidence)

-- of records there is at most one first broken rule
pub records_find_one : (p : Parts) (plan : Plan) (nodes : List TreeNode) (gs : List Region) (index : ℕ) → FindsOne (RecordsFind p plan gs index nodes)
records_find_one p plan nodes [] index a b x y = x ∙ sym y
records_find_one p plan [] (g ∷ gs) index a b x y = x ∙ sym y
records_find_one p plan (node ∷ nodes) (g ∷ gs) index a b x y = then_by-one _ _ (record_finds_one p plan g index node) (records_find_one p plan nodes (children_at g node ++ gs) (suc index)) a b x y
