-- What is read of the ground of an open leaf: the ranges of loads there.
use Rattle.std.proofs.Common.{◌≡◌, ◌<◌, List, length, get_or, Option, Some, slice_get, sym, ap, ◌∙◌, arith}
use Rattle.std.specs.Prelude.{option_map, IsSome}
use Rattle.std.proofs.lemmas.Option.{slice_get_within}
use Rattle.plan_base.specs.declared.ids.BranchId.{BranchId}
use Rattle.plan_base.specs.declared.parts.Parts.{Parts}
use Rattle.link_steps.specs.declared.range.LoadRange.{LoadRange}
use Rattle.branch_tree.specs.declared.node.Limit.{Limit}
use Rattle.branch_tree.specs.declared.node.Fate.TheVariants.{Undone}
use Rattle.branch_tree.specs.Branches.{ranges_by}
use Rattle.search_machine.specs.State.{Node, State, ranges_of}
use Rattle.search_nodes.specs.Grounds.{Kept, ranges_in, HasGrounds}
use Rattle.search_view.proofs.Reading.{HasKept, read-kept, kept-some, kept-ranges}

module _ (s : State) (id : BranchId) (grounds : List (Option Kept)) (keeps : HasGrounds s.problem s.nodes grounds) (node : Node) (is : slice_get s.nodes id.0 ≡ Some node) (undone : node.fate ≡ Undone) where
  -- the number of an open leaf is below the count of kept regions
  pub leaf-within : id.0 < length grounds
  leaf-within = let count = keeps.count in let below = slice_get_within s.nodes id.0 node is in omega arith

  module _ {A : Type 0} (f : A → List LoadRange) (item : Option Kept) (read : item ≡ get_or grounds id.0 item) (o : Option A) (shown : option_map f o ≡ ranges_in item) where
    kept : HasKept s.problem node item
    kept = read-kept s id grounds node item keeps is undone read

    -- what shows the kept ranges of loads of an open leaf is there
    pub leaf-some : IsSome o
    leaf-some = kept-some s.problem node item kept o f (λ (k : Kept). k.ranges) shown

    -- they are those of a node with the same limits
    pub leaf-ranges : (x : A) (p : Parts) (ranges : List LoadRange) (other : Node) → o ≡ Some x → p ≡ s.problem → ranges ≡ f x → other.limits ≡ node.limits → ranges ≡ ranges_of p other
    leaf-ranges x p ranges other there same_p same same_limits =
        same
        ∙ (kept-ranges s.problem node item kept o f x shown there
        ∙ (ap (λ (q : Parts). ranges_of q node) (sym same_p) ∙ ap (λ (limits : List Limit). ranges_by p limits) (sym same_limits)))
