-- A child that is made for a division. No public clause cites this module.
use Rattle.std.specs.Prelude.{◌≡◌, ◌++◌, ◌∷◌, [], List, Option}
use Rattle.plan_base.specs.declared.ids.BranchId.{BranchId}
use Rattle.branch_tree.specs.declared.node.Limit.{Limit}
use Rattle.search_nodes.specs.Grounds.{Kept}
use Rattle.search_machine.specs.State.{Node, State}
use Rattle.search_view.specs.Examining.{HasChild}

-- a child of the node of the number came behind other nodes, and its region behind theirs
pub record HasChildBehind (s : State) (id : BranchId) (limit : Limit) (nodes : List Node) (grounds : List (Option Kept)) (more : List Node) (more_grounds : List (Option Kept)) : Type 0 where
  pub made : HasChild s id limit
  pub nodes_are : more ≡ nodes ++ made.child ∷ []
  pub grounds_are : more_grounds ≡ grounds ++ made.ground ∷ []
