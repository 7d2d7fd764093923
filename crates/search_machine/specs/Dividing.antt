-- Divisions: an examined leaf gets two children, where two paths of a demand part or two steps of a link.
use Rattle.std.specs.Prelude.{ℕ, suc, ◌≡◌, ◌≢◌, ◌<◌, true, false, ◌||◌, List, [], ◌∷◌, ◌++◌, length, take, None, slice_set, IsTrue}
use Rattle.plan_base.specs.declared.ids.ArcId.{ArcId}
use Rattle.plan_base.specs.declared.ids.BranchId.{BranchId}
use Rattle.plan_base.specs.declared.parts.Parts.{Parts}
use Rattle.plan_base.specs.Arcs.{is_arc, tail_of}
use Rattle.plan_base.specs.Places.{link_of_place}
use Rattle.plan_base.specs.Paths.{arc_at}
use Rattle.arc_restrict.specs.Restrictions.{Forbidden, is_among, IsPermittedPath}
use Rattle.link_steps.specs.declared.range.LoadRange.{LoadRange}
use Rattle.link_steps.specs.Costs.{IsStepEnd}
use Rattle.proof_tree.specs.Regions.{Region}
pub use Rattle.proof_tree.specs.Regions.{IsLoadSplit}
use Rattle.proof_tree.specs.Splits.{IsSplit}
use Rattle.proof_tree.specs.Spellings.{IsAscending}
use Rattle.search_machine.specs.State.{Node, State, restriction_of, region_of, kept_prices, Limit, ArcSplit, LoadSplit, Divider, left_limit, right_limit, Division, DividedBy}
use Rattle.branch_tree.specs.declared.node.Divider.TheVariants as divider
use Rattle.search_machine.specs.Changes.{waiting_with}
use Rattle.search_machine.specs.Readiness.{IsReady, NoneFar}

-- Two permitted paths of the demand part at the node, the first one's arc there is in the left set and the
-- second one's in the right set, and each arc that leaves the node and is not forbidden is in one of the sets.
pub record PartsAt (p : Parts) (r : Forbidden) (division : ArcSplit) : Type 0 where
  pub is_split : IsSplit p r division.demand division.at division.left division.right
  pub first : List ArcId
  pub second : List ArcId
  pub first_path : IsPermittedPath p r division.demand.0 first
  pub second_path : IsPermittedPath p r division.demand.0 second
  pub place : ℕ
  pub in_first : place < length first
  pub in_second : place < length second
  pub together : take place first ≡ take place second
  pub on_left : is_among division.left (arc_at first place) ≡ true
  pub on_right : is_among division.right (arc_at second place) ≡ true
  pub shared : (a : ArcId) → IsTrue (is_arc p a) → (tail_of p a).0 ≡ division.at.0 → r division.demand.0 a ≡ false → (is_among division.left a || is_among division.right a) ≡ true
  pub left_ascends : IsAscending division.left
  pub right_ascends : IsAscending division.right

-- some demand has two permitted paths
pub record HasChoice (p : Parts) (r : Forbidden) : Type 0 where
  pub demand : ℕ
  pub within : demand < length p.demands
  pub first : List ArcId
  pub second : List ArcId
  pub first_path : IsPermittedPath p r demand first
  pub second_path : IsPermittedPath p r demand second
  pub differ : first ≢ second

-- the range of a place is split where a step of its link ends, so that loads on the two sides cost differently
pub record PartsSteps (p : Parts) (ranges : List LoadRange) (division : LoadSplit) : Type 0 where
  pub is_split : IsLoadSplit p ranges division.place division.load
  pub is_end : IsStepEnd p (link_of_place p division.place) division.load

-- the split parts two paths of a demand, or two steps where some demand has two paths
abbrev pub PartsBy : Parts → Region → Divider → Type 0
PartsBy p g (divider.Arcs d) = PartsAt p g.forbidden d
PartsBy p g (divider.Load d) = PartsSteps p g.ranges d × HasChoice p g.forbidden

-- a new node with this limit too
abbrev pub child_of : Node → Limit → Node
child_of node limit = waiting_with (limit ∷ node.limits) (kept_prices node)

-- the node when it is divided: its round ends
abbrev pub divided_by : Division → Node → Node
divided_by division node = record node { fate = DividedBy division; round = None }

-- the examined node is divided, and its two children wait at the end of the list
pub record Divides (old : State) (id left_child right_child : BranchId) (new : State) : Type 0 where
  pub node : Node
  pub ready : IsReady old id node
  pub none_far : NoneFar old.problem (restriction_of node)
  pub division : Division
  pub parts : PartsBy old.problem (region_of old.problem node) division.by
  pub left_is : division.left_child ≡ left_child
  pub right_is : division.right_child ≡ right_child
  pub left_next : left_child.0 ≡ length old.nodes
  pub right_next : right_child.0 ≡ suc (length old.nodes)
  pub becomes : new ≡ record old {
    nodes = slice_set old.nodes id.0 (divided_by division node) ++ (child_of node (left_limit division.by) ∷ child_of node (right_limit division.by) ∷ []);
    examined = suc old.examined;
  }
