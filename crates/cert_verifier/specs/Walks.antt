-- Where a walk over the records stands: the splits above the place, and the regions that are left to be answered.
use Rattle.std.specs.Prelude.{ℕ, ◌≡◌, ◌<◌, Bool, true, false, List, [], ◌∷◌, slice_get, Some, All}
use Rattle.plan_base.specs.declared.parts.Parts.{Parts}
use Rattle.link_steps.specs.declared.range.LoadRange.{LoadRange}
use Rattle.link_steps.specs.Ranges.{range_at, AreRanges}
use Rattle.proof_tree.specs.declared.tree.TreeNode.{TreeNode}
use Rattle.proof_tree.specs.declared.tree.TreeNode.TheVariants.{Split, Loads, Leaf}
use Rattle.proof_tree.specs.Regions.{Region, IsLoadSplit}
use Rattle.proof_tree.specs.Splits.{IsSplit}
use Rattle.proof_tree.specs.Trees.{children_at}
use Rattle.verifier_paths.specs.Kept.{Marks, forbidden_by}
use Rattle.cert_verifier.specs.declared.walk.Turn.{Turn}
use Rattle.cert_verifier.specs.declared.walk.Walk.{Walk}

-- the region of these marks and these ranges
abbrev pub region_of_marks : Marks → List LoadRange → Region
region_of_marks marks ranges = record { forbidden = forbidden_by marks; ranges = ranges }

-- the record is a split of the region, and the range is what the place had there whose loads it splits
abbrev pub Splits : Parts → Region → TreeNode → LoadRange → Type 0
Splits p g (Split demand at left right) range = IsSplit p g.forbidden demand at left right
Splits p g (Loads place load) range = IsLoadSplit p g.ranges place load × (range ≡ range_at g.ranges place)
Splits p g (Leaf evidence) range = ⊥

-- the record is a split whose demand, arcs or place are among so many; the range has loads above that of a split of loads
abbrev pub IsSplitWithin : ℕ → ℕ → ℕ → LoadRange → TreeNode → Type 0
IsSplitWithin demands arcs places range (Split demand at left right) = (demand.0 < demands) × All (λ a. a.0 < arcs) left × All (λ a. a.0 < arcs) right
IsSplitWithin demands arcs places range (Loads place load) = (place < places) × (load < range.most)
IsSplitWithin demands arcs places range (Leaf evidence) = ⊥

-- the marks have the rows that they had, and the turns and the least bound are what they were
pub record KeepsRest (old new : Walk) : Type 0 where
  pub demands : new.forbidden.demands ≡ old.forbidden.demands
  pub arcs : new.forbidden.arcs ≡ old.forbidden.arcs
  pub turns : new.turns.items ≡ old.turns.items
  pub least : new.least ≡ old.least

-- the right child of a split, or the left one
abbrev pub child_of : Bool → Region → Region → Region
child_of true left right = right
child_of false left right = left

-- what is left to be answered after a child: after the left one, the right one comes first
abbrev pub left_after : Bool → Region → List Region → List Region
left_after true right gs = gs
left_after false right gs = right ∷ gs

-- a split of the records with the regions of its children, whose own region is one of which more is left
pub record HasSplit (p : Parts) (nodes : List TreeNode) (index : ℕ) (range : LoadRange) (upper : Region → List Region → Type 0) : Type 0 where
  pub split : TreeNode
  pub parent : Region
  pub left : Region
  pub right : Region
  pub more : List Region
  pub is_record : slice_get nodes index ≡ Some split
  pub splits : Splits p parent split range
  pub children : children_at parent split ≡ left ∷ right ∷ []
  pub above : upper parent more

-- the place is in this child of a split of the records
pub record IsBelow (p : Parts) (nodes : List TreeNode) (turn : Turn) (upper : Region → List Region → Type 0) (g : Region) (gs : List Region) : Type 0 where
  pub up : HasSplit p nodes turn.split turn.range upper
  pub child : g ≡ child_of turn.is_right up.left up.right
  pub rest : gs ≡ left_after turn.is_right up.right up.more

-- below these turns, the last of them first, a place with this region leaves these regions to be answered
abbrev pub IsTreePlace : Parts → List TreeNode → List Turn → Region → List Region → Type 0
IsTreePlace p nodes [] g gs = (gs ≡ []) × AreRanges p g.ranges
IsTreePlace p nodes (turn ∷ turns) g gs = IsBelow p nodes turn (IsTreePlace p nodes turns) g gs

-- some regions are left to be answered after the place
pub record StandsAt (p : Parts) (nodes : List TreeNode) (turns : List Turn) (g : Region) : Type 0 where
  pub rest : List Region
  pub is_place : IsTreePlace p nodes turns g rest

-- the regions that are left to be answered: the place has the first of them, and where there are none the tree has ended
abbrev pub AreLeft : Parts → List TreeNode → List Turn → Region → List Region → Type 0
AreLeft p nodes turns g [] = turns ≡ []
AreLeft p nodes turns g (next ∷ gs) = (g ≡ next) × IsTreePlace p nodes turns g gs

-- up from a child: there, at the next record, or not there yet, at the split
abbrev pub IsAfter : Bool → Parts → List TreeNode → List Turn → Region → List Region → Type 0
IsAfter true p nodes turns g gs = AreLeft p nodes turns g gs
IsAfter false p nodes turns g gs = IsTreePlace p nodes turns g gs
