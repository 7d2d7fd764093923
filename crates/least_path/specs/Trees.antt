-- The ways of least weight from one node, the source, to all others.
use Rattle.std.specs.Prelude.{ℕ, ◌≡◌, ◌≤◌, ◌+◌, List, Option, Some, None, slice_index, if◌then◌else◌}
use Rattle.plan_base.specs.declared.ids.NodeId.{NodeId}
use Rattle.plan_base.specs.declared.ids.ArcId.{ArcId}
use Rattle.plan_base.specs.declared.parts.Parts.{Parts}
use Rattle.plan_base.specs.Arcs.{is_arc, tail_of, head_of}
use Rattle.least_path.specs.declared.label.Label.{Label}
use Rattle.least_path.specs.Paths.{Weights, weight_at, IsUsable}
use Rattle.least_path.specs.Labels.{Labels, label_at, HasNoOpen, IsSearch}

-- the labels of a search from the source that went on until no node was left
pub record IsTree (p : Parts) (ws : Weights) (s : NodeId) (ls : Labels) : Type 0 where
  pub search : IsSearch p ws None s (record { 0 = p.nodes }) ls
  pub done : HasNoOpen ls

-- the length that a node's label tells, if it has one
abbrev pub length_of_label : Option Label → Option ℕ
length_of_label None = None
length_of_label (Some l) = Some l.length

-- the length of the way to the node of this number, if it is reached
abbrev pub length_at : Labels → ℕ → Option ℕ
length_at ls v = length_of_label (label_at ls v)

-- each node that is reached has the length of its way
abbrev pub AreLengths : Labels → List ℕ → Type 0
AreLengths ls lengths = (v n : ℕ) → length_at ls v ≡ Some n → slice_index lengths v ≡ n

-- no usable arc's head is above its tail by more than its weight
abbrev pub RiseAlong : Parts → Weights → List ℕ → Type 0
RiseAlong p ws lengths = (a : ArcId) → IsUsable p ws a → slice_index lengths (head_of p a).0 ≤ slice_index lengths (tail_of p a).0 + weight_at ws a

-- the label of the node that the label's last arc leaves, if there is such an arc
abbrev pub label_before : Parts → Labels → Label → Option Label
label_before p ls l = if is_arc p l.via then label_at ls (tail_of p l.via).0 else None
