-- Pieces of the search by settled nodes. Of public clauses those of a tree alone cite it.
use Rattle.std.specs.Prelude.{Bool, true, false, not, ◌&&◌, ℕ, zero, suc, ◌≡◌, ◌≢◌, ◌<◌, ◌≤◌, ◌+◌, ◌*◌, List, [], ◌∷◌, ◌++◌, length, Option, Some, None, slice_index_or, slice_set, sum_by, nat_lt, if◌then◌else◌, min, replicate}
use Rattle.std.specs.Option.{unwrap_or}
use Rattle.plan_base.specs.declared.ids.NodeId.{NodeId}
use Rattle.plan_base.specs.declared.ids.ArcId.{ArcId}
use Rattle.plan_base.specs.declared.parts.Parts.{Parts}
use Rattle.plan_base.specs.Arcs.{tail_of, head_of, no_arc}
use Rattle.plan_base.specs.Paths.{arc_at}
use Rattle.least_path.specs.declared.label.Label.{Label}
use Rattle.least_path.specs.declared.label.Stop.{Stop}
use Rattle.least_path.specs.declared.limits.TheConstants.{MAX_WEIGHT}
use Rattle.least_path.specs.Paths.{Weights, weight_at, IsUsable, IsBelow}

-- one label for each node that is reached
abbrev pub Labels : Type 0
Labels = List (Option Label)

-- the label of the node of this number, if it is reached
abbrev pub label_at : Labels → ℕ → Option Label
label_at ls v = slice_index_or ls v None

-- the label is shorter than what is known
abbrev pub is_better : Label → Option Label → Bool
is_better l None = true
is_better l (Some old) = nat_lt l.length old.length

-- the labels after this one is offered to the node of number v
unfoldable pub offered : Labels → ℕ → Label → Labels
offered ls v l = if is_better l (label_at ls v) then slice_set ls v (Some l) else ls

-- the label is not settled, and nearer than what was found
abbrev pub is_nearer_than : Label → Option Stop → Bool
is_nearer_than l None = not l.settled
is_nearer_than l (Some stop) = not l.settled && nat_lt l.length stop.label.length

-- the node, where it is not settled and nearer than what was found
unfoldable pub nearer_with : Option Stop → NodeId → Label → Option Stop
nearer_with found node l = if is_nearer_than l found then Some (record { node = node; label = l }) else found

-- the same of a node that may have no label
abbrev pub nearer_of : Option Stop → NodeId → Option Label → Option Stop
nearer_of found node None = found
nearer_of found node (Some l) = nearer_with found node l

-- each node below n that has a label is settled
abbrev pub HasNoOpenBelow : Labels → ℕ → Type 0
HasNoOpenBelow ls n = (v : ℕ) (l : Label) → v < n → label_at ls v ≡ Some l → l.settled ≡ true

-- each node that has a label is settled
abbrev pub HasNoOpen : Labels → Type 0
HasNoOpen ls = (v : ℕ) (l : Label) → label_at ls v ≡ Some l → l.settled ≡ true

-- a node that is not settled, and of the nodes below n none such is nearer
pub record IsNearestBelow (ls : Labels) (n : ℕ) (stop : Stop) : Type 0 where
  pub is : label_at ls stop.node.0 ≡ Some stop.label
  pub unsettled : stop.label.settled ≡ false
  pub least : (v : ℕ) (l : Label) → v < n → label_at ls v ≡ Some l → l.settled ≡ false → stop.label.length ≤ l.length

-- a node that is not settled, and none such is nearer
pub record IsNearest (ls : Labels) (stop : Stop) : Type 0 where
  pub is : label_at ls stop.node.0 ≡ Some stop.label
  pub unsettled : stop.label.settled ≡ false
  pub least : (v : ℕ) (l : Label) → label_at ls v ≡ Some l → l.settled ≡ false → stop.label.length ≤ l.length

-- 1 for a node that is not settled
abbrev pub open_one : Option Label → ℕ
open_one None = 1
open_one (Some l) = if l.settled then 0 else 1

-- how many nodes are not settled
abbrev pub open_count : Labels → ℕ
open_count ls = sum_by open_one ls

-- the label's last arc leads from a settled node, whose way is one arc shorter
pub record IsReached (p : Parts) (ws : Weights) (ls : Labels) (v : ℕ) (l : Label) : Type 0 where
  pub usable : IsUsable p ws l.via
  pub head : (head_of p l.via).0 ≡ v
  pub parent : Label
  pub parent_is : label_at ls (tail_of p l.via).0 ≡ Some parent
  pub parent_settled : parent.settled ≡ true
  pub steps : l.steps ≡ suc parent.steps
  pub length_is : l.length ≡ parent.length + weight_at ws l.via

-- a label is that of the source, or goes on from a settled node
pub record IsLabel (p : Parts) (ws : Weights) (s : NodeId) (ls : Labels) (v : ℕ) (l : Label) : Type 0 where
  pub steps_within : l.steps + open_count ls ≤ p.nodes
  pub length_within : l.length ≤ l.steps * MAX_WEIGHT
  pub from_source : l.steps ≡ 0 → v ≡ s.0
  pub no_length : l.steps ≡ 0 → l.length ≡ 0
  pub from_arc : l.steps ≢ 0 → IsReached p ws ls v l

-- the labels of a search that goes out from the source and has not settled the target
pub record AreLabels (p : Parts) (ws : Weights) (s t : NodeId) (ls : Labels) : Type 0 where
  pub count : length ls ≡ p.nodes
  pub source_label : Label
  pub source_is : label_at ls s.0 ≡ Some source_label
  pub source_length : source_label.length ≡ 0
  pub each : (v : ℕ) (l : Label) → label_at ls v ≡ Some l → IsLabel p ws s ls v l
  pub ordered : (v w : ℕ) (l m : Label) → label_at ls v ≡ Some l → label_at ls w ≡ Some m → l.settled ≡ true → m.settled ≡ false → l.length ≤ m.length
  pub target_open : (l : Label) → label_at ls t.0 ≡ Some l → l.settled ≡ false

-- the node has a label of at most this length
pub record HasAtMost (ls : Labels) (v : ℕ) (bound : ℕ) : Type 0 where
  pub label : Label
  pub is : label_at ls v ≡ Some label
  pub within : label.length ≤ bound

-- a way of this length may be part of a path that is asked for: it is below the limit, and shorter than the way that the target has
pub record IsWanted (limit : Option ℕ) (t : NodeId) (ls : Labels) (n : ℕ) : Type 0 where
  pub below : IsBelow limit n
  pub shorter : (l : Label) → label_at ls t.0 ≡ Some l → n < l.length

-- a label below the limit that goes on from a node along a usable arc that leaves it
pub record GoesOn (p : Parts) (ws : Weights) (limit : Option ℕ) (ls : Labels) (stop : Stop) (a : ArcId) (l : Label) : Type 0 where
  pub usable : IsUsable p ws a
  pub tail : (tail_of p a).0 ≡ stop.node.0
  pub head : (head_of p a).0 < length ls
  pub small : weight_at ws a ≤ MAX_WEIGHT
  pub length_is : l.length ≡ stop.label.length + weight_at ws a
  pub steps : l.steps ≡ stop.label.steps + 1
  pub via : l.via ≡ a
  pub settled : l.settled ≡ false
  pub below : IsBelow limit l.length

-- the arc's head has a label of at most this length, where a way of it is wanted
abbrev pub IsServed : Parts → Option ℕ → NodeId → Labels → ArcId → ℕ → Type 0
IsServed p limit t ls a n = IsWanted limit t ls n → HasAtMost ls (head_of p a).0 n

-- an arc that leaves a node asks for no change
abbrev pub IsIdle : Parts → Weights → Option ℕ → NodeId → Labels → Stop → ArcId → Type 0
IsIdle p ws limit t ls stop a = IsUsable p ws a → IsServed p limit t ls a (stop.label.length + weight_at ws a)

-- where the arc's tail is settled, its head has a label that is no longer than the way along the arc, if that is wanted
abbrev pub IsRelaxed : Parts → Weights → Option ℕ → NodeId → Labels → ArcId → Type 0
IsRelaxed p ws limit t ls a = (l : Label) → label_at ls (tail_of p a).0 ≡ Some l → l.settled ≡ true → IsServed p limit t ls a (l.length + weight_at ws a)

-- no label has a length at the limit or beyond
abbrev pub AreBelow : Option ℕ → Labels → Type 0
AreBelow limit ls = (v : ℕ) (l : Label) → label_at ls v ≡ Some l → IsBelow limit l.length

-- the search has gone on from each settled node
pub record IsSearch (p : Parts) (ws : Weights) (limit : Option ℕ) (s t : NodeId) (ls : Labels) : Type 0 where
  pub labels : AreLabels p ws s t ls
  pub below : AreBelow limit ls
  pub relaxed : (a : ArcId) → IsUsable p ws a → IsRelaxed p ws limit t ls a

-- the search has gone on from each settled node but the last one, and from that one along its first i arcs
pub record IsSpread (p : Parts) (ws : Weights) (limit : Option ℕ) (s t : NodeId) (ls : Labels) (stop : Stop) (arcs : List ArcId) (i : ℕ) : Type 0 where
  pub labels : AreLabels p ws s t ls
  pub below : AreBelow limit ls
  pub here : label_at ls stop.node.0 ≡ Some stop.label
  pub settled : stop.label.settled ≡ true
  pub latest : (v : ℕ) (l : Label) → label_at ls v ≡ Some l → l.settled ≡ true → l.length ≤ stop.label.length
  pub steps : suc stop.label.steps + open_count ls ≤ p.nodes
  pub others : (a : ArcId) → IsUsable p ws a → (tail_of p a).0 ≢ stop.node.0 → IsRelaxed p ws limit t ls a
  pub done : (j : ℕ) → j < i → IsUsable p ws (arc_at arcs j) → IsRelaxed p ws limit t ls (arc_at arcs j)

-- what is read where a node has no label
abbrev pub no_label : Label
no_label = record { length = 0; steps = 0; via = no_arc; settled = false }

-- the way of a label, its last arcs first read back from node to node
abbrev pub way : Parts → Labels → ℕ → Label → List ArcId
way p ls zero l = []
way p ls (suc k) l = way p ls k (unwrap_or (label_at ls (tail_of p l.via).0) no_label) ++ l.via ∷ []

-- the node is reached
abbrev pub is_labelled : Option Label → Bool
is_labelled None = false
is_labelled (Some l) = true

-- a node's potential: the length of its label, and at most that of the target
abbrev pub potential_of : ℕ → Option Label → ℕ
potential_of weight None = weight
potential_of weight (Some l) = min l.length weight

-- the label of the source
abbrev pub first_label_of : Label
first_label_of = record { length = 0; steps = 0; via = no_arc; settled = false }

-- the labels of so many nodes, of which the source alone is reached
abbrev pub first_labels_of : ℕ → ℕ → Labels
first_labels_of nodes s = slice_set (replicate nodes None) s (Some first_label_of)
