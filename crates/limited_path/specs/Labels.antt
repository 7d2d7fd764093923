-- Pieces of the search by rounds. No public clause cites this module.
use Rattle.std.specs.Prelude.{ℕ, zero, suc, ◌≡◌, ◌≢◌, ◌<◌, ◌≤◌, ◌+◌, ◌*◌, List, [], ◌∷◌, ◌++◌, length, Option, Some, None, slice_index_or, slice_set, nat_lt, if◌then◌else◌, replicate}
use Rattle.plan_base.specs.declared.ids.NodeId.{NodeId}
use Rattle.plan_base.specs.declared.ids.ArcId.{ArcId}
use Rattle.plan_base.specs.declared.parts.Parts.{Parts}
use Rattle.plan_base.specs.Arcs.{tail_of, head_of, no_node, no_arc}
use Rattle.plan_base.specs.Paths.{arc_at}
use Rattle.least_path.specs.declared.limits.TheConstants.{MAX_WEIGHT}
use Rattle.least_path.specs.Paths.{Weights, weight_at, IsUsable}
use Rattle.limited_path.specs.declared.label.Label.{Label}

-- the ways that were found, each behind the one that it goes on from
abbrev pub Labels : Type 0
Labels = List Label

-- for each node the place of its latest label, if it is reached
abbrev pub Latest : Type 0
Latest = List (Option ℕ)

-- the label that is read past the end of the list
abbrev pub no_label : Label
no_label = record { node = no_node; length = 0; steps = 0; via = no_arc; parent = 0 }

-- the label at this place
abbrev pub label_at : Labels → ℕ → Label
label_at ls i = slice_index_or ls i no_label

-- the place of the latest label of the node of this number, if it is reached
abbrev pub latest_at : Latest → ℕ → Option ℕ
latest_at la v = slice_index_or la v None

-- the labels after this one is written at a place, which may be the one behind the last
unfoldable pub written : Labels → ℕ → Label → Labels
written ls i l = if nat_lt i (length ls) then slice_set ls i l else ls ++ l ∷ []

-- where a shorter label goes: in place of the latest one where that is of this round, else behind all
abbrev pub free_place : Labels → ℕ → ℕ → ℕ
free_place ls start i = if nat_lt i start then length ls else i

-- where the label goes, beside the latest one of its node; nowhere if it is not shorter
abbrev pub place_beside : Labels → ℕ → Label → Option ℕ → Option ℕ
place_beside ls start l None = Some (length ls)
place_beside ls start l (Some i) = if nat_lt l.length (label_at ls i).length then Some (free_place ls start i) else None

-- where the label goes in a round whose labels begin at this place, if it is shorter than what is known of its node
unfoldable pub place_of : Labels → Latest → ℕ → Label → Option ℕ
place_of ls la start l = place_beside ls start l (latest_at la l.node.0)

-- the labels with this one at its place, if it has one
abbrev pub labels_with : Labels → Label → Option ℕ → Labels
labels_with ls l None = ls
labels_with ls l (Some i) = written ls i l

-- the latest places with that of this label, if it has one
abbrev pub latest_with : Latest → Label → Option ℕ → Latest
latest_with la l None = la
latest_with la l (Some i) = slice_set la l.node.0 (Some i)

-- the label's last arc leads from the node of an earlier label, whose way is one arc shorter
pub record IsReached (p : Parts) (ws : Weights) (ls : Labels) (i : ℕ) (l : Label) : Type 0 where
  pub usable : IsUsable p ws l.via
  pub head : (head_of p l.via).0 ≡ l.node.0
  pub earlier : l.parent < i
  pub tail : (tail_of p l.via).0 ≡ (label_at ls l.parent).node.0
  pub steps : l.steps ≡ suc (label_at ls l.parent).steps
  pub length_is : l.length ≡ (label_at ls l.parent).length + weight_at ws l.via

-- a label is that of the source, or goes on from an earlier one
pub record IsLabel (p : Parts) (ws : Weights) (s : NodeId) (ls : Labels) (i : ℕ) (l : Label) : Type 0 where
  pub node_within : l.node.0 < p.nodes
  pub length_within : l.length ≤ l.steps * MAX_WEIGHT
  pub from_source : l.steps ≡ 0 → l.node.0 ≡ s.0
  pub no_length : l.steps ≡ 0 → l.length ≡ 0
  pub from_arc : l.steps ≢ 0 → IsReached p ws ls i l

-- the latest label of the label's node is this one or a later one
pub record IsKnown (la : Latest) (i : ℕ) (l : Label) : Type 0 where
  pub latest : ℕ
  pub is : latest_at la l.node.0 ≡ Some latest
  pub later : i ≤ latest

-- the label at this place is one of the node of this number
pub record IsOf (ls : Labels) (v i : ℕ) : Type 0 where
  pub within : i < length ls
  pub node_is : (label_at ls i).node.0 ≡ v

-- labels of ways from the source, of which those of one node get strictly shorter
pub record AreWays (p : Parts) (ws : Weights) (s : NodeId) (ls : Labels) (la : Latest) : Type 0 where
  pub count : length la ≡ p.nodes
  pub source_within : 0 < length ls
  pub source_node : (label_at ls 0).node.0 ≡ s.0
  pub source_length : (label_at ls 0).length ≡ 0
  pub source_steps : (label_at ls 0).steps ≡ 0
  pub each : (i : ℕ) → i < length ls → IsLabel p ws s ls i (label_at ls i)
  pub shorter : (i j : ℕ) → i < j → j < length ls → (label_at ls i).node.0 ≡ (label_at ls j).node.0 → (label_at ls j).length < (label_at ls i).length
  pub known : (i : ℕ) → i < length ls → IsKnown la i (label_at ls i)
  pub latest : (v i : ℕ) → latest_at la v ≡ Some i → IsOf ls v i

-- the node has a label of at most this length and this many steps
pub record HasAtMost (ls : Labels) (v bound steps : ℕ) : Type 0 where
  pub place : ℕ
  pub is : IsOf ls v place
  pub length_within : (label_at ls place).length ≤ bound
  pub steps_within : (label_at ls place).steps ≤ steps

-- the arc's head has a label that is no longer than the way of this one along the arc
abbrev pub IsRelaxed : Parts → Weights → Labels → Label → ArcId → Type 0
IsRelaxed p ws ls l a = HasAtMost ls (head_of p a).0 (l.length + weight_at ws a) (suc l.steps)

-- the search has gone on from this label
abbrev pub IsDone : Parts → Weights → Labels → Label → Type 0
IsDone p ws ls l = (a : ArcId) → IsUsable p ws a → (tail_of p a).0 ≡ l.node.0 → IsRelaxed p ws ls l a

-- n rounds are done: the last one found the labels from this place on
pub record AreRounds (p : Parts) (ws : Weights) (s : NodeId) (ls : Labels) (la : Latest) (from n : ℕ) : Type 0 where
  pub ways : AreWays p ws s ls la
  pub from_within : from ≤ length ls
  pub few : length ls ≤ 1 + n * p.nodes
  pub done : (i : ℕ) → i < from → IsDone p ws ls (label_at ls i)
  pub most : (i : ℕ) → i < length ls → (label_at ls i).steps ≤ n
  pub last : (i : ℕ) → from ≤ i → i < length ls → (label_at ls i).steps ≡ n

-- the label is found in a round: it goes on from one that was there before, and is the latest of its node
pub record IsNew (ls : Labels) (la : Latest) (start n i : ℕ) : Type 0 where
  pub steps : (label_at ls i).steps ≡ n
  pub earlier : (label_at ls i).parent < start
  pub latest : latest_at la (label_at ls i).node.0 ≡ Some i

-- in round n, whose labels begin at this place, the search has gone on from each label before place k
pub record IsRound (p : Parts) (ws : Weights) (s : NodeId) (ls : Labels) (la : Latest) (start n k : ℕ) : Type 0 where
  pub ways : AreWays p ws s ls la
  pub some_before : 0 < start
  pub start_within : start ≤ length ls
  pub few : start + p.nodes ≤ 1 + n * p.nodes
  pub before : (i : ℕ) → i < start → (label_at ls i).steps < n
  pub front : (i : ℕ) → k ≤ i → i < start → suc (label_at ls i).steps ≡ n
  pub done : (i : ℕ) → i < k → IsDone p ws ls (label_at ls i)
  pub new : (i : ℕ) → start ≤ i → i < length ls → IsNew ls la start n i

-- the same, and it has gone on from the label at place k along the first m of these arcs
pub record IsSpread (p : Parts) (ws : Weights) (s : NodeId) (ls : Labels) (la : Latest) (start n k : ℕ) (arcs : List ArcId) (m : ℕ) : Type 0 where
  pub round : IsRound p ws s ls la start n k
  pub relaxed : (j : ℕ) → j < m → IsUsable p ws (arc_at arcs j) → IsRelaxed p ws ls (label_at ls k) (arc_at arcs j)

-- the search has gone on from each label of fewer steps than the limit, and found none of more
pub record IsSearch (p : Parts) (ws : Weights) (s : NodeId) (ls : Labels) (la : Latest) (limit : ℕ) : Type 0 where
  pub ways : AreWays p ws s ls la
  pub most : (i : ℕ) → i < length ls → (label_at ls i).steps ≤ limit
  pub done : (i : ℕ) → i < length ls → (label_at ls i).steps < limit → IsDone p ws ls (label_at ls i)

-- the way of a label of so many steps, read back from label to label
abbrev pub way : Labels → ℕ → Label → List ArcId
way ls zero l = []
way ls (suc k) l = way ls k (label_at ls l.parent) ++ l.via ∷ []

-- the label of the source
abbrev pub first_label_of : NodeId → Label
first_label_of s = record { node = s; length = 0; steps = 0; via = no_arc; parent = 0 }

-- the labels before the first round
abbrev pub first_labels_of : NodeId → Labels
first_labels_of s = first_label_of s ∷ []

-- the latest places before the first round, of so many nodes
abbrev pub first_latest_of : ℕ → NodeId → Latest
first_latest_of nodes s = slice_set (replicate nodes None) s.0 (Some 0)
