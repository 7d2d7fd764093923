-- A state in which one node is replaced, and the counts rise, is sound where the new node is.
use Rattle.std.proofs.Common.{◌≡◌, ℕ, zero, suc, ◌+◌, ◌-◌, ◌*◌, ◌^◌, ◌≤◌, List, length, set, Option, Some, None, slice_get, sym, ap, subst, ◌∙◌, arith, sum_by, length-set}
use Rattle.std.proofs.lemmas.List.Elements.{All-set}
use Rattle.plan_base.specs.declared.parts.Parts.{Parts}
use Rattle.proof_tree.specs.declared.cuts.Cut.{Cut}
use Rattle.proof_tree.specs.Regions.{whole}
use Rattle.search_machine.specs.State.{Limit, region_by, Round, Fate, Undone, ClosedBy, DividedBy, Node, State, region_of, cutoff_of, left_of, examined_in, divided_in, left_in}
use Rattle.search_machine.specs.Depth.{depth_below}
use Rattle.search_machine.specs.Nodes.{IsSoundFate, HasSoundFate, IsSoundNode}
use Rattle.search_machine.specs.Family.{AreApart, HasChildrenBy}
use Rattle.search_machine.specs.Counts.{AreSoundCounts, IsShallow, weight_by, weight_in, versions_of, versions_by, versions_in_round}
use Rattle.search_machine.specs.Soundness.{IsSound}
use Rattle.search_machine.proofs.Lists.{All-at, sum_by-set_at}
use Rattle.search_machine.proofs.Frames.{SameBase, IsFamily-set}

-- the state with the node at a place, and with these counts
abbrev pub replaced : State → ℕ → Node → ℕ → ℕ → ℕ → State
replaced s i new examined next accepted = record s { nodes = set s.nodes i new; examined = examined; next_version = next; accepted = accepted }

-- how much the counts may rise for what the node gains
pub record CountsRise (s : State) (old new : Node) (examined next accepted : ℕ) : Type 0 where
  pub examined_is : examined + examined_in old ≡ s.examined + examined_in new
  pub within_budget : examined ≤ s.budget
  pub versions : next + versions_of old ≤ s.next_version + versions_of new
  pub accepted_within : accepted + left_in new + length s.problem.demands * s.next_version ≤ s.accepted + left_in old + length s.problem.demands * next

-- counts still fit the tree when a node is replaced and they rise by no more than it gains
pub CountsRise-sound : (s : State) (i : ℕ) (old new : Node) (examined next accepted : ℕ) → slice_get s.nodes i ≡ Some old
    → CountsRise s old new examined next accepted → AreSoundCounts s → AreSoundCounts (replaced s i new examined next accepted)
CountsRise-sound s i old new examined next accepted is rise h =
    let e = sum_by-set_at examined_in s.nodes i old new is in
    let v = sum_by-set_at versions_of s.nodes i old new is in
    let l = sum_by-set_at left_in s.nodes i old new is in
    record {
      examined = (let a = h.examined in let b = rise.examined_is in omega arith);
      within_budget = rise.within_budget;
      versions = (let a = h.versions in let b = rise.versions in omega arith);
      accepted = (let a = h.accepted in let b = rise.accepted_within in omega arith);
    }

-- the number of nodes is still 1 and twice the divided ones when a replaced node is divided as it was before
pub same_size : (s : State) (i : ℕ) (old new : Node) → slice_get s.nodes i ≡ Some old → divided_in new ≡ divided_in old
    → length s.nodes ≡ 1 + 2 * sum_by divided_in s.nodes → length (set s.nodes i new) ≡ 1 + 2 * sum_by divided_in (set s.nodes i new)
same_size s i old new is undivided h =
    let sum = sum_by-set_at divided_in s.nodes i old new is in
    let size : length (set s.nodes i new) ≡ length s.nodes = length-set s.nodes i new in
    omega arith

IsShallow-same : (p : Parts) (ends : ℕ → List ℕ) (old new : Node) → new.limits ≡ old.limits → IsShallow p ends old → IsShallow p ends new
IsShallow-same p ends old new same h = record { within = subst (λ (ls : List Limit). depth_below p ends (region_by p ls) + length ls ≤ depth_below p ends (whole p)) (sym same) h.within }

same_weights : (depth : ℕ) (nodes : List Node) (i : ℕ) (old new : Node) → slice_get nodes i ≡ Some old → divided_in new ≡ divided_in old → new.limits ≡ old.limits
    → sum_by (weight_in depth) nodes ≡ 2 ^ depth → sum_by (weight_in depth) (set nodes i new) ≡ 2 ^ depth
same_weights depth nodes i old new is undivided limits h =
    let same : weight_in depth new ≡ weight_in depth old =
    ap (λ (d : ℕ). weight_by d (depth - length new.limits)) undivided ∙ ap (λ (ls : List Limit). weight_by (divided_in old) (depth - length ls)) limits in
    let sum = sum_by-set_at (weight_in depth) nodes i old new is in
    sums _ _ _ _ sum same ∙ h
  where
    sums : (a b x y : ℕ) → a + x ≡ b + y → y ≡ x → a ≡ b
    sums a b x y e f = omega arith

-- a state stays sound when a node is replaced by a sound one with the same base and the counts rise with it
pub replaced-sound : (s : State) (i : ℕ) (old new : Node) (examined next accepted : ℕ) → slice_get s.nodes i ≡ Some old → IsSound s
    → SameBase old new → HasChildrenBy (set s.nodes i new) i new new.fate
    → IsSoundNode s.problem s.cuts new → HasSoundFate s.problem s.cuts (cutoff_of s) new → divided_in new ≡ divided_in old
    → AreApart next (set s.nodes i new) → CountsRise s old new examined next accepted
    → IsSound (replaced s i new examined next accepted)
replaced-sound s i old new examined next accepted is h base children node fate undivided apart rise = record {
  lawful = h.lawful;
  cuts = h.cuts;
  unit = h.unit;
  nodes = All-set (IsSoundNode s.problem s.cuts) s.nodes i new node h.nodes;
  fates = All-set (HasSoundFate s.problem s.cuts (cutoff_of s)) s.nodes i new fate h.fates;
  apart = apart;
  family = IsFamily-set s.problem s.cuts s.nodes i old new is base children h.family;
  columns = h.columns;
  incumbent = h.incumbent;
  counts = CountsRise-sound s i old new examined next accepted is rise h.counts;
  size = same_size s i old new is undivided h.size;
  depths = λ ends are. All-set (IsShallow s.problem ends) s.nodes i new (IsShallow-same s.problem ends old new base.limits (All-at (IsShallow s.problem ends) s.nodes i old (h.depths ends are) is)) (h.depths ends are);
  weights = λ ends are. same_weights (depth_below s.problem ends (whole s.problem)) s.nodes i old new is undivided base.limits (h.weights ends are);
}

-- a node that is neither closed nor divided has a sound fate
pub undone_fate : (p : Parts) (cuts : List Cut) (cost : Option ℕ) (node : Node) → node.fate ≡ Undone → HasSoundFate p cuts cost node
undone_fate p cuts cost node undone = subst (IsSoundFate p cuts cost (region_of p node)) (sym undone) tt

-- each node of a sound state is sound
pub node_at : (s : State) (i : ℕ) (node : Node) → IsSound s → slice_get s.nodes i ≡ Some node → IsSoundNode s.problem s.cuts node
node_at s i node h is = All-at (IsSoundNode s.problem s.cuts) s.nodes i node h.nodes is

-- a node has had at most one version more than were complete
pub versions_of-le : (node : Node) → versions_of node ≤ suc node.completed
versions_of-le node = by_cases node.fate node.round
  where
    in_round : (completed left : ℕ) → versions_in_round completed left ≤ suc completed
    in_round completed zero = omega arith
    in_round completed (suc left) = omega arith

    by_cases : (fate : Fate) (round : Option Round) → versions_by fate round node.completed ≤ suc node.completed
    by_cases Undone None = omega arith
    by_cases Undone (Some round) = in_round node.completed (left_of round)
    by_cases (ClosedBy e) round = omega arith
    by_cases (DividedBy d) round = omega arith
