-- What a node that may be examined leaves to the demands, and what is forbidden there.
use Rattle.search_nodes.specs.declared.slot.Slot.{Slot}
use Rattle.std.proofs.Common.{[], ◌≡◌, ℕ, ◌<◌, Bool, true, false, not, ◌&&◌, List, length, get_or, Option, Some, None, refl, sym, ap, subst, ◌∙◌, arith}
use Rattle.std.specs.Prelude.{IsTrue, IsSome, IfOk, IfSome, Result, Ok, Err, option_map}
use Rattle.plan_base.specs.declared.ids.BranchId.{BranchId}
use Rattle.plan_base.specs.declared.ids.ArcId.{ArcId}
use Rattle.plan_base.specs.declared.parts.Parts.{Parts}
use Rattle.plan_base.specs.Arcs.{is_arc}
use Rattle.arc_restrict.specs.Restrictions.{Forbidden, HasNoPath}
use Rattle.std.proofs.lemmas.Option.{slice_get_within, get_or_from_slice_get}
use Rattle.link_steps.specs.Ranges.{AreRanges}
use Rattle.path_pricing.specs.Priced.{is_open, IsClosedSet}
use Rattle.path_pricing.specs.declared.priced.Priced.TheVariants as priced
use Rattle.path_pricing.proofs.FaultLaws.{priced_fault-IsShown, IsPriced-priced_fault}
use Rattle.second_path.specs.Others.{IsCutOff, IsFirstEmpty, IsDetermined}
use Rattle.second_path.specs.declared.determined.Determined.{Determined}
use Rattle.second_path.specs.declared.determined.Determined.TheVariants as determined
use Rattle.proof_tree.specs.declared.cuts.Cut.{Cut}
use Rattle.cut_values.specs.Numbers.{CutProblem}
use Rattle.search_machine.specs.State.{Best, Node, State, restriction_of, ranges_of, region_of, round_of}
use Rattle.search_machine.specs.Machine.{IsReachable}
use Rattle.search_machine.specs.Nodes.{IsSoundNode, IsSoundBest}
use Rattle.search_nodes.specs.Grounds.{Kept, IsKeptRegion}
use Rattle.search_view.specs.Views.{IsKeptPool}
use Rattle.search_view.specs.Examining.{IsOpenAt, IsKeptAt, IsReadyAt, IsNearAt, IsDeterminedAt}
use Rattle.search_machine.proofs.Runs.{IsReachable-sound}
use Rattle.search_machine.proofs.Replacing.{node_at}
use Rattle.search_machine.proofs.Frames.{one_at}
use Rattle.search_view.proofs.Reading.{HasKept, read-kept, plot-region}
use Rattle.search_view.proofs.TaskLaws.{has-round, has-undone}

-- What is determined

open-arc : (p : Parts) (r : Forbidden) (k : ℕ) (a : ArcId) → IsTrue (is_open p r k a) → IsTrue (is_arc p a) × (r k a ≡ false)
open-arc p r k a h = by_cases (is_arc p a) (r k a) h
  where
    by_cases : (x y : Bool) → (x && not y) ≡ true → (x ≡ true) × (y ≡ false)
    by_cases true false h = (refl, refl)
    by_cases true true h = absurd (let bad : false ≡ true = h in cc)
    by_cases false y h = absurd (let bad : false ≡ true = h in cc)

-- a demand that is cut off has no path
cut_off-none : (p : Parts) (r : Forbidden) (k : ℕ) (set : List Bool) → IsCutOff p r k set → HasNoPath p r k
cut_off-none p r k set h =
    let closed : IsClosedSet p k r set = record {
      count = h.nodes;
      source = h.source;
      target = h.target;
      closed = λ a free at_tail. let both = open-arc p r k a free in h.closed a both.0 both.1 at_tail;
    } in
    IsPriced-priced_fault p [] k r (priced.NoPath set) (priced_fault-IsShown p [] k r (priced.NoPath set) closed)

best-there : (best : Option Best) (completed : ℕ) → (best ≡ None → completed ≡ 0) → 0 < completed → (b : Best) × (best ≡ Some b)
best-there None completed none some = absurd (let zero_ = none refl in omega arith)
best-there (Some b) completed none some = (b, refl)

-- a node with a complete version leaves each demand a path
never-empty : (p : Parts) (cuts : List Cut) (node : Node) (k : ℕ) (set : List Bool) → IsSoundNode p cuts node → 0 < node.completed → IsFirstEmpty p (restriction_of node) k set → ⊥
never-empty p cuts node k set sound some empty =
    let best = best-there node.best node.completed sound.no_best some in
    let b : IsSoundBest p cuts (region_of p node) node.first_prices node.completed best.0 = rw best.1 at (sound.best) in
    let least = b.is_bound.are_least k empty.is_demand in
    cut_off-none p (restriction_of node) k set empty.cut_off least.path least.permitted

-- what the node's own restriction is found to leave is what the node leaves, and each demand has a path
pub determined-at : (s : State) (id : BranchId) (found : Determined) (r : Forbidden) → IsReachable s → (at : IsNearAt s id) → r ≡ restriction_of at.node
    → IsDetermined s.problem r found → IsDeterminedAt s id found
determined-at s id (determined.Empty demand set) r reachable at same h =
    let is = at.ready.open_node in
    never-empty s.problem s.cuts at.node demand.0 set (node_at s id.0 at.node (IsReachable-sound s reachable) is.is_node) at.ready.priced (rw same at h)
determined-at s id (determined.Two demand first second) r reachable at same h = record { node = at.node; ready = at.ready; none_far = at.none_far; two = rw same at h }
determined-at s id (determined.One paths) r reachable at same h = record { node = at.node; ready = at.ready; none_far = at.none_far; only = rw same at h }

-- a node at which no demand is far may be examined
abbrev pub near-ready : (s : State) (id : BranchId) → IsNearAt s id → IsReadyAt s id
near-ready s id at = record { node = at.node; ready = at.ready }

-- a node that may be examined is an open leaf
pub ready-open : (s : State) (id : BranchId) → IsReadyAt s id → IsOpenAt s id
ready-open s id at = record { node = at.node; is_node = at.ready.open_node.is_node; undone = at.ready.open_node.undone }

-- each place has a load there
pub ready-ranges : (s : State) (id : BranchId) → IsReachable s → (at : IsReadyAt s id) → AreRanges s.problem (ranges_of s.problem at.node)
ready-ranges s id reachable at = (node_at s id.0 at.node (IsReachable-sound s reachable) at.ready.open_node.is_node).ranges

-- a node with a round is an open leaf
pub round-open : (s : State) (id : BranchId) → IsReachable s → IsSome (round_of s id) → IsOpenAt s id
round-open s id reachable some =
    let h = has-round s id some in
    record { node = h.node; is_node = h.is_node; undone = has-undone s id (IsReachable-sound s reachable) h }

-- The ground of an open leaf
module _ (s : State) (table : CutProblem) (grounds : List (Option Kept)) (places : List Slot) (h : IsKeptPool s table grounds places) (id : BranchId) (at : IsOpenAt s id) where
  -- an open leaf has a place among the kept regions
  pub open-ground-within : id.0 < length grounds
  open-ground-within = subst (λ (n : ℕ). id.0 < n) (sym h.has_grounds.count) (slice_get_within s.nodes id.0 at.node at.is_node)

  -- it keeps its region
  pub open-kept : (ground : Option Kept) → ground ≡ get_or grounds id.0 ground → HasKept s.problem at.node ground
  open-kept ground read = read-kept s id grounds at.node ground h.has_grounds at.is_node at.undone read

  -- what is shown of the kept region is kept of the region of the node
  pub open-kept-at : {A : Type 0} (ground : Option Kept) (o : Option A) (f : A → Kept) (x : A) → ground ≡ get_or grounds id.0 ground → option_map f o ≡ ground → o ≡ Some x → IsKeptAt s id (f x)
  open-kept-at ground o f x read shown is = λ node is_node.
      subst (λ (n : Node). IsKeptRegion s.problem (region_of s.problem n) (f x)) (one_at s.nodes id.0 at.node node at.is_node is_node)
      (plot-region s.problem at.node ground (open-kept ground read) o f x shown is)

-- A node that may be examined
module _ (s : State) (table : CutProblem) (grounds : List (Option Kept)) (places : List Slot) (h : IsKeptPool s table grounds places) (id : BranchId) (at : IsReadyAt s id) where
  -- a node that may be examined has a number below the count of nodes
  pub ready-node-within : id.0 < length s.nodes
  ready-node-within = slice_get_within s.nodes id.0 at.node at.ready.open_node.is_node

  -- what is read at the number of a node that may be examined is the node
  pub ready-item : (item : Node) → item ≡ get_or s.nodes id.0 item → item ≡ at.node
  ready-item item read = read ∙ get_or_from_slice_get s.nodes id.0 at.node item at.ready.open_node.is_node

-- where a search answers what the node's own restriction leaves, it answers what the node leaves
pub determined-ok : {E : Type 0} (s : State) (id : BranchId) (result : Result Determined E) (r : Forbidden) → IsReachable s → (at : IsNearAt s id) → r ≡ restriction_of at.node
    → IfOk result (IsDetermined s.problem r) → IfOk result (IsDeterminedAt s id)
determined-ok s id (Ok found) r reachable at same h = determined-at s id found r reachable at same h
determined-ok s id (Err fault) r reachable at same h = tt

-- what holds wherever an option is there may be said of it
pub if_some-each : {X : Type 0} (o : Option X) (P : X → Type 0) → ((x : X) → o ≡ Some x → P x) → IfSome o P
if_some-each None P each = tt
if_some-each (Some x) P each = each x refl
