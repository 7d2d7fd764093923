-- What holds of each node of a state that events lead to, by itself.
use Rattle.std.specs.Prelude.{ℕ, ◌≡◌, ◌<◌, ◌≤◌, ◌+◌, ⊤, false, List, length, Option, Some, None, IfSome, slice_get, IsTrue, ℤ, ◌≤ℤ◌}
use Rattle.plan_base.specs.declared.ids.ArcId.{ArcId}
use Rattle.plan_base.specs.declared.parts.Parts.{Parts}
use Rattle.plan_base.specs.Arcs.{is_arc, tail_of, demand_at}
use Rattle.plan_base.specs.Places.{places}
use Rattle.arc_restrict.specs.Restrictions.{Forbidden}
use Rattle.link_steps.specs.Ranges.{AreRanges}
use Rattle.proof_tree.specs.declared.cuts.Cut.{Cut}
use Rattle.proof_tree.specs.Regions.{Region}
use Rattle.proof_tree.specs.Splits.{IsSplit, PartsTwoPaths}
use Rattle.proof_tree.specs.Spellings.{IsAscending, FitsEvidence}
use Rattle.proof_tree.specs.Evidence.{ClosedByCut, ClosedByCrowd}
use Rattle.proof_tree.specs.RatedEvidence.{IsBoundAt, HasRatedEvidence}
use Rattle.cut_values.specs.Numbers.{AreNumbers}
use Rattle.proof_tree.specs.declared.tree.TreeNode.TheVariants.{Leaf}
use Rattle.proof_tree.specs.Plans.{is_open}
use Rattle.search_machine.specs.declared.limits.TheConstants.{MAX_ROUNDS, MAX_VERSIONS}
use Rattle.path_pricing.specs.Priced.{IsLeastPath}
use Rattle.search_machine.specs.State.{Round, Best, Node, restriction_of, ranges_of, region_of, left_of, Found, Divider, Fate, Undone, ClosedBy, DividedBy}
use Rattle.search_machine.specs.Dividing.{PartsSteps}
use Rattle.branch_tree.specs.declared.node.Divider.TheVariants as divider

-- a split of arcs is one of the region, parts two paths and has ascending sides; one of loads parts two steps
abbrev pub IsSoundDivider : Parts → Region → Divider → Type 0
IsSoundDivider p g (divider.Arcs d) = IsSplit p g.forbidden d.demand d.at d.left d.right × PartsTwoPaths p g.forbidden d.demand d.left d.right × IsAscending d.left × IsAscending d.right
IsSoundDivider p g (divider.Load d) = PartsSteps p g.ranges d

-- each split is one of the node's region; each closed leaf has its evidence, of the size of the instance and its cuts
abbrev pub IsSoundFate : Parts → List Cut → Option ℕ → Region → Fate → Type 0
IsSoundFate p cuts cost g Undone = ⊤
IsSoundFate p cuts cost g (ClosedBy evidence) = (is_open (Leaf evidence) ≡ false) × HasRatedEvidence p cuts cost g evidence × FitsEvidence p.nodes (places p + length cuts) evidence
IsSoundFate p cuts cost g (DividedBy d) = IsSoundDivider p g d.by

-- the same of a node at its own region
abbrev pub HasSoundFate : Parts → List Cut → Option ℕ → Node → Type 0
HasSoundFate p cuts cost node = IsSoundFate p cuts cost (region_of p node) node.fate

-- a round in range, each of whose paths is a least one under the round's own prices
pub record IsSoundRound (p : Parts) (cuts : List Cut) (r : Forbidden) (round : Round) : Type 0 where
  pub slot : round.slot < MAX_ROUNDS
  pub count : length round.found ≡ length p.demands
  pub prices : AreNumbers p cuts round.prices
  pub least : (k : ℕ) (found : Found) → slice_get round.found k ≡ Some (Some found) → IsLeastPath p round.prices k r found.path found.price

-- only an open leaf has a round, and it is sound at the restriction of the node
abbrev pub HasSoundRound : Parts → List Cut → Node → Type 0
HasSoundRound p cuts node = IfSome node.round (λ round. (node.fate ≡ Undone) × IsSoundRound p cuts (restriction_of node) round)

-- what is recorded is the bound at the best prices, and at least the bound at the first prices
pub record IsSoundBest (p : Parts) (cuts : List Cut) (g : Region) (first_prices : List ℕ) (completed : ℕ) (best : Best) : Type 0 where
  pub prices : AreNumbers p cuts best.prices
  pub is_bound : IsBoundAt p cuts g best.prices best.bound
  pub some_complete : 0 < completed
  pub first : ℤ
  pub is_first : IsBoundAt p cuts g first_prices first
  pub above_first : first ≤ℤ best.bound

-- a complete round's bound is at most the recorded one; a node without complete versions has a round of its first
-- prices; a round that is not complete can become so
pub record HasSoundVersions (p : Parts) (cuts : List Cut) (g : Region) (first_prices : List ℕ) (completed : ℕ) (best : Option Best) (round : Round) : Type 0 where
  pub complete_within : left_of round ≡ 0 → (bound : ℤ) → IsBoundAt p cuts g round.prices bound → IfSome best (λ b. bound ≤ℤ b.bound)
  pub some_complete : left_of round ≡ 0 → 0 < completed
  pub first_round : completed ≡ 0 → round.prices ≡ first_prices
  pub room : 0 < left_of round → completed < MAX_VERSIONS

-- no arc that leaves the demand's target is forbidden
abbrev pub IsFreeAtTarget : Parts → Forbidden → ℕ → Type 0
IsFreeAtTarget p r k = (a : ArcId) → IsTrue (is_arc p a) → (tail_of p a).0 ≡ (demand_at p k).target.0 → r k a ≡ false

-- an arc that leaves the node
pub record LeavesNode (p : Parts) (node : ℕ) (a : ArcId) : Type 0 where
  pub arc : IsTrue (is_arc p a)
  pub tail : (tail_of p a).0 ≡ node

-- where arcs leave the node, one of them is not forbidden to the demand
abbrev pub KeepsAnArc : Parts → Forbidden → ℕ → ℕ → Type 0
KeepsAnArc p r k node = (a : ArcId) → LeavesNode p node a → (b : ArcId) × LeavesNode p node b × (r k b ≡ false)

-- each demand may leave its target by each arc, and each node by one of its arcs
pub record IsOpenEnough (p : Parts) (r : Forbidden) : Type 0 where
  pub at_target : (k : ℕ) → k < length p.demands → IsFreeAtTarget p r k
  pub elsewhere : (k node : ℕ) → k < length p.demands → KeepsAnArc p r k node

-- what holds of each node by itself, whatever the incumbent
pub record IsSoundNode (p : Parts) (cuts : List Cut) (node : Node) : Type 0 where
  pub first_prices : AreNumbers p cuts node.first_prices
  pub open_enough : IsOpenEnough p (restriction_of node)
  pub ranges : AreRanges p (ranges_of p node)
  pub round : HasSoundRound p cuts node
  pub best : IfSome node.best (λ best. IsSoundBest p cuts (region_of p node) node.first_prices node.completed best)
  pub no_best : node.best ≡ None → node.completed ≡ 0
  pub versions : IfSome node.round (λ round. HasSoundVersions p cuts (region_of p node) node.first_prices node.completed node.best round)
  pub version_count : node.completed ≤ MAX_VERSIONS
  pub waiting : node.fate ≡ Undone → node.round ≡ None → node.completed ≡ 0
  pub cut : IfSome node.cut (λ cut. ClosedByCut p (restriction_of node) cut.demand cut.reached × (length cut.reached ≡ p.nodes))
  pub crowd : IfSome node.crowd (λ prices. ClosedByCrowd p (region_of p node) prices × (length prices ≡ places p + length cuts))
