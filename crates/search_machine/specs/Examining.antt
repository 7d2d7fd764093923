-- Examinations: an open leaf is closed by what is left there, or divided.
use Rattle.std.specs.Prelude.{ℕ, suc, ◌≡◌, ◌<◌, length, Option, Some, None, slice_set, nat_lt, if◌then◌else◌, Result, Ok, Err}
use Rattle.plan_base.specs.declared.ids.LinkId.{LinkId}
use Rattle.plan_base.specs.declared.ids.BranchId.{BranchId}
use Rattle.plan_base.specs.declared.ids.DemandId.{DemandId}
use Rattle.plan_base.specs.declared.parts.Parts.{Parts}
use Rattle.plan_base.specs.declared.path.Design.{Design}
use Rattle.plan_base.specs.Places.{there_of, back_of}
use Rattle.plan_base.specs.Sums.{sum_below}
use Rattle.plan_base.specs.Designs.{cost_of, load_at, IsGoodDesign}
use Rattle.link_steps.specs.Costs.{IsStepCost}
use Rattle.arc_restrict.specs.Restrictions.{Forbidden}
use Rattle.proof_tree.specs.Regions.{AreInRange}
use Rattle.proof_tree.specs.Evidence.{AreOnlyPaths, ClosedByOverfull}
use Rattle.proof_tree.specs.declared.tree.Evidence.TheVariants as evidence
use Rattle.search_machine.specs.declared.answers.Examined.{Examined}
use Rattle.search_machine.specs.declared.answers.Examined.TheVariants as examined
use Rattle.search_machine.specs.declared.answers.ExamineFault.{ExamineFault}
use Rattle.search_machine.specs.declared.answers.ExamineFault.TheVariants as examine_fault
use Rattle.search_machine.specs.State.{Node, State, restriction_of, ranges_of, region_of, HeldCut, Incumbent}
use Rattle.search_machine.specs.Closing.{closed_by}
use Rattle.search_machine.specs.Changes.{examined_with}
use Rattle.search_machine.specs.Readiness.{examine_refusal, IsExamined, IsReady, IsFirstFar, NoneFar}
use Rattle.search_machine.specs.Dividing.{Divides}

-- the examined node is closed by the cut that it holds
pub record ClosesByCut (old : State) (id : BranchId) (new : State) : Type 0 where
  pub node : Node
  pub open_node : IsExamined old id node
  pub cut : HeldCut
  pub is_cut : node.cut ≡ Some cut
  pub becomes : new ≡ examined_with old id (closed_by (evidence.Cut cut.demand cut.reached) node)

-- the examined node has a demand without a path that keeps its limit; the first such demand is told
pub record ClosesFar (old : State) (id : BranchId) (demand : DemandId) (new : State) : Type 0 where
  pub node : Node
  pub ready : IsReady old id node
  pub far : IsFirstFar old.problem (restriction_of node) demand
  pub becomes : new ≡ examined_with old id (closed_by (evidence.Far demand) node)

-- the examined node leaves each demand one path, and these overfill a link or leave the range of a place
pub record ClosesOverfull (old : State) (id : BranchId) (new : State) : Type 0 where
  pub node : Node
  pub ready : IsReady old id node
  pub none_far : NoneFar old.problem (restriction_of node)
  pub link : LinkId
  pub overfull : ClosedByOverfull old.problem (region_of old.problem node) link
  pub becomes : new ≡ examined_with old id (closed_by (evidence.Overfull link) node)

-- the design has the only permitted paths, and counts of least cost for them
pub record IsRouted (p : Parts) (r : Forbidden) (cost : ℕ) (design : Design) : Type 0 where
  pub only : AreOnlyPaths p r design
  pub good : IsGoodDesign p design
  pub is_cost : cost_of p design ≡ cost
  pub step_costs : ℕ → ℕ
  pub are_costs : (e : ℕ) → e < length p.links → IsStepCost p e (there_of p (load_at p design) e) (back_of p (load_at p design) e) (step_costs e)
  pub is_least : cost ≡ sum_below step_costs (length p.links)

-- the held design, or this one where there is none or this one is cheaper
abbrev pub cheaper_of : Option Incumbent → ℕ → Design → Incumbent
cheaper_of None cost design = record { cost = cost; design = design }
cheaper_of (Some held) cost design = if nat_lt cost held.cost then record { cost = cost; design = design } else held

-- the examined node leaves each demand one path, with loads in range; their design becomes the incumbent where it is cheaper
pub record ClosesRouted (old : State) (id : BranchId) (new : State) : Type 0 where
  pub node : Node
  pub ready : IsReady old id node
  pub none_far : NoneFar old.problem (restriction_of node)
  pub cost : ℕ
  pub design : Design
  pub routed : IsRouted old.problem (restriction_of node) cost design
  pub in_range : (e : ℕ) → e < length old.problem.links → AreInRange old.problem (ranges_of old.problem node) design e
  pub becomes : new ≡ record old {
    nodes = slice_set old.nodes id.0 (closed_by evidence.Routed node);
    incumbent = Some (cheaper_of old.incumbent cost design);
    examined = suc old.examined;
  }

-- an examination answers so and leads from old to new; a refused one changes nothing
abbrev pub ExamineStep : State → BranchId → Result Examined ExamineFault → State → Type 0
ExamineStep old id (Ok examined.Cut) new = ClosesByCut old id new
ExamineStep old id (Ok (examined.Divided left right)) new = Divides old id left right new
ExamineStep old id (Ok (examined.Far demand)) new = ClosesFar old id demand new
ExamineStep old id (Ok examined.Overfull) new = ClosesOverfull old id new
ExamineStep old id (Ok examined.Routed) new = ClosesRouted old id new
ExamineStep old id (Err examine_fault.OutOfMemory) new = new ≡ old
ExamineStep old id (Err refusal) new = (examine_refusal old id ≡ Some refusal) × (new ≡ old)
