-- A design and a plan with the names of their network.
use Rattle.std.specs.Prelude.{ℕ, ◌≡◌, ◌<◌, List, slice_index}
use Rattle.plan_base.specs.declared.limits.TheConstants.{MAX_PLACES}
use Rattle.plan_base.specs.declared.parts.Parts.{Parts}
use Rattle.plan_base.specs.declared.path.Design.{Design}
use Rattle.plan_base.specs.Designs.{load_at}
use Rattle.snd_network.specs.declared.file.NetworkFile.{NetworkFile}
use Rattle.proof_tree.specs.declared.plan.Plan.{Plan}
use Rattle.proof_tree.specs.Plans.{IsValidPlan}
use Rattle.plan_report.specs.Reports.{IsReadFrom}

-- a network, the instance that it stands for, and a design of it
pub record Named : Type 0 where
  pub net : NetworkFile
  pub parts : Parts
  pub design : Design

-- a network, the instance that it stands for, and a plan of it
pub record Planned : Type 0 where
  pub net : NetworkFile
  pub parts : Parts
  pub plan : Plan

-- the network stands for the instance, and the plan is a valid one of it
pub record IsPlanned (net : NetworkFile) (p : Parts) (plan : Plan) : Type 0 where
  pub read : IsReadFrom net p
  pub valid : IsValidPlan p plan

-- these are the loads of the places in a design
abbrev pub AreLoads : Parts → Design → List ℕ → Type 0
AreLoads p d loads = (q : ℕ) → q < MAX_PLACES → slice_index loads q ≡ load_at p d q
