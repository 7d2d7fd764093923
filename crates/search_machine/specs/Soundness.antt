-- What holds of each state that events lead to.
use Rattle.std.specs.Prelude.{ℕ, ◌+◌, ◌*◌, ◌^◌, ◌≡◌, List, length, IfSome, sum_by, All}
use Rattle.plan_base.specs.Facts.{IsInstance}
use Rattle.link_steps.specs.Unit.{IsUnit}
use Rattle.column_pool.specs.Columns.{AreColumns}
use Rattle.proof_tree.specs.Regions.{whole}
use Rattle.proof_tree.specs.Cuts.{IsCutList}
use Rattle.proof_tree.specs.Plans.{IsStatedDesign}
use Rattle.search_machine.specs.Nodes.{HasSoundFate, IsSoundNode}
use Rattle.search_machine.specs.Family.{AreApart, IsFamily}
use Rattle.search_machine.specs.Counts.{AreSoundCounts, IsShallow, weight_in}
use Rattle.search_machine.specs.Depth.{AreAllEnds, depth_below}
use Rattle.search_machine.specs.State.{State, cutoff_of, divided_in}

-- all that holds of a state that events lead to
pub record IsSound (s : State) : Type 0 where
  pub lawful : IsInstance s.problem
  pub cuts : IsCutList s.problem s.cuts
  pub unit : IsUnit s.problem s.unit
  pub nodes : All (IsSoundNode s.problem s.cuts) s.nodes
  pub fates : All (HasSoundFate s.problem s.cuts (cutoff_of s)) s.nodes
  pub apart : AreApart s.next_version s.nodes
  pub family : IsFamily s.problem s.cuts s.nodes
  pub columns : AreColumns s.problem s.columns
  pub incumbent : IfSome s.incumbent (λ held. IsStatedDesign s.problem held.cost held.design)
  pub counts : AreSoundCounts s
  -- each split has made two nodes
  pub size : length s.nodes ≡ 1 + 2 * sum_by divided_in s.nodes
  pub depths : (ends : ℕ → List ℕ) → AreAllEnds s.problem ends → All (IsShallow s.problem ends) s.nodes
  pub weights : (ends : ℕ → List ℕ) → AreAllEnds s.problem ends → sum_by (weight_in (depth_below s.problem ends (whole s.problem))) s.nodes ≡ 2 ^ depth_below s.problem ends (whole s.problem)
