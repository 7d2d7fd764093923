use Rattle.std.proofs.Common.{◌≡◌, None}
use Rattle.plan_base.specs.First.{first_fault, fault_at}
use Rattle.plan_base.specs.DesignFaults.{step_fault}
use Rattle.plan_base.specs.Walks.{IsWalk}
use Rattle.plan_base.proofs.walks.check_path.Given as goal

abbrev pub invariant-loop-place : goal.invariant-loop-place
invariant-loop-place l = record {
  no_fault : first_fault (fault_at (step_fault l.inst l.id l.demand.source l.arcs) l.arcs) l.place ≡ None;
  walk : IsWalk l.inst l.demand.source l.arcs l.place l.here.0 l.met;
}
