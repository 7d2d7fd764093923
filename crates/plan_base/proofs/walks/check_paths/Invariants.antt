use Rattle.std.proofs.Common.{◌≡◌, None}
use Rattle.plan_base.specs.First.{first_fault}
use Rattle.plan_base.specs.DesignFaults.{demand_path_fault}
use Rattle.plan_base.proofs.walks.check_paths.Given as goal

abbrev pub invariant-loop-place : goal.invariant-loop-place
invariant-loop-place l = first_fault (demand_path_fault l.inst l.design) l.place ≡ None
