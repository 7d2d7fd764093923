-- The claim in a line of a trial.
use Rattle.std.proofs.Common.{ℕ, ◌≡◌, ◌≤◌, List, length, arith}
use Rattle.plan_base.specs.declared.parts.Parts.{Parts}
use Rattle.proof_tree.specs.declared.plan.Plan.{Plan}
use Rattle.plan_report.specs.Reports.{trial_line}

-- the line has its first word and a blank
pub long_line : (p : Parts) (plan : Plan) (line : List ℕ) → line ≡ trial_line p plan → 6 ≤ length line
long_line p plan line is = rw is (omega arith)
