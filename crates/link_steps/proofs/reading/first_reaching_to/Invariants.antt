use Rattle.std.proofs.Common.{ℕ, ◌<◌, ◌≤◌, length}
use Rattle.link_steps.specs.Steps.{step_at}
use Rattle.link_steps.proofs.reading.first_reaching_to.Given as goal

abbrev pub invariant-loop-stretch : goal.invariant-loop-stretch
invariant-loop-stretch l = record {
  within : l.high < length l.steps;
  some : 0 < l.stretch;
  here : l.load ≤ (step_at l.steps l.high).reach;
}

abbrev pub decreases-loop-stretch : goal.decreases-loop-stretch
decreases-loop-stretch l = l.high
