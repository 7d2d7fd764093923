use Rattle.std.proofs.Common.{ℕ, ◌-◌, ◌<◌, ◌≤◌, length}
use Rattle.link_steps.specs.Steps.{step_at}
use Rattle.link_steps.proofs.reading.first_reaching_between.Given as goal

abbrev pub invariant-loop-low : goal.invariant-loop-low
invariant-loop-low l = record {
  in_order : l.low ≤ l.high;
  within : l.high ≤ length l.steps;
  before : (j : ℕ) → j < l.low → (step_at l.steps j).reach < l.load;
  here : l.high < length l.steps → l.load ≤ (step_at l.steps l.high).reach;
}

abbrev pub decreases-loop-low : goal.decreases-loop-low
decreases-loop-low l = l.high - l.low
