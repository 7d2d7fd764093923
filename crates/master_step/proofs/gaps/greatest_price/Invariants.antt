use Rattle.std.proofs.Common.{◌≡◌, ◌≤◌}
use Rattle.plan_base.specs.Facts.{price_limit}
use Rattle.master_step.specs.Trials.{loaded_price, max_below}
use Rattle.master_step.proofs.gaps.greatest_price.Given as goal

abbrev pub invariant-loop-place : goal.invariant-loop-place
invariant-loop-place l = record {
  value : l.greatest ≡ max_below (loaded_price l.inst l.prices) l.place;
  within : l.greatest ≤ price_limit l.inst;
}
