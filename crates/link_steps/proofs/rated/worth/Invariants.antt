use Rattle.std.proofs.Common.{◌≡◌, ◌+◌, ◌*◌}
use Rattle.plan_base.specs.Sums.{sum_below}
use Rattle.link_steps.proofs.RatedLoads.{worth_of}
use Rattle.link_steps.proofs.rated.worth.Given as goal

-- the rates before this one are added
abbrev pub invariant-loop-item : goal.invariant-loop-item
invariant-loop-item l = l.total ≡ l.price * l.load + sum_below (worth_of l.rated l.load) l.item-index
