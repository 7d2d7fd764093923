use Rattle.std.proofs.Common.{◌≡◌, ◌-◌, ◌^◌, min, take, sum}
use Rattle.plan_base.proofs.check.is_more_than_one.Given as goal

-- the sum so far, up to the greatest number that is kept
abbrev pub invariant-loop-count : goal.invariant-loop-count
invariant-loop-count l = l.sum ≡ min (sum (take l.count-index l.counts)) (2 ^ 64 - 1)
