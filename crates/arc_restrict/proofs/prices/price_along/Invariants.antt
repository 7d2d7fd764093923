use Rattle.std.proofs.Common.{◌≡◌, ◌-◌, ◌^◌, min, take}
use Rattle.arc_restrict.specs.Prices.{price_of}
use Rattle.arc_restrict.proofs.prices.price_along.Given as goal

abbrev pub invariant-loop-arc : goal.invariant-loop-arc
invariant-loop-arc l = l.total ≡ min (price_of l.inst l.prices (take l.arc-index l.arcs)) (2 ^ 128 - 1)
