use Rattle.std.proofs.Common.{◌≡◌, map, take}
use Rattle.model_check.specs.Reading.{demand_of}
use Rattle.model_check.proofs.valuing.demands_of.Given as goal

-- the demands before this one are valued
abbrev pub invariant-loop-demand : goal.invariant-loop-demand
invariant-loop-demand l = l.found.items ≡ map (demand_of l.hop) (take l.demand-index l.demands)
