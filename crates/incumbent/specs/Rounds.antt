-- What a search for better designs works on. No public contract cites it.
use Rattle.std.specs.Prelude.{ℕ, ◌<◌, ◌-◌, ◌^◌, List, length, map, All}
use Rattle.std.specs.List.{range_with_len}
use Rattle.plan_base.specs.declared.ids.DemandId.{DemandId}
use Rattle.plan_base.specs.declared.parts.Parts.{Parts}
use Rattle.plan_base.specs.Arcs.{demand_at}
use Rattle.completions.specs.Completions.{ArePaths}
use Rattle.demand_routing.specs.Routings.{IsRouting}
use Rattle.incumbent.specs.declared.rounds.Rounds.{Rounds}

-- for each demand before a count what its load leaves of the greatest number, and the demand's number
abbrev pub keys_of : Parts → ℕ → List (ℕ × ℕ)
keys_of p count = map (λ k. (2 ^ 128 - 1 - (demand_at p k).load, k)) (range_with_len 0 count)

-- each demand of a list is one of the instance
abbrev pub AreDemands : Parts → List DemandId → Type 0
AreDemands p group = All (λ k. k.0 < length p.demands) group

-- a routing, the paths accepted and the best ones, and a group of demands
pub record IsSearch (p : Parts) (s : Rounds) : Type 0 where
  pub now : IsRouting p s.now
  pub accepted : ArePaths p s.accepted.paths.items
  pub best : ArePaths p s.best.paths.items
  pub group : AreDemands p s.group.items
