use Rattle.std.proofs.Common.{◌≡◌, sym, subst}
use Rattle.plan_base.specs.declared.parts.Parts.{Parts}
use Rattle.completions.specs.Completions.{ArePaths}
use Rattle.search_machine.specs.State.{Round, left_of}
use Rattle.search_machine.specs.Machine.{IsReachable}
use Rattle.search_view.proofs.Reading.{some_and-some}
use Rattle.search_view.proofs.Routes.{complete-paths}
use Rattle.search_view.proofs.Fitting.{prices-fit}
use Rattle.search_view.proofs.view.PoolView.start_paths.Goals as goal

pub round_at-round-requires : goal.round_at-round-requires
round_at-round-requires c = some_and-some (λ (round : Round). left_of round ≡ 0) _ c.requires

pub rows_at-rows-requires : goal.rows_at-rows-requires
rows_at-rows-requires c = some_and-some (λ (round : Round). left_of round ≡ 0) _ c.requires

pub paths_within-requires-clause-prices : goal.paths_within-requires-clause-prices
paths_within-requires-clause-prices c =
    prices-fit c.args.self.now c.args.node _ _ c.round_at-round.result.now (subst IsReachable c.self.view_is c.self.invariant.pool.reachable) (some_and-some (λ (round : Round). left_of round ≡ 0) _ c.requires)
    c.problem.ensures c.round_at-round.ensures c.prices.ensures

pub paths_within-requires-clause-paths : goal.paths_within-requires-clause-paths
paths_within-requires-clause-paths c =
    subst (λ (p : Parts). ArePaths p c.in_ok-paths.paths) (sym c.problem.ensures)
    (complete-paths c.args.self.now c.args.node c.round_at-round.result.now c.in_ok-paths.paths (subst IsReachable c.self.view_is c.self.invariant.pool.reachable) c.requires c.round_at-round.ensures c.in_ok-paths.ensures)

pub returns-then-not-is_due : goal.returns-then-not-is_due
returns-then-not-is_due c =
    complete-paths c.args.self.now c.args.node c.round_at-round.result.now c.in_ok-paths.paths (subst IsReachable c.self.view_is c.self.invariant.pool.reachable) c.requires c.round_at-round.ensures c.in_ok-paths.ensures
