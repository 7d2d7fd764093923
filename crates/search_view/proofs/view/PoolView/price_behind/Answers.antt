use Rattle.std.proofs.Common.{◌≡◌, ◌<◌, false, length, Some, rules, tests}
use Rattle.search_machine.specs.Offering.{is_priced}
use Rattle.search_machine.proofs.Runs.{IsReachable-sound}
use Rattle.search_view.proofs.Claiming.{gap-beside}
use Rattle.search_view.proofs.view.PoolView.price_behind.Goals as goal

pub returns-then-not-is_taken : goal.returns-then-not-is_taken
returns-then-not-is_taken c =
    let within : c.loop-place.place < length c.args.self.now.problem.demands = search rules in
    let not_priced : is_priced (Some c.round_at-round.result.now) c.loop-place.place ≡ false = search (rules, tests) in
    gap-beside c.args.self.now c.args.node c.args.slot c.args.version c.args.demand c.round_at-round.result.now c.loop-place.place (IsReachable-sound c.args.self.now c.requires.reachable)
    c.requires.gap c.round_at-round.ensures within not_priced
