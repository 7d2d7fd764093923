use Rattle.std.proofs.Common.{sym, subst}
use Rattle.bound_assembly.specs.Rounds.{RoundState}
use Rattle.search_nodes.specs.Rounds.{IsKeptRound}
use Rattle.search_nodes.proofs.KeptRounds.{kept_new}
use Rattle.search_nodes.proofs.round.PoolRound.new.Goals as goal

pub invariant_of-result : goal.invariant_of-result
invariant_of-result c =
    subst (λ (lengths : RoundState). IsKeptRound lengths c.in_ok-found.found.items) (sym c.restart.ensures)
    (kept_new c.in_ok-lengths.lengths c.in_ok-found.found.items (record { 0 = 0 }) 0 c.args.prices.now c.demands-demands.result c.in_ok-lengths.ensures.lengths c.in_ok-found.ensures)
