use Rattle.std.proofs.Common.{None, length, replicate, sym, subst}
use Rattle.bound_assembly.specs.Rounds.{RoundState}
use Rattle.search_nodes.specs.Rounds.{IsKeptRound}
use Rattle.search_nodes.proofs.KeptRounds.{kept_restarted}
use Rattle.search_nodes.proofs.round.PoolRound.restart.Goals as goal

pub invariant_of-self : goal.invariant_of-self
invariant_of-self c =
    subst (IsKeptRound c.restart.new.self) (sym c.clear.ensures)
    (subst (λ (lengths : RoundState). IsKeptRound lengths (replicate (length c.self.inside.found.items) None)) (sym c.restart.ensures)
    (kept_restarted c.self.inside.lengths c.self.inside.found.items _ c.args.version c.args.prices.now c.self.invariant))
