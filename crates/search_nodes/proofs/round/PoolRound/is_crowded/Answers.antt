use Rattle.std.proofs.Common.{length, ap, ◌∙◌}
use Rattle.search_machine.specs.State.{Round}
use Rattle.search_nodes.proofs.Completing.{kept_count}
use Rattle.search_nodes.proofs.round.PoolRound.is_crowded.Goals as goal

pub is_crowded-requires-clause-length_count : goal.is_crowded-requires-clause-length_count
is_crowded-requires-clause-length_count c =
    kept_count c.self.inside.lengths c.self.inside.found.items (length c.args.inst.now.demands) c.self.invariant
    (ap (λ (r : Round). length r.found) c.self.view_is ∙ c.requires.count)
