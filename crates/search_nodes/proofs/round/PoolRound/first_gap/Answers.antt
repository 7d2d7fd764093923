use Rattle.std.proofs.Common.{ap, ◌∙◌}
use Rattle.plan_base.specs.First.{first_in}
use Rattle.search_machine.specs.State.{Round}
use Rattle.search_machine.specs.Changes.{gap_at}
use Rattle.search_nodes.proofs.KeptRounds.{first_gap_kept}
use Rattle.search_nodes.proofs.round.PoolRound.first_gap.Goals as goal

pub returns : goal.returns
returns c =
    first_gap_kept c.self.inside.lengths c.self.inside.found.items c.first_left.result c.self.invariant c.first_left.ensures.first c.first_left.ensures.none
    ∙ ap (λ (r : Round). first_in gap_at r.found) c.self.view_is
