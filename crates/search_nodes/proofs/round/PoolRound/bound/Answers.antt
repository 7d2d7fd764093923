use Rattle.std.proofs.Common.{◌≡◌, ◌<◌, None, length, ℕ, ap, subst, ◌∙◌}
use Rattle.std.specs.Prelude.{◌↔◌}
use Rattle.search_machine.specs.State.{Round, left_of}
use Rattle.search_nodes.proofs.KeptRounds.{left_of_kept}
use Rattle.search_nodes.proofs.Completing.{kept_count}
use Rattle.search_nodes.proofs.round.PoolRound.bound.Goals as goal

pub bound-requires-clause-length_count : goal.bound-requires-clause-length_count
bound-requires-clause-length_count c =
    kept_count c.self.inside.lengths c.self.inside.found.items (length c.args.inst.now.demands) c.self.invariant
    (ap (λ (r : Round). length r.found) c.self.view_is ∙ c.requires.count)

pub returns-clause-none : goal.returns-clause-none
returns-clause-none c =
    subst (λ (n : ℕ). (c.bound.result ≡ None) ↔ (0 < n))
    (left_of_kept c.self.inside.lengths c.self.inside.found.items c.self.invariant ∙ ap left_of c.self.view_is) c.bound.ensures.none
