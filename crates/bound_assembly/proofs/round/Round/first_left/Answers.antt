use Rattle.std.proofs.Common.{subst}
use Rattle.bound_assembly.specs.Rounds.{RoundState, IsFirstLeft}
use Rattle.bound_assembly.proofs.Gaps.{kept-first}
use Rattle.bound_assembly.proofs.round.Round.first_left.Goals as goal

pub returns-then-self-gt0-clause-first : goal.returns-then-self-gt0-clause-first
returns-then-self-gt0-clause-first c =
    subst (λ (s : RoundState). IsFirstLeft s.lengths c.self.inside.first) c.self.view_is
    (kept-first c.self.inside.lengths.items c.self.inside.left c.self.inside.first c.self.invariant c.if-self-gt0.true)
