use Rattle.incumbent.specs.Rounds.{IsSearch}
use Rattle.incumbent.proofs.rounds.Rounds.spend_searches.Given as goal

abbrev pub invariant-loop-round : goal.invariant-loop-round
invariant-loop-round l = IsSearch l.table l.self
