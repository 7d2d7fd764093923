use Rattle.dual_versions.specs.Boards.{Begins}
use Rattle.dual_versions.proofs.reader.BoardReader.reach.Given as goal

abbrev pub invariant-loop : goal.invariant-loop
invariant-loop g l = (goal.iterator-loop g).can_next l.iterator' × (goal.iterator-loop g).is_finite l.iterator' × Begins l.initial.self l.self
