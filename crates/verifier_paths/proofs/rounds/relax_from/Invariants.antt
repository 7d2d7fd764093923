use Rattle.verifier_paths.specs.Labels.{open_arcs, AreOffered}
use Rattle.verifier_paths.proofs.Offers.{StandsBelow}
use Rattle.verifier_paths.proofs.rounds.relax_from.Given as goal

-- the arcs before this one have been offered
abbrev pub invariant-loop-arc : goal.invariant-loop-arc
invariant-loop-arc l =
    AreOffered l.ways.inst.now (open_arcs l.ways) l.prices l.old (StandsBelow l.arc-items l.arc-index) l.initial.new.items l.new.items
