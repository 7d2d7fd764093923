use Rattle.verifier_paths.specs.Labels.{open_arcs, AreOffered, LeavesBelow}
use Rattle.verifier_paths.proofs.rounds.relax_all.Given as goal

-- the arcs from the nodes before this one have been offered
abbrev pub invariant-loop-node : goal.invariant-loop-node
invariant-loop-node l =
    AreOffered l.ways.inst.now (open_arcs l.ways) l.prices l.old (LeavesBelow l.ways.inst.now l.node) l.old l.new.items
