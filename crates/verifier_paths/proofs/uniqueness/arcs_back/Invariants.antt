use Rattle.verifier_paths.specs.Labels.{open_arcs}
use Rattle.verifier_paths.proofs.StepsBack.{IsBack}
use Rattle.verifier_paths.proofs.uniqueness.arcs_back.Given as goal

-- the arcs so far, read back, are a way from here to the target
abbrev pub invariant-loop-left : goal.invariant-loop-left
invariant-loop-left l = IsBack l.ways.inst.now (open_arcs l.ways) l.labels l.fn.target.0 l.left l.here.0 l.arcs.items

abbrev pub decreases-loop-left : goal.decreases-loop-left
decreases-loop-left l = l.left
