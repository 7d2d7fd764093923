use Rattle.verifier_paths.specs.Labels.{open_arcs}
use Rattle.verifier_paths.proofs.StepsBack.{HasNoStep}
use Rattle.verifier_paths.proofs.uniqueness.step_back.Given as goal

-- no arc before this one is a step back
abbrev pub invariant-loop-number : goal.invariant-loop-number
invariant-loop-number l = HasNoStep l.ways.inst.now (open_arcs l.ways) l.labels l.here.0 l.steps l.number
