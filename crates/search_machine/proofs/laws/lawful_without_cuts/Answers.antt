use Rattle.search_machine.proofs.CutlessPublishing.{never-unlawful}
use Rattle.search_machine.proofs.laws.lawful_without_cuts.Goals as goal

pub returns : goal.returns
returns c = λ s t id seen prices none step. never-unlawful s id seen prices none step.0
