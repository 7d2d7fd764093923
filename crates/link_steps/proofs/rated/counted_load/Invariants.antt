use Rattle.link_steps.specs.Candidates.{IsCountedLoad}
use Rattle.link_steps.proofs.rated.counted_load.Given as goal

abbrev pub invariant-loop-item : goal.invariant-loop-item
invariant-loop-item l = IsCountedLoad l.rated l.least l.most l.item-index l.load
