use Rattle.link_steps.proofs.TallyLaws.{tally-rise}
use Rattle.link_steps.proofs.laws.tally_rises.Goals as goal

pub returns : goal.returns
returns c = tally-rise
