use Rattle.link_steps.proofs.TallyLaws.{tally-le}
use Rattle.link_steps.proofs.laws.tally_within.Goals as goal

pub returns : goal.returns
returns c = tally-le
