use Rattle.link_steps.proofs.TallyLaws.{tally-plus}
use Rattle.link_steps.proofs.laws.tally_is_subadditive.Goals as goal

pub returns : goal.returns
returns c = tally-plus
