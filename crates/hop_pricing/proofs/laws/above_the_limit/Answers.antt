use Rattle.hop_pricing.proofs.AnswerLaws.{above}
use Rattle.hop_pricing.proofs.laws.above_the_limit.Goals as goal

pub returns : goal.returns
returns c = above
