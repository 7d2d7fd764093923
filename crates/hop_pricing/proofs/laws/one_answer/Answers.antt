use Rattle.hop_pricing.proofs.AnswerLaws.{same-answer}
use Rattle.hop_pricing.proofs.laws.one_answer.Goals as goal

pub returns : goal.returns
returns c = same-answer
