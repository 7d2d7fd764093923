use Rattle.command_texts.proofs.OneCheck.{one_check}
use Rattle.command_texts.proofs.laws.one_check.Goals as goal

pub returns : goal.returns
returns c = one_check c.one_answer_below.ensures
