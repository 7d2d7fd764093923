use Rattle.command_texts.proofs.OneRefusal.{one_verdict}
use Rattle.command_texts.proofs.laws.one_verdict.Goals as goal

pub returns : goal.returns
returns c = one_verdict c.one_answer_below.ensures
