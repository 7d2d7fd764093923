use Rattle.command_texts.proofs.OneRefusal.{one_refusal}
use Rattle.command_texts.proofs.laws.one_refusal.Goals as goal

pub returns : goal.returns
returns c = one_refusal c.one_answer_below.ensures
