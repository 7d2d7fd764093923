use Rattle.command_texts.proofs.OneRefusal.{refused_or_read}
use Rattle.command_texts.proofs.laws.refused_or_read.Goals as goal

pub returns : goal.returns
returns c = refused_or_read c.one_answer_below.ensures
