use Rattle.search_machine.proofs.OneAnswer.{opening-one, settling-one, publishing-one}
use Rattle.search_machine.proofs.laws.one_answer.Goals as goal

pub returns : goal.returns
returns c = record { opening = opening-one; settling = settling-one; publishing = publishing-one }
