use Rattle.command_texts.proofs.OneReport.{one_report}
use Rattle.command_texts.proofs.laws.one_report.Goals as goal

pub returns : goal.returns
returns c = one_report c.one_answer_below.ensures
