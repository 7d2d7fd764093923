use Rattle.command_texts.proofs.OneRefusal.{good_where_valid}
use Rattle.command_texts.proofs.OneReport.{told_where_valid}
use Rattle.command_texts.proofs.laws.accepted_where_valid.Goals as goal

pub returns-clause-verdict : goal.returns-clause-verdict
returns-clause-verdict c = good_where_valid c.one_answer_below.ensures

pub returns-clause-report : goal.returns-clause-report
returns-clause-report c = told_where_valid c.one_answer_below.ensures
