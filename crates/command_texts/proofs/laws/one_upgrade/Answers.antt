use Rattle.command_texts.proofs.OneReport.{one_upgrade, upgraded_again}
use Rattle.command_texts.proofs.laws.one_upgrade.Goals as goal

pub returns-clause-one : goal.returns-clause-one
returns-clause-one c = one_upgrade c.one_answer_below.ensures

pub returns-clause-again : goal.returns-clause-again
returns-clause-again c = upgraded_again c.one_answer_below.ensures
