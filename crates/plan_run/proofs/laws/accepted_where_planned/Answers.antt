use Rattle.plan_run.proofs.Planned.{spelt_where_planned, good_where_planned, short_where_planned}
use Rattle.plan_run.proofs.laws.accepted_where_planned.Goals as goal

pub returns-clause-spelt : goal.returns-clause-spelt
returns-clause-spelt c = spelt_where_planned c.one_answer_below.ensures

pub returns-clause-good : goal.returns-clause-good
returns-clause-good c = good_where_planned c.one_answer_below.ensures

pub returns-clause-short : goal.returns-clause-short
returns-clause-short c = short_where_planned c.text_within_limit.ensures
