use Rattle.plan_run.proofs.Planned.{refused_or_done}
use Rattle.plan_run.proofs.laws.refused_or_done.Goals as goal

pub returns : goal.returns
returns c = refused_or_done c.one_answer_below.ensures
