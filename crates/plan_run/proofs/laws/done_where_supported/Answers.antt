use Rattle.plan_run.proofs.Supported.{done_where_supported}
use Rattle.plan_run.proofs.laws.done_where_supported.Goals as goal

pub returns : goal.returns
returns c = done_where_supported c.one_answer_below.ensures
