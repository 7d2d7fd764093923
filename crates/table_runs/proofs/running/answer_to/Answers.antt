use Rattle.std.specs.Prelude.{string_bytes}
use Rattle.table_runs.specs.TableRuns.{table_usage, IsTabled}
use Rattle.verify_runs.proofs.ThreeNames.{found_three}
use Rattle.table_runs.proofs.running.answer_to.Goals as goal

pub returns-in-len3 : goal.returns-in-len3
returns-in-len3 g c =
    found_three g.S.Shelf table_usage IsTabled string_bytes c.args.words.now _ _ _ _ _ _ _ _ c.table_plan.result c.in-len3.len_at_least c.in-len3.len_below c.network-item.is c.model-item.is c.plan-item.is
    c.as_str.ensures.value c.as_str-in-len3.ensures.value c.as_str-in-len3-2.ensures.value c.table_plan.ensures
