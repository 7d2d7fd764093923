use Rattle.std.specs.Prelude.{map, string_bytes}
use Rattle.run_ends.proofs.Programs.{run_on}
use Rattle.verify_runs.specs.VerifyRuns.{names_in, IsEndOfVerdict}
use Rattle.table_runs.specs.TableRuns.{table_usage, IsTabled}
use Rattle.table_runs.proofs.Telling.{tabled_ends}
use Rattle.table_runs.proofs.running.table_run.Goals as goal

pub returns : goal.returns
returns g c =
    run_on g.S.Shelf g.W.Sink table_usage IsTabled IsEndOfVerdict (names_in (map string_bytes c.args.words.now)) _ _ _ _ c.answer_to-found.result c.write_answer.result
    tabled_ends c.answer_to-found.ensures c.write_answer.ensures.written c.write_answer.ensures.write_fault c.write_answer.ensures.later
