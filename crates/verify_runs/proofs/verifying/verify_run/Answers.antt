use Rattle.std.specs.Prelude.{map, string_bytes}
use Rattle.command_texts.specs.Answers.{IsVerified}
use Rattle.run_ends.proofs.Programs.{run_on}
use Rattle.verify_runs.specs.VerifyRuns.{names_in, verify_usage, IsEndOfVerdict}
use Rattle.verify_runs.proofs.Verdicts.{verified_ends}
use Rattle.verify_runs.proofs.verifying.verify_run.Goals as goal

pub returns : goal.returns
returns g c =
    run_on g.S.Shelf g.W.Sink verify_usage IsVerified IsEndOfVerdict (names_in (map string_bytes c.args.words.now))
    _ _ _ _ c.answer_to-found.result c.write_answer.result
    verified_ends c.answer_to-found.ensures c.write_answer.ensures.written c.write_answer.ensures.write_fault c.write_answer.ensures.later
