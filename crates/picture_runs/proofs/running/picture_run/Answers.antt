use Rattle.std.specs.Prelude.{map, string_bytes}
use Rattle.run_ends.proofs.Programs.{run_on}
use Rattle.picture_runs.specs.PictureRuns.{picture_usage, asked_names, lit_in, IsDrawn, IsEndOfDrawing}
use Rattle.picture_runs.proofs.Drawing.{drawn_ends}
use Rattle.picture_runs.proofs.running.picture_run.Goals as goal

pub returns : goal.returns
returns g c =
    let words = map string_bytes c.args.words.now in
    run_on g.S.Shelf g.W.Sink picture_usage (IsDrawn (lit_in words)) IsEndOfDrawing (asked_names words) _ _ _ _ c.answer_to-found.result c.write_answer.result
    (drawn_ends (lit_in words)) c.answer_to-found.ensures c.write_answer.ensures.written c.write_answer.ensures.write_fault c.write_answer.ensures.later
