use Rattle.std.proofs.Common.{◌≡◌, rules, Some}
use Rattle.std.specs.Prelude.{map, string_bytes, option_map}
use Rattle.command_texts.specs.Texts.{three}
use Rattle.run_ends.proofs.Programs.{named_on}
use Rattle.picture_runs.specs.PictureRuns.{picture_usage, asked_in, IsDrawn}
use Rattle.picture_runs.proofs.Drawing.{found_asked}
use Rattle.picture_runs.proofs.running.answer_to.Goals as goal

pub returns-in-Some : goal.returns-in-Some
returns-in-Some g c =
    let names = three c.in-Some.network.now c.in-Some.model.now c.in-Some.plan.now in
    let lit = option_map (λ word. word.now) c.in-Some.name in
    let asked : Some (names, lit) ≡ asked_in (map string_bytes c.args.words.now) = search rules in
    found_asked g.S.Shelf (asked_in (map string_bytes c.args.words.now)) names lit _ _ c.draw_plan.result asked
    (named_on g.S.Shelf picture_usage (IsDrawn lit) names _ _ c.draw_plan.result c.draw_plan.ensures)
