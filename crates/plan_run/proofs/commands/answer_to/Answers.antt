use Rattle.std.proofs.Common.{◌≡◌, rules, Some}
use Rattle.std.specs.Prelude.{map, string_bytes}
use Rattle.command_words.specs.Words.{command_now, command_in}
use Rattle.command_texts.specs.Refusals.{counts_of}
use Rattle.plan_run.proofs.Finding.{found_read}
use Rattle.plan_run.proofs.commands.answer_to.Goals as goal

pub returns-in-Some-clause-found : goal.returns-in-Some-clause-found
returns-in-Some-clause-found g c =
    let asked : Some (command_now c.in-Some.command) ≡ command_in (map string_bytes c.args.words.now) = search rules in
    found_read (map string_bytes c.args.words.now) (g.S.Shelf.text c.args.shelf.now)
    (counts_of (g.S.Shelf.faults c.args.shelf.now) (g.S.Shelf.faults c.do_command.new.shelf) (g.S.Shelf.taken c.do_command.new.shelf)) (g.S.Shelf.begins c.args.shelf.now) (g.S.Shelf.begins c.do_command.new.shelf) (command_now c.in-Some.command) c.do_command.result
    asked c.do_command.ensures.found
