use Rattle.std.proofs.Common.{◌++◌, ap, ◌∙◌}
use Rattle.snd_model.specs.Grammar.{setting_of}
use Rattle.snd_model.specs.Writing.{line}
use Rattle.snd_reader.proofs.WrittenLists.{lines_more_or}
use Rattle.snd_model.proofs.writing.push_lines.Goals as goal

pub loop-key-preserved : goal.loop-key-preserved
loop-key-preserved c =
    lines_more_or (λ key. line (setting_of c.args.file.now key)) c.args.keys.now c.loop-key.key-index _ c.args.text.now.items c.loop-key.text.items c.push_line.new.text.items c.loop-key-test.true c.loop-key.invariant
    (c.in_ok-push_line.ensures ∙ ap (λ setting. c.loop-key.text.items ++ line setting) c.setting.ensures)
