use Rattle.std.proofs.Common.{◌≡◌, ◌++◌, take, flat_map}
use Rattle.snd_model.specs.Grammar.{setting_of}
use Rattle.snd_model.specs.Writing.{line}
use Rattle.snd_model.proofs.writing.push_lines.Given as goal

-- the lines of the keys before this one are written
abbrev pub invariant-loop-key : goal.invariant-loop-key
invariant-loop-key l = l.text.items ≡ l.initial.text.items ++ flat_map (λ key. line (setting_of l.file key)) (take l.key-index l.keys)
