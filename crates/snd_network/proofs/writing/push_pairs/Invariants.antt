use Rattle.std.proofs.Common.{◌≡◌, ◌++◌, take}
use Rattle.snd_reader.specs.Writing.{spaced}
use Rattle.snd_network.specs.Writing.{module_tokens}
use Rattle.snd_network.proofs.writing.push_pairs.Given as goal

-- the modules before this one are written
abbrev pub invariant-loop-pair : goal.invariant-loop-pair
invariant-loop-pair l = l.text.items ≡ l.initial.text.items ++ spaced (module_tokens (take l.pair-index l.modules))
