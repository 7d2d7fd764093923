use Rattle.std.proofs.Common.{◌≡◌, ◌++◌, take, flat_map}
use Rattle.snd_reader.specs.Writing.{line_of}
use Rattle.snd_network.proofs.writing.push_lines.Given as goal

-- the lines of the records before this one are written
abbrev pub invariant-loop-row : goal.invariant-loop-row
invariant-loop-row g l = l.text.items ≡ l.initial.text.items ++ flat_map (λ r. line_of (g.T.Record.tokens l.nodes r)) (take l.row-index l.rows)
