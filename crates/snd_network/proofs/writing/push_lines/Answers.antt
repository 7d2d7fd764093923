use Rattle.snd_reader.specs.Writing.{line_of}
use Rattle.snd_reader.proofs.WrittenLists.{lines_more}
use Rattle.snd_network.proofs.writing.push_lines.Goals as goal

pub loop-row-preserved : goal.loop-row-preserved
loop-row-preserved g c =
    lines_more (λ r. line_of (g.T.Record.tokens c.args.nodes.now r)) c.args.rows.now c.loop-row.row-index c.row-item.result c.args.text.now.items c.loop-row.text.items c.push_line.new.text.items c.loop-row-test.true c.row-item.is c.loop-row.invariant c.in_ok-push_line.ensures
