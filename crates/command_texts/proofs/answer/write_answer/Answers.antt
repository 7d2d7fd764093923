use Rattle.command_texts.proofs.Answering.{written_whole, written_cut}
use Rattle.command_texts.proofs.answer.write_answer.Goals as goal

pub returns-in-Ok-write_whole-clause-written : goal.returns-in-Ok-write_whole-clause-written
returns-in-Ok-write_whole-clause-written g c =
    written_whole c.args.found (g.W.Sink.contents c.args.out.now) (g.W.Sink.contents c.write_whole.new.out) c.in-Ok.answer.status c.in-Ok.answer.text.items
    c.in-Ok.ensures (rw c.as_slice.ensures.value at c.in-Ok-write_whole.ensures.all)

pub returns-clause-written : goal.returns-clause-written
returns-clause-written g c =
    written_cut c.args.found (g.W.Sink.contents c.args.out.now) (g.W.Sink.contents c.write_whole.new.out) c.in-Ok.answer.status c.in-Ok.answer.text.items c.in-Err.field-0.written
    c.in-Ok.ensures (rw c.as_slice.ensures.value at c.in-Err.ensures.cut) (rw c.as_slice.ensures.value at c.in-Err.ensures.front)
