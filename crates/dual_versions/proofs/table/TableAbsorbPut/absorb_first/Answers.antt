use Rattle.std.proofs.Common.{ap, sym, rules}
use Rattle.dual_versions.proofs.RowLists.{put_row_here, put_row_past}
use Rattle.dual_versions.proofs.table.TableAbsorbPut.absorb_first.Goals as goal

pub returns-then-put-len-clause-absorbed : goal.returns-then-put-len-clause-absorbed
returns-then-put-len-clause-absorbed c = ap (λ rows. (c.args.put.now.number, rows)) (put_row_here c.args.self.now.rows.items c.args.put.now.slot c.args.put.now.what c.index_mut.result.now c.fill.new.self (search rules) c.index_mut.ensures.value c.fill.ensures)

pub returns-else-put-len-clause-absorbed : goal.returns-else-put-len-clause-absorbed
returns-else-put-len-clause-absorbed c = ap (λ rows. (c.args.put.now.number, rows)) (sym (put_row_past c.args.self.now.rows.items c.args.put.now.slot c.args.put.now.what (search rules)))
