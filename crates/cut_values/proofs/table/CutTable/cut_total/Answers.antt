use Rattle.cut_values.proofs.table.CutTable.cut_total.Goals as goal

pub cut_total-requires-clause-cuts : goal.cut_total-requires-clause-cuts
cut_total-requires-clause-cuts c = rw (c.instance.ensures.inst, c.cuts.ensures.value) c.cuts.ensures.list.are_cuts
