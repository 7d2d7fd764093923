use Rattle.cert_verifier.proofs.bounds.counted_at.Goals as goal

pub cut_total-requires-clause-cuts : goal.cut_total-requires-clause-cuts
cut_total-requires-clause-cuts c = rw c.as_slice-cuts.ensures.value c.requires.cuts.is_list.are_cuts
