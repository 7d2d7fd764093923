use Rattle.cert_verifier.proofs.leaves.are_in_range.Goals as goal

pub returns : goal.returns
returns c = rw (c.of_link-ranges.ensures.value, c.of_link-carried.ensures.there, c.of_link-carried.ensures.back) at c.are_in.ensures
