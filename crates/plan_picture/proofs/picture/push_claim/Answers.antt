use Rattle.std.proofs.Common.{append_assoc}
use Rattle.plan_picture.specs.Pictures.{claim_text}
use Rattle.plan_picture.proofs.picture.push_claim.Goals as goal

pub returns : goal.returns
unfolding claim_text
returns c =
    rw (c.in_ok-extend_from_slice-3.ensures.items, c.in_ok-extend_from_slice-2.ensures.items, c.in_ok-extend_from_slice.ensures.items, c.split_at.ensures.back, c.as_slice.ensures.value, c.in_ok-line.ensures, c.inst.ensures.value, c.plan.ensures.value)
    (simp append_assoc)
