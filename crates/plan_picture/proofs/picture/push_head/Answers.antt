use Rattle.std.proofs.Common.{append_assoc}
use Rattle.plan_picture.specs.Pictures.{head}
use Rattle.plan_picture.proofs.picture.push_head.Goals as goal

pub returns : goal.returns
unfolding head
returns c =
    rw (c.in_ok-extend_from_slice-3.ensures.items, c.in_ok-extend_from_slice-2.ensures.items, c.in_ok-extend_from_slice.ensures.items, c.encoding.ensures)
    (simp append_assoc)
