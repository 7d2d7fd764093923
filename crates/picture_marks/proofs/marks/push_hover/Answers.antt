use Rattle.std.proofs.Common.{append_assoc}
use Rattle.picture_marks.specs.Marks.{hover_text}
use Rattle.picture_marks.proofs.marks.push_hover.Goals as goal

pub returns : goal.returns
unfolding hover_text
returns c =
    rw (c.in_ok-extend_from_slice-2.ensures.items, c.in_ok-push_title.ensures, c.in_ok-extend_from_slice.ensures.items)
    (simp append_assoc)
