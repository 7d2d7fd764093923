use Rattle.std.proofs.Common.{append_assoc}
use Rattle.picture_marks.specs.Marks.{circle_text}
use Rattle.picture_marks.proofs.marks.push_circle.Goals as goal

pub returns : goal.returns
unfolding circle_text
returns c =
    rw (c.in_ok-extend_from_slice-5.ensures.items, c.in_ok-push_escaped.ensures, c.in_ok-extend_from_slice-4.ensures.items, c.in_ok-push_spot.ensures, c.in_ok-extend_from_slice-3.ensures.items, c.in_ok-extend_from_slice-2.ensures.items, c.end_word.ensures, c.in_ok-extend_from_slice.ensures.items)
    (simp append_assoc)
