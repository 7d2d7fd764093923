use Rattle.std.proofs.Common.{append_assoc}
use Rattle.plan_picture.specs.Pictures.{path_text}
use Rattle.plan_picture.proofs.lit.push_path_name.Goals as goal

pub returns : goal.returns
unfolding path_text
returns c =
    rw (c.in_ok-extend_from_slice-3.ensures.items, c.in_ok-push_count.ensures, c.in_ok-push_escaped.ensures, c.demand_name.ensures, c.net.ensures, c.in_ok-extend_from_slice-2.ensures.items, c.path_words.ensures, c.plan.ensures.value, c.in_ok-extend_from_slice.ensures.items)
    (simp append_assoc)
