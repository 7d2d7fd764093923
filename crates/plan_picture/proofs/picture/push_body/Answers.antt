use Rattle.std.proofs.Common.{append_assoc}
use Rattle.plan_picture.proofs.picture.push_body.Goals as goal

pub returns : goal.returns
returns c =
    rw (c.in_ok-extend_from_slice.ensures.items, c.in_ok-push_claim.ensures, c.in_ok-push_lit.ensures, c.in_ok-push_nodes.ensures, c.in_ok-push_all_figures.ensures, c.in_ok-push_link_labels.ensures, c.in_ok-push_links.ensures, c.in_ok-push_group.ensures, c.orient.ensures)
    (rw (c.inst.ensures.value, c.named-named.ensures.plan, c.named-named.ensures.parts, c.plan-plan.ensures) (simp append_assoc))
