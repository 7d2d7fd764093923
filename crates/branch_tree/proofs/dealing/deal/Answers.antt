use Rattle.std.proofs.Common.{sym, ap, ◌∙◌}
use Rattle.std.proofs.lemmas.Bool.{not-true, not-false}
use Rattle.arc_restrict.specs.Rows.{forbids}
use Rattle.branch_tree.specs.declared.dealing.Sides.{Sides}
use Rattle.branch_tree.proofs.DealingSteps.{left-kept, right-kept, turn-kept, left-put, right-put, turn-put}
use Rattle.branch_tree.proofs.dealing.deal.Goals as goal
use Rattle.branch_tree.proofs.dealing.deal.Goals.{then-allows+in_ok-put, else-allows}

pub loop-arc-preserved : goal.loop-arc-preserved
loop-arc-preserved c =
    let r = forbids c.args.restriction.now in
    let k = c.args.demand.0 in
    let one = c.args.one in
    let other = c.args.other in
    let arcs = c.args.arcs.now in
    let i = c.loop-arc.arc-index in
    let before = c.loop-arc.invariant in
    elim c.if-allows.branch [
      | then-allows+in_ok-put w ↦ (
          let allowed = not-true _ (sym c.allows.ensures ∙ w.if-allows.true) in
          record {
            left = ap (λ (s : Sides). s.left.items) w.sides-is ∙ w.in_ok-put.ensures.left ∙ left-put r k one other arcs i _ _ before.turn before.left allowed;
            right = ap (λ (s : Sides). s.right.items) w.sides-is ∙ w.in_ok-put.ensures.right ∙ right-put r k one other arcs i _ _ before.turn before.right allowed;
            turn = ap (λ (s : Sides). s.is_left_turn) w.sides-is ∙ w.in_ok-put.ensures.turn ∙ turn-put r k one other arcs i _ before.turn c.loop-arc-test.true allowed;
          })
      | else-allows w ↦ (
          let forbidden = not-false _ (sym c.allows.ensures ∙ w.if-allows.false) in
          record {
            left = ap (λ (s : Sides). s.left.items) w.sides-is ∙ before.left ∙ sym (left-kept r k one other arcs i forbidden);
            right = ap (λ (s : Sides). s.right.items) w.sides-is ∙ before.right ∙ sym (right-kept r k one other arcs i forbidden);
            turn = ap (λ (s : Sides). s.is_left_turn) w.sides-is ∙ before.turn ∙ sym (turn-kept r k one other arcs i c.loop-arc-test.true forbidden);
          })
    ]
