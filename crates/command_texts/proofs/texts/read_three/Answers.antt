use Rattle.std.proofs.Common.{◌≡◌, Some, Err, rules, arith}
use Rattle.command_texts.specs.Texts.{three}
use Rattle.command_texts.proofs.Begins.{stopped, rose-since, model-unread, plan-unread, more-begun}
use Rattle.command_texts.proofs.texts.read_three.Goals as goal

pub returns-in_err-model-clause-stops : goal.returns-in_err-model-clause-stops
returns-in_err-model-clause-stops g c =
    let is : c.from_residual-in_err-model.result ≡ Err c.in_err-model.field-0.0 = search rules in
    rw is (stopped (three c.args.network.now c.args.model.now c.args.plan.now) (g.S.Shelf.text c.args.shelf.now) _ _ _ c.in_err-model.field-0.0
    (model-unread (Some c.args.network.now) c.args.model.now (Some c.args.plan.now) (g.S.Shelf.text c.args.shelf.now) _ _ c.in_err-model.field-0.0
    (more-begun 1 1 _ _ _ c.read_text.ensures.begun c.read_text-2.ensures.begun)
    (c.in_ok-network.network.items, c.in_ok-network.ensures.read) (rw c.in_ok-network.ensures.texts at c.in_err-model.ensures.stop))
    (λ read. rose-since _ _ _ c.read_text.ensures.later (c.in_err-model.ensures.read_fault read))
    c.in_err-model.ensures.too_long (omega (arith, c.read_text.ensures.later, c.read_text-2.ensures.later)))

pub returns-in_err-plan-clause-stops : goal.returns-in_err-plan-clause-stops
returns-in_err-plan-clause-stops g c =
    let is : c.from_residual-in_err-plan.result ≡ Err c.in_err-plan.field-0.0 = search rules in
    rw is (stopped (three c.args.network.now c.args.model.now c.args.plan.now) (g.S.Shelf.text c.args.shelf.now) _ _ _ c.in_err-plan.field-0.0
    (plan-unread (Some c.args.network.now) (Some c.args.model.now) c.args.plan.now (g.S.Shelf.text c.args.shelf.now) _ _ c.in_err-plan.field-0.0
    (more-begun 2 1 _ _ _ (more-begun 1 1 _ _ _ c.read_text.ensures.begun c.read_text-2.ensures.begun) c.read_text-3.ensures.begun)
    (c.in_ok-network.network.items, c.in_ok-network.ensures.read) (c.in_ok-model.model.items, rw c.in_ok-network.ensures.texts at c.in_ok-model.ensures.read)
    (rw (c.in_ok-model.ensures.texts, c.in_ok-network.ensures.texts) at c.in_err-plan.ensures.stop))
    (λ read. rose-since _ _ _ (omega (arith, c.read_text.ensures.later, c.read_text-2.ensures.later)) (c.in_err-plan.ensures.read_fault read))
    c.in_err-plan.ensures.too_long (omega (arith, c.read_text.ensures.later, c.read_text-2.ensures.later, c.read_text-3.ensures.later)))
