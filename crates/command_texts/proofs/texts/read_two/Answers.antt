use Rattle.std.proofs.Common.{◌≡◌, Some, None, Err, rules, arith}
use Rattle.command_texts.specs.Texts.{two}
use Rattle.command_texts.proofs.Begins.{stopped, rose-since, model-unread, more-begun}
use Rattle.command_texts.proofs.texts.read_two.Goals as goal

pub returns-in_err-model-clause-stops : goal.returns-in_err-model-clause-stops
returns-in_err-model-clause-stops g c =
    let is : c.from_residual-in_err-model.result ≡ Err c.in_err-model.field-0.0 = search rules in
    rw is (stopped (two c.args.network.now c.args.model.now) (g.S.Shelf.text c.args.shelf.now) _ _ _ c.in_err-model.field-0.0
    (model-unread (Some c.args.network.now) c.args.model.now None (g.S.Shelf.text c.args.shelf.now) _ _ c.in_err-model.field-0.0
    (more-begun 1 1 _ _ _ c.read_text.ensures.begun c.read_text-2.ensures.begun)
    (c.in_ok-network.network.items, c.in_ok-network.ensures.read) (rw c.in_ok-network.ensures.texts at c.in_err-model.ensures.stop))
    (λ read. rose-since _ _ _ c.read_text.ensures.later (c.in_err-model.ensures.read_fault read))
    c.in_err-model.ensures.too_long (omega (arith, c.read_text.ensures.later, c.read_text-2.ensures.later)))
