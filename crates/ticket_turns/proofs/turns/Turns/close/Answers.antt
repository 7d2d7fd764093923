use Rattle.std.proofs.Common.{ℕ, rules, sym, subst, ◌∙◌}
use Rattle.ticket_turns.specs.Passes.{IsAtEnd}
use Rattle.ticket_turns.proofs.Ending.{ends, same_value}
use Rattle.ticket_turns.proofs.turns.Turns.close.Goals as goal

pub unreachable-requires : goal.unreachable-requires
unreachable-requires g c =
    let left = ends _ _ _ _ _ _ (c.requires.all ∙ sym c.args.self.shaped.2) c.requires.idle.0 c.close_with-closed.ensures.values.2 in
    c.in_default.not-Some left.0 (sym (search rules))

pub returns : goal.returns
returns g c =
    let left = ends _ _ _ _ _ _ (c.requires.all ∙ sym c.args.self.shaped.2) c.requires.idle.0 c.close_with-closed.ensures.values.2 in
    subst (λ (z : ℕ). IsAtEnd g.M.Meaning.leads z c.args.root.me.0 c.in-Some.value) c.args.self.shaped.2
    (subst (IsAtEnd g.M.Meaning.leads c.args.self.table.shared.key c.args.root.me.0) (same_value _ left.0 _ _ left.1 c.take.ensures.value c.in-Some.is) left.2)
