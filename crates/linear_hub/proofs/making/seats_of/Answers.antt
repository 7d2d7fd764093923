use Rattle.std.proofs.Common.{◌≡◌, rules, arith, sym, subst, ◌∙◌, All}
use Rattle.std.proofs.lemmas.List.Elements.{All-push}
use Rattle.ticket_turns.specs.Passes.{view_of}
use Rattle.linear_hub.specs.Seats.{AreNew}
use Rattle.linear_hub.proofs.Ending.{new_more}
use Rattle.linear_hub.proofs.making.seats_of.Goals as goal

pub loop-number-preserved : goal.loop-number-preserved
loop-number-preserved g c =
    let inv = c.loop-number.invariant in
    let new = c.caller-pass.ensures.caller in
    let readers = inv.2 in
    let popped = c.in-Some.ensures.len in
    let here = c.loop-number-test.true in (
      search rules,
      search rules,
      omega arith,
      search rules,
      subst (All (λ s. s.pass.table_id ≡ c.args.turns.now.table.shared.table_id)) (sym c.in_ok-push.ensures.items)
          (All-push (λ s. s.pass.table_id ≡ c.args.turns.now.table.shared.table_id) c.loop-number.list.items _ inv.4 (c.caller-pass.ensures.table.1 ∙ inv.0)),
      subst (AreNew (λ s. s.number) (λ s. s.calls) (λ s. view_of s.pass)) (sym c.in_ok-push.ensures.items)
          (new_more (λ s. s.number) (λ s. s.calls) (λ s. view_of s.pass) c.loop-number.list.items _ inv.5 (sym inv.3, search rules, new.1, new.2)),
    )
