use Rattle.std.proofs.Common.{◌≡◌, rules, arith}
use Rattle.ticket_turns.specs.Passes.{view_of}
use Rattle.linear_hub.proofs.Callers.{prefix_trans, last_of}
use Rattle.linear_hub.proofs.Ending.{one_less, none_remains}
use Rattle.linear_hub.proofs.hub.LinearHub.end_with.Goals as goal

pub take_in-requires-clause-tables : goal.take_in-requires-clause-tables
take_in-requires-clause-tables g c = (c.loop-one.invariant.0, (last_of (λ s. s.pass.table_id ≡ c.args.self.turns.table.shared.table_id) _ _ _ c.in-Some.ensures.items c.loop-one.invariant.4).0)

pub take_in-requires-clause-other : goal.take_in-requires-clause-other
take_in-requires-clause-other g c = c.in-Some.one.resting.0

pub loop-one-preserved : goal.loop-one-preserved
loop-one-preserved g c =
    let inv = c.loop-one.invariant in
    let t = c.take_in.ensures.taken in
    let parts = t.parts in
    let one = c.in-Some.one.resting.4 in
    let before = inv.2 in
    let len = c.in-Some.ensures.len in (
      search rules,
      c.take_in.ensures.idle,
      omega arith,
      prefix_trans _ _ _ inv.3 t.met.ours,
      (last_of (λ s. s.pass.table_id ≡ c.args.self.turns.table.shared.table_id) _ _ _ c.in-Some.ensures.items inv.4).1,
      one_less (λ s. (view_of s.pass).seen) _ _ _ _ _ _ c.in-Some.ensures.items t.met.ours t.met.theirs inv.5,
    )

pub returns-clause-gathered : goal.returns-clause-gathered
returns-clause-gathered g c = none_remains (λ s. (view_of s.pass).seen) _ _ _ c.loop-one.seats.items _ _ _ (search rules) c.loop-one.invariant.5 c.loop-one.invariant.3 c.close.ensures.seen (search rules)
