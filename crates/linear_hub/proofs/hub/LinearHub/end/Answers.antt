use Rattle.std.proofs.Common.{◌≡◌}
use Rattle.ticket_turns.specs.Passes.{view_of}
use Rattle.linear_hub.proofs.Callers.{last_of}
use Rattle.linear_hub.proofs.Ending.{all_ended}
use Rattle.linear_hub.proofs.hub.LinearHub.end.Goals as goal

pub end_with-requires-clause-root : goal.end_with-requires-clause-root
end_with-requires-clause-root g c = ((last_of (λ s. s.pass.table_id ≡ c.args.self.turns.table.shared.table_id) _ _ _ c.in-Some.ensures.items c.requires.of).0, c.in-Some.first.resting.0)

pub end_with-requires-clause-of : goal.end_with-requires-clause-of
end_with-requires-clause-of g c = (last_of (λ s. s.pass.table_id ≡ c.args.self.turns.table.shared.table_id) _ _ _ c.in-Some.ensures.items c.requires.of).1

pub returns-clause-ended : goal.returns-clause-ended
returns-clause-ended g c = all_ended (λ s. (view_of s.pass).seen) _ _ _ _ _ c.in-Some.ensures.items c.end_with.ensures.gathered
