use Rattle.std.proofs.Common.{◌≡◌}
use Rattle.linear_hub.proofs.WorkerLists.{all_seats}
use Rattle.linear_hub.proofs.running.finish.Goals as goal

pub end-requires-clause-of : goal.end-requires-clause-of
end-requires-clause-of g c =
    all_seats (λ s. s.pass.table_id ≡ c.args.hub.turns.table.shared.table_id) (λ w. w.seat) c.take_apart-seats.result.0.items c.args.crew.workers.items c.take_apart-seats.ensures.seats c.requires.of
