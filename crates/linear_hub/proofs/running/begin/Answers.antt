use Rattle.std.proofs.Common.{◌≡◌}
use Rattle.linear_hub.proofs.WorkerLists.{all_workers}
use Rattle.linear_hub.proofs.running.begin.Goals as goal

pub returns-clause-of : goal.returns-clause-of
returns-clause-of g c =
    all_workers (λ s. s.pass.table_id ≡ c.in_ok-hub.hub.turns.table.shared.table_id) (λ w. w.seat) c.in_ok-hub.seats.items c.in_ok-crew.crew.workers.items c.in_ok-crew.ensures.seats c.in_ok-hub.ensures.of
