use Rattle.std.proofs.Common.{◌≡◌}
use Rattle.cert_verifier.proofs.Rooms.{room_price_to}
use Rattle.cert_verifier.proofs.bounds.room_price.Given as goal

abbrev pub invariant-loop-place : goal.invariant-loop-place
invariant-loop-place l = l.total ≡ room_price_to l.inst l.ranges l.prices l.place
