use Rattle.std.proofs.Common.{arith}
use Rattle.cert_verifier.proofs.SplitLaws.{loads_found_none}
use Rattle.cert_verifier.proofs.walk.Walk.visit_loads.Goals as goal

pub go_below-requires : goal.go_below-requires
go_below-requires c =
    let split = loads_found_none _ _ _ _ _ c.in_ok-check_loads.ensures in
    omega (arith, split.is_place, c.requires)
