use Rattle.cert_verifier.proofs.SplitLaws.{split_found_none}
use Rattle.cert_verifier.proofs.WalkLaws.{split-within}
use Rattle.cert_verifier.proofs.walk.Walk.visit_split.Goals as goal

pub go_left-requires-clause-demand : goal.go_left-requires-clause-demand
go_left-requires-clause-demand c = rw c.requires.rows.demands (split_found_none _ _ _ _ _ _ _ c.in_ok-check_split.ensures).demand

pub go_left-requires-clause-left : goal.go_left-requires-clause-left
go_left-requires-clause-left c = rw c.requires.rows.arcs (split-within _ _ _ _ _ _ (split_found_none _ _ _ _ _ _ _ c.in_ok-check_split.ensures)).left_within
