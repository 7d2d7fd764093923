use Rattle.std.proofs.Common.{rules}
use Rattle.verifier_paths.proofs.MarkLaws.{forbidden_by-none}
use Rattle.verifier_paths.proofs.marks.Forbidden.none.Goals as goal

pub returns-clause-empty : goal.returns-clause-empty
returns-clause-empty c = rw (c.in_ok-marks.ensures.items_if_clones_equal (λ y is. search rules)) (forbidden_by-none _ _ _)
