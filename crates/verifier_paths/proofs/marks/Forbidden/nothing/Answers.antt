use Rattle.verifier_paths.proofs.MarkLaws.{forbidden_by-no_rows}
use Rattle.verifier_paths.proofs.marks.Forbidden.nothing.Goals as goal

pub returns : goal.returns
returns c = forbidden_by-no_rows _ _
