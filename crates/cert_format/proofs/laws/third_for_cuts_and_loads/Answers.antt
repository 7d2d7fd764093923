use Rattle.cert_format.proofs.VersionLaws.{third_exactly}
use Rattle.cert_format.proofs.laws.third_for_cuts_and_loads.Goals as goal

pub returns : goal.returns
returns c = λ text plan s. third_exactly s.form plan.cuts plan.tree s.cuts_told s.lines s.asked
