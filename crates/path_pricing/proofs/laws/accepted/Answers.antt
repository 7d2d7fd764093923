use Rattle.path_pricing.proofs.FaultLaws.{IsShown-priced_fault, priced_fault-IsShown}
use Rattle.path_pricing.proofs.laws.accepted.Goals as goal

pub returns : goal.returns
returns c = λ p prices k r found. (IsShown-priced_fault p prices k r found, priced_fault-IsShown p prices k r found)
