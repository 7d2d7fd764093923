use Rattle.path_pricing.proofs.ShownLaws.{IsPriced-IsShown}
use Rattle.path_pricing.proofs.laws.shown.Goals as goal

pub returns : goal.returns
returns c = λ p prices k r found. IsPriced-IsShown p prices k r found
