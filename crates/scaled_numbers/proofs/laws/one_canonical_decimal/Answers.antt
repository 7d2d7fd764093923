use Rattle.scaled_numbers.proofs.CanonicalTexts.{canonical-only}
use Rattle.scaled_numbers.proofs.laws.one_canonical_decimal.Goals as goal

pub returns : goal.returns
returns c = λ value scale text large within. canonical-only value scale large within text
