use Rattle.scaled_numbers.proofs.CanonicalTexts.{text-some, text-short, text-bytes}
use Rattle.scaled_numbers.proofs.laws.written_is_one_word.Goals as goal

pub returns-clause-some : goal.returns-clause-some
returns-clause-some c = λ value scale large within. text-some value scale large within

pub returns-clause-short : goal.returns-clause-short
returns-clause-short c = λ value scale large within. text-short value scale large within

pub returns-clause-bytes : goal.returns-clause-bytes
returns-clause-bytes c = λ value scale large within. text-bytes value scale large within
