use Rattle.scaled_numbers.proofs.Reading.{one-scaled}
use Rattle.scaled_numbers.proofs.laws.one_value_for_a_text.Goals as goal

pub returns : goal.returns
returns c = λ text scale v w a b. one-scaled text scale a.numeral b.numeral v w a.spells b.spells a.value b.value
