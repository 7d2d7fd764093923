use Rattle.cut_values.proofs.MovedPrices.{here-within, moved-numbers, moved-rates, put-moved}
use Rattle.cut_values.proofs.laws.moved_numbers.Goals as goal

pub returns : goal.returns
returns c = record { here = here-within; moved = moved-numbers; rates = moved-rates; put = put-moved }
