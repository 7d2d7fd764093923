use Rattle.std.proofs.Common.{◌≡◌, ◌++◌, map, take}
use Rattle.clap.specs.Words.{found_of, first_value}
use Rattle.option_words.specs.Given.{word_now}
use Rattle.option_words.proofs.reading.push_found.Given as goal

abbrev pub invariant-loop-id : goal.invariant-loop-id
invariant-loop-id l = map word_now l.found.items ≡ map word_now l.fn.found.items ++ map (first_value (found_of l.matches)) (map (λ id. id.now) (take l.id-index l.ids))
