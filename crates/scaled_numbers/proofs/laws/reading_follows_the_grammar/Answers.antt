use Rattle.std.proofs.Common.{refl}
use Rattle.scaled_numbers.specs.Scanning.{decimal_of}
use Rattle.scaled_numbers.proofs.Deciding.{reads, faults}
use Rattle.scaled_numbers.proofs.laws.reading_follows_the_grammar.Goals as goal

pub returns-clause-value : goal.returns-clause-value
returns-clause-value c = λ text scale. reads text scale (decimal_of text scale) refl

pub returns-clause-fault : goal.returns-clause-fault
returns-clause-fault c = λ text scale. faults text scale (decimal_of text scale) refl
