-- Tests of single tokens: what a token stands for, or what is wrong with it.
use Rattle.std.specs.Prelude.{ℕ, Result, Ok, Err}
use Rattle.scaled_numbers.specs.declared.fault.NumberFault.{NumberFault}
use Rattle.scaled_numbers.specs.Scanning.{decimal_of}
use Rattle.snd_reader.specs.declared.fault.Wanted.{Wanted}
use Rattle.snd_reader.specs.declared.fault.Wanted.TheVariants as wants
use Rattle.snd_reader.specs.declared.fault.Complaint.{Complaint}
use Rattle.snd_reader.specs.declared.fault.Complaint.TheVariants.{Unexpected, Number, Ended}
use Rattle.snd_reader.specs.Readers.{Lexeme, word, open_bracket, close_bracket, equals_sign, the_end}

-- a token that cannot stand where something else is wanted; the end of the text is told as such
abbrev pub refused : Wanted → Lexeme → Complaint
refused w the_end = Ended
refused w l = Unexpected w

-- an opening bracket
abbrev pub open_test : Lexeme → Result (Unit {0}) Complaint
open_test open_bracket = Ok tt
open_test l = Err (refused wants.Open l)

-- a closing bracket
abbrev pub close_test : Lexeme → Result (Unit {0}) Complaint
close_test close_bracket = Ok tt
close_test l = Err (refused wants.Close l)

-- an equals sign
abbrev pub equals_test : Lexeme → Result (Unit {0}) Complaint
equals_test equals_sign = Ok tt
equals_test l = Err (refused wants.Equals l)

-- a number that was read, or what is wrong with it
abbrev pub numbered : Result ℕ NumberFault → Result ℕ Complaint
numbered (Ok n) = Ok n
numbered (Err f) = Err (Number f)

-- a word that spells a number which is whole at the scale and below 10^12
abbrev pub number_test : ℕ → Lexeme → Result ℕ Complaint
number_test scale (word bytes) = numbered (decimal_of bytes scale)
number_test scale l = Err (refused wants.Number l)
