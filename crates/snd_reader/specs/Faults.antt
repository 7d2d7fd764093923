-- What the answers of readers in the code say of the readers of the grammar.
use Rattle.std.specs.Prelude.{◌≡◌, ℕ, List, Result, Ok, Err}
use Rattle.snd_reader.specs.declared.fault.Complaint.{Complaint}
use Rattle.snd_reader.specs.declared.fault.Complaint.TheVariants as complaints
use Rattle.snd_reader.specs.declared.fault.TextFault.{TextFault}
use Rattle.snd_reader.specs.declared.fault.TextFault.TheVariants.{Unexpected, Number, Twice, Ended, LongId, OutOfMemory}
use Rattle.snd_reader.specs.Readers.{Placed, Stopped, first_of}

-- the fault of a text in which this is wrong with the token at a place
abbrev pub fault_at : ℕ → Complaint → TextFault
fault_at at (complaints.Unexpected w) = Unexpected at w
fault_at at (complaints.Number f) = Number at f
fault_at at complaints.Twice = Twice at
fault_at at complaints.LongId = LongId at
fault_at at complaints.Ended = Ended at

-- reading stops so
pub record Blames {Y : Type 0} (f : TextFault) (read : Result Y Stopped) : Type 0 where
  pub complaint : Complaint
  pub rest : List Placed
  pub stops : read ≡ Err (complaint, rest)
  pub is : f ≡ fault_at (first_of rest).at complaint

-- reading stops so, where memory did not run out
abbrev pub Fails : {Y : Type 0} → TextFault → Result Y Stopped → Type 0
Fails OutOfMemory read = Unit {0}
Fails f read = Blames f read

-- the answer is what is read, or why reading stops
abbrev pub Gives : {X Y : Type 0} → (X → Y) → Result X TextFault → Result Y Stopped → Type 0
Gives view (Ok x) read = read ≡ Ok (view x)
Gives view (Err f) read = Fails f read
