-- Faults of readers that are read one after the other.
use Rattle.std.proofs.Common.{◌≡◌, List, [], ◌∷◌, refl}
use Rattle.std.specs.Prelude.{Result, Err}
use Rattle.snd_reader.specs.declared.fault.TextFault.{TextFault}
use Rattle.snd_reader.specs.declared.fault.TextFault.TheVariants.{Ended, OutOfMemory}
use Rattle.snd_reader.specs.declared.fault.Complaint.{Complaint}
use Rattle.snd_reader.specs.declared.fault.Complaint.TheVariants as complaints
use Rattle.snd_reader.specs.Readers.{Stopped, Placed, ◌>>=◌, judge}
use Rattle.snd_reader.specs.Faults.{Blames, Fails, fault_at}

blames-through : {A B : Type 0} (f : TextFault) (read : Result A Stopped) (k : A → Result B Stopped) → Blames f read → Blames f (read >>= k)
blames-through f read k b = record { complaint = b.complaint; rest = b.rest; stops = rw b.stops refl; is = b.is }

-- what stops the first reader stops the whole
pub through : {A B : Type 0} (f : TextFault) (read : Result A Stopped) (k : A → Result B Stopped) → Fails f read → Fails f (read >>= k)
through OutOfMemory read k b = tt
through f read k b = blames-through f read k b

-- who blames a token fails
pub blamed : {A : Type 0} (f : TextFault) (read : Result A Stopped) → Blames f read → Fails f read
blamed OutOfMemory read b = tt
blamed f read b = b

-- a complaint of the first token
pub complained : (A : Type 0) (t : Placed) (ts : List Placed) (c : Complaint) (f : TextFault) → f ≡ fault_at t.at c → Fails f (judge {A = A} (Err c) (t ∷ ts))
complained A t ts c f e = blamed f (judge {A = A} (Err c) (t ∷ ts)) (record { complaint = c; rest = t ∷ ts; stops = refl; is = e })

-- no token is left
pub ended : {A : Type 0} (v : Result A Complaint) (f : TextFault) → f ≡ Ended 0 → Fails f (judge v [])
ended v f e = blamed f (judge v []) (record { complaint = complaints.Ended; rest = []; stops = refl; is = e })
