-- What a turn of a loop over items knows of its tokens.
use Rattle.std.proofs.Common.{◌≡◌, ◌<◌, List, [], ◌∷◌, length, Option, Some, ap, arith}
use Rattle.std.specs.Prelude.{Result, Ok, Err}
use Rattle.snd_reader.specs.declared.fault.Complaint.{Complaint}
use Rattle.snd_reader.specs.Readers.{Placed, Reader, judged, token}
use Rattle.snd_reader.proofs.Lawful.{ok-parts}
use Rattle.snd_reader.proofs.Loops.{token_shorter, not_longer}
use Rattle.snd_reader.proofs.Live.{Live}

-- a turn goes past tokens
pub turn_shorter : {S H : Type 0} (head : S → Placed → Result (Option H) Complaint) (body : S → H → Reader S) (F : S → H → List Placed → S → Type 0) → ((s : S) (h : H) → Live (F s h) (body s h))
    → (s next : S) (h : H) (ts us vs : List Placed) → token (head s) ts ≡ Ok (Some h, us) → body s h us ≡ Ok (next, vs) → length vs < length ts
turn_shorter head body F live s next h ts us vs e b = omega (arith, token_shorter (head s) (Some h) ts us e, not_longer (F s h) (body s h) (live s h).law next us vs b)

judged-ok : {A : Type 0} (t : Placed) (ts us : List Placed) (j : Result A Complaint) (x : A) → judged t ts j ≡ Ok (x, us) → j ≡ Ok x
judged-ok {A} t ts us (Ok y) x e = ap (λ (z : A). Ok z) (ok-parts y x ts us e).0
judged-ok t ts us (Err c) x e = absurd cc

-- the test of a token that is taken found it good
pub taken_good : {A : Type 0} (test : Placed → Result A Complaint) (ts us : List Placed) (x : A) → token test ts ≡ Ok (x, us) → (t : Placed) × (test t ≡ Ok x)
taken_good test [] us x e = absurd cc
taken_good test (t ∷ ts) us x e = (t, judged-ok t ts us (test t) x e)
