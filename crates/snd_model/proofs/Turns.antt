-- What the loop over pairs knows of a turn.
use Rattle.std.proofs.Common.{◌≡◌, ◌<◌, List, length, true, Option, Some, None, ap, ◌∙◌}
use Rattle.std.specs.Prelude.{Result, Ok}
use Rattle.snd_reader.specs.declared.fault.Complaint.{Complaint}
use Rattle.snd_reader.specs.Readers.{Lexeme, Placed, first_of, judge, token}
use Rattle.snd_reader.proofs.Turns.{turn_shorter, taken_good}
use Rattle.snd_model.specs.declared.keys.Key.{Key}
use Rattle.snd_model.specs.declared.draft.Draft.{Draft}
use Rattle.snd_model.specs.Grammar.{is_complete, PairForm}
use Rattle.snd_model.specs.Tests.{key_head}
use Rattle.snd_model.specs.Reading.{key_turn, pair}
use Rattle.snd_model.proofs.Agree.{key_same}
use Rattle.snd_model.proofs.Whole.{live_pair}

-- to judge the first token by what a key's place says of it is to read that token there
pub turned : (d : Draft) (ts : List Placed) (l : Lexeme) (v : Result (Option Key) Complaint) → v ≡ key_head d l → l ≡ (first_of ts).is → judge v ts ≡ token (key_turn d) ts
turned d ts l v e h = ap (λ (w : Result (Option Key) Complaint). judge w ts) (e ∙ ap (key_head d) h)

-- where the text may end, each key has a value
pub ended-complete : (d : Draft) (ts us : List Placed) → token (key_turn d) ts ≡ Ok (None, us) → is_complete d ≡ true
ended-complete d ts us e = let g = taken_good (key_turn d) ts us None e in ((key_same d g.0 None).0 g.1).1

-- behind a key and the rest of its pair, fewer tokens are left
pub pair-shorter : (d next : Draft) (k : Key) (ts us vs : List Placed) → token (key_turn d) ts ≡ Ok (Some k, us) → pair d k us ≡ Ok (next, vs) → length vs < length ts
pair-shorter d next k ts us vs e b = turn_shorter key_turn pair PairForm live_pair d next k ts us vs e b
