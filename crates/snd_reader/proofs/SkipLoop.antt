-- The loop that passes over tokens, and how many brackets are open in it.
use Rattle.std.proofs.Common.{◌≡◌, ℕ, zero, suc, ◌+◌, ◌≤◌, List, [], ◌∷◌, length, refl, sym, ◌∙◌, arith}
use Rattle.std.specs.Prelude.{Result, Ok, Err}
use Rattle.snd_reader.specs.declared.fault.TextFault.TheVariants as faults
use Rattle.snd_reader.specs.declared.fault.Complaint.TheVariants.{Ended}
use Rattle.snd_reader.specs.Readers.{Lexeme, word, open_bracket, close_bracket, equals_sign, the_end, Placed, Stopped, first_of, rest_of}
use Rattle.snd_reader.specs.Faults.{Fails}
use Rattle.snd_reader.specs.declared.brackets.Depth.TheVariants.{Closed, Deep, Over}
use Rattle.snd_reader.specs.Brackets.{depth_at, skip}
use Rattle.snd_reader.proofs.Skips.{turn-ok}

-- a bracket is a token
pub some_open : (ts : List Placed) → (first_of ts).is ≡ open_bracket → 1 ≤ length ts
some_open [] e = absurd cc
some_open (t ∷ ts) e = omega arith

-- the bracket that closes all
pub closes : (depth : ℕ) (ts : List Placed) (whole : Result (Unit {0} × List Placed) Stopped) → skip depth ts ≡ whole → depth_at depth (first_of ts).is ≡ Closed → whole ≡ Ok (tt, rest_of ts)
closes depth [] whole e c = absurd cc
closes depth (t ∷ ts) whole e c = sym e ∙ turn-ok depth t ts Closed (Ok (tt, ts)) c refl

-- the text ends
pub ends : (depth : ℕ) (ts : List Placed) (whole : Result (Unit {0} × List Placed) Stopped) → skip depth ts ≡ whole → depth_at depth (first_of ts).is ≡ Over → Fails (faults.Ended (first_of ts).at) whole
unfolding skip
ends depth [] whole e c = record { complaint = Ended; rest = []; stops = sym e; is = refl }
ends depth (t ∷ ts) whole e c = record { complaint = Ended; rest = t ∷ ts; stops = sym e ∙ turn-ok depth t ts Over (Err (Ended, t ∷ ts)) c refl; is = refl }

-- a token more
pub goes_on : (depth d : ℕ) (ts : List Placed) (whole : Result (Unit {0} × List Placed) Stopped) → skip depth ts ≡ whole → depth_at depth (first_of ts).is ≡ Deep d → skip d (rest_of ts) ≡ whole
goes_on depth d [] whole e c = absurd cc
goes_on depth d (t ∷ ts) whole e c = sym (turn-ok depth t ts (Deep d) (skip d ts) c refl) ∙ e

one-deeper : (depth d : ℕ) (l : Lexeme) → depth_at depth l ≡ Deep d → d ≤ suc depth
one-deeper depth d (word bytes) e = let same : depth ≡ d = cc in omega (arith, same)
one-deeper depth d open_bracket e = let same : suc depth ≡ d = cc in omega (arith, same)
one-deeper zero d close_bracket e = absurd cc
one-deeper (suc depth) d close_bracket e = let same : depth ≡ d = cc in omega (arith, same)
one-deeper depth d equals_sign e = let same : depth ≡ d = cc in omega (arith, same)
one-deeper depth d the_end e = absurd cc

-- no more brackets are open than tokens were passed
pub stays_within : (depth d : ℕ) (ts : List Placed) → depth_at depth (first_of ts).is ≡ Deep d → d + length (rest_of ts) ≤ depth + length ts
stays_within depth d [] c = absurd cc
stays_within depth d (t ∷ ts) c = omega (arith, one-deeper depth d t.is c)
