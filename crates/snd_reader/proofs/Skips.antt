-- Skipping tokens with balanced brackets is lawful.
use Rattle.std.proofs.Common.{◌≡◌, ◌↔◌, ℕ, zero, suc, List, [], ◌∷◌, ◌++◌, refl, sym, ap, subst}
use Rattle.std.specs.Prelude.{Result, Ok, Err}
use Rattle.snd_reader.specs.declared.fault.Complaint.{Complaint}
use Rattle.snd_reader.specs.declared.fault.Complaint.TheVariants.{Ended}
use Rattle.snd_reader.specs.Readers.{Lexeme, open_bracket, close_bracket, the_end, Placed, Stopped}
use Rattle.snd_reader.specs.Forms.{Begins}
use Rattle.snd_reader.proofs.Lawful.{Lawful, Taken, Stops, Local, read_as, stopped_at, ok-parts, err-parts, apart}
use Rattle.snd_reader.proofs.Endings.{EndsAtEnd, not-there, here}
use Rattle.snd_reader.proofs.Live.{Live, HasNoEnd, IsMore}
use Rattle.snd_reader.specs.Brackets.{IsBalanced, IsSkipped, depth_at, skip_by, skip}
use Rattle.snd_reader.specs.declared.brackets.Depth.{Depth}
use Rattle.snd_reader.specs.declared.brackets.Depth.TheVariants.{Closed, Deep, Over}

-- tokens with balanced brackets, and the Close behind them, as a form, where so many brackets are open
abbrev pub Balanced : ℕ → List Placed → Unit {0} → Type 0
Balanced depth l x = IsBalanced depth l

-- the form by what the first token says
abbrev By : List Placed → Depth → Type 0
By ts Closed = ts ≡ []
By ts (Deep d) = IsBalanced d ts
By ts Over = ⊥

by-depth : (depth : ℕ) (t : Placed) (ts : List Placed) → IsBalanced depth (t ∷ ts) ↔ By ts (depth_at depth t.is)
by-depth depth t ts = by depth t.is
  where
    by : (depth : ℕ) (l : Lexeme) → IsBalanced depth (record { at = t.at; is = l } ∷ ts) ↔ By ts (depth_at depth l)
    by zero close_bracket = (λ h. h, λ h. h)
    by (suc depth) close_bracket = (λ h. h, λ h. h)
    by depth l = (λ h. h, λ h. h)

closer : Placed
closer = record { at = 0; is = close_bracket }

begun : (depth : ℕ) → Begins (Balanced depth) []
unfolding closer
begun zero = (closer ∷ [], tt, refl)
begun (suc depth) = let b = begun depth in (closer ∷ b.0, tt, b.2)

-- to skip tokens comes to what their first token says of the brackets
pub turn-ok : (depth : ℕ) (t : Placed) (ts : List Placed) (u : Depth) (o : Result (Unit {0} × List Placed) Stopped) → depth_at depth t.is ≡ u → skip_by (λ d. skip d ts) t ts u ≡ o → skip depth (t ∷ ts) ≡ o
unfolding skip
turn-ok depth t ts u o e h = rw e h

takes-by : (depth : ℕ) (t : Placed) (ts : List Placed) (x : Unit {0}) (rest : List Placed) (u : Depth) → ((d : ℕ) → skip d ts ≡ read_as x rest → Taken (Balanced d) ts x rest)
    → depth_at depth t.is ≡ u → skip_by (λ d. skip d ts) t ts u ≡ read_as x rest → Taken (Balanced depth) (t ∷ ts) x rest
takes-by depth t ts x rest Closed later e r =
    let p = ok-parts tt x ts rest r in
    record { front = t ∷ []; whole = ap (λ (us : List Placed). t ∷ us) p.1; form = (by-depth depth t []).1 (subst (λ (u : Depth). By [] u) (sym e) refl) }
takes-by depth t ts x rest (Deep d) later e r =
    let k = later d r in
    record { front = t ∷ k.front; whole = ap (λ (us : List Placed). t ∷ us) k.whole; form = (by-depth depth t k.front).1 (subst (λ (u : Depth). By k.front u) (sym e) k.form) }
takes-by depth t ts x rest Over later e r = absurd cc

takes : (ts : List Placed) (depth : ℕ) (x : Unit {0}) (rest : List Placed) → skip depth ts ≡ read_as x rest → Taken (Balanced depth) ts x rest
unfolding skip
takes [] depth x rest r = absurd cc
takes (t ∷ ts) depth x rest r = takes-by depth t ts x rest (depth_at depth t.is) (λ d q. takes ts d x rest q) refl r

again-by : (depth : ℕ) (t : Placed) (front : List Placed) (rest : List Placed) (u : Depth) → ((d : ℕ) → IsBalanced d front → skip d (front ++ rest) ≡ read_as tt rest)
    → depth_at depth t.is ≡ u → By front u → skip depth (t ∷ (front ++ rest)) ≡ read_as tt rest
again-by depth t front rest Closed later e h = turn-ok depth t (front ++ rest) Closed (Ok (tt, rest)) e (ap (λ (us : List Placed). read_as tt (us ++ rest)) h)
again-by depth t front rest (Deep d) later e h = turn-ok depth t (front ++ rest) (Deep d) (Ok (tt, rest)) e (later d h)
again-by depth t front rest Over later e h = absurd h

again : (front : List Placed) (depth : ℕ) (rest : List Placed) → IsBalanced depth front → skip depth (front ++ rest) ≡ read_as tt rest
again [] depth rest h = absurd h
again (t ∷ front) depth rest h = again-by depth t front rest (depth_at depth t.is) (λ d k. again front d rest k) refl ((by-depth depth t front).0 h)

local-by : (depth : ℕ) (t : Placed) (front : List Placed) (d : ℕ) (c : Complaint) (rest : List Placed) → depth_at depth t.is ≡ Deep d → Local (skip d) front c rest → Local (skip depth) (t ∷ front) c rest
local-by depth t front d c [] e alone = turn-ok depth t front (Deep d) (Err (c, [])) e alone
local-by depth t front d c (u ∷ us) e alone = λ others. turn-ok depth t (front ++ (u ∷ others)) (Deep d) (Err (c, u ∷ others)) e (alone others)

stops-by : (depth : ℕ) (t : Placed) (ts : List Placed) (c : Complaint) (rest : List Placed) (u : Depth) → ((d : ℕ) → skip d ts ≡ stopped_at c rest → Stops (Balanced d) (skip d) ts c rest)
    → depth_at depth t.is ≡ u → skip_by (λ d. skip d ts) t ts u ≡ stopped_at c rest → Stops (Balanced depth) (skip depth) (t ∷ ts) c rest
stops-by depth t ts c rest Closed later e r = absurd cc
stops-by depth t ts c rest (Deep d) later e r =
    let k = later d r in
    let more : IsBalanced depth (t ∷ (k.front ++ k.begun.0)) = (by-depth depth t (k.front ++ k.begun.0)).1 (subst (λ (u : Depth). By (k.front ++ k.begun.0) u) (sym e) k.begun.2) in
    record { front = t ∷ k.front; whole = ap (λ (us : List Placed). t ∷ us) k.whole; begun = (k.begun.0, tt, more); alone = local-by depth t k.front d c rest e k.alone }
stops-by depth t ts c rest Over later e r =
    let p = err-parts (Unit {0}) Ended c (t ∷ ts) rest r in
    let alone : Local (skip depth) [] c (t ∷ ts) = λ others. turn-ok depth t others Over (Err (c, t ∷ others)) e (rw p.0 refl) in
    record { front = []; whole = p.1; begun = begun depth; alone = subst (λ (us : List Placed). Local (skip depth) [] c us) p.1 alone }

stops : (ts : List Placed) (depth : ℕ) (c : Complaint) (rest : List Placed) → skip depth ts ≡ stopped_at c rest → Stops (Balanced depth) (skip depth) ts c rest
unfolding skip
stops [] depth c rest r =
    let p = err-parts (Unit {0}) Ended c [] rest r in
    let alone : Local (skip depth) [] c [] = rw (← p.0) refl in
    record { front = []; whole = p.1; begun = begun depth; alone = subst (λ (us : List Placed). Local (skip depth) [] c us) p.1 alone }
stops (t ∷ ts) depth c rest r = stops-by depth t ts c rest (depth_at depth t.is) (λ d q. stops ts d c rest q) refl r

-- to skip tokens with balanced brackets is lawful, however many brackets are open
pub lawful_skip : (depth : ℕ) → Lawful (Balanced depth) (skip depth)
lawful_skip depth = record {
  takes = λ ts x rest r. takes ts depth x rest r;
  again = λ front x rest h. again front depth rest h;
  stops = λ ts c rest r. stops ts depth c rest r;
}

balanced-no-end : (ts : List Placed) (depth : ℕ) → IsBalanced depth ts → HasNoEnd ts
balanced-no-end [] depth h = tt
balanced-no-end (t ∷ ts) depth h = by depth t.is (λ d k. balanced-no-end ts d k) h
  where
    by : (depth : ℕ) (l : Lexeme) → ((d : ℕ) → IsBalanced d ts → HasNoEnd ts) → IsBalanced depth (record { at = t.at; is = l } ∷ ts) → IsMore l × HasNoEnd ts
    by depth open_bracket later h = (tt, later (suc depth) h)
    by zero close_bracket later h = (tt, subst HasNoEnd (sym h) tt)
    by depth the_end later h = absurd h
    by (suc depth) close_bracket later h = (tt, later depth h)
    by depth l later h = (tt, later depth h)

over-end : (depth : ℕ) (l : Lexeme) → depth_at depth l ≡ Over → l ≡ the_end
over-end depth the_end e = refl
over-end zero close_bracket e = absurd cc
over-end (suc depth) close_bracket e = absurd cc
over-end depth l e = absurd cc

skip-end : (ts : List Placed) (depth : ℕ) (t : Placed) (rest : List Placed) → skip depth ts ≡ stopped_at Ended (t ∷ rest) → t.is ≡ the_end
unfolding skip
skip-end [] depth t rest e = absurd (not-there (Unit {0}) t rest e)
skip-end (u ∷ us) depth t rest e = by (depth_at depth u.is) (λ d k. skip-end us d t rest k) refl e
  where
    by : (d : Depth) → ((n : ℕ) → skip n us ≡ stopped_at Ended (t ∷ rest) → t.is ≡ the_end) → depth_at depth u.is ≡ d → skip_by (λ n. skip n us) u us d ≡ stopped_at Ended (t ∷ rest) → t.is ≡ the_end
    by Closed later h e = absurd (apart (sym e))
    by (Deep n) later h e = later n e
    by Over later h e = here (Unit {0}) Ended u t us rest e (λ k. over-end depth u.is h)

ends_skip : EndsAtEnd (skip 0)
ends_skip = record { at_end = λ ts t rest e. skip-end ts 0 t rest e }

-- tokens with balanced brackets are skipped lawfully and never past the end of the text
pub live_skip : Live IsSkipped (skip 0)
live_skip = record { at_end = ends_skip; law = lawful_skip 0; some = (let b = begun 0 in (b.0, tt, b.2)); no_end = λ l z f. balanced-no-end l 0 f }
