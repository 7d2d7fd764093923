-- What one line says of a reader, and what stops a reader stops the whole.
use Rattle.std.proofs.Common.{◌≡◌, ℕ, zero, suc, ◌-◌, ◌<◌, ◌≤◌, ◌⊎◌, ◌==◌, inl, inr, Bool, true, false, List, [], ◌∷◌, ◌++◌, length, Option, Some, None, refl, sym, ap, subst, ◌∙◌, append_assoc, arith, if◌then◌else◌}
use Rattle.std.specs.Prelude.{Result, Ok, Err}
use Rattle.std.proofs.lemmas.List.{append-nil}
use Rattle.proof_tree.specs.declared.cuts.Cut.{Cut as LoadCut}
use Rattle.proof_tree.specs.declared.tree.TreeNode.{TreeNode}
use Rattle.plan_tokens.specs.declared.stop.Stop.{Stop}
use Rattle.plan_tokens.specs.declared.stop.Stop.TheVariants.{Memory, At}
use Rattle.cert_format.specs.declared.fault.PlanFault.TheVariants as faults
use Rattle.plan_tokens.specs.Lines.{Line, whole, unfinished, onto, text_of, lines_of}
use Rattle.plan_tokens.proofs.Cutting.{text_of_lines}
use Rattle.std.proofs.lemmas.Bool.{cases_Bool}
use Rattle.proof_tree.specs.declared.plan.Plan.{Plan}
use Rattle.cert_format.specs.Grammar.{cut_line, end_line}
use Rattle.cert_format.specs.declared.numbering.Ground.{Ground}
use Rattle.cert_format.specs.Lists.{is_among, named_behind}
use Rattle.cert_format.specs.Bodies.{only_if, fixed_of, number_row, list_row, load_cut_row}
use Rattle.cert_format.proofs.BodyLaws.{number_row_takes, list_takes}
use Rattle.cert_format.proofs.ReadingLaws.{one_line, many_takes}
use Rattle.cert_format.proofs.CutLaws.{GoodCut, cut_takes}
use Rattle.cert_format.specs.Reading.{◌>>=◌, bind, done, past_line, one, many, lists, record_on, records, place_of, nothing_behind, last_line, ending}
use Rattle.cert_format.specs.Drafts.{left_open, Stated, is_complete}
use Rattle.plan_tokens.specs.Cuts.{HasNoLine, IsNoLine}
use Rattle.cert_format.specs.Answers.{StopsAt, Stops, Reads}

-- ---- one line

-- a reader of one line gives what a whole first line is read as, and the lines behind it
pub one_read : {A : Type 0} (f : List ℕ → Option A) (ls : List Line) (body : List ℕ) (rest : List Line) (x : A) → ls ≡ whole body ∷ rest → f body ≡ Some x → one f ls ≡ Ok (x, rest)
unfolding one
one_read f ls body rest x is e = ap (one f) is ∙ ap (past_line (whole body) rest) e

-- a reader of one line stops at a whole first line that it cannot read
pub one_refused : {A : Type 0} (f : List ℕ → Option A) (ls : List Line) (body : List ℕ) (rest : List Line) → ls ≡ whole body ∷ rest → f body ≡ None → one f ls ≡ Err ls
unfolding one
one_refused f ls body rest is e = ap (one f) is ∙ ap (past_line (whole body) rest) e ∙ ap (λ us. Err us) (sym is)

one-none : {A : Type 0} (f : List ℕ → Option A) (ls : List Line) → HasNoLine ls → one f ls ≡ Err ls
unfolding one
one-none f [] h = refl
one-none f (whole body ∷ ls) h = absurd h
one-none f (unfinished bytes ∷ ls) h = refl

-- where no whole line stands first, a reader of one line stops at the first byte
pub no_first_line : {A : Type 0} (f : List ℕ → Option A) (text : List ℕ) (e : Stop) → IsNoLine text e → Stops e (one f (lines_of text))
no_first_line f text e n = rw n.is (record { bytes = text; stops = one-none f (lines_of text) n.none; count = n.count })

-- where memory ran out, nothing has to hold of where reading stops
pub stops_memory : {A : Type 0} (read : Result A (List Line)) (e : Stop) → e ≡ Memory → Stops e read
stops_memory read e is = rw is tt

-- ---- one after the other

-- where reading stops, what would go on from there stops at the same place
pub through : {A B : Type 0} (e : Stop) (read : Result A (List Line)) (k : A → Result B (List Line)) → Stops e read → Stops e (read >>= k)
through Memory read k s = tt
through (At left) read k s = record { bytes = s.bytes; stops = ap (λ r. r >>= k) s.stops; count = s.count }

-- where one reading stops, an equal one stops too
pub stops_same : {A : Type 0} (e : Stop) (read other : Result A (List Line)) → read ≡ other → Stops e read → Stops e other
stops_same e read other is s = subst (Stops e) is s

-- ---- many lines of a kind

-- what was read, with items in front
abbrev pub in_front_of : {A : Type 0} → List A → List A × List Line → Result (List A × List Line) (List Line)
in_front_of front p = Ok (front ++ p.0, p.1)

-- what was read, with an item more
abbrev pub consed : {A : Type 0} → A → List A × List Line → Result (List A × List Line) (List Line)
consed x p = Ok (x ∷ p.0, p.1)

-- items in front of those that are read
abbrev pub in_front : {A : Type 0} → List A → Result (List A × List Line) (List Line) → Result (List A × List Line) (List Line)
in_front front read = read >>= in_front_of front

abbrev ok-with : {A : Type 0} → List Line → List A → Result (List A × List Line) (List Line)
ok-with rest items = Ok (items, rest)

-- an item put in front of those that are read may as well be the last of those in front of them
pub front_more : {A : Type 0} (front : List A) (x : A) (read : Result (List A × List Line) (List Line)) → in_front front (read >>= consed x) ≡ in_front (front ++ x ∷ []) read
front_more front x (Err ls) = refl
front_more {A} front x (Ok p) = ap (ok-with p.1) (sym (append_assoc front (x ∷ []) p.0))

-- with no items in front, what is read stays as it is
pub front_none : {A : Type 0} (read : Result (List A × List Line) (List Line)) → in_front [] read ≡ read
front_none (Ok p) = refl
front_none (Err ls) = refl

-- where a line is read and some are left to read, its item joins those in front, and one line fewer is left
pub many_more : {A : Type 0} (f : List ℕ → Option A) (left : ℕ) (front : List A) (ls : List Line) (x : A) (rest : List Line) → 0 < left → one f ls ≡ Ok (x, rest) → in_front front (many left f ls) ≡ in_front (front ++ x ∷ []) (many (left - 1) f rest)
unfolding many bind done
many_more f zero front ls x rest some e = absurd (omega arith)
many_more f (suc n) front ls x rest some e =
    let less : suc n - 1 ≡ n = omega arith in
    ap (λ r. in_front front (r >>= λ p. bind (many n f) (λ xs. done (p.0 ∷ xs)) p.1)) e ∙ front_more front x (many n f rest) ∙ ap (λ k. in_front (front ++ x ∷ []) (many k f rest)) (sym less)

-- where lines of a kind are left to read, what stops the next one stops them all
pub many_stop : {A : Type 0} (f : List ℕ → Option A) (left : ℕ) (front : List A) (ls : List Line) (e : Stop) → 0 < left → Stops e (one f ls) → Stops e (in_front front (many left f ls))
unfolding many bind done
many_stop f zero front ls e some s = absurd (omega arith)
many_stop f (suc n) front ls e some s =
    through e (one f ls >>= λ p. bind (many n f) (λ xs. done (p.0 ∷ xs)) p.1) (in_front_of front) (through e (one f ls) (λ p. bind (many n f) (λ xs. done (p.0 ∷ xs)) p.1) s)

-- where no line of a kind is left to read, the items in front are all
pub many_end : {A : Type 0} (f : List ℕ → Option A) (left : ℕ) (front : List A) (ls : List Line) → left ≡ 0 → in_front front (many left f ls) ≡ Ok (front, ls)
unfolding many bind done
many_end f zero front ls none = ap (ok-with ls) (append-nil front)
many_end f (suc n) front ls none = absurd (omega arith)

-- ---- price lists

-- a price list that is read joins those before it, and one fewer is left to read
pub lists_more : (entries left : ℕ) (before : List (List ℕ)) (ls : List Line) (list : List ℕ) (rest : List Line) → 0 < left → one (list_row entries before) ls ≡ Ok (list, rest) → lists entries left before ls ≡ lists entries (left - 1) (before ++ list ∷ []) rest
unfolding lists bind
lists_more entries zero before ls list rest some e = absurd (omega arith)
lists_more entries (suc n) before ls list rest some e =
    let less : suc n - 1 ≡ n = omega arith in
    ap (λ r. r >>= λ p. lists entries n (before ++ p.0 ∷ []) p.1) e ∙ ap (λ k. lists entries k (before ++ list ∷ []) rest) (sym less)

-- where price lists are left to read, what stops the next one stops them all
pub lists_stop : (entries left : ℕ) (before : List (List ℕ)) (ls : List Line) (e : Stop) → 0 < left → Stops e (one (list_row entries before) ls) → Stops e (lists entries left before ls)
unfolding lists bind
lists_stop entries zero before ls e some s = absurd (omega arith)
lists_stop entries (suc n) before ls e some s = through e (one (list_row entries before) ls) (λ p. lists entries n (before ++ p.0 ∷ []) p.1) s

-- where no price list is left to read, those that are there are all
pub lists_end : (entries left : ℕ) (before : List (List ℕ)) (ls : List Line) → left ≡ 0 → lists entries left before ls ≡ Ok (before, ls)
unfolding lists done
lists_end entries zero before ls none = refl
lists_end entries (suc n) before ls none = absurd (omega arith)

-- a price list that is read is none of those before it
pub list_fresh : (entries : ℕ) (before : List (List ℕ)) (ls : List Line) (list : List ℕ) (rest : List Line) → one (list_row entries before) ls ≡ Ok (list, rest) → is_among before list ≡ false
list_fresh entries before ls list rest e =
    let (body, is, read) = one_line (list_row entries before) ls list rest e in
    (list_takes entries before body list read).0.fresh

-- ---- the records of a tree

module _ (g : Ground) where
  abbrev later : ℕ → TreeNode → ℕ
  later named node = named_behind g.form g.lists named node

  -- a record that is read joins those in front, and the further records are read behind it
  pub records_more : (named left trees : ℕ) (front : List TreeNode) (ls : List Line) (node : TreeNode) (rest : List Line) → 0 < left → 0 < trees → one (record_on g named) ls ≡ Ok (node, rest)
      → in_front front (records g named left trees ls) ≡ in_front (front ++ node ∷ []) (records g (later named node) (left - 1) (left_open node (trees - 1)) rest)
  unfolding records bind done
  records_more named zero trees front ls node rest some grows e = absurd (omega arith)
  records_more named (suc n) zero front ls node rest some grows e = absurd (omega arith)
  records_more named (suc n) (suc others) front ls node rest some grows e =
      let less : suc n - 1 ≡ n = omega arith in
      let fewer : suc others - 1 ≡ others = omega arith in
      ap (λ r. in_front front (r >>= λ p. bind (records g (later named p.0) n (left_open p.0 others)) (λ more. done (p.0 ∷ more)) p.1)) e
      ∙ front_more front node (records g (later named node) n (left_open node others) rest)
      ∙ ap (λ k. in_front (front ++ node ∷ []) (records g (later named node) k (left_open node others) rest)) (sym less)
      ∙ ap (λ k. in_front (front ++ node ∷ []) (records g (later named node) (suc n - 1) (left_open node k) rest)) (sym fewer)

  -- where records are left to read and a tree is to come, what stops the next record stops them all
  pub records_stop : (named left trees : ℕ) (front : List TreeNode) (ls : List Line) (e : Stop) → 0 < left → 0 < trees → Stops e (one (record_on g named) ls) → Stops e (in_front front (records g named left trees ls))
  unfolding records bind done
  records_stop named zero trees front ls e some grows s = absurd (omega arith)
  records_stop named (suc n) zero front ls e some grows s = absurd (omega arith)
  records_stop named (suc n) (suc others) front ls e some grows s =
      through e (one (record_on g named) ls >>= λ p. bind (records g (later named p.0) n (left_open p.0 others)) (λ more. done (p.0 ∷ more)) p.1) (in_front_of front)
      (through e (one (record_on g named) ls) (λ p. bind (records g (later named p.0) n (left_open p.0 others)) (λ more. done (p.0 ∷ more)) p.1) s)

  -- where no record is left to read or no tree is to come, the records in front are all
  pub records_end : (named left trees : ℕ) (front : List TreeNode) (ls : List Line) → (left ≡ 0) ⊎ (trees ≡ 0) → in_front front (records g named left trees ls) ≡ Ok (front, ls)
  unfolding records bind done
  records_end named zero trees front ls none = ap (ok-with ls) (append-nil front)
  records_end named (suc n) zero front ls none = ap (ok-with ls) (append-nil front)
  records_end named (suc n) (suc others) front ls none = absurd (no none)
    where
      no : (suc n ≡ 0) ⊎ (suc others ≡ 0) → ⊥
      no (inl e) = omega arith
      no (inr e) = omega arith

-- ---- where reading stops

some-line : (b : ℕ) (bytes : List ℕ) → (l : Line) × (ls : List Line) × (lines_of (b ∷ bytes) ≡ l ∷ ls)
unfolding lines_of
some-line b bytes =
    elim (cases_Bool (b == 10)) [
      | inl t ↦ rw t (whole [], lines_of bytes, refl)
      | inr f ↦ rw f (by (lines_of bytes))
    ]
  where
    by : (ls : List Line) → (l : Line) × (us : List Line) × (onto b ls ≡ l ∷ us)
    by [] = (unfinished (b ∷ []), [], refl)
    by (whole body ∷ ls) = (whole (b ∷ body), ls, refl)
    by (unfinished more ∷ ls) = (unfinished (b ∷ more), ls, refl)

-- where no bytes are left, reading stops at the end of the text
pub ended_at : (whole_length : ℕ) (bytes : List ℕ) → 0 ≡ length bytes → faults.Ended whole_length ≡ place_of whole_length (lines_of bytes)
unfolding lines_of
ended_at whole_length [] e = refl
ended_at whole_length (b ∷ bytes) e = absurd (omega arith)

-- where bytes are left, reading stops at the line that begins so many bytes before the end of the text
pub line_at : (whole_length left : ℕ) (bytes : List ℕ) → 0 < left → left ≡ length bytes → faults.Line (whole_length - left) ≡ place_of whole_length (lines_of bytes)
line_at whole_length left [] some e = absurd (omega arith)
line_at whole_length left (b ∷ bytes) some e =
    let (l, ls, is) = some-line b bytes in
    let all : length (text_of (l ∷ ls)) ≡ left = ap (λ us. length (text_of us)) (sym is) ∙ ap length (text_of_lines (b ∷ bytes)) ∙ sym e in
    ap (λ n. faults.Line (whole_length - n)) (sym all) ∙ ap (place_of whole_length) (sym is)

-- ---- the last line

nothing-there : (plan : Plan) (rest : List ℕ) → 0 ≡ length rest → nothing_behind plan (lines_of rest) ≡ Ok plan
unfolding lines_of
nothing-there plan [] e = refl
nothing-there plan (b ∷ rest) e = absurd (omega arith)

something-there : (plan : Plan) (rest : List ℕ) → 0 < length rest → nothing_behind plan (lines_of rest) ≡ Err (lines_of rest)
something-there plan [] some = absurd (omega arith)
something-there plan (b ∷ rest) some =
    let (l, ls, is) = some-line b rest in
    ap (nothing_behind plan) is ∙ ap (λ us. Err us) (sym is)

-- where the last line is read and no bytes are behind it, the plan is what is read
pub end_read : (plan : Plan) (ls : List Line) (rest : List ℕ) (u : Unit {0}) → one (fixed_of end_line) ls ≡ Ok (u, lines_of rest) → 0 ≡ length rest → last_line plan (one (fixed_of end_line) ls) ≡ Ok plan
end_read plan ls rest u e none = ap (last_line plan) e ∙ nothing-there plan rest none

-- where bytes are left behind the last line, reading stops at them
pub end_refused : (plan : Plan) (ls : List Line) (rest : List ℕ) (u : Unit {0}) → one (fixed_of end_line) ls ≡ Ok (u, lines_of rest) → 0 < length rest → StopsAt (length rest) (last_line plan (one (fixed_of end_line) ls))
end_refused plan ls rest u e some = record { bytes = rest; stops = ap (last_line plan) e ∙ something-there plan rest some; count = refl }

-- what stops the reading of the last line stops the reading of the plan
pub end_stop : (plan : Plan) (e : Stop) (read : Result ((Unit {0}) × List Line) (List Line)) → Stops e read → Stops e (last_line plan read)
end_stop plan Memory read s = tt
end_stop plan (At left) read s = record { bytes = s.bytes; stops = ap (last_line plan) s.stops; count = s.count }

-- where a complete plan is stated, the end of the text is read as its last line
pub ending_whole : (s : Stated) (plan : Plan) (ls : List Line) → Some plan ≡ only_if (is_complete s) s.plan → last_line plan (one (fixed_of end_line) ls) ≡ ending (s, ls)
ending_whole s plan ls found = by (is_complete s) refl found
  where
    by : (b : Bool) → is_complete s ≡ b → Some plan ≡ only_if b s.plan → last_line plan (one (fixed_of end_line) ls) ≡ ending (s, ls)
    by true t is = (let same : plan ≡ s.plan = cc in ap (λ p. last_line p (one (fixed_of end_line) ls)) same ∙ ap (λ b. if b then last_line s.plan (one (fixed_of end_line) ls) else Err ls) (sym t))
    by false t is = absurd cc

-- where what is stated is not complete, reading stops at the lines that follow
pub ending_none : (s : Stated) (ls : List Line) → None ≡ only_if (is_complete s) s.plan → ending (s, ls) ≡ Err ls
ending_none s ls found = by (is_complete s) refl found
  where
    by : (b : Bool) → is_complete s ≡ b → None ≡ only_if b s.plan → ending (s, ls) ≡ Err ls
    by true t is = absurd cc
    by false t is = ap (λ b. if b then last_line s.plan (one (fixed_of end_line) ls) else Err ls) t

-- where what is stated is not complete, reading stops at the bytes that follow
pub ending_stop : (s : Stated) (text : List ℕ) → None ≡ only_if (is_complete s) s.plan → StopsAt (length text) (ending (s, lines_of text))
ending_stop s text found = record { bytes = text; stops = ending_none s (lines_of text) found; count = refl }

-- an answer that is right of one reading is right of an equal one
pub reads_same : (result : Result Plan Stop) (read other : Result Plan (List Line)) → read ≡ other → Reads (λ plan. plan) result read → Reads (λ plan. plan) result other
reads_same result read other is r = subst (Reads (λ plan. plan) result) is r

-- ---- numbers within their limits

-- a number that is read behind a word is no greater than its upper bound
pub row_most : (word : List ℕ) (low high : ℕ) (ls : List Line) (n : ℕ) (rest : List Line) → one (number_row word low high) ls ≡ Ok (n, rest) → n ≤ high
row_most word low high ls n rest e =
    let (body, is, read) = one_line (number_row word low high) ls n rest e in
    (number_row_takes word low high body n read).1

-- as many cuts are read as are asked for
pub cuts_counted : (nodes count : ℕ) (ls : List Line) (cuts : List LoadCut) (rest : List Line) → many count (load_cut_row nodes) ls ≡ Ok (cuts, rest) → length cuts ≡ count
cuts_counted nodes count ls cuts rest e = (many_takes (load_cut_row nodes) (GoodCut nodes) cut_line (cut_takes nodes) count ls cuts rest e).0
