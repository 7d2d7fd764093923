-- A text that spells no plan is told at its first line that cannot stand.
use Rattle.std.proofs.Common.{◌≡◌, ℕ, ◌-◌, ◌<◌, ◌≤◌, ◌==◌, ◌⊎◌, inl, inr, nat_lt, Bool, true, false, cond, List, [], ◌∷◌, ◌++◌, length, map, Option, Some, None, refl, sym, ap, subst, ◌∙◌, append_assoc, length-append, arith}
use Rattle.std.specs.Prelude.{Result, Ok, Err, IsTrue}
use Rattle.std.proofs.lemmas.List.{append-nil}
use Rattle.std.proofs.lemmas.List.Concat.{flat_map-append}
use Rattle.std.proofs.lemmas.Bool.{cases_Bool, ltb-true, ltb-false, ne_eqb, eq-eqb}
use Rattle.proof_tree.specs.declared.tree.Evidence.TheVariants.{Routed}
use Rattle.proof_tree.specs.declared.tree.TreeNode.{TreeNode}
use Rattle.proof_tree.specs.declared.tree.TreeNode.TheVariants.{Leaf}
use Rattle.proof_tree.specs.declared.plan.Plan.{Plan}
use Rattle.proof_tree.specs.Spellings.{numbers_in}
use Rattle.cert_format.specs.declared.fault.PlanFault.{PlanFault}
use Rattle.cert_format.specs.declared.fault.PlanFault.TheVariants as faults
use Rattle.plan_tokens.specs.Lines.{Line, whole, unfinished, line_text, text_of, lines_of}
use Rattle.cert_format.specs.declared.form.Form.{Form}
use Rattle.cert_format.specs.declared.form.Form.TheVariants.{First, Second, Third}
use Rattle.cert_format.specs.declared.numbering.Ground.{Ground}
use Rattle.cert_format.specs.Versions.{has_line}
use Rattle.cert_format.specs.Lists.{Names, AreNamed, AreNew}
use Rattle.cert_format.specs.Grammar.{price_line, end_line, design_lines, bound_lines, cut_lines}
use Rattle.cert_format.specs.Drafts.{IsGrown, left_open, Stated, AreListed, IsDraft, IsBegun, IsMisplaced, IsUnfinished, is_complete, front_of, stated_tree_lines, closing_lines, draft_lines}
use Rattle.cert_format.specs.Bodies.{fixed_of}
use Rattle.cert_format.specs.Reading.{◌>>=◌, done, past_line, one, opening, lists, tree, stated_on, before_end, last_line, ending, whole_plan, place_of, read_as, plan_of}
use Rattle.plan_tokens.proofs.Cutting.{text_of_lines}
use Rattle.cert_format.proofs.BodyLaws.{fixed_takes, fixed_again}
use Rattle.cert_format.proofs.ListLaws.{good_listed}
use Rattle.cert_format.proofs.ReadingLaws.{read_one, ok-parts, one_line, one_again, done_is, lines_of_head, lists_take, lists_again}
use Rattle.cert_format.proofs.PlanLaws.{Front, IsFront, IsTreeRead, IsListCount, count_lines, front_text, front_takes, front_same, entries_on, ground_on, listed_from, tree_takes, draft_from, before1, before2, draft_takes, draft_again, draft_short, spells_again}
use Rattle.cert_format.proofs.Tidy.{err-same, Local, Holds, Taken, Stuck, ListsStuck, bind_stops, local_before, local_after, tidy_opening, tidy_tree, lists_stop}

-- the lines before the stop begin a draft, and with the line at the stop they do not
pub record StopsWell (ls bad : List Line) : Type 0 where
  pub front : List Line
  pub parts : ls ≡ front ++ bad
  pub begun : IsBegun front
  pub refused : (l : Line) (after : List Line) → bad ≡ l ∷ after → IsBegun (front ++ l ∷ []) → ⊥

apart : {X Y : Type 0} {x : X} {y : Y} → Err y ≡ Ok x → ⊥
apart e = cc

-- what stands behind the front of a draft
abbrev tail_of : Stated → List Line
tail_of s = cond (length s.lists == s.stated) (stated_tree_lines s ++ closing_lines s) []

-- a draft states no more price lists than there are
few-by : (form : Form) (entries n : ℕ) (found : List (List ℕ)) → AreListed form entries n found → length found ≤ n
few-by First entries n found h = (let none : length found ≡ 0 = ap length h.1 in omega (arith, none))
few-by Second entries n found h = h.1
few-by Third entries n found h = h.1

draft-read : (s : Stated) → IsDraft s → (before_end (draft_lines s) ≡ Ok (s, closing_lines s)) ⊎ (before_end (draft_lines s) ≡ Err [])
draft-read s g =
    elim (cases_Bool (nat_lt (length s.lists) s.stated)) [
      | inl t ↦
          (let short : length s.lists < s.stated = ltb-true (length s.lists) s.stated t in
          let other : (length s.lists == s.stated) ≡ false = ne_eqb (length s.lists) s.stated (λ e. absurd (omega (arith, e, short))) in
          inr (ap (λ b. before_end (front_of s ++ cond b (stated_tree_lines s ++ closing_lines s) [])) other ∙ ap before_end (append-nil (front_of s)) ∙ draft_short s g short))
      | inr f ↦
          (let ge : s.stated ≤ length s.lists = ltb-false (length s.lists) s.stated f in
          let same : length s.lists ≡ s.stated = omega (arith, ge, few-by s.form (numbers_in s.plan) s.stated s.lists g.listed) in
          inl (ap (λ b. before_end (front_of s ++ cond b (stated_tree_lines s ++ closing_lines s) [])) (eq-eqb (length s.lists) s.stated same) ∙ draft_again s (closing_lines s) g same))
    ]

-- where reading stops at a line, that line begins no draft behind those before it
alone-refused : (front : List Line) (l : Line) (after : List Line) → Local before_end front (l ∷ after) → IsBegun (front ++ l ∷ []) → ⊥
alone-refused front l after alone b =
    let here : before_end (draft_lines b.states) ≡ Err (l ∷ b.more) = ap before_end (b.begins ∙ append_assoc front (l ∷ []) b.more) ∙ alone b.more in
    elim (draft-read b.states b.draft) [
      | inl r ↦ apart (sym here ∙ r)
      | inr r ↦ (let same : l ∷ b.more ≡ [] = err-same Stated (l ∷ b.more) [] (sym here ∙ r) in absurd (omega (arith, ap length same)))
    ]

-- one line is refused at itself
err-rest : (rest us : List Line) → one (fixed_of end_line) rest ≡ Err us → rest ≡ us
unfolding one
err-rest [] us e = cc
err-rest (unfinished bytes ∷ ls) us e = cc
err-rest (whole body ∷ ls) us e = by (fixed_of end_line body) e
  where
    by : (o : Option (Unit {0})) → past_line (whole body) ls o ≡ Err us → whole body ∷ ls ≡ us
    by None e = cc
    by (Some x) e = absurd cc

-- what stops at lines of which those before begin a draft
stopped : (ls front bad : List Line) → ls ≡ front ++ bad → (s : Stated) → IsDraft s → (more : List Line) → front_of s ≡ front ++ more → Local before_end front bad → StopsWell ls bad
stopped ls front bad is s g more begins alone = record {
  front = front;
  parts = is;
  begun = record { states = s; more = more ++ tail_of s; draft = g; begins = ap (λ us. us ++ tail_of s) begins ∙ append_assoc front more (tail_of s) };
  refused = λ l after e b. alone-refused front l after (subst (Local before_end front) e alone) b;
}

-- a tree of one leaf fits each ground
leaf-read : (g : Ground) → IsTreeRead g 1 (Leaf Routed ∷ [])
unfolding IsGrown left_open AreNamed
leaf-read g = record { some = omega arith; few = omega arith; grown = refl; each = ((tt, tt), tt); has_lines = (line g.form, tt); names = (by g.form, tt) }
  where
    line : (form : Form) → IsTrue (has_line form (Leaf Routed))
    line First = refl
    line Second = refl
    line Third = refl

    by : (form : Form) → Names form g.lists 0 (Leaf Routed)
    by First = tt
    by Second = tt
    by Third = tt

-- what the lines of the front are
front-lines : (front' : List Line) (f : Front) → Holds opening front' f → IsFront f × (front' ≡ front_text f [])
front-lines front' f h = (let g = front_takes (front' ++ []) f [] (h.again []) in (g.0, sym (append-nil front') ∙ g.1))

none-listed : (form : Form) (entries n : ℕ) → IsListCount form n → AreListed form entries n []
unfolding AreNew
none-listed First entries n h = (h, refl)
none-listed Second entries n h = (h, omega arith, tt)
none-listed Third entries n h = (h, omega arith, tt)

some-listed : (form : Form) (entries n : ℕ) (more : List (List ℕ)) → IsListCount form n → length more < n → AreNew entries [] more → AreListed form entries n more
some-listed First entries n more h few new = (let zero_is : n ≡ 0 = h in absurd (omega (arith, zero_is, few)))
some-listed Second entries n more h few new = (h, omega (arith, few), new)
some-listed Third entries n more h few new = (h, omega (arith, few), new)

-- lines of the front, and of price lists, are the front of a draft
behind-front : (front' : List Line) (f : Front) (found : List (List ℕ)) (t : ℕ × List TreeNode) → front' ≡ front_text f [] → IsListCount f.0.form f.4 → AreListed f.0.form (entries_on f) f.4 found → front_of (stated_on f found t) ≡ front' ++ map whole (map price_line found)
behind-front front' f found t is count listed =
    sym (ap (λ us. us ++ map whole (map price_line found)) is ∙ regroup (map whole (lines_of_head f.0)) (map whole (design_lines f.1)) (map whole (bound_lines f.0.status f.2)) (map whole (cut_lines f.0.form f.3)) (map whole (count_lines f.0.form f.4)) (map whole (map price_line found))
    ∙ front_same f found t [] count listed ∙ append-nil (front_of (stated_on f found t)))
  where
    regroup : (a b c d e f : List Line) → (a ++ (b ++ (c ++ (d ++ (e ++ []))))) ++ f ≡ a ++ (b ++ (c ++ (d ++ (e ++ (f ++ [])))))
    regroup a b c d e f = simp (append_assoc, append-nil)

-- it stops before the price lists
early : (ls bad : List Line) → Stuck opening ls bad → StopsWell ls bad
unfolding before_end
early ls bad s =
    let f : Front = s.value in
    let g = front-lines (s.front ++ s.more) f s.begun in
    let listed = none-listed f.0.form (entries_on f) f.4 g.0.count_is in
    stopped ls s.front bad s.parts (stated_on f [] (1, Leaf Routed ∷ [])) (draft_from f [] (1, Leaf Routed ∷ []) (record { front_is = g.0; listed = listed; tree_is = leaf-read (ground_on f []) })) s.more
    (behind-front (s.front ++ s.more) f [] (1, Leaf Routed ∷ []) g.1 g.0.count_is listed ∙ append-nil (s.front ++ s.more))
    (local_before opening (λ f. before1 f) s.front bad s.alone)

-- it stops among the price lists
among : (ls bad : List Line) (f : Front) (us : List Line) → Taken opening ls f us → ListsStuck (entries_on f) f.4 [] us bad → StopsWell ls bad
unfolding before_end
among ls bad f us a s =
    let g = front-lines a.front f a.holds in
    let prices : List Line = map whole (map price_line s.more) in
    let listed = some-listed f.0.form (entries_on f) f.4 s.more g.0.count_is s.few s.new in
    stopped ls (a.front ++ prices) bad (a.parts ∙ ap (λ us. a.front ++ us) s.parts ∙ sym (append_assoc a.front prices bad))
    (stated_on f s.more (1, Leaf Routed ∷ [])) (draft_from f s.more (1, Leaf Routed ∷ []) (record { front_is = g.0; listed = listed; tree_is = leaf-read (ground_on f s.more) })) []
    (behind-front a.front f s.more (1, Leaf Routed ∷ []) g.1 g.0.count_is listed ∙ sym (append-nil (a.front ++ prices)))
    (local_after opening (λ f. before1 f) a.front f prices bad a.holds (local_before (lists (entries_on f) f.4 []) (λ found. before2 f found) prices bad s.alone))

-- it stops in the tree
late : (ls bad : List Line) (f : Front) (us : List Line) (found : List (List ℕ)) (vs : List Line) → Taken opening ls f us → lists (entries_on f) f.4 [] us ≡ read_one found vs → Stuck (tree (ground_on f found)) vs bad → StopsWell ls bad
unfolding before_end
late ls bad f us found vs a e s =
    let g = front-lines a.front f a.holds in
    let l = lists_take (entries_on f) f.4 [] us found vs e in
    let prices : List Line = map whole (map price_line found) in
    let new : AreNew (entries_on f) [] found = subst (AreNew (entries_on f) []) (sym l.all) l.new in
    let long : length found ≡ f.4 = ap length l.all ∙ l.count in
    let listed = listed_from f.0.form (entries_on f) f.4 found g.0.count_is long new in
    let ground : Ground = ground_on f found in
    let x : ℕ × List TreeNode = s.value in
    let t = tree_takes ground (good_listed f.0.form (entries_on f) f.4 found listed) ((s.front ++ s.more) ++ []) x [] (s.begun.again []) in
    let whole_tree : s.front ++ s.more ≡ stated_tree_lines (stated_on f found x) = sym (append-nil (s.front ++ s.more)) ∙ t.1 ∙ append-nil (stated_tree_lines (stated_on f found x)) in
    let lists_hold : Holds (lists (entries_on f) f.4 []) prices found = record { again = λ others. ap (λ n. lists (entries_on f) n [] (prices ++ others)) (sym long) ∙ lists_again (entries_on f) [] found others new } in
    let state : Stated = stated_on f found x in
    let draft = draft_from f found x (record { front_is = g.0; listed = listed; tree_is = t.0 }) in
    let front' : List Line = a.front ++ (prices ++ s.front) in
    let alone : Local before_end front' bad =
    local_after opening (λ f. before1 f) a.front f (prices ++ s.front) bad a.holds
    (local_after (lists (entries_on f) f.4 []) (λ found. before2 f found) prices found s.front bad lists_hold (local_before (tree ground) (λ t. done (stated_on f found t)) s.front bad s.alone)) in
    let same : (length found == f.4) ≡ true = eq-eqb (length found) f.4 long in
    record {
      front = front';
      parts = a.parts ∙ ap (λ us. a.front ++ us) (l.lines ∙ ap (λ ls. map whole (map price_line ls) ++ vs) (sym l.all) ∙ ap (λ vs. prices ++ vs) s.parts) ∙ sym (regroup a.front prices s.front bad);
      begun = record {
        states = state;
        more = s.more ++ closing_lines state;
        draft = draft;
        begins = ap (λ b. front_of state ++ cond b (stated_tree_lines state ++ closing_lines state) []) same
            ∙ ap (λ us. us ++ (stated_tree_lines state ++ closing_lines state)) (behind-front a.front f found x g.1 g.0.count_is listed)
            ∙ ap (λ us. (a.front ++ prices) ++ (us ++ closing_lines state)) (sym whole_tree)
            ∙ regroup' a.front prices s.front s.more (closing_lines state);
      };
      refused = λ k after e b. alone-refused front' k after (subst (Local before_end front') e alone) b;
    }
  where
    regroup : (a b c d : List Line) → (a ++ (b ++ c)) ++ d ≡ a ++ (b ++ (c ++ d))
    regroup a b c d = simp append_assoc

    regroup' : (a b c d e : List Line) → (a ++ b) ++ ((c ++ d) ++ e) ≡ (a ++ (b ++ c)) ++ (d ++ e)
    regroup' a b c d e = simp append_assoc

-- it stops before the last line
before-last : (ls bad : List Line) → before_end ls ≡ Err bad → StopsWell ls bad
unfolding before_end
before-last ls bad e =
    elim (bind_stops opening (λ f. before1 f) ls bad e) [
      | inl h ↦ early ls bad (tidy_opening.stops ls bad h)
      | inr (f, us, h, k) ↦
          (let a = tidy_opening.takes ls f us h in
          elim (bind_stops (lists (entries_on f) f.4 []) (λ found. before2 f found) us bad k) [
            | inl m ↦ among ls bad f us a (lists_stop (entries_on f) f.4 [] us bad m)
            | inr (found, vs, m, n) ↦ elim (bind_stops (tree (ground_on f found)) (λ t. done (stated_on f found t)) vs bad n) [
              | inl o ↦ late ls bad f us found vs a m ((tidy_tree (ground_on f found)).stops vs bad o)
              | inr (t, ws, o, q) ↦ absurd (no-stop (stated_on f found t) ws bad q)
            ]
          ])
    ]
  where
    no-stop : (s : Stated) (ws bad : List Line) → done s ws ≡ Err bad → ⊥
    no-stop s ws bad q = apart (sym q ∙ done_is s ws)

module _ (s : Stated) (draft : IsDraft s) (long : length s.lists ≡ s.stated) where
  abbrev lines : List Line
  lines = front_of s ++ stated_tree_lines s

  all-lines : draft_lines s ≡ lines ++ closing_lines s
  all-lines = ap (λ b. front_of s ++ cond b (stated_tree_lines s ++ closing_lines s) []) (eq-eqb (length s.lists) s.stated long) ∙ sym (append_assoc (front_of s) (stated_tree_lines s) (closing_lines s))

  read-lines : (rest : List Line) → before_end (lines ++ rest) ≡ Ok (s, rest)
  read-lines rest = ap before_end (append_assoc (front_of s) (stated_tree_lines s) rest) ∙ draft_again s rest draft long

  -- what may follow these lines is what stands behind those of the draft
  follows : (l : Line) (b : IsBegun (lines ++ l ∷ [])) → l ∷ b.more ≡ closing_lines s
  follows l b =
      let here : before_end (draft_lines b.states) ≡ Ok (s, l ∷ b.more) = ap before_end (b.begins ∙ append_assoc lines (l ∷ []) b.more) ∙ read-lines (l ∷ b.more) in
      elim (draft-read b.states b.draft) [
        | inl r ↦ (let p = ok-parts {A = Stated} s b.states (l ∷ b.more) (closing_lines b.states) (sym here ∙ r) in p.1 ∙ ap (λ x. closing_lines x) (sym p.0))
        | inr r ↦ absurd (apart (sym r ∙ here))
      ]

  begins : IsBegun lines
  begins = record { states = s; more = closing_lines s; draft = draft; begins = all-lines }

  cut-short : (rest : List Line) → is_complete s ≡ false → (ls : List Line) → ls ≡ lines ++ rest → StopsWell ls rest
  cut-short rest short ls is = record {
    front = lines;
    parts = is;
    begun = begins;
    refused = λ l after e b. (let none : l ∷ b.more ≡ [] = follows l b ∙ ap (λ t. cond t (whole end_line ∷ []) []) short in absurd (omega (arith, ap length none)));
  }

  -- where the tree is whole, the last line is missing or another stands in its place
  no-end : (rest : List Line) → is_complete s ≡ true → one (fixed_of end_line) rest ≡ Err rest → (ls : List Line) → ls ≡ lines ++ rest → StopsWell ls rest
  no-end rest complete stops ls is = record {
    front = lines;
    parts = is;
    begun = begins;
    refused = λ l after e b. bad l after e b;
  }
    where
      bad : (l : Line) (after : List Line) → rest ≡ l ∷ after → IsBegun (lines ++ l ∷ []) → ⊥
      bad l after e b =
          let only : l ∷ b.more ≡ whole end_line ∷ [] = follows l b ∙ ap (λ t. cond t (whole end_line ∷ []) []) complete in
          let same : l ≡ whole end_line = cc in
          apart (sym stops ∙ ap (one (fixed_of end_line)) (e ∙ ap (λ l. l ∷ after) same) ∙ one_again (fixed_of end_line) end_line tt after (fixed_again end_line))

  -- something stands behind the last line
  behind-end : (l : Line) (us : List Line) → is_complete s ≡ true → (ls : List Line) → ls ≡ lines ++ (whole end_line ∷ (l ∷ us)) → StopsWell ls (l ∷ us)
  behind-end l us complete ls is = record {
    front = lines ++ whole end_line ∷ [];
    parts = is ∙ sym (append_assoc lines (whole end_line ∷ []) (l ∷ us));
    begun = record { states = s; more = []; draft = draft; begins = all-lines ∙ ap (λ t. lines ++ cond t (whole end_line ∷ []) []) complete ∙ sym (append-nil (lines ++ whole end_line ∷ [])) };
    refused = λ k after e b. bad k b;
  }
    where
      bad : (k : Line) → IsBegun ((lines ++ whole end_line ∷ []) ++ k ∷ []) → ⊥
      bad k b =
          let shorter : IsBegun (lines ++ whole end_line ∷ []) = record { states = b.states; more = k ∷ b.more; draft = b.draft; begins = b.begins ∙ append_assoc (lines ++ whole end_line ∷ []) (k ∷ []) b.more } in
          let only : whole end_line ∷ (k ∷ b.more) ≡ whole end_line ∷ [] = follows (whole end_line) shorter ∙ ap (λ t. cond t (whole end_line ∷ []) []) complete in
          absurd (omega (arith, ap length only))

-- where reading stops, the lines before begin a draft, and with the line at the stop they do not
pub whole_stops : (ls bad : List Line) → whole_plan ls ≡ Err bad → StopsWell ls bad
unfolding whole_plan
whole_stops ls bad e = by (before_end ls) refl e
  where
    last : (s : Stated) (rest : List Line) → IsDraft s → length s.lists ≡ s.stated → ls ≡ (front_of s ++ stated_tree_lines s) ++ rest → is_complete s ≡ true
        → (r : Result ((Unit {0}) × List Line) (List Line)) → one (fixed_of end_line) rest ≡ r → last_line s.plan r ≡ Err bad → StopsWell ls bad
    last s rest g long is complete (Err us) h f =
        let same : us ≡ bad = cc in
        let all : rest ≡ us = err-rest rest us h in
        subst (λ x. StopsWell ls x) (all ∙ same) (no-end s g long rest complete (h ∙ ap (λ x. Err x) (sym all)) ls is)
    last s rest g long is complete (Ok (x, [])) h f = absurd cc
    last s rest g long is complete (Ok (x, l ∷ us)) h f =
        let (body, line, read) = one_line (fixed_of end_line) rest x (l ∷ us) h in
        let same : l ∷ us ≡ bad = cc in
        subst (λ y. StopsWell ls y) same (behind-end s g long l us complete ls (is ∙ ap (λ ws. (front_of s ++ stated_tree_lines s) ++ ws) (line ∙ ap (λ b. whole b ∷ (l ∷ us)) (fixed_takes end_line body x read))))

    decide : (s : Stated) (rest : List Line) → IsDraft s → length s.lists ≡ s.stated → ls ≡ (front_of s ++ stated_tree_lines s) ++ rest → (t : Bool) → is_complete s ≡ t
        → cond t (last_line s.plan (one (fixed_of end_line) rest)) (Err rest) ≡ Err bad → StopsWell ls bad
    decide s rest g long is true h f = last s rest g long is h (one (fixed_of end_line) rest) refl f
    decide s rest g long is false h f = (let same : rest ≡ bad = cc in subst (λ x. StopsWell ls x) same (cut-short s g long rest h ls is))

    by : (o : Result (Stated × List Line) (List Line)) → before_end ls ≡ o → (o >>= ending) ≡ Err bad → StopsWell ls bad
    by (Err us) h f = (let same : us ≡ bad = cc in before-last ls bad (h ∙ ap (λ x. Err x) same))
    by (Ok d) h f = (let g = draft_takes ls d.0 d.1 h in decide d.0 d.1 g.0 g.1 (g.2 ∙ sym (append_assoc (front_of d.0) (stated_tree_lines d.0) d.1)) (is_complete d.0) refl f)

-- ---- the fault of a text

place-of-front : (text : List ℕ) (front bad : List Line) → lines_of text ≡ front ++ bad → length text - length (text_of bad) ≡ length (text_of front)
place-of-front text front bad e =
    let all : text ≡ text_of front ++ text_of bad = sym (text_of_lines text) ∙ ap text_of e ∙ flat_map-append line_text front bad in
    omega (arith, ap length all, length-append (text_of front) (text_of bad))

stopped-at : (text : List ℕ) (fault : PlanFault) → plan_of text ≡ Err fault → (bad : List Line) × (whole_plan (lines_of text) ≡ Err bad) × (place_of (length text) bad ≡ fault)
unfolding plan_of
stopped-at text fault e = by (whole_plan (lines_of text)) refl e
  where
    by : (r : Result Plan (List Line)) → whole_plan (lines_of text) ≡ r → read_as (length text) r ≡ Err fault → (bad : List Line) × (whole_plan (lines_of text) ≡ Err bad) × (place_of (length text) bad ≡ fault)
    by (Ok plan) h f = absurd cc
    by (Err bad) h f = (bad, h, cc)

-- where a line is told, it cannot stand there, and all lines before it can
pub told_line : (text : List ℕ) (at : ℕ) → plan_of text ≡ Err (faults.Line at) → IsMisplaced text at
told_line text at e = (let (bad, h, is) = stopped-at text (faults.Line at) e in by bad (whole_stops (lines_of text) bad h) is)
  where
    by : (bad : List Line) → StopsWell (lines_of text) bad → place_of (length text) bad ≡ faults.Line at → IsMisplaced text at
    by [] s is = absurd cc
    by (l ∷ after) s is =
        let place : length text - length (text_of (l ∷ after)) ≡ at = cc in
        record { before = s.front; line = l; after = after; lines = s.parts; place = sym place ∙ place-of-front text s.front (l ∷ after) s.parts; begun = s.begun; bad = s.refused l after refl }

-- where the end is told, all lines of the text can stand, and it spells no plan
pub told_end : (text : List ℕ) (at : ℕ) → plan_of text ≡ Err (faults.Ended at) → IsUnfinished text at
told_end text at e = (let (bad, h, is) = stopped-at text (faults.Ended at) e in by bad (whole_stops (lines_of text) bad h) is)
  where
    by : (bad : List Line) → StopsWell (lines_of text) bad → place_of (length text) bad ≡ faults.Ended at → IsUnfinished text at
    by [] s is = record { place = (let same : length text ≡ at = cc in sym same); begun = subst IsBegun (sym (s.parts ∙ append-nil s.front)) s.begun; unfinished_text = λ plan g. apart (sym e ∙ spells_again text plan g) }
    by (l ∷ after) s is = absurd cc
