-- Readers that stop at the first line that cannot stand where it stands.
use Rattle.std.proofs.Common.{◌≡◌, ℕ, zero, suc, ◌-◌, ◌^◌, ◌<◌, ◌≤◌, ◌⊎◌, inl, inr, false, List, [], ◌∷◌, ◌++◌, length, map, codes, Option, Some, None, refl, sym, ap, subst, ◌∙◌, append_assoc, arith}
use Rattle.std.specs.Prelude.{Result, Ok, Err}
use Rattle.proof_tree.specs.declared.limits.TheConstants.{MAX_BUDGET, MAX_RECORDS, MAX_CUTS}
use Rattle.proof_tree.specs.declared.tree.Evidence.TheVariants.{Routed}
use Rattle.proof_tree.specs.declared.tree.TreeNode.TheVariants.{Leaf}
use Rattle.proof_tree.specs.declared.plan.PlanStatus.{PlanStatus}
use Rattle.proof_tree.specs.declared.plan.PlanStatus.TheVariants.{Optimal, Infeasible, Undecided}
use Rattle.cert_format.specs.declared.form.Form.{Form}
use Rattle.cert_format.specs.declared.form.Form.TheVariants.{First, Second, Third}
use Rattle.cert_format.specs.declared.limits.TheConstants.{MAX_LISTS}
use Rattle.cert_format.specs.declared.numbering.Ground.{Ground}
use Rattle.cert_format.specs.declared.reading.Head.{Head}
use Rattle.plan_tokens.specs.Lines.{Line, whole, unfinished}
use Rattle.cert_format.specs.Lists.{resolved, AreNew}
use Rattle.cert_format.specs.Grammar.{header_line, size_line, status_line, number_line, cost_line, bound_line, path_line, modules_line, cut_line, price_line, CanTell}
use Rattle.plan_tokens.specs.Words.{behind}
use Rattle.cert_format.specs.Bodies.{fixed_of, form_of, number_row, size_row, status_of, cost_of, bound_of, path_of, modules_of, leaf_of, record_of, record_in, list_row, load_cut_row}
use Rattle.cert_format.specs.Reading.{LineReader, ◌>>=◌, bind, done, past_line, one, many, head, design_of, design, bound, load_cuts, list_count, front_with, opening, lists, record_on, records, tree, head_with, design_with, tree_with}
use Rattle.cert_format.specs.Drafts.{left_open}
use Rattle.cert_format.proofs.BodyLaws.{AreTold, sizes_at, form_again, number_row_again, size_again, status_again, cost_again, bound_again, path_again, modules_again, list_takes, list_again}
use Rattle.cert_format.proofs.CutLaws.{empty_cut, empty_again}
use Rattle.cert_format.proofs.ReadingLaws.{read_one, taken, and_then, done_parts, done_is, one_line, one_again, head1, head2, head3, head4, named_on}
use Rattle.cert_format.proofs.PlanLaws.{front1, front2, front3, front4}

-- the lines behind play no part in where the reader stops
abbrev pub Local : {A : Type 0} → LineReader A → List Line → List Line → Type 0
Local r front [] = r front ≡ Err []
Local r front (l ∷ after) = (others : List Line) → r (front ++ (l ∷ others)) ≡ Err (l ∷ others)

-- these lines are read as the value, whatever follows them
pub record Holds {A : Type 0} (r : LineReader A) (lines : List Line) (x : A) : Type 0 where
  pub again : (others : List Line) → r (lines ++ others) ≡ read_one x others

-- the lines that are taken are read so again
pub record Taken {A : Type 0} (r : LineReader A) (ls : List Line) (x : A) (rest : List Line) : Type 0 where
  pub front : List Line
  pub parts : ls ≡ front ++ rest
  pub holds : Holds r front x

-- the lines before the stop begin some value
pub record Stuck {A : Type 0} (r : LineReader A) (ls bad : List Line) : Type 0 where
  pub front : List Line
  pub parts : ls ≡ front ++ bad
  pub more : List Line
  pub value : A
  pub begun : Holds r (front ++ more) value
  pub alone : Local r front bad

-- a reader that reads its lines whatever follows, stops at the first that cannot stand, and can read some lines
pub record Tidy {A : Type 0} (r : LineReader A) : Type 0 where
  pub takes : (ls : List Line) (x : A) (rest : List Line) → r ls ≡ read_one x rest → Taken r ls x rest
  pub stops : (ls bad : List Line) → r ls ≡ Err bad → Stuck r ls bad
  pub some_lines : List Line
  pub some_value : A
  pub some : Holds r some_lines some_value

abbrev stopped_at : {A : Type 0} → List Line → Result (A × List Line) (List Line)
stopped_at ls = Err ls

-- readings that both stop and are equal stop at the same lines
pub err-same : (A : Type 0) (a b : List Line) → stopped_at {A = A} a ≡ stopped_at {A = A} b → a ≡ b
err-same A a b e = cc

-- ---- nothing, and one line

-- the reader that reads nothing is tidy
pub tidy_done : {A : Type 0} (v : A) → Tidy (done v)
tidy_done {A} v = record {
  takes = λ ls x rest e. (let p = done_parts v x ls rest e in record { front = []; parts = p.1; holds = subst (λ y. Holds (done v) [] y) p.0 (record { again = λ others. done_is v others }) });
  stops = λ ls bad e. absurd (never ls bad e);
  some_lines = [];
  some_value = v;
  some = record { again = λ others. done_is v others };
}
  where
    never : (ls bad : List Line) → done v ls ≡ stopped_at bad → ⊥
    never ls bad e = (let both : read_one v ls ≡ stopped_at bad = sym (done_is v ls) ∙ e in cc)

-- where a single line stops, every text that begins with it stops
refused-at : {A : Type 0} (f : List ℕ → Option A) (b : List ℕ) → f b ≡ None → (others : List Line) → one f (whole b ∷ others) ≡ stopped_at (whole b ∷ others)
unfolding one
refused-at f b h others = ap (past_line (whole b) others) h

one-stops : {A : Type 0} (f : List ℕ → Option A) (ls bad : List Line) → one f ls ≡ stopped_at bad → (ls ≡ bad) × Local (one f) [] bad
unfolding one
one-stops {A} f [] bad e = (let same : [] ≡ bad = err-same A [] bad e in (same, subst (Local (one f) []) same refl))
one-stops {A} f (unfinished bytes ∷ ls) bad e = (let same : unfinished bytes ∷ ls ≡ bad = err-same A (unfinished bytes ∷ ls) bad e in (same, subst (Local (one f) []) same (λ others. refl)))
one-stops {A} f (whole b ∷ ls) bad e = by (f b) refl e
  where
    by : (o : Option A) → f b ≡ o → past_line (whole b) ls o ≡ stopped_at bad → (whole b ∷ ls ≡ bad) × Local (one f) [] bad
    by (Some y) h e = absurd cc
    by None h e = (let same : whole b ∷ ls ≡ bad = err-same A (whole b ∷ ls) bad e in (same, subst (Local (one f) []) same (refused-at f b h)))

-- the reader of one line is tidy, where it can read some line
pub tidy_one : {A : Type 0} (f : List ℕ → Option A) (body : List ℕ) (v : A) → f body ≡ Some v → Tidy (one f)
tidy_one {A} f body v good = record {
  takes = λ ls x rest e. (let (b, line, read) = one_line f ls x rest e in record { front = whole b ∷ []; parts = line; holds = record { again = λ others. one_again f b x others read } });
  stops = λ ls bad e. (let p = one-stops f ls bad e in stuck ls bad p.0 p.1);
  some_lines = whole body ∷ [];
  some_value = v;
  some = record { again = λ others. one_again f body v others good };
}
  where
    stuck : (ls bad : List Line) → ls ≡ bad → Local (one f) [] bad → Stuck (one f) ls bad
    stuck ls bad e alone = record { front = []; parts = e; more = whole body ∷ []; value = v; begun = record { again = λ others. one_again f body v others good }; alone = alone }

-- ---- one after the other

stop-first : {A X : Type 0} (r : LineReader A) (s : A → LineReader X) (ls bad : List Line) → r ls ≡ stopped_at bad → bind r s ls ≡ stopped_at bad
unfolding bind
stop-first r s ls bad e = ap (λ t. t >>= λ p. s p.0 p.1) e

-- where two readers in turn stop, the first one stops, or the second one stops behind what the first one read
pub bind_stops : {A X : Type 0} (r : LineReader A) (s : A → LineReader X) (ls bad : List Line) → bind r s ls ≡ stopped_at bad → (r ls ≡ stopped_at bad) ⊎ ((x : A) × (us : List Line) × (r ls ≡ read_one x us) × (s x us ≡ stopped_at bad))
unfolding bind
bind_stops {A} {X} r s ls bad e = by (r ls) refl e
  where
    by : (o : Result (A × List Line) (List Line)) → r ls ≡ o → (o >>= λ p. s p.0 p.1) ≡ stopped_at bad → (r ls ≡ stopped_at bad) ⊎ ((x : A) × (us : List Line) × (r ls ≡ read_one x us) × (s x us ≡ stopped_at bad))
    by (Ok p) h e = inr (p.0, p.1, h, e)
    by (Err us) h e = (let same : us ≡ bad = err-same X us bad e in inl (h ∙ ap (λ us. Err us) same))

-- where the second of two readers stops whatever follows, so do both behind what the first one reads
pub local_after : {A X : Type 0} (r : LineReader A) (s : A → LineReader X) (front : List Line) (x : A) (later bad : List Line) → Holds r front x → Local (s x) later bad → Local (bind r s) (front ++ later) bad
local_after r s front x later [] h alone = and_then r s (front ++ later) x later (stopped_at []) (h.again later) alone
local_after r s front x later (l ∷ us) h alone = λ others.
    ap (bind r s) (append_assoc front later (l ∷ others)) ∙ and_then r s (front ++ (later ++ (l ∷ others))) x (later ++ (l ∷ others)) (stopped_at (l ∷ others)) (h.again (later ++ (l ∷ others))) (alone others)

-- where the first of two readers stops whatever follows, so do both
pub local_before : {A X : Type 0} (r : LineReader A) (s : A → LineReader X) (front bad : List Line) → Local r front bad → Local (bind r s) front bad
local_before r s front [] alone = stop-first r s front [] alone
local_before r s front (l ∷ us) alone = λ others. stop-first r s (front ++ (l ∷ others)) (l ∷ others) (alone others)

-- two tidy readers, one after the other, are tidy
pub tidy_bind : {A X : Type 0} (r : LineReader A) (s : A → LineReader X) → Tidy r → ((x : A) → Tidy (s x)) → Tidy (bind r s)
tidy_bind {A} {X} r s first second = record {
  takes = λ ls z rest e. takes ls z rest e;
  stops = λ ls bad e. stops ls bad e;
  some_lines = first.some_lines ++ (second first.some_value).some_lines;
  some_value = (second first.some_value).some_value;
  some = both first.some_lines first.some_value (second first.some_value).some_lines (second first.some_value).some_value first.some (second first.some_value).some;
}
  where
    both : (a : List Line) (x : A) (b : List Line) (z : X) → Holds r a x → Holds (s x) b z → Holds (bind r s) (a ++ b) z
    both a x b z h k = record { again = λ others. ap (bind r s) (append_assoc a b others) ∙ and_then r s (a ++ (b ++ others)) x (b ++ others) (read_one z others) (h.again (b ++ others)) (k.again others) }

    takes : (ls : List Line) (z : X) (rest : List Line) → bind r s ls ≡ read_one z rest → Taken (bind r s) ls z rest
    takes ls z rest e =
        let (x, us, e1, e2) = taken r s ls z rest e in
        let a = first.takes ls x us e1 in
        let b = (second x).takes us z rest e2 in
        record { front = a.front ++ b.front; parts = a.parts ∙ ap (λ us. a.front ++ us) b.parts ∙ sym (append_assoc a.front b.front rest); holds = both a.front x b.front z a.holds b.holds }

    early : (ls bad : List Line) → r ls ≡ stopped_at bad → Stuck (bind r s) ls bad
    early ls bad e =
        let a = first.stops ls bad e in
        let g = second a.value in
        record {
          front = a.front;
          parts = a.parts;
          more = a.more ++ g.some_lines;
          value = g.some_value;
          begun = subst (λ us. Holds (bind r s) us g.some_value) (append_assoc a.front a.more g.some_lines) (both (a.front ++ a.more) a.value g.some_lines g.some_value a.begun g.some);
          alone = local_before r s a.front bad a.alone;
        }

    late : (ls bad : List Line) (x : A) (us : List Line) → r ls ≡ read_one x us → s x us ≡ stopped_at bad → Stuck (bind r s) ls bad
    late ls bad x us e f =
        let a = first.takes ls x us e in
        let b = (second x).stops us bad f in
        record {
          front = a.front ++ b.front;
          parts = a.parts ∙ ap (λ us. a.front ++ us) b.parts ∙ sym (append_assoc a.front b.front bad);
          more = b.more;
          value = b.value;
          begun = subst (λ us. Holds (bind r s) us b.value) (sym (append_assoc a.front b.front b.more)) (both a.front x (b.front ++ b.more) b.value a.holds b.begun);
          alone = local_after r s a.front x b.front bad a.holds b.alone;
        }

    stops : (ls bad : List Line) → bind r s ls ≡ stopped_at bad → Stuck (bind r s) ls bad
    stops ls bad e = elim (bind_stops r s ls bad e) [
      | inl h ↦ early ls bad h
      | inr (x, us, h, f) ↦ late ls bad x us h f
    ]

-- ---- the readers of a plan

-- the reader of so many lines of a kind is tidy, where some line is of this kind
pub tidy_many : {A : Type 0} (f : List ℕ → Option A) (body : List ℕ) (v : A) → f body ≡ Some v → (n : ℕ) → Tidy (many n f)
unfolding many
tidy_many f body v good zero = tidy_done []
tidy_many f body v good (suc n) = tidy_bind (one f) (λ x. bind (many n f) (λ xs. done (x ∷ xs))) (tidy_one f body v good)
    (λ x. tidy_bind (many n f) (λ xs. done (x ∷ xs)) (tidy_many f body v good n) (λ xs. tidy_done (x ∷ xs)))

routed-by : (form : Form) (known : List (List ℕ)) (named nodes entries : ℕ) → record_in form known named nodes entries (codes "ROUTED") ≡ Some (Leaf Routed)
unfolding record_in record_of leaf_of fixed_of behind resolved
routed-by First known named nodes entries = refl
routed-by Second known named nodes entries = refl
routed-by Third known named nodes entries = refl

routed : (g : Ground) (named : ℕ) → record_on g named (codes "ROUTED") ≡ Some (Leaf Routed)
routed g named = routed-by g.form g.lists named g.nodes g.entries

-- the reader of records is tidy
pub tidy_records : (g : Ground) (named left trees : ℕ) → Tidy (records g named left trees)
unfolding records
tidy_records g named zero trees = tidy_done []
tidy_records g named (suc left) zero = tidy_done []
tidy_records g named (suc left) (suc others) =
    tidy_bind (one (record_on g named)) (λ node. bind (records g (named_on g named node) left (left_open node others)) λ more. done (node ∷ more)) (tidy_one (record_on g named) (codes "ROUTED") (Leaf Routed) (routed g named))
    (λ node. tidy_bind (records g (named_on g named node) left (left_open node others)) (λ more. done (node ∷ more)) (tidy_records g (named_on g named node) left (left_open node others)) (λ more. tidy_done (node ∷ more)))

tidy_number : (word : List ℕ) (low high : ℕ) → low ≤ high → high < 2 ^ 128 → Tidy (one (number_row word low high))
tidy_number word low high le fits = tidy_one (number_row word low high) (number_line word low) low (number_row_again word low high low fits (omega arith) le)

no-nodes : (form : Form) → AreTold form (sizes_at 0 0 0 false)
no-nodes form = record { sizes = record { nodes = omega arith; links = omega arith; demands = omega arith }; told = by form }
  where
    by : (form : Form) → CanTell form false
    by First = refl
    by Second = tt
    by Third = tt

-- the reader of the first five lines is tidy
pub tidy_head : Tidy head
unfolding head
tidy_head =
    tidy_bind (one form_of) (λ form. head1 form) (tidy_one form_of (header_line First) First (form_again First)) λ form.
    tidy_bind (one (size_row form)) (λ sizes. head2 form sizes) (tidy_one (size_row form) (size_line form 0 0 0 false) (sizes_at 0 0 0 false) (size_again form 0 0 0 false (no-nodes form))) λ sizes.
    tidy_bind (one status_of) (λ status. head3 form sizes status) (tidy_one status_of (status_line Optimal) Optimal (status_again Optimal)) λ status.
    tidy_bind (one (number_row (codes "BUDGET") 1 MAX_BUDGET)) (λ budget. head4 form sizes status budget) (tidy_number (codes "BUDGET") 1 MAX_BUDGET (omega arith) (omega arith)) λ budget.
    tidy_bind (one (number_row (codes "EXAMINED") 0 (2 ^ 32 - 1))) (λ examined. done (head_with form sizes status budget examined)) (tidy_number (codes "EXAMINED") 0 (2 ^ 32 - 1) (omega arith) (omega arith)) λ examined.
    tidy_done (head_with form sizes status budget examined)

tidy_cost : (s : PlanStatus) → Tidy (one (cost_of s))
tidy_cost Optimal = tidy_one (cost_of Optimal) (cost_line (Some 0)) (Some 0) (cost_again Optimal (Some 0) (record { allowed = refl; small = omega arith }))
tidy_cost Infeasible = tidy_one (cost_of Infeasible) (cost_line None) None (cost_again Infeasible None (record { allowed = refl; small = tt }))
tidy_cost Undecided = tidy_one (cost_of Undecided) (cost_line None) None (cost_again Undecided None (record { allowed = refl; small = tt }))

tidy_design_of : (demands links : ℕ) (cost : Option ℕ) → Tidy (design_of demands links cost)
unfolding design_of
tidy_design_of demands links None = tidy_done None
tidy_design_of demands links (Some cost) =
    tidy_bind (many demands path_of) (λ paths. bind (many links modules_of) λ counts. done (design_with cost paths counts)) (tidy_many path_of (path_line []) [] (path_again [] (omega arith) tt) demands) λ paths.
    tidy_bind (many links modules_of) (λ counts. done (design_with cost paths counts)) (tidy_many modules_of (modules_line []) [] (modules_again [] (omega arith) tt) links) λ counts.
    tidy_done (design_with cost paths counts)

tidy_design : (h : Head) → Tidy (design h)
unfolding design
tidy_design h = tidy_bind (one (cost_of h.status)) (design_of h.sizes.demands h.sizes.links) (tidy_cost h.status) (tidy_design_of h.sizes.demands h.sizes.links)

tidy_bound : (s : PlanStatus) → Tidy (bound s)
unfolding bound
tidy_bound Optimal = tidy_done None
tidy_bound Infeasible = tidy_done None
tidy_bound Undecided = tidy_one bound_of (bound_line None) None (bound_again None tt)

-- the reader of a tree is tidy
pub tidy_tree : (g : Ground) → Tidy (tree g)
unfolding tree
tidy_tree g =
    tidy_bind (one (number_row (codes "TREE") 1 MAX_RECORDS)) (λ count. bind (records g 0 count 1) λ nodes. done (tree_with count nodes)) (tidy_number (codes "TREE") 1 MAX_RECORDS (omega arith) (omega arith)) λ count.
    tidy_bind (records g 0 count 1) (λ nodes. done (tree_with count nodes)) (tidy_records g 0 count 1) λ nodes.
    tidy_done (tree_with count nodes)

tidy_count : (form : Form) → Tidy (list_count form)
unfolding list_count
tidy_count First = tidy_done 0
tidy_count Second = tidy_number (codes "PRICES") 0 MAX_LISTS (omega arith) (omega arith)
tidy_count Third = tidy_number (codes "PRICES") 0 MAX_LISTS (omega arith) (omega arith)

tidy_cuts : (form : Form) (nodes : ℕ) → Tidy (load_cuts form nodes)
unfolding load_cuts
tidy_cuts First nodes = tidy_done []
tidy_cuts Second nodes = tidy_done []
tidy_cuts Third nodes =
    tidy_bind (one (number_row (codes "CUTS") 0 MAX_CUTS)) (λ count. many count (load_cut_row nodes)) (tidy_number (codes "CUTS") 0 MAX_CUTS (omega arith) (omega arith)) λ count.
    tidy_many (load_cut_row nodes) (cut_line (empty_cut nodes)) (empty_cut nodes) (empty_again nodes) count

-- the reader of all lines before the price lists is tidy
pub tidy_opening : Tidy opening
unfolding opening
tidy_opening =
    tidy_bind head (λ h. front1 h) tidy_head λ h.
    tidy_bind (design h) (λ d. front2 h d) (tidy_design h) λ d.
    tidy_bind (bound h.status) (λ b. front3 h d b) (tidy_bound h.status) λ b.
    tidy_bind (load_cuts h.form h.sizes.nodes) (λ cuts. front4 h d b cuts) (tidy_cuts h.form h.sizes.nodes) λ cuts.
    tidy_bind (list_count h.form) (λ stated. done (front_with h d b cuts stated)) (tidy_count h.form) λ stated.
    tidy_done (front_with h d b cuts stated)

-- ---- the price lists

-- the lists before the stop can stand, and the line at the stop cannot
pub record ListsStuck (entries n : ℕ) (before : List (List ℕ)) (ls bad : List Line) : Type 0 where
  pub more : List (List ℕ)
  pub parts : ls ≡ map whole (map price_line more) ++ bad
  pub new : AreNew entries before more
  pub few : length more < n
  pub alone : Local (lists entries n before) (map whole (map price_line more)) bad

stuck-first : (entries n : ℕ) (before : List (List ℕ)) (ls bad : List Line) → ls ≡ bad → Local (one (list_row entries before)) [] bad → ListsStuck entries (suc n) before ls bad
unfolding lists AreNew
stuck-first entries n before ls bad is alone = record { more = []; parts = is; new = tt; few = omega arith; alone = local_before (one (list_row entries before)) (λ list. lists entries n (before ++ list ∷ [])) [] bad alone }

stuck-later : (entries n : ℕ) (before : List (List ℕ)) (ls bad : List Line) (list : List ℕ) (us : List Line) → one (list_row entries before) ls ≡ read_one list us → ListsStuck entries n (before ++ list ∷ []) us bad → ListsStuck entries (suc n) before ls bad
unfolding lists AreNew
stuck-later entries n before ls bad list us h s =
    let (body, line, read) = one_line (list_row entries before) ls list us h in
    let here = list_takes entries before body list read in
    let holds : Holds (one (list_row entries before)) (whole (price_line list) ∷ []) list = record { again = λ others. one_again (list_row entries before) (price_line list) list others (list_again entries before list here.0) } in
    record {
      more = list ∷ s.more;
      parts = line ∙ ap (λ bs. whole bs ∷ us) here.1 ∙ ap (λ us. whole (price_line list) ∷ us) s.parts;
      new = (here.0.count, here.0.small, here.0.fresh, s.new);
      few = omega (arith, s.few);
      alone = local_after (one (list_row entries before)) (λ list. lists entries n (before ++ list ∷ [])) (whole (price_line list) ∷ []) list (map whole (map price_line s.more)) bad holds s.alone;
    }

-- where the reader of price lists stops, the lists before can stand, and the line at the stop cannot
pub lists_stop : (entries n : ℕ) (before : List (List ℕ)) (ls bad : List Line) → lists entries n before ls ≡ Err bad → ListsStuck entries n before ls bad
unfolding lists
lists_stop entries zero before ls bad e = absurd (let both : read_one before ls ≡ Err bad = sym (done_is before ls) ∙ e in cc)
lists_stop entries (suc n) before ls bad e =
    elim (bind_stops (one (list_row entries before)) (λ list. lists entries n (before ++ list ∷ [])) ls bad e) [
      | inl h ↦ (let p = one-stops (list_row entries before) ls bad h in stuck-first entries n before ls bad p.0 p.1)
      | inr (list, us, h, f) ↦ stuck-later entries n before ls bad list us h (lists_stop entries n (before ++ list ∷ []) us bad f)
    ]
