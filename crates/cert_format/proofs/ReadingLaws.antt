-- A text is read as a plan exactly where it spells the plan.
use Rattle.std.proofs.Common.{◌≡◌, ℕ, zero, suc, ◌-◌, ◌^◌, ◌<◌, ◌≤◌, true, true≢false, List, [], ◌∷◌, ◌++◌, length, map, codes, Option, Some, None, refl, sym, ap, subst, ◌∙◌, append_assoc, arith}
use Rattle.std.specs.Prelude.{Result, Ok, Err, IfSome}
use Rattle.std.specs.List.{AllByRecursion}
use Rattle.std.proofs.lemmas.List.{map-append, append-nil}
use Rattle.std.proofs.lemmas.List.Elements.{All-from_recursion, recursion_from_All}
use Rattle.plan_base.specs.declared.ids.ArcId.{ArcId}
use Rattle.plan_base.specs.declared.path.Design.{Design}
use Rattle.plan_base.specs.declared.limits.TheConstants.{MAX_NODES, MAX_MODULES}
use Rattle.proof_tree.specs.declared.limits.TheConstants.{MAX_BUDGET, MAX_PATH_ARCS}
use Rattle.proof_tree.specs.declared.tree.TreeNode.{TreeNode}
use Rattle.proof_tree.specs.declared.tree.TreeNode.TheVariants.{Split, Loads, Leaf}
use Rattle.proof_tree.specs.declared.plan.PlanStatus.{PlanStatus}
use Rattle.proof_tree.specs.Shapes.{are_trees}
use Rattle.proof_tree.specs.Spellings.{FitsRecord, FitsDesign}
use Rattle.cert_format.specs.declared.bodies.Sizes.{Sizes}
use Rattle.cert_format.specs.declared.form.Form.{Form}
use Rattle.cert_format.specs.declared.numbering.Ground.{Ground}
use Rattle.cert_format.specs.declared.reading.Head.{Head}
use Rattle.plan_tokens.specs.Lines.{Line, whole, unfinished}
use Rattle.cert_format.specs.Versions.{HasLines}
use Rattle.cert_format.specs.Lists.{shown, named_behind, AreNamed, AreNew}
use Rattle.cert_format.specs.Grammar.{header_line, size_line, status_line, number_line, path_line, modules_line, price_line, record_line, AreArcs, HasRecordFields, HasDesignFields}
use Rattle.cert_format.specs.Drafts.{IsGrown, left_open}
use Rattle.cert_format.specs.Bodies.{form_of, number_row, size_row, status_of, path_of, modules_of, list_row}
use Rattle.cert_format.specs.Reading.{LineReader, ◌>>=◌, bind, done, past_line, one, many, head, design_of, lists, record_on, records, head_with, design_with}
use Rattle.cert_format.proofs.BodyLaws.{AreTold, form_takes, form_again, number_row_takes, number_row_again, size_takes, size_again, status_takes, status_again, path_takes, path_again, modules_takes, modules_again, list_takes, list_again}
use Rattle.cert_format.proofs.ListLaws.{AreGood}
use Rattle.cert_format.proofs.ShownLaws.{record_in_takes, record_in_again}

-- ---- answers

-- a value that was read, with the lines behind it
abbrev pub read_one : {A : Type 0} → A → List Line → Result (A × List Line) (List Line)
read_one x rest = Ok (x, rest)

same-ok : {A : Type 0} (p q : A × List Line) → read_one p.0 p.1 ≡ read_one q.0 q.1 → p ≡ q
same-ok p q e = cc

-- where two things read are equal, so are the values, and so are the lines behind them
pub ok-parts : {A : Type 0} (x y : A) (a b : List Line) → read_one x a ≡ read_one y b → (x ≡ y) × (a ≡ b)
ok-parts {A} x y a b e = let s = same-ok (x, a) (y, b) e in (ap (λ (p : A × List Line). p.0) s, ap (λ (p : A × List Line). p.1) s)

-- where something is read in two parts, the first part was read, and so was what goes on from it
pub bind_ok : {A B : Type 0} (r : Result A (List Line)) (f : A → Result B (List Line)) (y : B) → (r >>= f) ≡ Ok y → (x : A) × (r ≡ Ok x) × (f x ≡ Ok y)
bind_ok (Ok x) f y e = (x, refl, e)
bind_ok (Err ls) f y e = absurd cc

-- a reader that is bound was read, and so was what follows
pub taken : {A B : Type 0} (r : LineReader A) (s : A → LineReader B) (ls : List Line) (y : B) (rest : List Line) → bind r s ls ≡ read_one y rest → (x : A) × (us : List Line) × (r ls ≡ read_one x us) × (s x us ≡ read_one y rest)
unfolding bind
taken r s ls y rest e = let (p, first, later) = bind_ok (r ls) (λ p. s p.0 p.1) (y, rest) e in (p.0, p.1, first, later)

-- where the first of two readers gives a value, both give what the second one gives from there on
pub and_then : {A B : Type 0} (r : LineReader A) (s : A → LineReader B) (ls : List Line) (x : A) (us : List Line) (o : Result (B × List Line) (List Line)) → r ls ≡ Ok (x, us) → s x us ≡ o → bind r s ls ≡ o
unfolding bind
and_then r s ls x us o e f = ap (λ t. t >>= λ p. s p.0 p.1) e ∙ f

-- a reader that reads nothing gives its own value and leaves all lines
pub done_parts : {A : Type 0} (x y : A) (a b : List Line) → done x a ≡ read_one y b → (x ≡ y) × (a ≡ b)
unfolding done
done_parts x y a b e = ok-parts x y a b e

-- where one line is read, it is whole and the first one, and the value is what it is read as
pub one_line : {A : Type 0} (f : List ℕ → Option A) (ls : List Line) (x : A) (rest : List Line) → one f ls ≡ read_one x rest → (body : List ℕ) × (ls ≡ whole body ∷ rest) × (f body ≡ Some x)
unfolding one
one_line f [] x rest e = absurd cc
one_line f (unfinished bytes ∷ ls) x rest e = absurd cc
one_line {A} f (whole body ∷ ls) x rest e = by (f body) refl e
  where
    by : (o : Option A) → f body ≡ o → past_line (whole body) ls o ≡ read_one x rest → (bytes : List ℕ) × (whole body ∷ ls ≡ whole bytes ∷ rest) × (f bytes ≡ Some x)
    by None h e = absurd cc
    by (Some y) h e = (let p = ok-parts y x ls rest e in (body, ap (λ us. whole body ∷ us) p.1, h ∙ ap (λ z. Some z) p.0))

-- a whole line that can be read is read from lines that begin with it
pub one_again : {A : Type 0} (f : List ℕ → Option A) (body : List ℕ) (x : A) (rest : List Line) → f body ≡ Some x → one f (whole body ∷ rest) ≡ Ok (x, rest)
unfolding one
one_again f body x rest e = ap (past_line (whole body) rest) e

-- reading nothing gives the value and leaves all lines
pub done_is : {A : Type 0} (x : A) (rest : List Line) → done x rest ≡ Ok (x, rest)
unfolding done
done_is x rest = refl

-- ---- many lines

-- where so many lines of a kind are read, there are so many good items, and the lines taken are theirs
pub many_takes : {A : Type 0} (f : List ℕ → Option A) (Good : A → Type 0) (print : A → List ℕ) → ((body : List ℕ) (x : A) → f body ≡ Some x → Good x × (body ≡ print x))
    → (n : ℕ) (ls : List Line) (xs : List A) (rest : List Line) → many n f ls ≡ read_one xs rest → (length xs ≡ n) × AllByRecursion Good xs × (ls ≡ map whole (map print xs) ++ rest)
unfolding many
many_takes {A} f Good print law zero ls xs rest e = (let p = done_parts {A = List A} [] xs ls rest e in (ap length (sym p.0), subst (AllByRecursion Good) p.0 tt, p.1 ∙ ap (λ ys. map whole (map print ys) ++ rest) p.0))
many_takes f Good print law (suc n) ls xs rest e =
    let (x, us, first, later) = taken (one f) (λ x. bind (many n f) (λ xs. done (x ∷ xs))) ls xs rest e in
    let (ys, vs, second, last) = taken (many n f) (λ xs. done (x ∷ xs)) us xs rest later in
    let p = done_parts (x ∷ ys) xs vs rest last in
    let (body, line, read) = one_line f ls x us first in
    let here = law body x read in
    let there = many_takes f Good print law n us ys vs second in (
      ap length (sym p.0) ∙ ap (λ k. suc k) there.0,
      subst (AllByRecursion Good) p.0 (here.0, there.1),
      line ∙ ap (λ bs. whole bs ∷ us) here.1 ∙ ap (λ us. whole (print x) ∷ us) there.2 ∙ ap (λ ws. whole (print x) ∷ (map whole (map print ys) ++ ws)) p.1 ∙ ap (λ zs. map whole (map print zs) ++ rest) p.0,
    )

-- the lines of good items are read as these items
pub many_again : {A : Type 0} (f : List ℕ → Option A) (Good : A → Type 0) (print : A → List ℕ) → ((x : A) → Good x → f (print x) ≡ Some x)
    → (xs : List A) (rest : List Line) → AllByRecursion Good xs → many (length xs) f (map whole (map print xs) ++ rest) ≡ Ok (xs, rest)
unfolding many
many_again {A} f Good print law [] rest h = done_is {A = List A} [] rest
many_again f Good print law (x ∷ xs) rest h =
    and_then (one f) (λ x. bind (many (length xs) f) (λ xs. done (x ∷ xs))) (whole (print x) ∷ (map whole (map print xs) ++ rest)) x (map whole (map print xs) ++ rest) (Ok (x ∷ xs, rest))
    (one_again f (print x) x (map whole (map print xs) ++ rest) (law x h.0))
    (and_then (many (length xs) f) (λ xs. done (x ∷ xs)) (map whole (map print xs) ++ rest) xs rest (Ok (x ∷ xs, rest)) (many_again f Good print law xs rest h.1) (done_is (x ∷ xs) rest))

-- ---- the five lines that begin each text

-- what the first five lines tell is within its limits, and the version can tell it
pub record IsHead (h : Head) : Type 0 where
  pub told : AreTold h.form h.sizes
  pub some_budget : 1 ≤ h.budget
  pub budget : h.budget ≤ MAX_BUDGET
  pub examined : h.examined < 2 ^ 32

-- the five lines that begin a text which tells this
abbrev pub lines_of_head : Head → List (List ℕ)
lines_of_head h = header_line h.form ∷ size_line h.form h.sizes.nodes h.sizes.links h.sizes.demands h.sizes.both ∷ status_line h.status ∷ number_line (codes "BUDGET") h.budget ∷ number_line (codes "EXAMINED") h.examined ∷ []

-- the readers that follow one another there
abbrev pub head4 : Form → Sizes → PlanStatus → ℕ → LineReader Head
head4 form sizes status budget = bind (one (number_row (codes "EXAMINED") 0 (2 ^ 32 - 1))) λ examined.
    done (head_with form sizes status budget examined)

-- reads the first five lines from the budget on
abbrev pub head3 : Form → Sizes → PlanStatus → LineReader Head
head3 form sizes status = bind (one (number_row (codes "BUDGET") 1 MAX_BUDGET)) λ budget. head4 form sizes status budget

-- reads the first five lines from the status on
abbrev pub head2 : Form → Sizes → LineReader Head
head2 form sizes = bind (one status_of) λ status. head3 form sizes status

-- reads the first five lines from the sizes on
abbrev pub head1 : Form → LineReader Head
head1 form = bind (one (size_row form)) λ sizes. head2 form sizes

-- what the first five lines are read as is within its limits, and the lines taken are its own
pub head_takes : (ls : List Line) (h : Head) (rest : List Line) → head ls ≡ read_one h rest → IsHead h × (ls ≡ map whole (lines_of_head h) ++ rest)
unfolding head
head_takes ls h rest e =
    let (form, ls1, e1, f1) = taken (one form_of) (λ form. head1 form) ls h rest e in
    let (sizes, ls2, e2, f2) = taken (one (size_row form)) (λ sizes. head2 form sizes) ls1 h rest f1 in
    let (status, ls3, e3, f3) = taken (one status_of) (λ status. head3 form sizes status) ls2 h rest f2 in
    let (budget, ls4, e4, f4) = taken (one (number_row (codes "BUDGET") 1 MAX_BUDGET)) (λ budget. head4 form sizes status budget) ls3 h rest f3 in
    let (examined, ls5, e5, f5) = taken (one (number_row (codes "EXAMINED") 0 (2 ^ 32 - 1))) (λ examined. done (head_with form sizes status budget examined)) ls4 h rest f4 in
    let p = done_parts (head_with form sizes status budget examined) h ls5 rest f5 in
    let (b1, l1, r1) = one_line form_of ls form ls1 e1 in
    let (b2, l2, r2) = one_line (size_row form) ls1 sizes ls2 e2 in
    let (b3, l3, r3) = one_line status_of ls2 status ls3 e3 in
    let (b4, l4, r4) = one_line (number_row (codes "BUDGET") 1 MAX_BUDGET) ls3 budget ls4 e4 in
    let (b5, l5, r5) = one_line (number_row (codes "EXAMINED") 0 (2 ^ 32 - 1)) ls4 examined ls5 e5 in
    let s = size_takes form b2 sizes r2 in
    let g = number_row_takes (codes "BUDGET") 1 MAX_BUDGET b4 budget r4 in
    let x = number_row_takes (codes "EXAMINED") 0 (2 ^ 32 - 1) b5 examined r5 in
    let size : List ℕ = size_line form sizes.nodes sizes.links sizes.demands sizes.both in
    let lines : ls ≡ whole (header_line form) ∷ whole size ∷ whole (status_line status) ∷ whole (number_line (codes "BUDGET") budget) ∷ whole (number_line (codes "EXAMINED") examined) ∷ rest =
    (l1 ∙ ap (λ b. whole b ∷ ls1) (form_takes b1 form r1)
    ∙ ap (λ us. whole (header_line form) ∷ us) (l2 ∙ ap (λ b. whole b ∷ ls2) s.1
    ∙ ap (λ us. whole size ∷ us) (l3 ∙ ap (λ b. whole b ∷ ls3) (status_takes b3 status r3)
    ∙ ap (λ us. whole (status_line status) ∷ us) (l4 ∙ ap (λ b. whole b ∷ ls4) g.2
    ∙ ap (λ us. whole (number_line (codes "BUDGET") budget) ∷ us) (l5 ∙ ap (λ b. whole b ∷ ls5) x.2
    ∙ ap (λ us. whole (number_line (codes "EXAMINED") examined) ∷ us) p.1))))) in
    subst (λ (h : Head). IsHead h × (ls ≡ map whole (lines_of_head h) ++ rest)) p.0
    (record { told = s.0; some_budget = g.0; budget = g.1; examined = omega (arith, x.1) }, lines)

-- the first five lines of what is within its limits are read as this
pub head_again : (h : Head) (rest : List Line) → IsHead h → head (map whole (lines_of_head h) ++ rest) ≡ Ok (h, rest)
unfolding head
head_again h rest g =
    let ls5 : List Line = rest in
    let ls4 : List Line = whole (number_line (codes "EXAMINED") h.examined) ∷ ls5 in
    let ls3 : List Line = whole (number_line (codes "BUDGET") h.budget) ∷ ls4 in
    let ls2 : List Line = whole (status_line h.status) ∷ ls3 in
    let ls1 : List Line = whole (size_line h.form h.sizes.nodes h.sizes.links h.sizes.demands h.sizes.both) ∷ ls2 in
    and_then (one form_of) (λ form. head1 form) (whole (header_line h.form) ∷ ls1) h.form ls1 (Ok (h, rest)) (one_again form_of (header_line h.form) h.form ls1 (form_again h.form))
    (and_then (one (size_row h.form)) (λ sizes. head2 h.form sizes) ls1 h.sizes ls2 (Ok (h, rest)) (one_again (size_row h.form) (size_line h.form h.sizes.nodes h.sizes.links h.sizes.demands h.sizes.both) h.sizes ls2 (size_again h.form h.sizes.nodes h.sizes.links h.sizes.demands h.sizes.both g.told))
    (and_then (one status_of) (λ status. head3 h.form h.sizes status) ls2 h.status ls3 (Ok (h, rest)) (one_again status_of (status_line h.status) h.status ls3 (status_again h.status))
    (and_then (one (number_row (codes "BUDGET") 1 MAX_BUDGET)) (λ budget. head4 h.form h.sizes h.status budget) ls3 h.budget ls4 (Ok (h, rest))
    (one_again (number_row (codes "BUDGET") 1 MAX_BUDGET) (number_line (codes "BUDGET") h.budget) h.budget ls4 (number_row_again (codes "BUDGET") 1 MAX_BUDGET h.budget (omega arith) g.some_budget g.budget))
    (and_then (one (number_row (codes "EXAMINED") 0 (2 ^ 32 - 1))) (λ examined. done (head_with h.form h.sizes h.status h.budget examined)) ls4 h.examined ls5 (Ok (h, rest))
    (one_again (number_row (codes "EXAMINED") 0 (2 ^ 32 - 1)) (number_line (codes "EXAMINED") h.examined) h.examined ls5 (number_row_again (codes "EXAMINED") 0 (2 ^ 32 - 1) h.examined (omega arith) (omega arith) (omega (arith, g.examined))))
    (done_is h rest)))))

-- ---- the design

-- a design that fits the counts of demands and links, and its cost and numbers fit their fields
pub record IsDesignOf (demands links : ℕ) (cost : ℕ) (d : Design) : Type 0 where
  pub fits : FitsDesign demands links d
  pub fields : HasDesignFields cost d

-- a path that is short enough, and of arcs that fit their fields
abbrev pub GoodPath : List ArcId → Type 0
GoodPath arcs = (length arcs ≤ MAX_PATH_ARCS) × AreArcs arcs

-- few enough counts of modules, each below 2^64
abbrev pub GoodCounts : List ℕ → Type 0
GoodCounts counts = (length counts ≤ MAX_MODULES) × AllByRecursion (λ c. c < 2 ^ 64) counts

path-law : (body : List ℕ) (arcs : List ArcId) → path_of body ≡ Some arcs → GoodPath arcs × (body ≡ path_line arcs)
path-law body arcs e = let p = path_takes body arcs e in ((p.0, p.1), p.2)

counts-law : (body counts : List ℕ) → modules_of body ≡ Some counts → GoodCounts counts × (body ≡ modules_line counts)
counts-law body counts e = let p = modules_takes body counts e in ((p.0, p.1), p.2)

-- where two facts hold of each item, the one holds of all items, and so does the other
pub both-of : {A : Type 0} (P Q : A → Type 0) (xs : List A) → AllByRecursion (λ x. P x × Q x) xs → AllByRecursion P xs × AllByRecursion Q xs
both-of P Q [] h = (tt, tt)
both-of P Q (x ∷ xs) h = let more = both-of P Q xs h.1 in ((h.0.0, more.0), (h.0.1, more.1))

-- where one fact holds of all items, and so does another, both hold of each item
pub pair_of : {A : Type 0} (P Q : A → Type 0) (xs : List A) → AllByRecursion P xs → AllByRecursion Q xs → AllByRecursion (λ x. P x × Q x) xs
pair_of P Q [] h k = tt
pair_of P Q (x ∷ xs) h k = ((h.0, k.0), pair_of P Q xs h.1 k.1)

-- the design that a reader gave, with the lines behind the cost
abbrev pub after_cost : Option (ℕ × Design) → List (List ℕ)
after_cost None = []
after_cost (Some design) = map path_line design.1.paths ++ map modules_line design.1.counts

-- the cost of a design, where there is one
abbrev pub cost_in : Option (ℕ × Design) → Option ℕ
cost_in None = None
cost_in (Some design) = Some design.0

-- where there is a design, it fits the counts of demands and links, and its arcs and counts fit their fields
abbrev pub IsDesignIn : ℕ → ℕ → Option (ℕ × Design) → Type 0
IsDesignIn demands links o = IfSome o (λ design. FitsDesign demands links design.1 × AllByRecursion AreArcs design.1.paths × AllByRecursion (λ counts. AllByRecursion (λ c. c < 2 ^ 64) counts) design.1.counts)

-- a design that is read behind a cost has this cost and fits, and the lines taken are its own
pub design_of_takes : (demands links : ℕ) (cost : Option ℕ) (ls : List Line) (o : Option (ℕ × Design)) (rest : List Line) → design_of demands links cost ls ≡ read_one o rest
    → (cost_in o ≡ cost) × IsDesignIn demands links o × (ls ≡ map whole (after_cost o) ++ rest)
unfolding design_of
design_of_takes demands links None ls o rest e =
    let p = done_parts {A = Option (ℕ × Design)} None o ls rest e in
    subst (λ (o : Option (ℕ × Design)). (cost_in o ≡ None) × IsDesignIn demands links o × (ls ≡ map whole (after_cost o) ++ rest)) p.0 (refl, tt, p.1)
design_of_takes demands links (Some cost) ls o rest e =
    let (paths, us, e1, f1) = taken (many demands path_of) (λ paths. bind (many links modules_of) λ counts. done (design_with cost paths counts)) ls o rest e in
    let (counts, vs, e2, f2) = taken (many links modules_of) (λ counts. done (design_with cost paths counts)) us o rest f1 in
    let p = done_parts (design_with cost paths counts) o vs rest f2 in
    let a = many_takes path_of GoodPath path_line path-law demands ls paths us e1 in
    let b = many_takes modules_of GoodCounts modules_line counts-law links us counts vs e2 in
    let pa = both-of (λ (arcs : List ArcId). length arcs ≤ MAX_PATH_ARCS) AreArcs paths a.1 in
    let pb = both-of (λ (counts : List ℕ). length counts ≤ MAX_MODULES) (λ counts. AllByRecursion (λ c. c < 2 ^ 64) counts) counts b.1 in
    let lines : ls ≡ map whole (map path_line paths ++ map modules_line counts) ++ rest =
    (a.2 ∙ ap (λ ws. map whole (map path_line paths) ++ ws) (b.2 ∙ ap (λ ws. map whole (map modules_line counts) ++ ws) p.1)
    ∙ sym (append_assoc (map whole (map path_line paths)) (map whole (map modules_line counts)) rest) ∙ ap (λ ws. ws ++ rest) (sym (map-append whole (map path_line paths) (map modules_line counts)))) in
    subst (λ (o : Option (ℕ × Design)). (cost_in o ≡ Some cost) × IsDesignIn demands links o × (ls ≡ map whole (after_cost o) ++ rest)) p.0 (
      refl,
      (
        record {
          path_count = a.0;
          list_count = b.0;
          short_paths = All-from_recursion (λ (arcs : List ArcId). length arcs ≤ MAX_PATH_ARCS) paths pa.0;
          short_lists = All-from_recursion (λ (counts : List ℕ). length counts ≤ MAX_MODULES) counts pb.0;
        },
        pa.1,
        pb.1,
      ),
      lines,
    )

-- the lines behind the cost of a design that fits are read as this design
pub design_of_again : (demands links : ℕ) (o : Option (ℕ × Design)) (rest : List Line) → IsDesignIn demands links o → design_of demands links (cost_in o) (map whole (after_cost o) ++ rest) ≡ Ok (o, rest)
unfolding design_of
design_of_again demands links None rest h = done_is {A = Option (ℕ × Design)} None rest
design_of_again demands links (Some design) rest h =
    let d : Design = design.1 in
    let fits = h.0 in
    let pa : AllByRecursion GoodPath d.paths = pair_of (λ (arcs : List ArcId). length arcs ≤ MAX_PATH_ARCS) AreArcs d.paths (recursion_from_All (λ (arcs : List ArcId). length arcs ≤ MAX_PATH_ARCS) d.paths fits.short_paths) h.1 in
    let pb : AllByRecursion GoodCounts d.counts = pair_of (λ (counts : List ℕ). length counts ≤ MAX_MODULES) (λ counts. AllByRecursion (λ c. c < 2 ^ 64) counts) d.counts (recursion_from_All (λ (counts : List ℕ). length counts ≤ MAX_MODULES) d.counts fits.short_lists) h.2 in
    let split : map whole (map path_line d.paths ++ map modules_line d.counts) ++ rest ≡ map whole (map path_line d.paths) ++ (map whole (map modules_line d.counts) ++ rest) =
    (ap (λ ws. ws ++ rest) (map-append whole (map path_line d.paths) (map modules_line d.counts)) ∙ append_assoc (map whole (map path_line d.paths)) (map whole (map modules_line d.counts)) rest) in
    ap (bind (many demands path_of) λ paths. bind (many links modules_of) λ counts. done (design_with design.0 paths counts)) split
    ∙ and_then (many demands path_of) (λ paths. bind (many links modules_of) λ counts. done (design_with design.0 paths counts)) (map whole (map path_line d.paths) ++ (map whole (map modules_line d.counts) ++ rest)) d.paths (map whole (map modules_line d.counts) ++ rest) (Ok (Some design, rest))
    (subst (λ n. many n path_of (map whole (map path_line d.paths) ++ (map whole (map modules_line d.counts) ++ rest)) ≡ Ok (d.paths, map whole (map modules_line d.counts) ++ rest)) fits.path_count
    (many_again path_of GoodPath path_line (λ arcs g. path_again arcs g.0 g.1) d.paths (map whole (map modules_line d.counts) ++ rest) pa))
    (and_then (many links modules_of) (λ counts. done (design_with design.0 d.paths counts)) (map whole (map modules_line d.counts) ++ rest) d.counts rest (Ok (Some design, rest))
    (subst (λ n. many n modules_of (map whole (map modules_line d.counts) ++ rest) ≡ Ok (d.counts, rest)) fits.list_count (many_again modules_of GoodCounts modules_line (λ counts g. modules_again counts g.0 g.1) d.counts rest pb))
    (done_is (Some design) rest))

-- ---- the price lists

-- price lists that were read behind others
pub record AreRead (entries n : ℕ) (before found : List (List ℕ)) (ls rest : List Line) : Type 0 where
  pub more : List (List ℕ)
  pub all : found ≡ before ++ more
  pub count : length more ≡ n
  pub new : AreNew entries before more
  pub lines : ls ≡ map whole (map price_line more) ++ rest

-- price lists that are read are new and as many as asked for, and the lines taken are theirs
pub lists_take : (entries n : ℕ) (before : List (List ℕ)) (ls : List Line) (found : List (List ℕ)) (rest : List Line) → lists entries n before ls ≡ read_one found rest → AreRead entries n before found ls rest
unfolding lists AreNew
lists_take entries zero before ls found rest e = (let p = done_parts before found ls rest e in record { more = []; all = sym p.0 ∙ sym (append-nil before); count = refl; new = tt; lines = p.1 })
lists_take entries (suc n) before ls found rest e =
    let (list, us, e1, f1) = taken (one (list_row entries before)) (λ list. lists entries n (before ++ list ∷ [])) ls found rest e in
    let (body, line, read) = one_line (list_row entries before) ls list us e1 in
    let here = list_takes entries before body list read in
    let there = lists_take entries n (before ++ list ∷ []) us found rest f1 in
    record {
      more = list ∷ there.more;
      all = there.all ∙ append_assoc before (list ∷ []) there.more;
      count = ap (λ k. suc k) there.count;
      new = (here.0.count, here.0.small, here.0.fresh, there.new);
      lines = line ∙ ap (λ bs. whole bs ∷ us) here.1 ∙ ap (λ us. whole (price_line list) ∷ us) there.lines;
    }

-- the lines of new price lists are read as these, behind the lists before them
pub lists_again : (entries : ℕ) (before more : List (List ℕ)) (rest : List Line) → AreNew entries before more → lists entries (length more) before (map whole (map price_line more) ++ rest) ≡ Ok (before ++ more, rest)
unfolding lists AreNew
lists_again entries before [] rest new = done_is before rest ∙ ap (λ ls. read_one ls rest) (sym (append-nil before))
lists_again entries before (list ∷ more) rest new =
    and_then (one (list_row entries before)) (λ list. lists entries (length more) (before ++ list ∷ [])) (whole (price_line list) ∷ (map whole (map price_line more) ++ rest)) list (map whole (map price_line more) ++ rest) (Ok (before ++ list ∷ more, rest))
    (one_again (list_row entries before) (price_line list) list (map whole (map price_line more) ++ rest) (list_again entries before list (record { count = new.0; small = new.1; fresh = new.2 })))
    (lists_again entries (before ++ list ∷ []) more rest new.3 ∙ ap (λ ls. read_one ls rest) (append_assoc before (list ∷ []) more))

nothing-read : {A : Type 0} (f : List ℕ → Option A) → one f [] ≡ Err []
unfolding one
nothing-read f = refl

-- where price lists lack, the reader stops at the end
pub lists_short : (entries n : ℕ) (before more : List (List ℕ)) → AreNew entries before more → length more < n → lists entries n before (map whole (map price_line more)) ≡ Err []
unfolding lists bind AreNew
lists_short entries zero before more new short = absurd (omega (arith, short))
lists_short entries (suc n) before [] new short = ap (λ r. r >>= λ p. lists entries n (before ++ p.0 ∷ []) p.1) (nothing-read (list_row entries before))
lists_short entries (suc n) before (list ∷ more) new short =
    and_then (one (list_row entries before)) (λ list. lists entries n (before ++ list ∷ [])) (whole (price_line list) ∷ map whole (map price_line more)) list (map whole (map price_line more)) (Err [])
    (one_again (list_row entries before) (price_line list) list (map whole (map price_line more)) (list_again entries before list (record { count = new.0; small = new.1; fresh = new.2 })))
    (lists_short entries n (before ++ list ∷ []) more new.3 (omega (arith, short)))

-- ---- the records

-- what the lines of records depend on is as it should be
abbrev pub IsGround : Ground → Type 0
IsGround g = AreGood g.form g.entries g.lists

-- a record that fits the ground
abbrev pub FitsGround : Ground → TreeNode → Type 0
FitsGround g node = FitsRecord g.nodes g.entries node × HasRecordFields node

-- the line of a record
abbrev pub line_on : Ground → TreeNode → List ℕ
line_on g node = record_line (shown g.form g.lists node)

-- how many lists are named behind a record
abbrev pub named_on : Ground → ℕ → TreeNode → ℕ
named_on g named node = named_behind g.form g.lists named node

-- records that were read where so many lists are named before them
pub record AreGrown (g : Ground) (named left trees : ℕ) (ns : List TreeNode) (ls rest : List Line) : Type 0 where
  pub grown : IsGrown left trees ns
  pub each : AllByRecursion (FitsGround g) ns
  pub has_lines : HasLines g.form ns
  pub names : AreNamed g.form g.lists named ns
  pub lines : ls ≡ map whole (map (line_on g) ns) ++ rest

-- records that are read fit the ground and end with the last tree or the count, and the lines taken are theirs
pub grown_takes : (g : Ground) → IsGround g → (named left trees : ℕ) (ls : List Line) (ns : List TreeNode) (rest : List Line) → records g named left trees ls ≡ read_one ns rest → AreGrown g named left trees ns ls rest
unfolding records IsGrown AreNamed
grown_takes g good named zero trees ls ns rest e = (let p = done_parts {A = List TreeNode} [] ns ls rest e in subst (λ (ns : List TreeNode). AreGrown g named 0 trees ns ls rest) p.0 (record { grown = refl; each = tt; has_lines = tt; names = tt; lines = p.1 }))
grown_takes g good named (suc left) zero ls ns rest e = (let p = done_parts {A = List TreeNode} [] ns ls rest e in subst (λ (ns : List TreeNode). AreGrown g named (suc left) 0 ns ls rest) p.0 (record { grown = refl; each = tt; has_lines = tt; names = tt; lines = p.1 }))
grown_takes g good named (suc left) (suc others) ls ns rest e =
    let (node, us, e1, f1) = taken (one (record_on g named)) (λ node. bind (records g (named_on g named node) left (left_open node others)) λ more. done (node ∷ more)) ls ns rest e in
    let (more, vs, e2, f2) = taken (records g (named_on g named node) left (left_open node others)) (λ more. done (node ∷ more)) us ns rest f1 in
    let p = done_parts (node ∷ more) ns vs rest f2 in
    let (body, line, read) = one_line (record_on g named) ls node us e1 in
    let here = record_in_takes g.form g.lists named g.nodes g.entries body node good read in
    let there = grown_takes g good (named_on g named node) left (left_open node others) us more vs e2 in
    subst (λ (ns : List TreeNode). AreGrown g named (suc left) (suc others) ns ls rest) p.0 (record {
      grown = there.grown;
      each = ((here.fits, here.fields), there.each);
      has_lines = (here.has, there.has_lines);
      names = (here.names, there.names);
      lines = line ∙ ap (λ bs. whole bs ∷ us) here.line ∙ ap (λ us. whole (line_on g node) ∷ us) (there.lines ∙ ap (λ ws. map whole (map (line_on g) more) ++ ws) p.1);
    })

-- the lines of records that fit the ground and end with the last tree or the count are read as these records
pub grown_again : (g : Ground) → IsGround g → g.nodes ≤ MAX_NODES → (named left trees : ℕ) (ns : List TreeNode) (rest : List Line) → IsGrown left trees ns → AllByRecursion (FitsGround g) ns → HasLines g.form ns → AreNamed g.form g.lists named ns
    → records g named left trees (map whole (map (line_on g) ns) ++ rest) ≡ Ok (ns, rest)
unfolding records IsGrown AreNamed
grown_again g good few named zero trees [] rest grown h has k = done_is {A = List TreeNode} [] rest
grown_again g good few named zero trees (node ∷ ns) rest grown h has k = absurd (omega (arith, ap length grown))
grown_again g good few named (suc left) zero [] rest grown h has k = done_is {A = List TreeNode} [] rest
grown_again g good few named (suc left) zero (node ∷ ns) rest grown h has k = absurd (omega (arith, ap length grown))
grown_again g good few named (suc left) (suc others) [] rest grown h has k = absurd grown
grown_again g good few named (suc left) (suc others) (node ∷ ns) rest grown h has k =
    and_then (one (record_on g named)) (λ node. bind (records g (named_on g named node) left (left_open node others)) λ more. done (node ∷ more)) (whole (line_on g node) ∷ (map whole (map (line_on g) ns) ++ rest)) node (map whole (map (line_on g) ns) ++ rest) (Ok (node ∷ ns, rest))
    (one_again (record_on g named) (line_on g node) node (map whole (map (line_on g) ns) ++ rest) (record_in_again g.form g.lists named g.nodes g.entries node few good h.0.0 h.0.1 has.0 k.0))
    (and_then (records g (named_on g named node) left (left_open node others)) (λ more. done (node ∷ more)) (map whole (map (line_on g) ns) ++ rest) ns rest (Ok (node ∷ ns, rest))
    (grown_again g good few (named_on g named node) left (left_open node others) ns rest grown h.1 has.1 k.1) (done_is (node ∷ ns) rest))

-- a whole tree is grown where as many records are stated
pub grown_whole : (ns : List TreeNode) (trees : ℕ) → are_trees trees ns ≡ true → IsGrown (length ns) trees ns
unfolding IsGrown left_open
grown_whole [] trees e = refl
grown_whole (node ∷ ns) zero e = absurd (true≢false (sym e))
grown_whole (Leaf evidence ∷ ns) (suc others) e = grown_whole ns others e
grown_whole (Split demand at left right ∷ ns) (suc others) e = grown_whole ns (suc (suc others)) e
grown_whole (Loads place load ∷ ns) (suc others) e = grown_whole ns (suc (suc others)) e
