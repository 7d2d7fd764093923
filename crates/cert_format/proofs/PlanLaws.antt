-- All lines before the last, the whole text, and what a text is read as.
use Rattle.std.proofs.Common.{◌≡◌, ℕ, ◌^◌, ◌<◌, ◌≤◌, ◌==◌, ◌&&◌, Bool, true, false, cond, List, [], ◌∷◌, ◌++◌, length, map, codes, Option, Some, None, refl, sym, ap, subst, ◌∙◌, append_assoc, ℤ, arith}
use Rattle.std.specs.Prelude.{Result, Ok, Err, IfSome, IsNone, IsTrue}
use Rattle.std.specs.List.{AllByRecursion}
use Rattle.std.proofs.lemmas.Bool.{and_parts, and_from, eqb-true, eq-eqb}
use Rattle.std.proofs.lemmas.List.{append-nil, map-append}
use Rattle.std.proofs.lemmas.List.Elements.{All-from_recursion, recursion_from_All}
use Rattle.plan_base.specs.declared.path.Design.{Design}
use Rattle.plan_base.specs.declared.limits.TheConstants.{MAX_NODES}
use Rattle.proof_tree.specs.declared.limits.TheConstants.{MAX_RECORDS, MAX_CUTS}
use Rattle.proof_tree.specs.declared.cuts.Cut.{Cut as LoadCut}
use Rattle.proof_tree.specs.declared.tree.TreeNode.{TreeNode}
use Rattle.proof_tree.specs.declared.plan.PlanStatus.{PlanStatus}
use Rattle.proof_tree.specs.declared.plan.PlanStatus.TheVariants.{Optimal, Infeasible, Undecided}
use Rattle.proof_tree.specs.declared.plan.Plan.{Plan}
use Rattle.proof_tree.specs.Shapes.{are_trees}
use Rattle.proof_tree.specs.Spellings.{numbers_in, FitsRecord, FitsDesign, FitsStatus, FitsCuts, IsSpellable}
use Rattle.cert_format.specs.declared.form.Form.{Form}
use Rattle.cert_format.specs.declared.form.Form.TheVariants.{First, Second, Third}
use Rattle.cert_format.specs.declared.limits.TheConstants.{MAX_LISTS}
use Rattle.cert_format.specs.declared.numbering.Ground.{Ground}
use Rattle.cert_format.specs.declared.reading.Head.{Head}
use Rattle.plan_tokens.specs.Lines.{Line, whole, text_of, lines_of}
use Rattle.cert_format.specs.Versions.{TellsCuts, HasLines, is_asked}
use Rattle.cert_format.specs.Lists.{lists_in, named_from, AreNamed, AreNew}
use Rattle.cert_format.specs.Grammar.{
  number_line,
  cost_line,
  bound_line,
  cut_line,
  price_line,
  end_line,
  head_lines,
  design_lines,
  bound_lines,
  cut_lines,
  price_lines,
  front_lines,
  tree_lines,
  lines_with,
  plan_lines,
  plan_text,
  HasCutFields,
  HasRecordFields,
  HasDesignFields,
  IsBoundField,
  HasFields,
  SpellsPlan,
}
use Rattle.cert_format.specs.Drafts.{IsGrown, Stated, AreListed, IsDraft, has_counts, is_complete, front_of, stated_tree_lines, closing_lines, draft_lines}
use Rattle.cert_format.specs.Bodies.{fixed_of, number_row, cost_allowed, cost_of, bound_of, load_cut_row}
use Rattle.cert_format.specs.Reading.{LineReader, ◌>>=◌, bind, done, one, many, head, design_of, design, bound, load_cuts, list_count, front_with, entries_of, opening, lists, records, tree, tree_with, ground_with, stated_on, before_end, last_line, ending, whole_plan, read_as, plan_of}
use Rattle.plan_tokens.proofs.Cutting.{text_of_lines, lines_of_text}
use Rattle.cert_format.proofs.BodyLaws.{IsCost, sizes_at, fixed_takes, fixed_again, number_row_takes, number_row_again, cost_takes, cost_again, bound_takes, bound_again}
use Rattle.cert_format.proofs.CutLaws.{GoodCut, good_cuts, cut_takes, cut_again, cut_numbers_small}
use Rattle.cert_format.proofs.ListLaws.{AreReady, good_listed, lists_ready, lists_told}
use Rattle.cert_format.proofs.ReadingLaws.{
  read_one,
  bind_ok,
  taken,
  and_then,
  done_parts,
  done_is,
  one_line,
  one_again,
  many_takes,
  many_again,
  IsHead,
  lines_of_head,
  head_takes,
  head_again,
  both-of,
  after_cost,
  cost_in,
  IsDesignIn,
  design_of_takes,
  design_of_again,
  lists_take,
  lists_again,
  lists_short,
  IsGround,
  FitsGround,
  line_on,
  grown_takes,
  grown_again,
  grown_whole,
}
use Rattle.cert_format.proofs.Lacking.{plan_lacks}

-- ---- cost and design

-- a cost, or none, that the status allows, and a design of it that fits
pub record IsDesignRead (h : Head) (o : Option (ℕ × Design)) : Type 0 where
  pub cost : IsCost h.status (cost_in o)
  pub design_in : IsDesignIn h.sizes.demands h.sizes.links o

lines-of-design : (o : Option (ℕ × Design)) → cost_line (cost_in o) ∷ after_cost o ≡ design_lines o
unfolding design_lines
lines-of-design None = refl
lines-of-design (Some d) = refl

-- a cost and design that are read fit the first five lines, and the lines taken are theirs
pub design_takes : (h : Head) (ls : List Line) (o : Option (ℕ × Design)) (rest : List Line) → design h ls ≡ read_one o rest → IsDesignRead h o × (ls ≡ map whole (design_lines o) ++ rest)
unfolding design
design_takes h ls o rest e =
    let (cost, us, e1, f1) = taken (one (cost_of h.status)) (design_of h.sizes.demands h.sizes.links) ls o rest e in
    let (body, line, read) = one_line (cost_of h.status) ls cost us e1 in
    let c = cost_takes h.status body cost read in
    let d = design_of_takes h.sizes.demands h.sizes.links cost us o rest f1 in (
      record { cost = subst (IsCost h.status) (sym d.0) c.0; design_in = d.1 },
      line ∙ ap (λ b. whole b ∷ us) (c.1 ∙ ap cost_line (sym d.0)) ∙ ap (λ us. whole (cost_line (cost_in o)) ∷ us) d.2 ∙ ap (λ bs. map whole bs ++ rest) (lines-of-design o),
    )

-- the lines of a cost and design that fit the first five lines are read as these
pub design_again : (h : Head) (o : Option (ℕ × Design)) (rest : List Line) → IsDesignRead h o → design h (map whole (design_lines o) ++ rest) ≡ Ok (o, rest)
unfolding design
design_again h o rest d =
    ap (λ bs. bind (one (cost_of h.status)) (design_of h.sizes.demands h.sizes.links) (map whole bs ++ rest)) (sym (lines-of-design o))
    ∙ and_then (one (cost_of h.status)) (design_of h.sizes.demands h.sizes.links) (whole (cost_line (cost_in o)) ∷ (map whole (after_cost o) ++ rest)) (cost_in o) (map whole (after_cost o) ++ rest) (Ok (o, rest))
    (one_again (cost_of h.status) (cost_line (cost_in o)) (cost_in o) (map whole (after_cost o) ++ rest) (cost_again h.status (cost_in o) d.cost))
    (design_of_again h.sizes.demands h.sizes.links o rest d.design_in)

-- ---- the bound

-- a bound as the status asks for it: one that fits its field, or none, and none where the plan is decided
abbrev pub IsBoundRead : PlanStatus → Option ℤ → Type 0
IsBoundRead Optimal b = IsNone b
IsBoundRead Infeasible b = IsNone b
IsBoundRead Undecided b = IfSome b IsBoundField

none-read : (b : Option ℤ) (ls rest : List Line) → done None ls ≡ read_one b rest → IsNone b × (ls ≡ rest)
none-read b ls rest e = (let p = done_parts {A = Option ℤ} None b ls rest e in (subst IsNone p.0 refl, p.1))

-- a bound that is read is as the status asks for it, and the lines taken are its own
pub bound_read_takes : (s : PlanStatus) (ls : List Line) (b : Option ℤ) (rest : List Line) → bound s ls ≡ read_one b rest → IsBoundRead s b × (ls ≡ map whole (bound_lines s b) ++ rest)
unfolding bound bound_lines
bound_read_takes Optimal ls b rest e = none-read b ls rest e
bound_read_takes Infeasible ls b rest e = none-read b ls rest e
bound_read_takes Undecided ls b rest e =
    let (body, line, read) = one_line bound_of ls b rest e in
    let h = bound_takes body b read in
    (h.0, line ∙ ap (λ bs. whole bs ∷ rest) h.1)

none-again : (b : Option ℤ) (rest : List Line) → IsNone b → done None rest ≡ Ok (b, rest)
none-again None rest h = done_is {A = Option ℤ} None rest
none-again (Some x) rest h = absurd cc

-- the lines of a bound that is as the status asks for it are read as this bound
pub bound_read_again : (s : PlanStatus) (b : Option ℤ) (rest : List Line) → IsBoundRead s b → bound s (map whole (bound_lines s b) ++ rest) ≡ Ok (b, rest)
unfolding bound bound_lines
bound_read_again Optimal b rest h = none-again b rest h
bound_read_again Infeasible b rest h = none-again b rest h
bound_read_again Undecided b rest h = one_again bound_of (bound_line b) b rest (bound_again b h)

-- ---- the tree

-- a stated count, and records that fit the ground, up to the end of the tree or as many as stated
pub record IsTreeRead (g : Ground) (count : ℕ) (nodes : List TreeNode) : Type 0 where
  pub some : 1 ≤ count
  pub few : count ≤ MAX_RECORDS
  pub grown : IsGrown count 1 nodes
  pub each : AllByRecursion (FitsGround g) nodes
  pub has_lines : HasLines g.form nodes
  pub names : AreNamed g.form g.lists 0 nodes

-- the line with the stated count of records, and the lines of records
abbrev pub lines_of_tree : Ground → ℕ → List TreeNode → List (List ℕ)
lines_of_tree g count nodes = number_line (codes "TREE") count ∷ map (line_on g) nodes

-- a count and records that are read fit the ground, and the lines taken are theirs
pub tree_takes : (g : Ground) → IsGround g → (ls : List Line) (x : ℕ × List TreeNode) (rest : List Line) → tree g ls ≡ read_one x rest → IsTreeRead g x.0 x.1 × (ls ≡ map whole (lines_of_tree g x.0 x.1) ++ rest)
unfolding tree
tree_takes g good ls x rest e =
    let (count, us, e1, f1) = taken (one (number_row (codes "TREE") 1 MAX_RECORDS)) (λ count. bind (records g 0 count 1) λ nodes. done (tree_with count nodes)) ls x rest e in
    let (nodes, vs, e2, f2) = taken (records g 0 count 1) (λ nodes. done (tree_with count nodes)) us x rest f1 in
    let p = done_parts (tree_with count nodes) x vs rest f2 in
    let (body, line, read) = one_line (number_row (codes "TREE") 1 MAX_RECORDS) ls count us e1 in
    let n = number_row_takes (codes "TREE") 1 MAX_RECORDS body count read in
    let t = grown_takes g good 0 count 1 us nodes vs e2 in
    subst (λ (x : ℕ × List TreeNode). IsTreeRead g x.0 x.1 × (ls ≡ map whole (lines_of_tree g x.0 x.1) ++ rest)) p.0 (
      record { some = n.0; few = n.1; grown = t.grown; each = t.each; has_lines = t.has_lines; names = t.names },
      line ∙ ap (λ bs. whole bs ∷ us) n.2 ∙ ap (λ us. whole (number_line (codes "TREE") count) ∷ us) (t.lines ∙ ap (λ ws. map whole (map (line_on g) nodes) ++ ws) p.1),
    )

-- the lines of a count and of records that fit the ground are read as these
pub tree_again : (g : Ground) → IsGround g → g.nodes ≤ MAX_NODES → (count : ℕ) (nodes : List TreeNode) (rest : List Line) → IsTreeRead g count nodes → tree g (map whole (lines_of_tree g count nodes) ++ rest) ≡ Ok ((count, nodes), rest)
unfolding tree
tree_again g good small count nodes rest t =
    and_then (one (number_row (codes "TREE") 1 MAX_RECORDS)) (λ count. bind (records g 0 count 1) λ nodes. done (tree_with count nodes))
    (whole (number_line (codes "TREE") count) ∷ (map whole (map (line_on g) nodes) ++ rest)) count (map whole (map (line_on g) nodes) ++ rest) (Ok ((count, nodes), rest))
    (one_again (number_row (codes "TREE") 1 MAX_RECORDS) (number_line (codes "TREE") count) count (map whole (map (line_on g) nodes) ++ rest) (number_row_again (codes "TREE") 1 MAX_RECORDS count (omega arith) t.some t.few))
    (and_then (records g 0 count 1) (λ nodes. done (tree_with count nodes)) (map whole (map (line_on g) nodes) ++ rest) nodes rest (Ok ((count, nodes), rest))
    (grown_again g good small 0 count 1 nodes rest t.grown t.each t.has_lines t.names) (done_is (tree_with count nodes) rest))

-- ---- the cuts

-- few enough cuts, with an answer for each node and numbers that fit, for which the version has lines
pub record AreCutsRead (form : Form) (nodes : ℕ) (cuts : List LoadCut) : Type 0 where
  pub few : length cuts ≤ MAX_CUTS
  pub each : AllByRecursion (GoodCut nodes) cuts
  pub told : TellsCuts form cuts

no-cuts-read : (form : Form) (nodes : ℕ) (cuts : List LoadCut) (ls rest : List Line) → TellsCuts form [] → done [] ls ≡ read_one cuts rest → AreCutsRead form nodes cuts × ((cuts ≡ []) × (ls ≡ rest))
no-cuts-read form nodes cuts ls rest told e =
    let p = done_parts {A = List LoadCut} [] cuts ls rest e in
    (subst (AreCutsRead form nodes) p.0 (record { few = omega arith; each = tt; told = told }), (sym p.0, p.1))

cuts-takes : (form : Form) (nodes : ℕ) (ls : List Line) (cuts : List LoadCut) (rest : List Line) → load_cuts form nodes ls ≡ read_one cuts rest → AreCutsRead form nodes cuts × (ls ≡ map whole (cut_lines form cuts) ++ rest)
unfolding load_cuts cut_lines
cuts-takes First nodes ls cuts rest e = (let p = no-cuts-read First nodes cuts ls rest refl e in (p.0, p.1.1))
cuts-takes Second nodes ls cuts rest e = (let p = no-cuts-read Second nodes cuts ls rest refl e in (p.0, p.1.1))
cuts-takes Third nodes ls cuts rest e =
    let (count, us, e1, f1) = taken (one (number_row (codes "CUTS") 0 MAX_CUTS)) (λ count. many count (load_cut_row nodes)) ls cuts rest e in
    let (body, line, read) = one_line (number_row (codes "CUTS") 0 MAX_CUTS) ls count us e1 in
    let n = number_row_takes (codes "CUTS") 0 MAX_CUTS body count read in
    let m = many_takes (load_cut_row nodes) (GoodCut nodes) cut_line (cut_takes nodes) count us cuts rest f1 in (
      record { few = omega (arith, n.1, m.0); each = m.1; told = tt },
      line ∙ ap (λ bs. whole bs ∷ us) (n.2 ∙ ap (number_line (codes "CUTS")) (sym m.0)) ∙ ap (λ us. whole (number_line (codes "CUTS") (length cuts)) ∷ us) m.2,
    )

no-cuts-again : (cuts : List LoadCut) (rest : List Line) → cuts ≡ [] → done [] rest ≡ Ok (cuts, rest)
no-cuts-again cuts rest none = done_is {A = List LoadCut} [] rest ∙ ap (λ cs. read_one cs rest) (sym none)

cuts-again : (form : Form) (nodes : ℕ) (cuts : List LoadCut) (rest : List Line) → nodes ≤ MAX_NODES → AreCutsRead form nodes cuts → load_cuts form nodes (map whole (cut_lines form cuts) ++ rest) ≡ Ok (cuts, rest)
unfolding load_cuts cut_lines
cuts-again First nodes cuts rest few c = no-cuts-again cuts rest c.told
cuts-again Second nodes cuts rest few c = no-cuts-again cuts rest c.told
cuts-again Third nodes cuts rest few c =
    let n : ℕ = length cuts in
    let us : List Line = map whole (map cut_line cuts) ++ rest in
    and_then (one (number_row (codes "CUTS") 0 MAX_CUTS)) (λ count. many count (load_cut_row nodes)) (whole (number_line (codes "CUTS") n) ∷ us) n us (Ok (cuts, rest))
    (one_again (number_row (codes "CUTS") 0 MAX_CUTS) (number_line (codes "CUTS") n) n us (number_row_again (codes "CUTS") 0 MAX_CUTS n (omega (arith, c.few)) (omega arith) c.few))
    (many_again (load_cut_row nodes) (GoodCut nodes) cut_line (λ cut g. cut_again nodes cut (cut_numbers_small nodes cut few g) g) cuts rest c.each)

-- ---- how many price lists are stated

-- how many price lists a text of the version may state: the first one has none
abbrev pub IsListCount : Form → ℕ → Type 0
IsListCount First stated = stated ≡ 0
IsListCount Second stated = stated ≤ MAX_LISTS
IsListCount Third stated = stated ≤ MAX_LISTS

-- the line that states how many price lists there are, where the version has it
abbrev pub count_lines : Form → ℕ → List (List ℕ)
count_lines First stated = []
count_lines Second stated = number_line (codes "PRICES") stated ∷ []
count_lines Third stated = number_line (codes "PRICES") stated ∷ []

count-takes : (ls : List Line) (n : ℕ) (rest : List Line) → one (number_row (codes "PRICES") 0 MAX_LISTS) ls ≡ read_one n rest → (n ≤ MAX_LISTS) × (ls ≡ whole (number_line (codes "PRICES") n) ∷ rest)
count-takes ls n rest e =
    let (body, line, read) = one_line (number_row (codes "PRICES") 0 MAX_LISTS) ls n rest e in
    let r = number_row_takes (codes "PRICES") 0 MAX_LISTS body n read in
    (r.1, line ∙ ap (λ bs. whole bs ∷ rest) r.2)

count-again : (n : ℕ) (rest : List Line) → n ≤ MAX_LISTS → one (number_row (codes "PRICES") 0 MAX_LISTS) (whole (number_line (codes "PRICES") n) ∷ rest) ≡ Ok (n, rest)
count-again n rest h = one_again (number_row (codes "PRICES") 0 MAX_LISTS) (number_line (codes "PRICES") n) n rest (number_row_again (codes "PRICES") 0 MAX_LISTS n (omega arith) (omega arith) h)

list-count-takes : (form : Form) (ls : List Line) (n : ℕ) (rest : List Line) → list_count form ls ≡ read_one n rest → IsListCount form n × (ls ≡ map whole (count_lines form n) ++ rest)
unfolding list_count
list-count-takes First ls n rest e = (let p = done_parts 0 n ls rest e in (sym p.0, p.1))
list-count-takes Second ls n rest e = count-takes ls n rest e
list-count-takes Third ls n rest e = count-takes ls n rest e

list-count-again : (form : Form) (n : ℕ) (rest : List Line) → IsListCount form n → list_count form (map whole (count_lines form n) ++ rest) ≡ Ok (n, rest)
unfolding list_count
list-count-again First n rest h = done_is 0 rest ∙ ap (λ k. read_one k rest) (sym h)
list-count-again Second n rest h = count-again n rest h
list-count-again Third n rest h = count-again n rest h

-- ---- all lines before the price lists

-- what is read there
abbrev pub Front : Type 0
Front = Head × Option (ℕ × Design) × Option ℤ × List LoadCut × ℕ

-- reads what stands before the price lists from their count on
abbrev pub front4 : Head → Option (ℕ × Design) → Option ℤ → List LoadCut → LineReader Front
front4 h d b cuts = bind (list_count h.form) λ stated. done (front_with h d b cuts stated)

-- reads what stands before the price lists from the cuts on
abbrev pub front3 : Head → Option (ℕ × Design) → Option ℤ → LineReader Front
front3 h d b = bind (load_cuts h.form h.sizes.nodes) λ cuts. front4 h d b cuts

-- reads what stands before the price lists from the bound on
abbrev pub front2 : Head → Option (ℕ × Design) → LineReader Front
front2 h d = bind (bound h.status) λ b. front3 h d b

-- reads what stands before the price lists from the cost on
abbrev pub front1 : Head → LineReader Front
front1 h = bind (design h) λ d. front2 h d

-- what stands before the price lists, each part of it as it has to be
pub record IsFront (f : Front) : Type 0 where
  pub head_is : IsHead f.0
  pub design_is : IsDesignRead f.0 f.1
  pub bound_is : IsBoundRead f.0.status f.2
  pub cuts_are : AreCutsRead f.0.form f.0.sizes.nodes f.3
  pub count_is : IsListCount f.0.form f.4

-- whole lines of the front, with lines behind
abbrev pub front_text : Front → List Line → List Line
front_text f rest = map whole (lines_of_head f.0) ++ (map whole (design_lines f.1) ++ (map whole (bound_lines f.0.status f.2) ++ (map whole (cut_lines f.0.form f.3) ++ (map whole (count_lines f.0.form f.4) ++ rest))))

-- what is read before the price lists is as it has to be, and the lines taken are its own
pub front_takes : (ls : List Line) (f : Front) (rest : List Line) → opening ls ≡ read_one f rest → IsFront f × (ls ≡ front_text f rest)
unfolding opening
front_takes ls f rest e =
    let (h, us, e1, f1) = taken head (λ h. front1 h) ls f rest e in
    let (d, vs, e2, f2) = taken (design h) (λ d. front2 h d) us f rest f1 in
    let (b, ws, e3, f3) = taken (bound h.status) (λ b. front3 h d b) vs f rest f2 in
    let (cuts, ys, e4, f4) = taken (load_cuts h.form h.sizes.nodes) (λ cuts. front4 h d b cuts) ws f rest f3 in
    let (n, zs, e5, f5) = taken (list_count h.form) (λ stated. done (front_with h d b cuts stated)) ys f rest f4 in
    let p = done_parts (front_with h d b cuts n) f zs rest f5 in
    let hh = head_takes ls h us e1 in
    let dd = design_takes h us d vs e2 in
    let bb = bound_read_takes h.status vs b ws e3 in
    let cs = cuts-takes h.form h.sizes.nodes ws cuts ys e4 in
    let nn = list-count-takes h.form ys n zs e5 in
    subst (λ (f : Front). IsFront f × (ls ≡ front_text f rest)) p.0 (
      record { head_is = hh.0; design_is = dd.0; bound_is = bb.0; cuts_are = cs.0; count_is = nn.0 },
      hh.1 ∙ ap (λ us. map whole (lines_of_head h) ++ us) (dd.1 ∙ ap (λ vs. map whole (design_lines d) ++ vs) (bb.1 ∙ ap (λ ws. map whole (bound_lines h.status b) ++ ws) (cs.1 ∙ ap (λ ys. map whole (cut_lines h.form cuts) ++ ys) (nn.1 ∙ ap (λ zs. map whole (count_lines h.form n) ++ zs) p.1)))),
    )

-- the lines of what may stand before the price lists are read as this
pub front_again : (f : Front) (rest : List Line) → IsFront f → opening (front_text f rest) ≡ Ok (f, rest)
unfolding opening
front_again f rest g =
    let h : Head = f.0 in
    let o : Result (Front × List Line) (List Line) = Ok (f, rest) in
    let ys : List Line = map whole (count_lines h.form f.4) ++ rest in
    let ws : List Line = map whole (cut_lines h.form f.3) ++ ys in
    let vs : List Line = map whole (bound_lines h.status f.2) ++ ws in
    let us : List Line = map whole (design_lines f.1) ++ vs in
    and_then head (λ h. front1 h) (map whole (lines_of_head h) ++ us) h us o (head_again h us g.head_is)
    (and_then (design h) (λ d. front2 h d) us f.1 vs o (design_again h f.1 vs g.design_is)
    (and_then (bound h.status) (λ b. front3 h f.1 b) vs f.2 ws o (bound_read_again h.status f.2 ws g.bound_is)
    (and_then (load_cuts h.form h.sizes.nodes) (λ cuts. front4 h f.1 f.2 cuts) ws f.3 ys o (cuts-again h.form h.sizes.nodes f.3 ys g.head_is.told.sizes.nodes g.cuts_are)
    (and_then (list_count h.form) (λ stated. done (front_with h f.1 f.2 f.3 stated)) ys f.4 rest o (list-count-again h.form f.4 rest g.count_is)
    (done_is (front_with h f.1 f.2 f.3 f.4) rest)))))

-- ---- all lines before the last

-- how many numbers a price list has
abbrev pub entries_on : Front → ℕ
entries_on f = entries_of f.0 f.3

-- what the lines of the tree depend on, where this stands before the price lists, and these are the lists
abbrev pub ground_on : Front → List (List ℕ) → Ground
ground_on f found = ground_with f.0 f.3 found

-- the lines of price lists
prices-split : (form : Form) (entries n : ℕ) (found : List (List ℕ)) (rest : List Line) → AreListed form entries n found → map whole (price_lines form n found) ++ rest ≡ map whole (count_lines form n) ++ (map whole (map price_line found) ++ rest)
unfolding price_lines
prices-split First entries n found rest h = ap (λ ls. map whole (map price_line ls) ++ rest) (sym h.1)
prices-split Second entries n found rest h = refl
prices-split Third entries n found rest h = refl

-- the lines of a draft's front are those that are read
pub front_same : (f : Front) (found : List (List ℕ)) (t : ℕ × List TreeNode) (rest : List Line) → IsListCount f.0.form f.4 → AreListed f.0.form (entries_on f) f.4 found
    → front_text f (map whole (map price_line found) ++ rest) ≡ front_of (stated_on f found t) ++ rest
unfolding front_lines head_lines
front_same f found t rest count listed =
    sym (ap (λ ws. ws ++ rest) (five (lines_of_head f.0) (design_lines f.1) (bound_lines f.0.status f.2) (cut_lines f.0.form f.3) (price_lines f.0.form f.4 found))
    ∙ regroup (map whole (lines_of_head f.0)) (map whole (design_lines f.1)) (map whole (bound_lines f.0.status f.2)) (map whole (cut_lines f.0.form f.3)) (map whole (price_lines f.0.form f.4 found)) rest
    ∙ ap (λ ws. map whole (lines_of_head f.0) ++ (map whole (design_lines f.1) ++ (map whole (bound_lines f.0.status f.2) ++ (map whole (cut_lines f.0.form f.3) ++ ws)))) (prices-split f.0.form (entries_on f) f.4 found rest listed))
  where
    five : (a b c d e : List (List ℕ)) → map whole (a ++ (b ++ (c ++ (d ++ e)))) ≡ map whole a ++ (map whole b ++ (map whole c ++ (map whole d ++ map whole e)))
    five a b c d e = map-append whole a (b ++ (c ++ (d ++ e))) ∙ ap (λ ws. map whole a ++ ws) (map-append whole b (c ++ (d ++ e)) ∙ ap (λ ws. map whole b ++ ws) (map-append whole c (d ++ e) ∙ ap (λ ws. map whole c ++ ws) (map-append whole d e)))

    regroup : (a b c d e rest : List Line) → (a ++ (b ++ (c ++ (d ++ e)))) ++ rest ≡ a ++ (b ++ (c ++ (d ++ (e ++ rest))))
    regroup a b c d e rest = simp append_assoc

-- the parts of a draft that states all its price lists
pub record AreParts (f : Front) (found : List (List ℕ)) (t : ℕ × List TreeNode) : Type 0 where
  pub front_is : IsFront f
  pub listed : AreListed f.0.form (entries_on f) f.4 found
  pub tree_is : IsTreeRead (ground_on f found) t.0 t.1

-- as many different price lists as stated are price lists as the version has them
pub listed_from : (form : Form) (entries n : ℕ) (found : List (List ℕ)) → IsListCount form n → length found ≡ n → AreNew entries [] found → AreListed form entries n found
listed_from First entries n [] count long new = (count, refl)
listed_from First entries n (list ∷ found) count long new = (let zero_is : n ≡ 0 = count in absurd (omega (arith, zero_is, long)))
listed_from Second entries n found count long new = (count, omega (arith, long), new)
listed_from Third entries n found count long new = (count, omega (arith, long), new)

-- reads the tree behind the price lists, and gives what is stated
abbrev pub before2 : Front → List (List ℕ) → LineReader Stated
before2 f found = bind (tree (ground_on f found)) λ t. done (stated_on f found t)

-- reads the price lists and the tree, and gives what is stated
abbrev pub before1 : Front → LineReader Stated
before1 f = bind (lists (entries_on f) f.4 []) λ found. before2 f found

-- what is read before the last line has parts as they have to be and all lists; the lines taken are its own
pub parts_take : (ls : List Line) (x : Stated) (rest : List Line) → before_end ls ≡ read_one x rest
    → (f : Front) × (found : List (List ℕ)) × (t : ℕ × List TreeNode) × AreParts f found t × (length found ≡ f.4) × (stated_on f found t ≡ x) × (ls ≡ front_of (stated_on f found t) ++ (stated_tree_lines (stated_on f found t) ++ rest))
unfolding before_end
parts_take ls x rest e =
    let (f, us, e1, f1) = taken opening (λ f. before1 f) ls x rest e in
    let (found, vs, e2, f2) = taken (lists (entries_on f) f.4 []) (λ found. before2 f found) us x rest f1 in
    let (t, ws, e3, f3) = taken (tree (ground_on f found)) (λ t. done (stated_on f found t)) vs x rest f2 in
    let p = done_parts (stated_on f found t) x ws rest f3 in
    let ff = front_takes ls f us e1 in
    let l = lists_take (entries_on f) f.4 [] us found vs e2 in
    let long : length found ≡ f.4 = ap length l.all ∙ l.count in
    let listed = listed_from f.0.form (entries_on f) f.4 found ff.0.count_is long (subst (AreNew (entries_on f) []) (sym l.all) l.new) in
    let tt' = tree_takes (ground_on f found) (good_listed f.0.form (entries_on f) f.4 found listed) vs t ws e3 in (
      f,
      found,
      t,
      record { front_is = ff.0; listed = listed; tree_is = tt'.0 },
      long,
      p.0,
      ff.1 ∙ ap (front_text f) (l.lines ∙ ap (λ ls. map whole (map price_line ls) ++ vs) (sym l.all)) ∙ front_same f found t vs ff.0.count_is listed
          ∙ ap (λ vs. front_of (stated_on f found t) ++ vs) (tt'.1 ∙ ap (λ ws. stated_tree_lines (stated_on f found t) ++ ws) p.1),
    )

new-from : (form : Form) (entries n : ℕ) (found : List (List ℕ)) → AreListed form entries n found → AreNew entries [] found
unfolding AreNew
new-from First entries n found h = subst (AreNew entries []) (sym h.1) tt
new-from Second entries n found h = h.2
new-from Third entries n found h = h.2

-- the lines of parts that are as they have to be, with all price lists stated, are read as what these state
pub parts_again : (f : Front) (found : List (List ℕ)) (t : ℕ × List TreeNode) (rest : List Line) → AreParts f found t → length found ≡ f.4
    → before_end (front_of (stated_on f found t) ++ (stated_tree_lines (stated_on f found t) ++ rest)) ≡ Ok (stated_on f found t, rest)
unfolding before_end
parts_again f found t rest g long =
    let o : Result (Stated × List Line) (List Line) = Ok (stated_on f found t, rest) in
    let vs : List Line = stated_tree_lines (stated_on f found t) ++ rest in
    let us : List Line = map whole (map price_line found) ++ vs in
    ap (bind opening λ f. before1 f) (sym (front_same f found t vs g.front_is.count_is g.listed))
    ∙ and_then opening (λ f. before1 f) (front_text f us) f us o (front_again f us g.front_is)
    (and_then (lists (entries_on f) f.4 []) (λ found. before2 f found) us found vs o
    (ap (λ n. lists (entries_on f) n [] us) (sym long) ∙ lists_again (entries_on f) [] found vs (new-from f.0.form (entries_on f) f.4 found g.listed))
    (and_then (tree (ground_on f found)) (λ t. done (stated_on f found t)) vs t rest o (tree_again (ground_on f found) (good_listed f.0.form (entries_on f) f.4 found g.listed) g.front_is.head_is.told.sizes.nodes t.0 t.1 rest g.tree_is)
    (done_is (stated_on f found t) rest)))

lists-stopped : (f : Front) (us : List Line) → lists (entries_on f) f.4 [] us ≡ Err [] → before1 f us ≡ Err []
unfolding bind
lists-stopped f us e = ap (λ r. r >>= λ p. before2 f p.0 p.1) e

-- where price lists lack, the text ends
pub parts_short : (f : Front) (found : List (List ℕ)) (t : ℕ × List TreeNode) → IsFront f → AreListed f.0.form (entries_on f) f.4 found → length found < f.4 → before_end (front_of (stated_on f found t)) ≡ Err []
unfolding before_end
parts_short f found t g listed short =
    let us : List Line = map whole (map price_line found) in
    let same : front_text f us ≡ front_of (stated_on f found t) = ap (front_text f) (sym (append-nil us)) ∙ front_same f found t [] g.count_is listed ∙ append-nil (front_of (stated_on f found t)) in
    ap (bind opening λ f. before1 f) (sym same)
    ∙ and_then opening (λ f. before1 f) (front_text f us) f us (Err []) (front_again f us g)
    (lists-stopped f us (lists_short (entries_on f) f.4 [] found (new-from f.0.form (entries_on f) f.4 found listed) short))

-- ---- parts and drafts

status-fits : (s : PlanStatus) (d : Option (ℕ × Design)) (b : Option ℤ) → cost_allowed s (cost_in d) ≡ true → IsBoundRead s b → FitsStatus s d b
status-fits Optimal None b c h = absurd cc
status-fits Optimal (Some x) b c h = (refl, h)
status-fits Infeasible None b c h = (refl, h)
status-fits Infeasible (Some x) b c h = absurd cc
status-fits Undecided d b c h = tt

bound-field : (s : PlanStatus) (b : Option ℤ) → IsBoundRead s b → IfSome b IsBoundField
bound-field Optimal None h = tt
bound-field Optimal (Some x) h = absurd cc
bound-field Infeasible None h = tt
bound-field Infeasible (Some x) h = absurd cc
bound-field Undecided b h = h

design-fits : (demands links : ℕ) (d : Option (ℕ × Design)) → IsDesignIn demands links d → IfSome d (λ design. FitsDesign demands links design.1)
design-fits demands links None h = tt
design-fits demands links (Some x) h = h.0

design-fields : (demands links : ℕ) (d : Option (ℕ × Design)) → IsDesignIn demands links d → IfSome (cost_in d) (λ c. c < 2 ^ 128) → IfSome d (λ design. HasDesignFields design.0 design.1)
design-fields demands links None h c = tt
design-fields demands links (Some x) h c = record { cost_within = c; arcs = h.1; counts_within = h.2 }

firsts : (nodes links : ℕ) (ns : List TreeNode) → AllByRecursion (λ node. FitsRecord nodes links node × HasRecordFields node) ns → AllByRecursion (FitsRecord nodes links) ns × AllByRecursion HasRecordFields ns
firsts nodes links [] h = (tt, tt)
firsts nodes links (n ∷ ns) h = (let more = firsts nodes links ns h.1 in ((h.0.0, more.0), (h.0.1, more.1)))

seconds : (nodes links : ℕ) (ns : List TreeNode) → AllByRecursion (FitsRecord nodes links) ns → AllByRecursion HasRecordFields ns → AllByRecursion (λ node. FitsRecord nodes links node × HasRecordFields node) ns
seconds nodes links [] h k = tt
seconds nodes links (n ∷ ns) h k = ((h.0, k.0), seconds nodes links ns h.1 k.1)

-- parts that are as they have to be state a draft
pub draft_from : (f : Front) (found : List (List ℕ)) (t : ℕ × List TreeNode) → AreParts f found t → IsDraft (stated_on f found t)
draft_from f found t g =
    let h : Head = f.0 in
    let each = firsts h.sizes.nodes (entries_on f) t.1 g.tree_is.each in
    let cuts = both-of (λ (cut : LoadCut). length cut.nodes ≡ h.sizes.nodes) HasCutFields f.3 g.front_is.cuts_are.each in
    record {
      sizes = record { nodes = g.front_is.head_is.told.sizes.nodes; links = g.front_is.head_is.told.sizes.links; demands = g.front_is.head_is.told.sizes.demands; some_budget = g.front_is.head_is.some_budget; budget = g.front_is.head_is.budget };
      told = g.front_is.head_is.told.told;
      status = status-fits h.status f.1 f.2 g.front_is.design_is.cost.allowed g.front_is.bound_is;
      design = design-fits h.sizes.demands h.sizes.links f.1 g.front_is.design_is.design_in;
      fields = record {
        examined_within = g.front_is.head_is.examined;
        design_fields = design-fields h.sizes.demands h.sizes.links f.1 g.front_is.design_is.design_in g.front_is.design_is.cost.small;
        bound_field = bound-field h.status f.2 g.front_is.bound_is;
        cut_fields = cuts.1;
        record_fields = each.1;
      };
      cuts = record { few = g.front_is.cuts_are.few; each = All-from_recursion (λ (cut : LoadCut). length cut.nodes ≡ h.sizes.nodes) f.3 cuts.0 };
      cuts_told = g.front_is.cuts_are.told;
      listed = g.listed;
      some = g.tree_is.some;
      few = g.tree_is.few;
      grown = g.tree_is.grown;
      records = each.0;
      lines = g.tree_is.has_lines;
      named = g.tree_is.names;
    }

-- what the first five lines of a draft tell
abbrev pub head_of : Stated → Head
head_of s = record { form = s.form; sizes = sizes_at s.plan.nodes s.plan.links s.plan.demands s.plan.both; status = s.plan.status; budget = s.plan.budget; examined = s.plan.examined }

-- what stands before the price lists of a draft
abbrev pub front_parts : Stated → Front
front_parts s = (head_of s, s.plan.design, s.plan.bound, s.plan.cuts, s.stated)

allowed-by : (s : PlanStatus) (d : Option (ℕ × Design)) (b : Option ℤ) → FitsStatus s d b → cost_allowed s (cost_in d) ≡ true
allowed-by Optimal None b h = absurd (let bad = h.0 in cc)
allowed-by Optimal (Some x) b h = refl
allowed-by Infeasible None b h = refl
allowed-by Infeasible (Some x) b h = absurd (let bad = h.0 in cc)
allowed-by Undecided None b h = refl
allowed-by Undecided (Some x) b h = refl

bound-by : (s : PlanStatus) (d : Option (ℕ × Design)) (b : Option ℤ) → FitsStatus s d b → IfSome b IsBoundField → IsBoundRead s b
bound-by Optimal d b h k = h.1
bound-by Infeasible d b h k = h.1
bound-by Undecided d b h k = k

cost-small : (d : Option (ℕ × Design)) → IfSome d (λ design. HasDesignFields design.0 design.1) → IfSome (cost_in d) (λ c. c < 2 ^ 128)
cost-small None h = tt
cost-small (Some x) h = h.cost_within

design-in : (demands links : ℕ) (d : Option (ℕ × Design)) → IfSome d (λ design. FitsDesign demands links design.1) → IfSome d (λ design. HasDesignFields design.0 design.1) → IsDesignIn demands links d
design-in demands links None h k = tt
design-in demands links (Some x) h k = (h, k.arcs, k.counts_within)

count-by : (form : Form) (entries n : ℕ) (found : List (List ℕ)) → AreListed form entries n found → IsListCount form n
count-by First entries n found h = h.0
count-by Second entries n found h = h.0
count-by Third entries n found h = h.0

cuts-by : (form : Form) (nodes : ℕ) (cuts : List LoadCut) → FitsCuts nodes cuts → TellsCuts form cuts → AllByRecursion HasCutFields cuts → AreCutsRead form nodes cuts
cuts-by form nodes cuts fits told fields = record { few = fits.few; each = good_cuts nodes cuts fits fields; told = told }

-- the parts of a draft are as they have to be
pub parts_from : (s : Stated) → IsDraft s → AreParts (front_parts s) s.lists (s.count, s.plan.tree)
parts_from s g =
    let plan : Plan = s.plan in
    record {
      front_is = record {
        head_is = record { told = record { sizes = record { nodes = g.sizes.nodes; links = g.sizes.links; demands = g.sizes.demands }; told = g.told }; some_budget = g.sizes.some_budget; budget = g.sizes.budget; examined = g.fields.examined_within };
        design_is = record { cost = record { allowed = allowed-by plan.status plan.design plan.bound g.status; small = cost-small plan.design g.fields.design_fields }; design_in = design-in plan.demands plan.links plan.design g.design g.fields.design_fields };
        bound_is = bound-by plan.status plan.design plan.bound g.status g.fields.bound_field;
        cuts_are = cuts-by s.form plan.nodes plan.cuts g.cuts g.cuts_told g.fields.cut_fields;
        count_is = count-by s.form (numbers_in plan) s.stated s.lists g.listed;
      };
      listed = g.listed;
      tree_is = record { some = g.some; few = g.few; grown = g.grown; each = seconds plan.nodes (numbers_in plan) plan.tree g.records g.fields.record_fields; has_lines = g.lines; names = g.named };
    }

-- what is read before the last line is a draft with all price lists stated, and the lines taken are its own
pub draft_takes : (ls : List Line) (s : Stated) (rest : List Line) → before_end ls ≡ read_one s rest → IsDraft s × (length s.lists ≡ s.stated) × (ls ≡ front_of s ++ (stated_tree_lines s ++ rest))
draft_takes ls s rest e =
    let (f, found, t, g, long, is, lines) = parts_take ls s rest e in
    subst (λ (s : Stated). IsDraft s × (length s.lists ≡ s.stated) × (ls ≡ front_of s ++ (stated_tree_lines s ++ rest))) is (draft_from f found t g, long, lines)

-- the lines of a draft with all price lists stated are read as this draft
pub draft_again : (s : Stated) (rest : List Line) → IsDraft s → length s.lists ≡ s.stated → before_end (front_of s ++ (stated_tree_lines s ++ rest)) ≡ Ok (s, rest)
draft_again s rest g long = parts_again (front_parts s) s.lists (s.count, s.plan.tree) rest (parts_from s g) long

-- where price lists lack in a draft, reading stops at the end behind those that are there
pub draft_short : (s : Stated) → IsDraft s → length s.lists < s.stated → before_end (front_of s) ≡ Err []
draft_short s g short = (let p = parts_from s g in parts_short (front_parts s) s.lists (s.count, s.plan.tree) p.front_is p.listed short)

-- ---- a whole plan

-- the lines of a whole text
whole-lines : (s : Stated) → length s.lists ≡ s.stated → s.lists ≡ lists_in s.form s.plan.tree → length s.plan.tree ≡ s.count → front_of s ++ (stated_tree_lines s ++ whole end_line ∷ []) ≡ map whole (plan_lines s.form s.plan)
whole-lines s long lists_are count =
    let tree' : List (List ℕ) = tree_lines s.form s.lists s.count s.plan.tree in
    ap (λ ws. front_of s ++ ws) (sym (map-append whole tree' (end_line ∷ []))) ∙ sym (map-append whole (front_lines s.form s.stated s.lists s.plan) (tree' ++ end_line ∷ []))
    ∙ ap (λ n. map whole (front_lines s.form n s.lists s.plan ++ (tree_lines s.form s.lists s.count s.plan.tree ++ end_line ∷ []))) (sym long)
    ∙ ap (λ n. map whole (front_lines s.form (length s.lists) s.lists s.plan ++ (tree_lines s.form s.lists n s.plan.tree ++ end_line ∷ []))) (sym count)
    ∙ ap (λ ls. map whole (lines_with s.form ls s.plan)) lists_are

-- lines that are read as a plan are those of a text that spells it
pub whole_takes : (ls : List Line) (plan : Plan) → whole_plan ls ≡ Ok plan → SpellsPlan (text_of ls) plan
unfolding whole_plan plan_text
whole_takes ls plan e =
    let (d, first, later) = bind_ok (before_end ls) ending plan e in
    let s : Stated = d.0 in
    let g = draft_takes ls s d.1 first in
    let (complete, last) = when_err (is_complete s) (last_line s.plan (one (fixed_of end_line) d.1)) d.1 plan later in
    let (same, end) = last-takes s.plan d.1 plan last in
    let parts = and_parts (are_trees 1 s.plan.tree) (has_counts s && is_asked s.form s.plan.cuts s.plan.tree) complete in
    let met = and_parts (has_counts s) (is_asked s.form s.plan.cuts s.plan.tree) parts.1 in
    let counts = and_parts (length s.plan.tree == s.count) (named_from s.form s.lists 0 s.plan.tree == length s.lists) met.0 in
    let count : length s.plan.tree ≡ s.count = eqb-true (length s.plan.tree) s.count counts.0 in
    let entries : ℕ = numbers_in s.plan in
    let lists_are : s.lists ≡ lists_in s.form s.plan.tree = lists_told s.form entries s.stated s.lists s.plan.tree g.0.listed g.0.named (eqb-true (named_from s.form s.lists 0 s.plan.tree) (length s.lists) counts.1) in
    subst (SpellsPlan (text_of ls)) same (record {
      spellable = record {
        sizes = g.0.sizes;
        status = g.0.status;
        design = g.0.design;
        whole = subst IsTrue (sym parts.0) refl;
        cuts = g.0.cuts;
        records = record { few = subst (λ k. k ≤ MAX_RECORDS) (sym count) g.0.few; each = All-from_recursion (FitsRecord s.plan.nodes entries) s.plan.tree g.0.records };
      };
      fields = g.0.fields;
      form = s.form;
      told = g.0.told;
      cuts_told = g.0.cuts_told;
      lines = g.0.lines;
      asked = subst IsTrue (sym met.1) refl;
      is_text = ap text_of (g.2 ∙ ap (λ us. front_of s ++ (stated_tree_lines s ++ us)) end ∙ whole-lines s g.1 lists_are count);
    })
  where
    when_err : (t : Bool) (r : Result Plan (List Line)) (us : List Line) (plan : Plan) → cond t r (Err us) ≡ Ok plan → (t ≡ true) × (r ≡ Ok plan)
    when_err true r us plan e = (refl, e)
    when_err false r us plan e = absurd cc

    last-by : (found : Plan) (ls : List Line) (plan : Plan) (r : Result ((Unit {0}) × List Line) (List Line)) → one (fixed_of end_line) ls ≡ r → last_line found r ≡ Ok plan → (found ≡ plan) × (ls ≡ whole end_line ∷ [])
    last-by found ls plan (Err us) h e = absurd cc
    last-by found ls plan (Ok (x, [])) h e = (let (body, line, read) = one_line (fixed_of end_line) ls x [] h in (cc, line ∙ ap (λ b. whole b ∷ []) (fixed_takes end_line body x read)))
    last-by found ls plan (Ok (x, l ∷ us)) h e = absurd cc

    last-takes : (found : Plan) (ls : List Line) (plan : Plan) → last_line found (one (fixed_of end_line) ls) ≡ Ok plan → (found ≡ plan) × (ls ≡ whole end_line ∷ [])
    last-takes found ls plan e = last-by found ls plan (one (fixed_of end_line) ls) refl e

-- what the text of a plan states
abbrev pub stated_by : Form → Plan → Stated
stated_by form plan = record { form = form; stated = length (lists_in form plan.tree); lists = lists_in form plan.tree; count = length plan.tree; plan = plan }

-- the price lists of a plan that can be spelt can be told in a text of each version
pub plan_ready : (form : Form) (plan : Plan) → IsSpellable plan → HasFields plan → AreReady form (numbers_in plan) plan.tree
plan_ready form plan s f =
    lists_ready form plan.nodes (numbers_in plan) plan.tree s.whole s.records.few
    (seconds plan.nodes (numbers_in plan) plan.tree (recursion_from_All (FitsRecord plan.nodes (numbers_in plan)) plan.tree s.records.each) f.record_fields)

-- what a text that spells a plan states is a draft
pub spelled_draft : (text : List ℕ) (plan : Plan) (s : SpellsPlan text plan) → IsDraft (stated_by s.form plan)
spelled_draft text plan s =
    let r = plan_ready s.form plan s.spellable s.fields in
    record {
      sizes = s.spellable.sizes;
      told = s.told;
      status = s.spellable.status;
      design = s.spellable.design;
      fields = s.fields;
      cuts = s.spellable.cuts;
      cuts_told = s.cuts_told;
      listed = r.listed;
      some = some plan.tree s.spellable.whole;
      few = s.spellable.records.few;
      grown = grown_whole plan.tree 1 (true-is (are_trees 1 plan.tree) s.spellable.whole);
      records = recursion_from_All (FitsRecord plan.nodes (numbers_in plan)) plan.tree s.spellable.records.each;
      lines = s.lines;
      named = r.named;
    }
  where
    true-is : (b : Bool) → IsTrue b → b ≡ true
    true-is b h = h

    some : (ns : List TreeNode) → IsTrue (are_trees 1 ns) → 1 ≤ length ns
    some [] h = absurd (let bad : false ≡ true = h in cc)
    some (n ∷ ns) h = omega arith

plan-complete : (form : Form) (plan : Plan) → IsSpellable plan → HasFields plan → IsTrue (is_asked form plan.cuts plan.tree) → is_complete (stated_by form plan) ≡ true
plan-complete form plan s f asked =
    let lists : List (List ℕ) = lists_in form plan.tree in
    let r = plan_ready form plan s f in
    and_from (are_trees 1 plan.tree) (has_counts (stated_by form plan) && is_asked form plan.cuts plan.tree) s.whole
    (and_from (has_counts (stated_by form plan)) (is_asked form plan.cuts plan.tree)
    (and_from (length plan.tree == length plan.tree) (named_from form lists 0 plan.tree == length lists) (eq-eqb (length plan.tree) (length plan.tree) refl) (eq-eqb (named_from form lists 0 plan.tree) (length lists) r.ends)) asked)

-- the lines of what the text of a plan states are those of the plan
pub plan_drafted : (form : Form) (plan : Plan) → IsSpellable plan → HasFields plan → IsTrue (is_asked form plan.cuts plan.tree) → draft_lines (stated_by form plan) ≡ map whole (plan_lines form plan)
plan_drafted form plan s f asked =
    let x : Stated = stated_by form plan in
    ap (λ b. front_of x ++ cond b (stated_tree_lines x ++ closing_lines x) []) (eq-eqb (length x.lists) x.stated refl)
    ∙ ap (λ b. front_of x ++ (stated_tree_lines x ++ cond b (whole end_line ∷ []) [])) (plan-complete form plan s f asked)
    ∙ whole-lines x refl refl refl

-- the lines of a text that spells a plan are read as it
pub whole_again : (text : List ℕ) (plan : Plan) (s : SpellsPlan text plan) → whole_plan (map whole (plan_lines s.form plan)) ≡ Ok plan
unfolding whole_plan
whole_again text plan s =
    let x : Stated = stated_by s.form plan in
    ap (λ ls. before_end ls >>= ending) (sym (whole-lines x refl refl refl))
    ∙ ap (λ r. r >>= ending) (draft_again x (whole end_line ∷ []) (spelled_draft text plan s) refl)
    ∙ ap (λ t. cond t (last_line plan (one (fixed_of end_line) (whole end_line ∷ []))) (Err (whole end_line ∷ []))) (plan-complete s.form plan s.spellable s.fields s.asked)
    ∙ ap (last_line plan) (one_again (fixed_of end_line) end_line tt [] (fixed_again end_line))

-- ---- texts

-- a text that is read as a plan spells this plan
pub spells_takes : (text : List ℕ) (plan : Plan) → plan_of text ≡ Ok plan → SpellsPlan text plan
unfolding plan_of
spells_takes text plan e = subst (λ (t : List ℕ). SpellsPlan t plan) (text_of_lines text) (whole_takes (lines_of text) plan (read-ok (whole_plan (lines_of text)) plan e))
  where
    read-ok : (r : Result Plan (List Line)) (plan : Plan) → read_as (length text) r ≡ Ok plan → r ≡ Ok plan
    read-ok (Ok p) plan e = (let same : p ≡ plan = cc in ap (λ (p : Plan). Ok p) same)
    read-ok (Err ls) plan e = absurd cc

nil-lines : (ls : List Line) → ls ++ lines_of [] ≡ ls
unfolding lines_of
nil-lines ls = append-nil ls

-- the text of a plan that can be spelt, cut into lines, gives the lines of this plan
pub plan_text_lines : (form : Form) (plan : Plan) → IsSpellable plan → HasFields plan → lines_of (plan_text form plan) ≡ map whole (plan_lines form plan)
unfolding plan_text
plan_text_lines form plan s f =
    ap lines_of (sym (append-nil (text_of (map whole (plan_lines form plan))))) ∙ lines_of_text (plan_lines form plan) [] (plan_lacks form plan s f (plan_ready form plan s f)) ∙ nil-lines (map whole (plan_lines form plan))

-- a text that spells a plan is read as this plan
pub spells_again : (text : List ℕ) (plan : Plan) → SpellsPlan text plan → plan_of text ≡ Ok plan
unfolding plan_of
spells_again text plan s =
    ap (λ ls. read_as (length text) (whole_plan ls)) (ap lines_of s.is_text ∙ plan_text_lines s.form plan s.spellable s.fields)
    ∙ ap (read_as (length text)) (whole_again text plan s)
