-- No line of a plan has a line end in it.
use Rattle.std.proofs.Common.{◌≡◌, ℕ, suc, ◌^◌, ◌<◌, ◌≤◌, ◌==◌, ◌&&◌, ◌/◌, ◌%◌, inl, inr, not, Bool, true, false, List, [], ◌∷◌, ◌++◌, length, map, codes, decimal, Option, Some, None, refl, ℤ, pos, negsuc, arith}
use Rattle.std.specs.Prelude.{IfSome}
use Rattle.std.specs.Str.Parse.{AllDigits}
use Rattle.std.specs.List.{AllByRecursion}
use Rattle.std.proofs.lemmas.Bool.{cases_Bool, eqb-false}
use Rattle.std.proofs.lemmas.List.{length-map}
use Rattle.std.proofs.lemmas.List.Elements.{recursion_from_All}
use Rattle.scaled_numbers.specs.Canonical.{grains_text, behind_point, fraction_digits}
use Rattle.plan_base.specs.declared.ids.ArcId.{ArcId}
use Rattle.plan_base.specs.declared.path.Design.{Design}
use Rattle.proof_tree.specs.declared.cuts.Cut.{Cut as LoadCut}
use Rattle.proof_tree.specs.declared.tree.Evidence.{Evidence}
use Rattle.proof_tree.specs.declared.tree.Evidence.TheVariants.{Bound, Routed, Overfull, Cut, Far, Crowd, Open}
use Rattle.proof_tree.specs.declared.tree.TreeNode.{TreeNode}
use Rattle.proof_tree.specs.declared.tree.TreeNode.TheVariants.{Split, Loads, Leaf}
use Rattle.proof_tree.specs.declared.plan.PlanStatus.{PlanStatus}
use Rattle.proof_tree.specs.declared.plan.PlanStatus.TheVariants.{Optimal, Infeasible, Undecided}
use Rattle.proof_tree.specs.declared.plan.Plan.{Plan}
use Rattle.plan_base.specs.declared.limits.TheConstants.{MAX_NODES, MAX_MODULES}
use Rattle.proof_tree.specs.declared.limits.TheConstants.{MAX_PATH_ARCS, MAX_CUTS}
use Rattle.proof_tree.specs.Spellings.{numbers_in, FitsEvidence, FitsRecord, FitsDesign, FitsCuts, IsSpellable}
use Rattle.cert_format.specs.declared.form.Form.{Form}
use Rattle.cert_format.specs.declared.form.Form.TheVariants.{First, Second, Third}
use Rattle.cert_format.specs.declared.limits.TheConstants.{MAX_LISTS}
use Rattle.cert_format.specs.Lists.{lists_in, shown, width}
use Rattle.cert_format.specs.Drafts.{AreStated, AreListed}
use Rattle.plan_tokens.specs.Words.{numerals, row}
use Rattle.cert_format.specs.Grammar.{
  header_line,
  both_word,
  both_text,
  count_line,
  status_line,
  signed_text,
  path_line,
  modules_line,
  leaf_line,
  record_line,
  end_line,
  head_lines,
  design_lines,
  bound_lines,
  numbers_of_cut,
  cut_line,
  cut_lines,
  price_line,
  list_lines,
  price_lines,
  front_lines,
  tree_lines,
  plan_lines,
  arc_numbers,
  counted,
  members,
  AreArcs,
  HasCutFields,
  HasLeafFields,
  HasRecordFields,
  HasDesignFields,
  IsBoundField,
  HasFields,
}
use Rattle.plan_tokens.specs.Cuts.{Lacks}
use Rattle.plan_tokens.proofs.Cutting.{lacks-append}
use Rattle.plan_tokens.proofs.NumberWords.{digits-lack, decimal_digits}
use Rattle.plan_tokens.proofs.Digits.{grains_scaled}
use Rattle.cert_format.proofs.BodyLaws.{AreSmall, arcs_small, counts_small}
use Rattle.cert_format.proofs.RecordLaws.{cut_small, side_small, small_append}
use Rattle.cert_format.proofs.CutLaws.{GoodCut, good_cuts, cut_numbers_small}
use Rattle.cert_format.proofs.ListLaws.{AreReady, good_listed, lists_small}
use Rattle.cert_format.proofs.ShownLaws.{shown_all}
use Rattle.cert_format.proofs.ReadingLaws.{GoodPath, GoodCounts, pair_of}

-- no byte of these is a line end
abbrev has_no_end : List ℕ → Bool
has_no_end [] = true
has_no_end (b ∷ bytes) = not (b == 10) && has_no_end bytes

lacks-by : (bytes : List ℕ) → has_no_end bytes ≡ true → Lacks 10 bytes
lacks-by [] e = tt
lacks-by (b ∷ bytes) e =
    elim (cases_Bool (b == 10)) [
      | inl t ↦ (let bad = rw t at e in absurd cc)
      | inr f ↦ (eqb-false b 10 f, lacks-by bytes (rw f at e))
    ]

numerals-lack : (ns : List ℕ) → AreSmall ns → Lacks 10 (numerals ns)
numerals-lack [] h = tt
numerals-lack (n ∷ ns) h = ((λ e. absurd (omega arith)), lacks-append 10 (decimal n) (numerals ns) (digits-lack 10 (decimal n) (inl (omega arith)) (decimal_digits n h.0)) (numerals-lack ns h.1))

row-lacks : (word ns : List ℕ) → has_no_end word ≡ true → AreSmall ns → Lacks 10 (row word ns)
row-lacks word ns w h = lacks-append 10 word (numerals ns) (lacks-by word w) (numerals-lack ns h)

grains-lack : (v : ℕ) → v < 2 ^ 128 → Lacks 10 (grains_text v 12)
unfolding grains_text
grains-lack v small =
    let s = grains_scaled v small in
    lacks-append 10 (decimal (v / 10 ^ 12)) (behind_point (fraction_digits 12 (v % 10 ^ 12))) (digits-lack 10 (decimal (v / 10 ^ 12)) (inl (omega arith)) s.whole_digits) (point (fraction_digits 12 (v % 10 ^ 12)) s.fraction_digits)
  where
    point : (ds : List ℕ) → AllDigits 10 ds → Lacks 10 (behind_point ds)
    point [] a = tt
    point (d ∷ ds) a = ((λ e. absurd (omega arith)), digits-lack 10 (d ∷ ds) (inl (omega arith)) a)

signed-lacks : (b : ℤ) → IsBoundField b → Lacks 10 (signed_text b)
signed-lacks (pos n) small = grains-lack n (omega arith)
signed-lacks (negsuc n) small = ((λ e. absurd (omega arith)), grains-lack (suc n) (omega arith))

rec-append : (xs ys : List (List ℕ)) → AllByRecursion (Lacks 10) xs → AllByRecursion (Lacks 10) ys → AllByRecursion (Lacks 10) (xs ++ ys)
rec-append [] ys h k = k
rec-append (x ∷ xs) ys h k = (h.0, rec-append xs ys h.1 k)

rec-map : {A : Type 0} (P : A → Type 0) (print : A → List ℕ) → ((x : A) → P x → Lacks 10 (print x)) → (xs : List A) → AllByRecursion P xs → AllByRecursion (Lacks 10) (map print xs)
rec-map P print law [] h = tt
rec-map P print law (x ∷ xs) h = (law x h.0, rec-map P print law xs h.1)

word-lacks : (both : Bool) → Lacks 10 (both_word both)
word-lacks true = lacks-by (codes " BOTH") refl
word-lacks false = lacks-by (codes " ONE") refl

both-lacks : (form : Form) (both : Bool) → Lacks 10 (both_text form both)
both-lacks First both = tt
both-lacks Second both = word-lacks both
both-lacks Third both = word-lacks both

header-lacks : (form : Form) → Lacks 10 (header_line form)
header-lacks First = lacks-by (header_line First) refl
header-lacks Second = lacks-by (header_line Second) refl
header-lacks Third = lacks-by (header_line Third) refl

head-lacks : (form : Form) (plan : Plan) → IsSpellable plan → HasFields plan → AllByRecursion (Lacks 10) (head_lines form plan)
unfolding head_lines
head-lacks form plan s f = (
  header-lacks form,
  (
    lacks-append 10 (count_line plan.nodes plan.links plan.demands) (both_text form plan.both)
        (row-lacks (codes "SIZE") (plan.nodes ∷ plan.links ∷ plan.demands ∷ []) refl (omega (arith, s.sizes.nodes), (omega (arith, s.sizes.links), (omega (arith, s.sizes.demands), tt)))) (both-lacks form plan.both),
    (
      status-lacks plan.status,
      (
        row-lacks (codes "BUDGET") (plan.budget ∷ []) refl (omega (arith, s.sizes.budget), tt),
        (
          row-lacks (codes "EXAMINED") (plan.examined ∷ []) refl (omega (arith, f.examined_within), tt),
          tt,
        ),
      ),
    ),
  ),
)
  where
    status-lacks : (s : PlanStatus) → Lacks 10 (status_line s)
    status-lacks Optimal = lacks-by (codes "STATUS OPTIMAL") refl
    status-lacks Infeasible = lacks-by (codes "STATUS INFEASIBLE") refl
    status-lacks Undecided = lacks-by (codes "STATUS UNDECIDED") refl

path-lacks : (arcs : List ArcId) → GoodPath arcs → Lacks 10 (path_line arcs)
path-lacks arcs g = row-lacks (codes "PATH") (counted (arc_numbers arcs)) refl (omega (arith, g.0, length-map arcs (λ (a : ArcId). a.0)), arcs_small arcs g.1)

modules-lack : (counts : List ℕ) → GoodCounts counts → Lacks 10 (modules_line counts)
modules-lack counts g = row-lacks (codes "MODULES") (counted counts) refl (omega (arith, g.0), counts_small counts g.1)

design-lacks : (demands links : ℕ) (d : Option (ℕ × Design)) → IfSome d (λ design. FitsDesign demands links design.1) → IfSome d (λ design. HasDesignFields design.0 design.1) → AllByRecursion (Lacks 10) (design_lines d)
unfolding design_lines
design-lacks demands links None h k = (lacks-by (codes "COST none") refl, tt)
design-lacks demands links (Some d) h k = (
  lacks-append 10 (codes "COST ") (grains_text d.0 12) (lacks-by (codes "COST ") refl) (grains-lack d.0 k.cost_within),
  rec-append (map path_line d.1.paths) (map modules_line d.1.counts)
      (rec-map GoodPath path_line path-lacks d.1.paths (pair_of (λ (arcs : List ArcId). length arcs ≤ MAX_PATH_ARCS) AreArcs d.1.paths (recursion_from_All (λ (arcs : List ArcId). length arcs ≤ MAX_PATH_ARCS) d.1.paths h.short_paths) k.arcs))
      (rec-map GoodCounts modules_line modules-lack d.1.counts
      (pair_of (λ (counts : List ℕ). length counts ≤ MAX_MODULES) (λ counts. AllByRecursion (λ c. c < 2 ^ 64) counts) d.1.counts (recursion_from_All (λ (counts : List ℕ). length counts ≤ MAX_MODULES) d.1.counts h.short_lists) k.counts_within)),
)

bound-lacks : (s : PlanStatus) (b : Option ℤ) → IfSome b IsBoundField → AllByRecursion (Lacks 10) (bound_lines s b)
unfolding bound_lines
bound-lacks Optimal b h = tt
bound-lacks Infeasible b h = tt
bound-lacks Undecided None h = (lacks-by (codes "BOUND none") refl, tt)
bound-lacks Undecided (Some b) h = (lacks-append 10 (codes "BOUND ") (signed_text b) (lacks-by (codes "BOUND ") refl) (signed-lacks b h), tt)

leaf-lacks : (nodes links : ℕ) (e : Evidence) → nodes ≤ MAX_NODES → FitsEvidence nodes links e → HasLeafFields e → Lacks 10 (leaf_line e)
unfolding leaf_line
leaf-lacks nodes links (Bound ps) few h k = row-lacks (codes "PRICED") ps refl k
leaf-lacks nodes links Routed few h k = lacks-by (codes "ROUTED") refl
leaf-lacks nodes links (Overfull link) few h k = row-lacks (codes "OVERFULL") (link.0 ∷ []) refl (omega (arith, k), tt)
leaf-lacks nodes links (Cut demand reached) few h k = row-lacks (codes "CUT") (demand.0 ∷ counted (members 0 reached)) refl (cut_small nodes demand.0 reached few k h)
leaf-lacks nodes links (Far demand) few h k = row-lacks (codes "FAR") (demand.0 ∷ []) refl (omega (arith, k), tt)
leaf-lacks nodes links (Crowd ps) few h k = row-lacks (codes "CROWD") ps refl k
leaf-lacks nodes links (Open ps) few h k = row-lacks (codes "OPEN") ps refl k

record-lacks : (nodes links : ℕ) → nodes ≤ MAX_NODES → (node : TreeNode) → FitsRecord nodes links node × HasRecordFields node → Lacks 10 (record_line node)
unfolding record_line
record-lacks nodes links few (Split demand at left right) h =
    row-lacks (codes "SPLIT") (demand.0 ∷ at.0 ∷ (counted (arc_numbers left) ++ counted (arc_numbers right))) refl
    (omega (arith, h.1.0), (omega (arith, h.1.1), small_append (counted (arc_numbers left)) (counted (arc_numbers right)) (side_small left h.0.0 h.1.2) (side_small right h.0.1 h.1.3)))
record-lacks nodes links few (Loads place load) h = row-lacks (codes "LOADS") (place ∷ load ∷ []) refl (omega (arith, h.1.0), (omega (arith, h.1.1), tt))
record-lacks nodes links few (Leaf e) h = leaf-lacks nodes links e few h.0 h.1

cuts-lack : (form : Form) (nodes : ℕ) (cuts : List LoadCut) → nodes ≤ MAX_NODES → FitsCuts nodes cuts → AllByRecursion HasCutFields cuts → AllByRecursion (Lacks 10) (cut_lines form cuts)
unfolding cut_lines
cuts-lack First nodes cuts few fits fields = tt
cuts-lack Second nodes cuts few fits fields = tt
cuts-lack Third nodes cuts few fits fields = (
  row-lacks (codes "CUTS") (length cuts ∷ []) refl (let some : length cuts ≤ MAX_CUTS = fits.few in omega (arith, some), tt),
  rec-map (GoodCut nodes) cut_line (λ cut g. row-lacks (codes "C") (numbers_of_cut cut) refl (cut_numbers_small nodes cut few g)) cuts (good_cuts nodes cuts fits fields),
)

lists-lack : (entries : ℕ) (lists : List (List ℕ)) → AreStated entries (length lists) lists → AllByRecursion (Lacks 10) (list_lines (length lists) lists)
lists-lack entries lists h = (
  row-lacks (codes "PRICES") (length lists ∷ []) refl (let few : length lists ≤ MAX_LISTS = h.0 in omega (arith, few), tt),
  rec-map AreSmall price_line (λ list small. row-lacks (codes "P") list refl small) lists (lists_small entries [] lists h.2),
)

prices-lack : (form : Form) (entries : ℕ) (lists : List (List ℕ)) → AreListed form entries (length lists) lists → AllByRecursion (Lacks 10) (price_lines form (length lists) lists)
unfolding price_lines
prices-lack First entries lists h = tt
prices-lack Second entries lists h = lists-lack entries lists h
prices-lack Third entries lists h = lists-lack entries lists h

-- no line of a plan that can be spelt has a line end in it
pub plan_lacks : (form : Form) (plan : Plan) → IsSpellable plan → HasFields plan → AreReady form (numbers_in plan) plan.tree → AllByRecursion (Lacks 10) (plan_lines form plan)
unfolding front_lines
plan_lacks form plan s f r =
    let lists : List (List ℕ) = lists_in form plan.tree in
    let entries : ℕ = numbers_in plan in
    let prices : List (List ℕ) = price_lines form (length lists) lists in
    let fit = pair_of (FitsRecord plan.nodes entries) HasRecordFields plan.tree (recursion_from_All (FitsRecord plan.nodes entries) plan.tree s.records.each) f.record_fields in
    rec-append (front_lines form (length lists) lists plan) (tree_lines form lists (length plan.tree) plan.tree ++ end_line ∷ [])
    (rec-append (head_lines form plan) (design_lines plan.design ++ (bound_lines plan.status plan.bound ++ (cut_lines form plan.cuts ++ prices))) (head-lacks form plan s f)
    (rec-append (design_lines plan.design) (bound_lines plan.status plan.bound ++ (cut_lines form plan.cuts ++ prices)) (design-lacks plan.demands plan.links plan.design s.design f.design_fields)
    (rec-append (bound_lines plan.status plan.bound) (cut_lines form plan.cuts ++ prices) (bound-lacks plan.status plan.bound f.bound_field)
    (rec-append (cut_lines form plan.cuts) prices (cuts-lack form plan.nodes plan.cuts s.sizes.nodes s.cuts f.cut_fields) (prices-lack form entries lists r.listed)))))
    (rec-append (tree_lines form lists (length plan.tree) plan.tree) (end_line ∷ []) (
      row-lacks (codes "TREE") (length plan.tree ∷ []) refl (omega (arith, s.records.few), tt),
      rec-map (λ node. FitsRecord plan.nodes (width form entries) (shown form lists node) × HasRecordFields (shown form lists node)) (λ node. record_line (shown form lists node))
          (λ node. record-lacks plan.nodes (width form entries) s.sizes.nodes (shown form lists node)) plan.tree
          (shown_all form lists 0 plan.nodes entries plan.tree (good_listed form entries (length lists) lists r.listed) fit r.named),
    )
    (lacks-by end_line refl, tt))
