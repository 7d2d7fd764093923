-- The text of a plan is within its limit of bytes.
use Rattle.std.proofs.Common.{◌≡◌, ℕ, suc, ◌+◌, ◌*◌, ◌^◌, ◌/◌, ◌%◌, ◌<◌, ◌≤◌, Bool, true, false, List, [], ◌∷◌, ◌++◌, length, map, codes, decimal, Option, Some, None, refl, sym, ◌∙◌, length-append, arith, ℤ, pos, negsuc}
use Rattle.std.specs.Prelude.{IfSome}
use Rattle.std.specs.List.{AllByRecursion, sum_by}
use Rattle.std.proofs.lemmas.Fmt.{length-decimal-le_wide}
use Rattle.std.proofs.lemmas.List.{length-map}
use Rattle.std.proofs.lemmas.List.Sums.{sum_by-cons, sum_by-append, sum_by-le}
use Rattle.std.proofs.lemmas.List.Elements.{All-from_recursion, recursion_from_All}
use Rattle.scaled_numbers.specs.Canonical.{grains_text, behind_point, fraction_digits}
use Rattle.plan_base.specs.declared.ids.ArcId.{ArcId}
use Rattle.plan_base.specs.declared.path.Design.{Design}
use Rattle.plan_base.specs.declared.limits.TheConstants.{MAX_NODES, MAX_LINKS, MAX_DEMANDS, MAX_MODULES}
use Rattle.proof_tree.specs.declared.limits.TheConstants.{MAX_RECORDS, MAX_PATH_ARCS, MAX_SIDE_ARCS, MAX_CUTS}
use Rattle.proof_tree.specs.declared.cuts.Cut.{Cut as LoadCut}
use Rattle.proof_tree.specs.declared.tree.Evidence.{Evidence}
use Rattle.proof_tree.specs.declared.tree.Evidence.TheVariants.{Bound, Routed, Overfull, Cut, Far, Crowd, Open}
use Rattle.proof_tree.specs.declared.tree.TreeNode.{TreeNode}
use Rattle.proof_tree.specs.declared.tree.TreeNode.TheVariants.{Split, Loads, Leaf}
use Rattle.proof_tree.specs.declared.plan.PlanStatus.{PlanStatus}
use Rattle.proof_tree.specs.declared.plan.PlanStatus.TheVariants.{Optimal, Infeasible, Undecided}
use Rattle.proof_tree.specs.declared.plan.Plan.{Plan}
use Rattle.proof_tree.specs.Shapes.{are_trees}
use Rattle.proof_tree.specs.Spellings.{places_in, numbers_in, FitsRecord, FitsDesign, FitsCuts, IsWrittenSide, IsSpellable}
use Rattle.cert_format.specs.declared.limits.TheConstants.{MAX_PLAN_BYTES, MAX_LISTS}
use Rattle.cert_format.specs.declared.form.Form.{Form}
use Rattle.cert_format.specs.declared.form.Form.TheVariants.{First, Second, Third}
use Rattle.plan_tokens.specs.Lines.{whole, text_of}
use Rattle.cert_format.specs.Versions.{has_thirds, written_form}
use Rattle.cert_format.specs.Lists.{lists_of, leaf_with_number, with_number, AreNew}
use Rattle.cert_format.specs.Drafts.{AreStated}
use Rattle.cert_format.specs.Written.{numbered_lines}
use Rattle.plan_tokens.specs.Words.{numerals, row}
use Rattle.cert_format.specs.Grammar.{
  header_line,
  both_word,
  both_text,
  count_line,
  status_line,
  number_line,
  cost_line,
  signed_text,
  arc_numbers,
  counted,
  path_line,
  modules_line,
  members,
  leaf_line,
  record_line,
  design_lines,
  bound_lines,
  numbers_of_cut,
  cut_line,
  cut_lines,
  price_line,
  list_lines,
  price_lines,
  head_lines,
  front_lines,
  end_line,
  plan_text,
  written_text,
  AreArcs,
  HasCutFields,
  HasLeafFields,
  HasRecordFields,
  HasDesignFields,
  IsBoundField,
  HasFields,
}
use Rattle.cert_format.proofs.VersionLaws.{not_first}
use Rattle.cert_format.proofs.BodyLaws.{AreSmall}
use Rattle.plan_tokens.proofs.Digits.{grains_scaled}
use Rattle.cert_format.proofs.RecordLaws.{members_few}
use Rattle.cert_format.proofs.CutLaws.{GoodCut, good_cuts, bit_few}
use Rattle.cert_format.proofs.ListLaws.{leaves, half_leaves}
use Rattle.cert_format.proofs.ReadingLaws.{GoodPath, GoodCounts, pair_of}
use Rattle.cert_format.proofs.ShownLaws.{shown_all}
use Rattle.cert_format.proofs.PlanLaws.{plan_ready}

-- ---- bytes of lines

-- the bytes of lines with their ends
abbrev bytes_of : List (List ℕ) → ℕ
bytes_of lines = sum_by (λ line. suc (length line)) lines

bytes-cons : (line : List ℕ) (lines : List (List ℕ)) → bytes_of (line ∷ lines) ≡ suc (length line) + bytes_of lines
bytes-cons line lines = sum_by-cons (λ line. suc (length line)) line lines

text-bytes : (lines : List (List ℕ)) → length (text_of (map whole lines)) ≡ bytes_of lines
text-bytes [] = refl
text-bytes (line ∷ lines) =
    let here : length ((line ++ 10 ∷ []) ++ text_of (map whole lines)) ≡ suc (length line) + bytes_of lines = omega (arith, length-append (line ++ 10 ∷ []) (text_of (map whole lines)), length-append line (10 ∷ []), text-bytes lines) in
    here ∙ sym (bytes-cons line lines)

bytes-append : (xs ys : List (List ℕ)) → bytes_of (xs ++ ys) ≡ bytes_of xs + bytes_of ys
bytes-append xs ys = sum_by-append (λ line. suc (length line)) xs ys

bytes-most : (most : ℕ) (lines : List (List ℕ)) → AllByRecursion (λ line. suc (length line) ≤ most) lines → bytes_of lines ≤ length lines * most
bytes-most most lines h = sum_by-le (λ line. suc (length line)) most lines (All-from_recursion (λ line. suc (length line) ≤ most) lines h)

shown-most : {A : Type 0} (P : A → Type 0) (print : A → List ℕ) (most : ℕ) → ((x : A) → P x → suc (length (print x)) ≤ most) → (xs : List A) → AllByRecursion P xs → AllByRecursion (λ line. suc (length line) ≤ most) (map print xs)
shown-most P print most law [] h = tt
shown-most P print most law (x ∷ xs) h = (law x h.0, shown-most P print most law xs h.1)

-- ---- bytes of numbers

numerals-bytes : (ns : List ℕ) → length (numerals ns) ≡ sum_by (λ n. suc (length (decimal n))) ns
numerals-bytes [] = refl
numerals-bytes (n ∷ ns) =
    let here : suc (length (decimal n ++ numerals ns)) ≡ suc (length (decimal n)) + sum_by (λ n. suc (length (decimal n))) ns = omega (arith, length-append (decimal n) (numerals ns), numerals-bytes ns) in
    here ∙ sym (sum_by-cons (λ n. suc (length (decimal n))) n ns)

numerals-most : (k : ℕ) → 0 < k → k ≤ 39 → (ns : List ℕ) → AllByRecursion (λ n. n < 10 ^ 39) ns → AllByRecursion (λ n. n < 10 ^ k) ns → length (numerals ns) ≤ length ns * suc k
numerals-most k some few ns wide h =
    let each = all ns wide h in
    omega (arith, numerals-bytes ns, sum_by-le (λ n. suc (length (decimal n))) (suc k) ns (All-from_recursion (λ n. suc (length (decimal n)) ≤ suc k) ns each))
  where
    all : (ns : List ℕ) → AllByRecursion (λ n. n < 10 ^ 39) ns → AllByRecursion (λ n. n < 10 ^ k) ns → AllByRecursion (λ n. suc (length (decimal n)) ≤ suc k) ns
    all [] wide h = tt
    all (n ∷ ns) wide h = (omega (arith, length-decimal-le_wide k n some h.0 (omega (arith, wide.0))), all ns wide.1 h.1)

weaker : {A : Type 0} (P Q : A → Type 0) → ((x : A) → P x → Q x) → (xs : List A) → AllByRecursion P xs → AllByRecursion Q xs
weaker P Q law [] h = tt
weaker P Q law (x ∷ xs) h = (law x h.0, weaker P Q law xs h.1)

-- numbers below 10^10, below 10^20 and below 2^128
numerals-ids : (ns : List ℕ) → AllByRecursion (λ n. n < 10 ^ 10) ns → length (numerals ns) ≤ length ns * 11
numerals-ids ns h = numerals-most 10 (omega arith) (omega arith) ns (weaker (λ n. n < 10 ^ 10) (λ n. n < 10 ^ 39) (λ n lt. omega (arith, lt)) ns h) h

numerals-counts : (ns : List ℕ) → AllByRecursion (λ n. n < 10 ^ 20) ns → length (numerals ns) ≤ length ns * 21
numerals-counts ns h = numerals-most 20 (omega arith) (omega arith) ns (weaker (λ n. n < 10 ^ 20) (λ n. n < 10 ^ 39) (λ n lt. omega (arith, lt)) ns h) h

numerals-prices : (ns : List ℕ) → AreSmall ns → length (numerals ns) ≤ length ns * 40
numerals-prices ns h = (let wide = weaker (λ n. n < 2 ^ 128) (λ n. n < 10 ^ 39) (λ n lt. omega (arith, lt)) ns h in numerals-most 39 (omega arith) (omega arith) ns wide wide)

row-ids : (word ns : List ℕ) (most : ℕ) → length word ≤ 8 → length ns ≤ most → AllByRecursion (λ n. n < 10 ^ 10) ns → suc (length (row word ns)) ≤ 9 + most * 11
row-ids word ns most few long h = omega (arith, few, long, length-append word (numerals ns), numerals-ids ns h)

arcs-ids : (arcs : List ArcId) → AreArcs arcs → AllByRecursion (λ n. n < 10 ^ 10) (arc_numbers arcs)
arcs-ids [] h = tt
arcs-ids (a ∷ arcs) h = ((let small : a.0 < 2 ^ 32 = h.0 in omega (arith, small)), arcs-ids arcs h.1)

-- ---- lines

path-most : (arcs : List ArcId) → GoodPath arcs → suc (length (path_line arcs)) ≤ 5652
path-most arcs g =
    let few : length arcs ≤ MAX_PATH_ARCS = g.0 in
    let long : length (counted (arc_numbers arcs)) ≤ 513 = omega (arith, few, length-map arcs (λ (a : ArcId). a.0)) in
    omega (arith, row-ids (codes "PATH") (counted (arc_numbers arcs)) 513 (omega arith) long (omega (arith, few, length-map arcs (λ (a : ArcId). a.0)), arcs-ids arcs g.1))

modules-most : (counts : List ℕ) → GoodCounts counts → suc (length (modules_line counts)) ≤ 701
modules-most counts g =
    let few : length counts ≤ MAX_MODULES = g.0 in
    let small : AllByRecursion (λ n. n < 10 ^ 20) (counted counts) = (omega (arith, few), weaker (λ c. c < 2 ^ 64) (λ n. n < 10 ^ 20) (λ n lt. omega (arith, lt)) counts g.1) in
    omega (arith, few, length-append (codes "MODULES") (numerals (counted counts)), numerals-counts (counted counts) small)

price-most : (entries : ℕ) → entries ≤ 2304 → (list : List ℕ) → (length list ≡ entries) × AreSmall list → suc (length (price_line list)) ≤ 92162
price-most entries few list h =
    let long : length list ≡ entries = h.0 in
    omega (arith, few, long, length-append (codes "P") (numerals list), numerals-prices list h.1)

grains-most : (v : ℕ) → v < 2 ^ 128 → length (grains_text v 12) ≤ 60
unfolding grains_text
grains-most v small =
    let s = grains_scaled v small in
    let short : length (fraction_digits 12 (v % 10 ^ 12)) ≤ 12 = s.short in
    let low : v / 10 ^ 12 < 10 ^ 39 = omega arith in
    let digits : length (decimal (v / 10 ^ 12)) ≤ 39 = length-decimal-le_wide 39 (v / 10 ^ 12) (omega arith) low (omega arith) in
    omega (arith, digits, length-append (decimal (v / 10 ^ 12)) (behind_point (fraction_digits 12 (v % 10 ^ 12))), point (fraction_digits 12 (v % 10 ^ 12)) short)
  where
    point : (ds : List ℕ) → length ds ≤ 12 → length (behind_point ds) ≤ 13
    point [] few = omega arith
    point (d ∷ ds) few = omega (arith, few)

signed-most : (b : ℤ) → IsBoundField b → length (signed_text b) ≤ 61
signed-most (pos n) small = (let low : n < 2 ^ 128 = omega (arith, small) in omega (arith, grains-most n low))
signed-most (negsuc n) small = (let low : suc n < 2 ^ 128 = omega (arith, small) in omega (arith, grains-most (suc n) low))

status-most : (s : PlanStatus) → length (status_line s) ≤ 18
status-most Optimal = omega arith
status-most Infeasible = omega arith
status-most Undecided = omega arith

word-most : (both : Bool) → length (both_word both) ≤ 5
word-most true = omega arith
word-most false = omega arith

both-most : (form : Form) (both : Bool) → length (both_text form both) ≤ 5
both-most First both = omega arith
both-most Second both = word-most both
both-most Third both = word-most both

header-most : (form : Form) → length (header_line form) ≤ 9
header-most First = omega arith
header-most Second = omega arith
header-most Third = omega arith

number-most : (word : List ℕ) (n : ℕ) → length word ≤ 8 → n < 10 ^ 10 → suc (length (number_line word n)) ≤ 20
number-most word n few small = row-ids word (n ∷ []) 1 few (omega arith) (small, tt)

head-most : (form : Form) (plan : Plan) → IsSpellable plan → HasFields plan → bytes_of (head_lines form plan) ≤ 500
unfolding head_lines
head-most form plan s f =
    let counts : List ℕ = count_line plan.nodes plan.links plan.demands in
    let sizes : suc (length counts) ≤ 9 + 3 * 11 = row-ids (codes "SIZE") (plan.nodes ∷ plan.links ∷ plan.demands ∷ []) 3 (omega arith) (omega arith) (omega (arith, s.sizes.nodes), (omega (arith, s.sizes.links), (omega (arith, s.sizes.demands), tt))) in
    bytes-most 100 (head_lines form plan) (
      omega (arith, header-most form),
      (
        omega (arith, sizes, length-append counts (both_text form plan.both), both-most form plan.both),
        (
          omega (arith, status-most plan.status),
          (
            omega (arith, number-most (codes "BUDGET") plan.budget (omega arith) (omega (arith, s.sizes.budget))),
            (
              omega (arith, number-most (codes "EXAMINED") plan.examined (omega arith) (omega (arith, f.examined_within))),
              tt,
            ),
          ),
        ),
      ),
    )

design-most : (demands links : ℕ) → demands ≤ MAX_DEMANDS → links ≤ MAX_LINKS → (d : Option (ℕ × Design)) → IfSome d (λ design. FitsDesign demands links design.1) → IfSome d (λ design. HasDesignFields design.0 design.1) → bytes_of (design_lines d) ≤ 24000000
unfolding design_lines
design-most demands links dd ll None h k = omega arith
design-most demands links dd ll (Some d) h k =
    let paths : AllByRecursion GoodPath d.1.paths = pair_of (λ (arcs : List ArcId). length arcs ≤ MAX_PATH_ARCS) AreArcs d.1.paths (recursion_from_All (λ (arcs : List ArcId). length arcs ≤ MAX_PATH_ARCS) d.1.paths h.short_paths) k.arcs in
    let counts : AllByRecursion GoodCounts d.1.counts = pair_of (λ (counts : List ℕ). length counts ≤ MAX_MODULES) (λ counts. AllByRecursion (λ c. c < 2 ^ 64) counts) d.1.counts (recursion_from_All (λ (counts : List ℕ). length counts ≤ MAX_MODULES) d.1.counts h.short_lists) k.counts_within in
    let first : bytes_of (map path_line d.1.paths) ≤ length (map path_line d.1.paths) * 5652 = bytes-most 5652 (map path_line d.1.paths) (shown-most GoodPath path_line 5652 path-most d.1.paths paths) in
    let second : bytes_of (map modules_line d.1.counts) ≤ length (map modules_line d.1.counts) * 701 = bytes-most 701 (map modules_line d.1.counts) (shown-most GoodCounts modules_line 701 modules-most d.1.counts counts) in
    let cost : length (cost_line (Some d.0)) ≤ 65 = omega (arith, length-append (codes "COST ") (grains_text d.0 12), grains-most d.0 k.cost_within) in
    let path_count : length (map path_line d.1.paths) ≡ demands = length-map d.1.paths path_line ∙ h.path_count in
    let list_count : length (map modules_line d.1.counts) ≡ links = length-map d.1.counts modules_line ∙ h.list_count in
    let all : bytes_of (design_lines (Some d)) ≡ suc (length (cost_line (Some d.0))) + bytes_of (map path_line d.1.paths ++ map modules_line d.1.counts) = bytes-cons (cost_line (Some d.0)) (map path_line d.1.paths ++ map modules_line d.1.counts) in
    omega (arith, dd, ll, all, first, second, cost, path_count, list_count, bytes-append (map path_line d.1.paths) (map modules_line d.1.counts))

bound-most : (s : PlanStatus) (b : Option ℤ) → IfSome b IsBoundField → bytes_of (bound_lines s b) ≤ 100
unfolding bound_lines
bound-most Optimal b h = omega arith
bound-most Infeasible b h = omega arith
bound-most Undecided None h = omega arith
bound-most Undecided (Some b) h = omega (arith, length-append (codes "BOUND ") (signed_text b), signed-most b h)

members-ids : (at most : ℕ) (fs : List Bool) → at + length fs ≤ most → most ≤ 10 ^ 10 → AllByRecursion (λ n. n < 10 ^ 10) (members at fs)
unfolding members
members-ids at most [] within small = tt
members-ids at most (true ∷ fs) within small = (omega arith, members-ids (suc at) most fs (omega arith) small)
members-ids at most (false ∷ fs) within small = members-ids (suc at) most fs (omega arith) small

-- the line of a cut, each number of which is below 10^20
cut-most : (nodes : ℕ) → nodes ≤ MAX_NODES → (cut : LoadCut) → GoodCut nodes cut → suc (length (cut_line cut)) ≤ 10840
cut-most nodes small cut g =
    let long : length cut.nodes ≡ nodes = g.0 in
    let set : List ℕ = members 0 cut.nodes in
    let few : length set ≤ 512 = omega (arith, small, long, members_few 0 cut.nodes) in
    let ids = members-ids 0 nodes cut.nodes (omega (arith, long)) (omega (arith, small)) in
    let each : AllByRecursion (λ n. n < 10 ^ 20) (numbers_of_cut cut) =
    (omega (arith, g.1.0), (omega (arith, g.1.1), (omega (arith, bit_few cut.counts_installed), (omega (arith, few), weaker (λ n. n < 10 ^ 10) (λ n. n < 10 ^ 20) (λ n lt. omega (arith, lt)) set ids)))) in
    omega (arith, few, length-append (codes "C") (numerals (numbers_of_cut cut)), numerals-counts (numbers_of_cut cut) each)

cuts-most : (form : Form) (nodes : ℕ) (cuts : List LoadCut) → nodes ≤ MAX_NODES → FitsCuts nodes cuts → AllByRecursion HasCutFields cuts → bytes_of (cut_lines form cuts) ≤ 2800000
unfolding cut_lines
cuts-most First nodes cuts small fits fields = omega arith
cuts-most Second nodes cuts small fits fields = omega arith
cuts-most Third nodes cuts small fits fields =
    let few : length cuts ≤ MAX_CUTS = fits.few in
    let each : bytes_of (map cut_line cuts) ≤ length (map cut_line cuts) * 10840 = bytes-most 10840 (map cut_line cuts) (shown-most (GoodCut nodes) cut_line 10840 (cut-most nodes small) cuts (good_cuts nodes cuts fits fields)) in
    let all : bytes_of (number_line (codes "CUTS") (length cuts) ∷ map cut_line cuts) ≡ suc (length (number_line (codes "CUTS") (length cuts))) + bytes_of (map cut_line cuts) = bytes-cons (number_line (codes "CUTS") (length cuts)) (map cut_line cuts) in
    omega (arith, few, all, each, length-map cuts cut_line, number-most (codes "CUTS") (length cuts) (omega arith) (omega (arith, few)))

new-prices : (entries : ℕ) (before lists : List (List ℕ)) → AreNew entries before lists → AllByRecursion (λ list. (length list ≡ entries) × AreSmall list) lists
unfolding AreNew
new-prices entries before [] h = tt
new-prices entries before (x ∷ lists) h = ((h.0, h.1), new-prices entries (before ++ x ∷ []) lists h.3)

prices-most : (entries : ℕ) → entries ≤ 2304 → (lists : List (List ℕ)) → length lists ≤ MAX_LISTS → AreNew entries [] lists → bytes_of (list_lines (length lists) lists) ≤ 377700000
prices-most entries small lists few new =
    let each : bytes_of (map price_line lists) ≤ length (map price_line lists) * 92162 = bytes-most 92162 (map price_line lists) (shown-most (λ list. (length list ≡ entries) × AreSmall list) price_line 92162 (price-most entries small) lists (new-prices entries [] lists new)) in
    let all : bytes_of (list_lines (length lists) lists) ≡ suc (length (number_line (codes "PRICES") (length lists))) + bytes_of (map price_line lists) = bytes-cons (number_line (codes "PRICES") (length lists)) (map price_line lists) in
    omega (arith, few, all, each, length-map lists price_line, number-most (codes "PRICES") (length lists) (omega arith) (omega (arith, few)))

-- ---- the tree

abbrev splits : List TreeNode → ℕ
splits [] = 0
splits (Leaf evidence ∷ nodes) = splits nodes
splits (Split demand at left right ∷ nodes) = suc (splits nodes)
splits (Loads place load ∷ nodes) = suc (splits nodes)

parts-count : (nodes : List TreeNode) → splits nodes + leaves nodes ≡ length nodes
parts-count [] = refl
parts-count (Leaf evidence ∷ nodes) = omega (arith, parts-count nodes)
parts-count (Split demand at left right ∷ nodes) = omega (arith, parts-count nodes)
parts-count (Loads place load ∷ nodes) = omega (arith, parts-count nodes)

ids-append : (xs ys : List ℕ) → AllByRecursion (λ n. n < 10 ^ 10) xs → AllByRecursion (λ n. n < 10 ^ 10) ys → AllByRecursion (λ n. n < 10 ^ 10) (xs ++ ys)
ids-append [] ys h k = k
ids-append (x ∷ xs) ys h k = (h.0, ids-append xs ys h.1 k)

side-ids : (arcs : List ArcId) → IsWrittenSide arcs → AreArcs arcs → (length (counted (arc_numbers arcs)) ≤ 1025) × AllByRecursion (λ n. n < 10 ^ 10) (counted (arc_numbers arcs))
side-ids arcs s h =
    let few : length arcs ≤ MAX_SIDE_ARCS = s.few in
    (omega (arith, few, length-map arcs (λ (a : ArcId). a.0)), (omega (arith, few, length-map arcs (λ (a : ArcId). a.0)), arcs-ids arcs h))

split-most : (demand at : ℕ) (left right : List ArcId) → demand < 2 ^ 32 → at < 2 ^ 32 → IsWrittenSide left → IsWrittenSide right → AreArcs left → AreArcs right
    → suc (length (row (codes "SPLIT") (demand ∷ at ∷ (counted (arc_numbers left) ++ counted (arc_numbers right))))) ≤ 22600
split-most demand at left right d a l r lf rf =
    let ls = side-ids left l lf in
    let rs = side-ids right r rf in
    let left_few : length (counted (arc_numbers left)) ≤ 1025 = ls.0 in
    let right_few : length (counted (arc_numbers right)) ≤ 1025 = rs.0 in
    let sides : List ℕ = counted (arc_numbers left) ++ counted (arc_numbers right) in
    let long : length (demand ∷ at ∷ sides) ≤ 2052 = omega (arith, left_few, right_few, length-append (counted (arc_numbers left)) (counted (arc_numbers right))) in
    omega (arith, row-ids (codes "SPLIT") (demand ∷ at ∷ sides) 2052 (omega arith) long (omega (arith, d), (omega (arith, a), ids-append (counted (arc_numbers left)) (counted (arc_numbers right)) ls.1 rs.1)))

loads-most : (place load : ℕ) → place < 2 ^ 32 → load < 2 ^ 64 → suc (length (row (codes "LOADS") (place ∷ load ∷ []))) ≤ 22600
loads-most place load p l =
    let ns : List ℕ = place ∷ load ∷ [] in
    omega (arith, length-append (codes "LOADS") (numerals ns), numerals-counts ns (omega (arith, p), (omega (arith, l), tt)))

priced-most : (word ps : List ℕ) → length word ≤ 8 → length ps ≡ 1 → AreSmall ps → suc (length (row word ps)) ≤ 5700
priced-most word ps few long small = omega (arith, few, long, length-append word (numerals ps), numerals-prices ps small)

leaf-most : (nodes : ℕ) (e : Evidence) → nodes ≤ MAX_NODES → FitsRecord nodes 1 (Leaf e) → HasLeafFields e → suc (length (leaf_line e)) ≤ 5700
unfolding leaf_line
leaf-most nodes (Bound ps) few h k = priced-most (codes "PRICED") ps (omega arith) h k
leaf-most nodes Routed few h k = omega arith
leaf-most nodes (Overfull link) few h k = omega (arith, number-most (codes "OVERFULL") link.0 (omega arith) (omega (arith, k)))
leaf-most nodes (Cut demand reached) few h k =
    let long : length reached ≡ nodes = h in
    let small : demand.0 < 2 ^ 32 = k in
    let some : length (members 0 reached) ≤ 512 = omega (arith, few, long, members_few 0 reached) in
    omega (arith, row-ids (codes "CUT") (demand.0 ∷ counted (members 0 reached)) 514 (omega arith) (omega (arith, some)) (omega (arith, small), (omega (arith, some), members-ids 0 nodes reached (omega (arith, long)) (omega (arith, few)))))
leaf-most nodes (Far demand) few h k = omega (arith, number-most (codes "FAR") demand.0 (omega arith) (omega (arith, k)))
leaf-most nodes (Crowd ps) few h k = priced-most (codes "CROWD") ps (omega arith) h k
leaf-most nodes (Open ps) few h k = priced-most (codes "OPEN") ps (omega arith) h k

-- records, each with what stands for its prices
tree-most : (nodes : ℕ) (lists : List (List ℕ)) → nodes ≤ MAX_NODES → (ns : List TreeNode) → AllByRecursion (λ node. FitsRecord nodes 1 (with_number lists node) × HasRecordFields (with_number lists node)) ns
    → bytes_of (numbered_lines lists ns) ≤ splits ns * 22600 + leaves ns * 5700
unfolding record_line
tree-most nodes lists few [] h = omega arith
tree-most nodes lists few (Leaf e ∷ ns) h =
    let here : suc (length (leaf_line (leaf_with_number lists e))) ≤ 5700 = leaf-most nodes (leaf_with_number lists e) few h.0.0 h.0.1 in
    omega (arith, here, bytes-cons (leaf_line (leaf_with_number lists e)) (numbered_lines lists ns), tree-most nodes lists few ns h.1)
tree-most nodes lists few (Split demand at left right ∷ ns) h =
    let here : suc (length (record_line (Split demand at left right))) ≤ 22600 = split-most demand.0 at.0 left right h.0.1.0 h.0.1.1 h.0.0.0 h.0.0.1 h.0.1.2 h.0.1.3 in
    omega (arith, here, bytes-cons (record_line (Split demand at left right)) (numbered_lines lists ns), tree-most nodes lists few ns h.1)
tree-most nodes lists few (Loads place load ∷ ns) h =
    let here : suc (length (record_line (Loads place load))) ≤ 22600 = loads-most place load h.0.1.0 h.0.1.1 in
    omega (arith, here, bytes-cons (record_line (Loads place load)) (numbered_lines lists ns), tree-most nodes lists few ns h.1)

-- ---- the whole text

places-few : (both : Bool) (links : ℕ) → links ≤ MAX_LINKS → places_in both links ≤ 2048
places-few true links few = omega (arith, few)
places-few false links few = omega (arith, few)

entries-few : (plan : Plan) → IsSpellable plan → numbers_in plan ≤ 2304
entries-few plan s = (let few : length plan.cuts ≤ MAX_CUTS = s.cuts.few in omega (arith, few, places-few plan.both plan.links s.sizes.links))

-- the lines of a plan with these price lists, where records show their numbers
abbrev all-lines : Form → List (List ℕ) → Plan → List (List ℕ)
all-lines form lists plan = (head_lines form plan ++ (design_lines plan.design ++ (bound_lines plan.status plan.bound ++ (cut_lines form plan.cuts ++ list_lines (length lists) lists)))) ++ ((number_line (codes "TREE") (length plan.tree) ∷ numbered_lines lists plan.tree) ++ end_line ∷ [])

lines-most : (form : Form) (lists : List (List ℕ)) (plan : Plan) → IsSpellable plan → HasFields plan → AreStated (numbers_in plan) (length lists) lists
    → AllByRecursion (λ node. FitsRecord plan.nodes 1 (with_number lists node) × HasRecordFields (with_number lists node)) plan.tree → bytes_of (all-lines form lists plan) ≤ MAX_PLAN_BYTES
lines-most form lists plan s f stated each =
    let few : length lists ≤ MAX_LISTS = stated.0 in
    let d : List (List ℕ) = design_lines plan.design in
    let b : List (List ℕ) = bound_lines plan.status plan.bound in
    let c : List (List ℕ) = cut_lines form plan.cuts in
    let p : List (List ℕ) = list_lines (length lists) lists in
    let h : List (List ℕ) = head_lines form plan in
    let n : List (List ℕ) = numbered_lines lists plan.tree in
    let t : List ℕ = number_line (codes "TREE") (length plan.tree) in
    let whole_tree : are_trees 1 plan.tree ≡ true = s.whole in
    let most : length plan.tree ≤ MAX_RECORDS = s.records.few in
    omega (
      arith,
      most,
      half_leaves plan.tree 1 whole_tree,
      parts-count plan.tree,
      head-most form plan s f,
      design-most plan.demands plan.links s.sizes.demands s.sizes.links plan.design s.design f.design_fields,
      bound-most plan.status plan.bound f.bound_field,
      cuts-most form plan.nodes plan.cuts s.sizes.nodes s.cuts f.cut_fields,
      prices-most (numbers_in plan) (entries-few plan s) lists few stated.2,
      tree-most plan.nodes lists s.sizes.nodes plan.tree each,
      number-most (codes "TREE") (length plan.tree) (omega arith) (omega (arith, most)),
      bytes-cons t n,
      bytes-append (h ++ (d ++ (b ++ (c ++ p)))) ((t ∷ n) ++ end_line ∷ []),
      bytes-append h (d ++ (b ++ (c ++ p))),
      bytes-append d (b ++ (c ++ p)),
      bytes-append b (c ++ p),
      bytes-append c p,
      bytes-append (t ∷ n) (end_line ∷ []),
    )

-- the records of a plan that fits
fit-records : (plan : Plan) → IsSpellable plan → HasFields plan → AllByRecursion (λ node. FitsRecord plan.nodes (numbers_in plan) node × HasRecordFields node) plan.tree
fit-records plan s f =
    let fits : TreeNode → Type 0 = FitsRecord plan.nodes (numbers_in plan) in
    pair_of fits HasRecordFields plan.tree (recursion_from_All fits plan.tree s.records.each) f.record_fields

numbered-within : (form : Form) (plan : Plan) → (form ≡ First → ⊥) → IsSpellable plan → HasFields plan → length (plan_text form plan) ≤ MAX_PLAN_BYTES
unfolding plan_text front_lines price_lines
numbered-within First plan other s f = absurd (other refl)
numbered-within Second plan other s f =
    let lists : List (List ℕ) = lists_of plan.tree in
    let r = plan_ready Second plan s f in
    let each = shown_all Second lists 0 plan.nodes (numbers_in plan) plan.tree (r.listed.0, r.listed.2) (fit-records plan s f) r.named in
    omega (arith, text-bytes (all-lines Second lists plan), lines-most Second lists plan s f r.listed each)
numbered-within Third plan other s f =
    let lists : List (List ℕ) = lists_of plan.tree in
    let r = plan_ready Third plan s f in
    let each = shown_all Third lists 0 plan.nodes (numbers_in plan) plan.tree (r.listed.0, r.listed.2) (fit-records plan s f) r.named in
    omega (arith, text-bytes (all-lines Third lists plan), lines-most Third lists plan s f r.listed each)

-- the text that is written of a plan has no more bytes than the limit
pub text_within : (plan : Plan) → IsSpellable plan → HasFields plan → length (written_text plan) ≤ MAX_PLAN_BYTES
text_within plan s f = numbered-within (written_form plan.cuts plan.tree) plan (not_first (has_thirds plan.cuts plan.tree)) s f
