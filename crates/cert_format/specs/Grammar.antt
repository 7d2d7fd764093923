-- The text of a plan, line by line.
use Rattle.std.specs.Prelude.{ℕ, suc, ◌≡◌, ◌<◌, ◌^◌, Bool, true, false, List, [], ◌∷◌, ◌++◌, length, map, codes, ⊤, IsTrue, Option, Some, None, IfSome, ℤ, pos, negsuc}
use Rattle.std.specs.List.{AllByRecursion}
use Rattle.plan_base.specs.declared.ids.ArcId.{ArcId}
use Rattle.plan_base.specs.declared.path.Design.{Design}
use Rattle.proof_tree.specs.declared.cuts.Cut.{Cut as LoadCut}
use Rattle.proof_tree.specs.declared.tree.Evidence.{Evidence}
use Rattle.proof_tree.specs.declared.tree.Evidence.TheVariants.{Bound, Routed, Overfull, Cut, Far, Crowd, Open}
use Rattle.proof_tree.specs.declared.tree.TreeNode.{TreeNode}
use Rattle.proof_tree.specs.declared.tree.TreeNode.TheVariants.{Split, Loads, Leaf}
use Rattle.proof_tree.specs.declared.plan.PlanStatus.{PlanStatus}
use Rattle.proof_tree.specs.declared.plan.PlanStatus.TheVariants.{Optimal, Infeasible, Undecided}
use Rattle.proof_tree.specs.declared.plan.Plan.{Plan}
use Rattle.proof_tree.specs.Spellings.{IsSpellable}
use Rattle.scaled_numbers.specs.Canonical.{grains_text}
use Rattle.cert_format.specs.declared.form.Form.{Form}
use Rattle.cert_format.specs.declared.form.Form.TheVariants.{First, Second, Third}
use Rattle.plan_tokens.specs.Lines.{whole, text_of}
use Rattle.plan_tokens.specs.Words.{row}
use Rattle.cert_format.specs.Versions.{TellsCuts, HasLines, is_asked, written_form}
use Rattle.cert_format.specs.Lists.{lists_in, shown}

-- the first line
abbrev pub header_line : Form → List ℕ
header_line First = codes "SNDPLAN 1"
header_line Second = codes "SNDPLAN 2"
header_line Third = codes "SNDPLAN 3"

-- whether each direction of a link has a price of its own
abbrev pub both_word : Bool → List ℕ
both_word true = codes " BOTH"
both_word false = codes " ONE"

-- the same, which the first version does not tell
abbrev pub both_text : Form → Bool → List ℕ
both_text First both = []
both_text Second both = both_word both
both_text Third both = both_word both

-- the counts of nodes, links and demands
abbrev pub count_line : ℕ → ℕ → ℕ → List ℕ
count_line nodes links demands = row (codes "SIZE") (nodes ∷ links ∷ demands ∷ [])

-- the sizes
abbrev pub size_line : Form → ℕ → ℕ → ℕ → Bool → List ℕ
size_line form nodes links demands both = count_line nodes links demands ++ both_text form both

-- the status
abbrev pub status_line : PlanStatus → List ℕ
status_line Optimal = codes "STATUS OPTIMAL"
status_line Infeasible = codes "STATUS INFEASIBLE"
status_line Undecided = codes "STATUS UNDECIDED"

-- a line with one number
abbrev pub number_line : List ℕ → ℕ → List ℕ
number_line word n = row word (n ∷ [])

-- the cost as a canonical decimal in units of cost, or none
abbrev pub cost_line : Option ℕ → List ℕ
cost_line None = codes "COST none"
cost_line (Some cost) = codes "COST " ++ grains_text cost 12

-- a bound as a canonical decimal, with a minus where it is negative
abbrev pub signed_text : ℤ → List ℕ
signed_text (pos n) = grains_text n 12
signed_text (negsuc n) = 45 ∷ grains_text (suc n) 12

-- the bound, or none
abbrev pub bound_line : Option ℤ → List ℕ
bound_line None = codes "BOUND none"
bound_line (Some bound) = codes "BOUND " ++ signed_text bound

-- the numbers of arcs
abbrev pub arc_numbers : List ArcId → List ℕ
arc_numbers arcs = map (λ arc. arc.0) arcs

-- a list of numbers with its length in front
abbrev pub counted : List ℕ → List ℕ
counted ns = length ns ∷ ns

-- a path
abbrev pub path_line : List ArcId → List ℕ
path_line arcs = row (codes "PATH") (counted (arc_numbers arcs))

-- the counts of a link's modules
abbrev pub modules_line : List ℕ → List ℕ
modules_line counts = row (codes "MODULES") (counted counts)

-- the places of true, the list beginning at this place
unfoldable pub members : ℕ → List Bool → List ℕ
members at [] = []
members at (true ∷ flags) = at ∷ members (suc at) flags
members at (false ∷ flags) = members (suc at) flags

-- a leaf
unfoldable pub leaf_line : Evidence → List ℕ
leaf_line (Bound prices) = row (codes "PRICED") prices
leaf_line Routed = codes "ROUTED"
leaf_line (Overfull link) = number_line (codes "OVERFULL") link.0
leaf_line (Cut demand reached) = row (codes "CUT") (demand.0 ∷ counted (members 0 reached))
leaf_line (Far demand) = number_line (codes "FAR") demand.0
leaf_line (Crowd prices) = row (codes "CROWD") prices
leaf_line (Open prices) = row (codes "OPEN") prices

-- a record of the tree
unfoldable pub record_line : TreeNode → List ℕ
record_line (Split demand at left right) = row (codes "SPLIT") (demand.0 ∷ at.0 ∷ (counted (arc_numbers left) ++ counted (arc_numbers right)))
record_line (Loads place load) = row (codes "LOADS") (place ∷ load ∷ [])
record_line (Leaf evidence) = leaf_line evidence

-- the cost, and with it a line for each path and each list of counts
unfoldable pub design_lines : Option (ℕ × Design) → List (List ℕ)
design_lines None = cost_line None ∷ []
design_lines (Some design) = cost_line (Some design.0) ∷ (map path_line design.1.paths ++ map modules_line design.1.counts)

-- the bound stands in the text of an undecided plan alone
unfoldable pub bound_lines : PlanStatus → Option ℤ → List (List ℕ)
bound_lines Optimal bound = []
bound_lines Infeasible bound = []
bound_lines Undecided bound = bound_line bound ∷ []

-- 1 where it holds, else 0
abbrev pub bit : Bool → ℕ
bit true = 1
bit false = 0

-- the numbers of a cut of the plan: its period, how many grains of each period are counted, whether what is installed counts, and its nodes
abbrev pub numbers_of_cut : LoadCut → List ℕ
numbers_of_cut cut = cut.period ∷ cut.first ∷ bit cut.counts_installed ∷ counted (members 0 cut.nodes)

-- a cut of the plan
abbrev pub cut_line : LoadCut → List ℕ
cut_line cut = row (codes "C") (numbers_of_cut cut)

-- how many cuts there are, and the cuts: the third version alone tells them
unfoldable pub cut_lines : Form → List LoadCut → List (List ℕ)
cut_lines First cuts = []
cut_lines Second cuts = []
cut_lines Third cuts = number_line (codes "CUTS") (length cuts) ∷ map cut_line cuts

-- a price list
abbrev pub price_line : List ℕ → List ℕ
price_line prices = row (codes "P") prices

-- how many price lists are stated, and the lists
abbrev pub list_lines : ℕ → List (List ℕ) → List (List ℕ)
list_lines stated lists = number_line (codes "PRICES") stated ∷ map price_line lists

-- the price lists, where so many are stated: the first version has none
unfoldable pub price_lines : Form → ℕ → List (List ℕ) → List (List ℕ)
price_lines First stated lists = []
price_lines Second stated lists = list_lines stated lists
price_lines Third stated lists = list_lines stated lists

-- the five lines that begin each text
unfoldable pub head_lines : Form → Plan → List (List ℕ)
head_lines form plan = header_line form ∷ size_line form plan.nodes plan.links plan.demands plan.both ∷ status_line plan.status
    ∷ number_line (codes "BUDGET") plan.budget ∷ number_line (codes "EXAMINED") plan.examined ∷ []

-- the lines before the tree, where so many price lists are stated
unfoldable pub front_lines : Form → ℕ → List (List ℕ) → Plan → List (List ℕ)
front_lines form stated lists plan = head_lines form plan ++ (design_lines plan.design ++ (bound_lines plan.status plan.bound ++ (cut_lines form plan.cuts ++ price_lines form stated lists)))

-- the lines of a tree, where so many records are stated
abbrev pub tree_lines : Form → List (List ℕ) → ℕ → List TreeNode → List (List ℕ)
tree_lines form lists count nodes = number_line (codes "TREE") count ∷ map (λ node. record_line (shown form lists node)) nodes

-- the last line
abbrev pub end_line : List ℕ
end_line = codes "END"

-- the lines of a plan with these price lists
abbrev pub lines_with : Form → List (List ℕ) → Plan → List (List ℕ)
lines_with form lists plan = front_lines form (length lists) lists plan ++ (tree_lines form lists (length plan.tree) plan.tree ++ end_line ∷ [])

-- the lines of a plan
abbrev pub plan_lines : Form → Plan → List (List ℕ)
plan_lines form plan = lines_with form (lists_in form plan.tree) plan

-- the text of a plan in this version: its lines, each with its line end
unfoldable pub plan_text : Form → Plan → List ℕ
plan_text form plan = text_of (map whole (plan_lines form plan))

-- the text that is written of a plan: of the third version where it has a cut or a load split, else of the second
abbrev pub written_text : Plan → List ℕ
written_text plan = plan_text (written_form plan.cuts plan.tree) plan

-- the version can tell whether each direction of a link has a price of its own: in the first one it has not
abbrev pub CanTell : Form → Bool → Type 0
CanTell First both = both ≡ false
CanTell Second both = ⊤
CanTell Third both = ⊤

-- ---- the numbers of a plan, within their fields

-- numbers of so many bits
abbrev pub AreWithin : ℕ → List ℕ → Type 0
AreWithin bits ns = AllByRecursion (λ n. n < 2 ^ bits) ns

-- numbers of arcs
abbrev pub AreArcs : List ArcId → Type 0
AreArcs arcs = AllByRecursion (λ arc. arc.0 < 2 ^ 32) arcs

-- the numbers of a leaf
abbrev pub HasLeafFields : Evidence → Type 0
HasLeafFields (Bound prices) = AreWithin 128 prices
HasLeafFields Routed = ⊤
HasLeafFields (Overfull link) = link.0 < 2 ^ 32
HasLeafFields (Cut demand reached) = demand.0 < 2 ^ 32
HasLeafFields (Far demand) = demand.0 < 2 ^ 32
HasLeafFields (Crowd prices) = AreWithin 128 prices
HasLeafFields (Open prices) = AreWithin 128 prices

-- the numbers of a record
abbrev pub HasRecordFields : TreeNode → Type 0
HasRecordFields (Split demand at left right) = (demand.0 < 2 ^ 32) × (at.0 < 2 ^ 32) × AreArcs left × AreArcs right
HasRecordFields (Loads place load) = (place < 2 ^ 32) × (load < 2 ^ 64)
HasRecordFields (Leaf evidence) = HasLeafFields evidence

-- the numbers of a design and its cost
pub record HasDesignFields (cost : ℕ) (d : Design) : Type 0 where
  pub cost_within : cost < 2 ^ 128
  pub arcs : AllByRecursion AreArcs d.paths
  pub counts_within : AllByRecursion (AreWithin 64) d.counts

-- a bound fits an i128
abbrev pub IsBoundField : ℤ → Type 0
IsBoundField (pos n) = n < 2 ^ 127
IsBoundField (negsuc n) = n < 2 ^ 127

-- the numbers of a cut of the plan
abbrev pub HasCutFields : LoadCut → Type 0
HasCutFields cut = (cut.period < 2 ^ 64) × (cut.first < 2 ^ 64)

-- each number of the plan is within its field, as it is in each plan of the code
pub record HasFields (plan : Plan) : Type 0 where
  pub examined_within : plan.examined < 2 ^ 32
  pub design_fields : IfSome plan.design (λ design. HasDesignFields design.0 design.1)
  pub bound_field : IfSome plan.bound IsBoundField
  pub cut_fields : AllByRecursion HasCutFields plan.cuts
  pub record_fields : AllByRecursion HasRecordFields plan.tree

-- the text spells the plan
pub record SpellsPlan (text : List ℕ) (plan : Plan) : Type 0 where
  pub spellable : IsSpellable plan
  pub fields : HasFields plan
  pub form : Form
  pub told : CanTell form plan.both
  pub cuts_told : TellsCuts form plan.cuts
  pub lines : HasLines form plan.tree
  pub asked : IsTrue (is_asked form plan.cuts plan.tree)
  pub is_text : text ≡ plan_text form plan
