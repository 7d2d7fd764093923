-- Reading a plan line by line: the first line that cannot stand where it stands stops it. No public clause cites this module.
use Rattle.std.specs.Prelude.{ℕ, zero, suc, ◌+◌, ◌-◌, ◌^◌, if◌then◌else◌, List, [], ◌∷◌, ◌++◌, length, codes, Option, Some, None, Result, Ok, Err, ℤ}
use Rattle.plan_base.specs.declared.path.Design.{Design}
use Rattle.plan_base.specs.declared.ids.ArcId.{ArcId}
use Rattle.proof_tree.specs.declared.limits.TheConstants.{MAX_BUDGET, MAX_RECORDS, MAX_CUTS}
use Rattle.proof_tree.specs.declared.cuts.Cut.{Cut as LoadCut}
use Rattle.proof_tree.specs.declared.tree.TreeNode.{TreeNode}
use Rattle.proof_tree.specs.declared.plan.PlanStatus.{PlanStatus}
use Rattle.proof_tree.specs.declared.plan.PlanStatus.TheVariants.{Optimal, Infeasible, Undecided}
use Rattle.proof_tree.specs.declared.plan.Plan.{Plan}
use Rattle.cert_format.specs.declared.fault.PlanFault.{PlanFault}
use Rattle.cert_format.specs.declared.fault.PlanFault.TheVariants as faults
use Rattle.proof_tree.specs.Spellings.{places_in}
use Rattle.cert_format.specs.declared.bodies.Sizes.{Sizes}
use Rattle.cert_format.specs.declared.form.Form.{Form}
use Rattle.cert_format.specs.declared.form.Form.TheVariants.{First, Second, Third}
use Rattle.cert_format.specs.declared.limits.TheConstants.{MAX_LISTS}
use Rattle.cert_format.specs.declared.reading.Head.{Head}
use Rattle.cert_format.specs.declared.numbering.Ground.{Ground}
use Rattle.plan_tokens.specs.Lines.{Line, whole, unfinished, text_of, lines_of}
use Rattle.cert_format.specs.Lists.{named_behind}
use Rattle.cert_format.specs.Grammar.{end_line}
use Rattle.cert_format.specs.Drafts.{left_open, Stated, is_complete}
use Rattle.cert_format.specs.Bodies.{fixed_of, form_of, number_row, size_row, status_of, cost_of, bound_of, path_of, modules_of, record_in, list_row, load_cut_row}

-- a value and the lines behind it, or the lines from the first one on that cannot stand there
abbrev pub LineReader : Type 0 → Type 0
LineReader A = List Line → Result (A × List Line) (List Line)

infixl 10 ◌>>=◌
-- goes on where nothing is wrong yet
abbrev pub ◌>>=◌ : {A B : Type 0} → Result A (List Line) → (A → Result B (List Line)) → Result B (List Line)
(Ok x) >>= f = f x
(Err e) >>= f = Err e

-- reads one thing, and then another that may depend on it
unfoldable pub bind : {A B : Type 0} → LineReader A → (A → LineReader B) → LineReader B
bind r s ls = r ls >>= λ p. s p.0 p.1

-- reads nothing
unfoldable pub done : {A : Type 0} → A → LineReader A
done x ls = Ok (x, ls)

-- goes past a line that was read
abbrev pub past_line : {A : Type 0} → Line → List Line → Option A → Result (A × List Line) (List Line)
past_line l ls (Some x) = Ok (x, ls)
past_line l ls None = Err (l ∷ ls)

-- reads one line
unfoldable pub one : {A : Type 0} → (List ℕ → Option A) → LineReader A
one f [] = Err []
one f (whole body ∷ ls) = past_line (whole body) ls (f body)
one f (unfinished bytes ∷ ls) = Err (unfinished bytes ∷ ls)

-- reads so many lines of a kind
unfoldable pub many : {A : Type 0} → ℕ → (List ℕ → Option A) → LineReader (List A)
many zero f = done []
many (suc n) f = bind (one f) (λ x. bind (many n f) (λ xs. done (x ∷ xs)))

-- the parts of these lines
abbrev pub head_with : Form → Sizes → PlanStatus → ℕ → ℕ → Head
head_with form sizes status budget examined = record { form = form; sizes = sizes; status = status; budget = budget; examined = examined }

-- the five lines that begin each text
unfoldable pub head : LineReader Head
head = bind (one form_of) λ form.
    bind (one (size_row form)) λ sizes.
    bind (one status_of) λ status.
    bind (one (number_row (codes "BUDGET") 1 MAX_BUDGET)) λ budget.
    bind (one (number_row (codes "EXAMINED") 0 (2 ^ 32 - 1))) λ examined.
    done (head_with form sizes status budget examined)

-- a design of this cost
abbrev pub design_with : ℕ → List (List ArcId) → List (List ℕ) → Option (ℕ × Design)
design_with cost paths counts = Some (cost, record { paths = paths; counts = counts })

-- the paths and the counts of modules, where there is a cost
unfoldable pub design_of : ℕ → ℕ → Option ℕ → LineReader (Option (ℕ × Design))
design_of demands links None = done None
design_of demands links (Some cost) = bind (many demands path_of) λ paths.
    bind (many links modules_of) λ counts.
    done (design_with cost paths counts)

-- the cost, and the design that has it
unfoldable pub design : Head → LineReader (Option (ℕ × Design))
design h = bind (one (cost_of h.status)) (design_of h.sizes.demands h.sizes.links)

-- the bound of an undecided plan
unfoldable pub bound : PlanStatus → LineReader (Option ℤ)
bound Optimal = done None
bound Infeasible = done None
bound Undecided = one bound_of

-- the cuts, which the third version tells
unfoldable pub load_cuts : Form → ℕ → LineReader (List LoadCut)
load_cuts First nodes = done []
load_cuts Second nodes = done []
load_cuts Third nodes = bind (one (number_row (codes "CUTS") 0 MAX_CUTS)) λ count. many count (load_cut_row nodes)

-- how many price lists are stated
unfoldable pub list_count : Form → LineReader ℕ
list_count First = done 0
list_count Second = one (number_row (codes "PRICES") 0 MAX_LISTS)
list_count Third = one (number_row (codes "PRICES") 0 MAX_LISTS)

-- how many numbers a price list has: a price for each place, and behind these a rate for each cut
abbrev pub entries_of : Head → List LoadCut → ℕ
entries_of h cuts = places_in h.sizes.both h.sizes.links + length cuts

-- what stands before the price lists
abbrev pub front_with : Head → Option (ℕ × Design) → Option ℤ → List LoadCut → ℕ → Head × Option (ℕ × Design) × Option ℤ × List LoadCut × ℕ
front_with h d b cuts stated = (h, d, b, cuts, stated)

-- all lines before the price lists
unfoldable pub opening : LineReader (Head × Option (ℕ × Design) × Option ℤ × List LoadCut × ℕ)
opening = bind head λ h. bind (design h) λ d. bind (bound h.status) λ b. bind (load_cuts h.form h.sizes.nodes) λ cuts. bind (list_count h.form) λ stated. done (front_with h d b cuts stated)

-- reads so many price lists, each different from those before it
unfoldable pub lists : ℕ → ℕ → List (List ℕ) → LineReader (List (List ℕ))
lists entries zero before = done before
lists entries (suc n) before = bind (one (list_row entries before)) λ list. lists entries n (before ++ list ∷ [])

-- one record, where so many lists are named before it
abbrev pub record_on : Ground → ℕ → List ℕ → Option TreeNode
record_on g named body = record_in g.form g.lists named g.nodes g.entries body

-- reads records until the tree is whole, but no more than so many
unfoldable pub records : Ground → ℕ → ℕ → ℕ → LineReader (List TreeNode)
records g named zero trees = done []
records g named (suc count) zero = done []
records g named (suc count) (suc others) = bind (one (record_on g named)) λ node.
    bind (records g (named_behind g.form g.lists named node) count (left_open node others)) λ more.
    done (node ∷ more)

-- a stated count, and records
abbrev pub tree_with : ℕ → List TreeNode → ℕ × List TreeNode
tree_with count nodes = (count, nodes)

-- how many records are stated, and those that were read
unfoldable pub tree : Ground → LineReader (ℕ × List TreeNode)
tree g = bind (one (number_row (codes "TREE") 1 MAX_RECORDS)) λ count.
    bind (records g 0 count 1) λ nodes.
    done (tree_with count nodes)

-- the plan of these parts
abbrev pub plan_with : Head → Option (ℕ × Design) → Option ℤ → List LoadCut → List TreeNode → Plan
plan_with h d b cuts nodes = record {
  nodes = h.sizes.nodes;
  links = h.sizes.links;
  demands = h.sizes.demands;
  both = h.sizes.both;
  status = h.status;
  budget = h.budget;
  examined = h.examined;
  design = d;
  bound = b;
  cuts = cuts;
  tree = nodes;
}

-- what is stated by these parts
abbrev pub stated_with : Head → Option (ℕ × Design) → Option ℤ → List LoadCut → ℕ → List (List ℕ) → ℕ × List TreeNode → Stated
stated_with h d b cuts stated lists t = record { form = h.form; stated = stated; lists = lists; count = t.0; plan = plan_with h d b cuts t.1 }

-- what the lines of a tree depend on
abbrev pub ground_with : Head → List LoadCut → List (List ℕ) → Ground
ground_with h cuts lists = record { form = h.form; lists = lists; nodes = h.sizes.nodes; entries = entries_of h cuts }

-- what is stated by all lines before the tree, and a tree
abbrev pub stated_on : Head × Option (ℕ × Design) × Option ℤ × List LoadCut × ℕ → List (List ℕ) → ℕ × List TreeNode → Stated
stated_on f lists t = stated_with f.0 f.1 f.2 f.3 f.4 lists t

-- all lines before the last: what they state, the tree of which need not be whole
unfoldable pub before_end : LineReader Stated
before_end = bind opening λ f. bind (lists (entries_of f.0 f.3) f.4 []) λ found.
    bind (tree (ground_with f.0 f.3 found)) λ t. done (stated_on f found t)

-- nothing stands behind the last line
abbrev pub nothing_behind : Plan → List Line → Result Plan (List Line)
nothing_behind plan [] = Ok plan
nothing_behind plan (l ∷ ls) = Err (l ∷ ls)

-- the last line, and nothing behind it
abbrev pub last_line : Plan → Result ((Unit {0}) × List Line) (List Line) → Result Plan (List Line)
last_line plan (Ok p) = nothing_behind plan p.1
last_line plan (Err ls) = Err ls

-- the end of the text, which only a whole tree may have that names each price list and asks for the version
abbrev pub ending : Stated × List Line → Result Plan (List Line)
ending d = if is_complete d.0 then last_line d.0.plan (one (fixed_of end_line) d.1) else Err d.1

-- the plan of all lines
unfoldable pub whole_plan : List Line → Result Plan (List Line)
whole_plan ls = before_end ls >>= ending

-- where reading stops: at a line, or at the end of the text
abbrev pub place_of : ℕ → List Line → PlanFault
place_of length_is [] = faults.Ended length_is
place_of length_is (l ∷ ls) = faults.Line (length_is - length (text_of (l ∷ ls)))

-- what a text is read as
abbrev pub read_as : ℕ → Result Plan (List Line) → Result Plan PlanFault
read_as length_is (Ok plan) = Ok plan
read_as length_is (Err ls) = Err (place_of length_is ls)

-- the plan that a text spells, or the fault of the text
unfoldable pub plan_of : List ℕ → Result Plan PlanFault
plan_of text = read_as (length text) (whole_plan (lines_of text))
