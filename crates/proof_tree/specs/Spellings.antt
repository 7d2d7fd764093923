-- Plans that a plan text can spell: their sizes, numbers and lists go together.
use Rattle.std.specs.Prelude.{ℕ, suc, ◌≡◌, ◌<◌, ◌≤◌, ◌+◌, ◌*◌, Bool, if◌then◌else◌, List, length, IsTrue, All, ⊤, Option, IsSome, IsNone, IfSome, ℤ}
use Rattle.plan_base.specs.declared.ids.ArcId.{ArcId}
use Rattle.plan_base.specs.declared.path.Design.{Design}
use Rattle.plan_base.specs.declared.limits.TheConstants.{MAX_NODES, MAX_LINKS, MAX_DEMANDS, MAX_MODULES}
use Rattle.plan_base.specs.Paths.{arc_at}
use Rattle.proof_tree.specs.declared.limits.TheConstants.{MAX_BUDGET, MAX_RECORDS, MAX_PATH_ARCS, MAX_SIDE_ARCS, MAX_CUTS}
use Rattle.proof_tree.specs.declared.cuts.Cut.{Cut as LoadCut}
use Rattle.proof_tree.specs.declared.tree.Evidence.{Evidence}
use Rattle.proof_tree.specs.declared.tree.Evidence.TheVariants.{Bound, Routed, Overfull, Cut, Far, Crowd, Open}
use Rattle.proof_tree.specs.declared.tree.TreeNode.{TreeNode}
use Rattle.proof_tree.specs.declared.tree.TreeNode.TheVariants.{Split, Loads, Leaf}
use Rattle.proof_tree.specs.declared.plan.PlanStatus.{PlanStatus}
use Rattle.proof_tree.specs.declared.plan.PlanStatus.TheVariants.{Optimal, Infeasible, Undecided}
use Rattle.proof_tree.specs.declared.plan.Plan.{Plan}
use Rattle.proof_tree.specs.Shapes.{are_trees}

-- each arc has a greater number than the one before it
abbrev pub IsAscending : List ArcId → Type 0
IsAscending arcs = (i : ℕ) → suc i < length arcs → (arc_at arcs i).0 < (arc_at arcs (suc i)).0

-- arcs that can stand as one side of a split
pub record IsWrittenSide (arcs : List ArcId) : Type 0 where
  pub few : length arcs ≤ MAX_SIDE_ARCS
  pub ascending : IsAscending arcs

-- how many places the links of a plan have: one each, or two where each direction has a price of its own
abbrev pub places_in : Bool → ℕ → ℕ
places_in both links = if both then 2 * links else links

-- how many numbers a leaf of a plan has: a price for each place, and a rate for each cut
abbrev pub numbers_in : Plan → ℕ
numbers_in plan = places_in plan.both plan.links + length plan.cuts

-- so many numbers, or for each node whether it is reached
abbrev pub FitsEvidence : ℕ → ℕ → Evidence → Type 0
FitsEvidence nodes numbers (Bound list) = length list ≡ numbers
FitsEvidence nodes numbers Routed = ⊤
FitsEvidence nodes numbers (Overfull link) = ⊤
FitsEvidence nodes numbers (Cut demand reached) = length reached ≡ nodes
FitsEvidence nodes numbers (Far demand) = ⊤
FitsEvidence nodes numbers (Crowd list) = length list ≡ numbers
FitsEvidence nodes numbers (Open list) = length list ≡ numbers

-- a record that can stand in a text of these counts of nodes and of numbers
abbrev pub FitsRecord : ℕ → ℕ → TreeNode → Type 0
FitsRecord nodes numbers (Split demand at left right) = IsWrittenSide left × IsWrittenSide right
FitsRecord nodes numbers (Loads place load) = ⊤
FitsRecord nodes numbers (Leaf evidence) = FitsEvidence nodes numbers evidence

-- few enough records, each of which can stand there
pub record FitsTree (nodes numbers : ℕ) (records : List TreeNode) : Type 0 where
  pub few : length records ≤ MAX_RECORDS
  pub each : All (FitsRecord nodes numbers) records

-- few enough cuts, each with an answer for each node
pub record FitsCuts (nodes : ℕ) (cuts : List LoadCut) : Type 0 where
  pub few : length cuts ≤ MAX_CUTS
  pub each : All (λ cut. length cut.nodes ≡ nodes) cuts

-- a path for each demand and a list of counts for each link, none of them too long
pub record FitsDesign (demands links : ℕ) (d : Design) : Type 0 where
  pub path_count : length d.paths ≡ demands
  pub list_count : length d.counts ≡ links
  pub short_paths : All (λ arcs. length arcs ≤ MAX_PATH_ARCS) d.paths
  pub short_lists : All (λ counts. length counts ≤ MAX_MODULES) d.counts

-- an optimal plan has a design and an infeasible plan has none, and only an undecided plan has a bound
abbrev pub FitsStatus : PlanStatus → Option (ℕ × Design) → Option ℤ → Type 0
FitsStatus Optimal design bound = IsSome design × IsNone bound
FitsStatus Infeasible design bound = IsNone design × IsNone bound
FitsStatus Undecided design bound = ⊤

-- sizes of an instance, and a budget that may be given
pub record FitsSizes (plan : Plan) : Type 0 where
  pub nodes : plan.nodes ≤ MAX_NODES
  pub links : plan.links ≤ MAX_LINKS
  pub demands : plan.demands ≤ MAX_DEMANDS
  pub some_budget : 1 ≤ plan.budget
  pub budget : plan.budget ≤ MAX_BUDGET

-- a plan that a text can spell
pub record IsSpellable (plan : Plan) : Type 0 where
  pub sizes : FitsSizes plan
  pub status : FitsStatus plan.status plan.design plan.bound
  pub design : IfSome plan.design (λ design. FitsDesign plan.demands plan.links design.1)
  pub whole : IsTrue (are_trees 1 plan.tree)
  pub cuts : FitsCuts plan.nodes plan.cuts
  pub records : FitsTree plan.nodes (numbers_in plan) plan.tree
