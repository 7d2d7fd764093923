-- A gathering keeps a state sound: the columns stay different simple paths, and not too many.
use Rattle.std.proofs.Common.{◌≡◌, ℕ, zero, suc, ◌≤◌, List, [], ◌∷◌, length, Option, Some, None, slice_get, refl, sym, ap, subst, arith}
use Rattle.std.specs.Prelude.{slice_index_or}
use Rattle.plan_base.specs.declared.ids.BranchId.{BranchId}
use Rattle.plan_base.specs.declared.parts.Parts.{Parts}
use Rattle.plan_base.specs.Arcs.{demand_at}
use Rattle.plan_base.specs.Paths.{IsSimplePath}
use Rattle.column_pool.specs.declared.brief.Brief.{Brief}
use Rattle.column_pool.specs.Columns.{Columns, AreColumns}
use Rattle.column_pool.proofs.AddedColumns.{AreColumns-with}
use Rattle.search_machine.specs.State.{Found, Round, Node, State}
use Rattle.search_machine.specs.Gathering.{with_path_of, gathered, IsCompleteRound, Gathers, GathersFront}
use Rattle.search_machine.specs.Soundness.{IsSound}
use Rattle.search_machine.proofs.Replacing.{node_at}

found_at : (found : List (Option Found)) (k : ℕ) (one : Found) → slice_index_or found k None ≡ Some one → slice_get found k ≡ Some (Some one)
found_at [] k one is = absurd (let bad : ◌≡◌ {A = Option Found} None (Some one) = is in cc)
found_at (o ∷ found) zero one is = ap (λ (x : Option Found). Some x) is
found_at (o ∷ found) (suc k) one is = found_at found k one is

-- what is found for each demand is a simple path of it
abbrev ArePathsFound : Parts → List (Option Found) → Type 0
ArePathsFound p found = (k : ℕ) (one : Found) → slice_get found k ≡ Some (Some one) → IsSimplePath p (demand_at p k) one.path

-- columns stay different simple paths, and not too many, when the paths of some first demands are added
pub AreColumns-gathered : (p : Parts) (columns : Columns) (found : List (Option Found)) (n : ℕ) → AreColumns p columns → ArePathsFound p found → n ≤ length p.demands → AreColumns p (gathered columns found n)
AreColumns-gathered p columns found zero h simple within = h
AreColumns-gathered p columns found (suc n) h simple within =
    by (slice_index_or found n None) refl (AreColumns-gathered p columns found n h simple (omega arith))
  where
    by : (o : Option Found) → slice_index_or found n None ≡ o → AreColumns p (gathered columns found n) → AreColumns p (with_path_of (gathered columns found n) n o)
    by None is rest = rest
    by (Some one) is rest = AreColumns-with p (gathered columns found n) n one.path rest (omega arith) (simple n one (found_at found n one is))

-- a state with other columns
columns-sound : (s : State) (columns : Columns) → IsSound s → AreColumns s.problem columns → IsSound (record s { columns = columns })
columns-sound s columns h are = assumption (h, are)

-- the paths of a sound state's round
pub round-paths_found : (s : State) (id : BranchId) (node : Node) (round : Round) → IsSound s → slice_get s.nodes id.0 ≡ Some node → node.round ≡ Some round → ArePathsFound s.problem round.found
round-paths_found s id node round h is_node is_round k one is =
    let in_round = rw is_round at ((node_at s id.0 node h is_node).round) in
    (in_round.1.least k one is).permitted.simple

-- the columns when some of these paths were added
front-sound : (s : State) (id : BranchId) (version : ℕ) (node : Node) (round : Round) (n : ℕ) → IsSound s → IsCompleteRound s id version node round → n ≤ length s.problem.demands
    → IsSound (record s { columns = gathered s.columns round.found n })
front-sound s id version node round n h is within =
    columns-sound s (gathered s.columns round.found n) h
    (AreColumns-gathered s.problem s.columns round.found n h.columns (round-paths_found s id node round h is.is_node is.is_round) within)

-- a state stays sound when all paths of a complete round become columns
pub Gathers-sound : (s t : State) (id : BranchId) (version : ℕ) (brief : Brief) → IsSound s → Gathers s id version brief t → IsSound t
Gathers-sound s t id version brief h e =
    subst IsSound (sym e.becomes) (front-sound s id version e.node e.round (length s.problem.demands) h e.complete_round (omega arith))

-- a state stays sound when memory was wanting and the paths of some first demands became columns
pub GathersFront-sound : (s t : State) (id : BranchId) (version : ℕ) → IsSound s → GathersFront s id version t → IsSound t
GathersFront-sound s t id version h e =
    subst IsSound (sym e.becomes) (front-sound s id version e.node e.round e.front h e.complete_round e.within)
