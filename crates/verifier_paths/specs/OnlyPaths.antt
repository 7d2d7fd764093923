-- Paths of all demands, and whether they are the only ones.
use Rattle.std.specs.Prelude.{ℕ, ◌≡◌, ◌<◌, Bool, List, [], length, slice_index_or, IsTrue, All, Option, Some, MatchOption}
use Rattle.plan_base.specs.declared.ids.ArcId.{ArcId}
use Rattle.plan_base.specs.declared.parts.Parts.{Parts}
use Rattle.plan_base.specs.Arcs.{tail_of, head_of, demand_at}
use Rattle.plan_base.specs.Places.{places}
use Rattle.plan_base.specs.Paths.{IsSimplePath}
use Rattle.arc_restrict.specs.Restrictions.{Forbidden, IsPermittedPath, IsOnlyPath}
use Rattle.arc_restrict.specs.Prices.{AreWithinLimit}
use Rattle.verifier_paths.specs.declared.uniqueness.OnlyPaths.{OnlyPaths}
use Rattle.verifier_paths.specs.declared.uniqueness.OnlyPaths.TheVariants.{Missing, Second, Only}
use Rattle.verifier_paths.specs.Labels.{label_at, AreLeast}

-- each demand has a permitted path
abbrev pub HavePaths : Parts → Forbidden → Type 0
HavePaths p r = (k : ℕ) → k < length p.demands → (arcs : List ArcId) × IsPermittedPath p r k arcs

-- a demand of which no path is the only permitted one: where it has a path, it has a second one
pub record HasSecond (p : Parts) (r : Forbidden) : Type 0 where
  pub demand : ℕ
  pub within : demand < length p.demands
  pub second : (arcs : List ArcId) → IsOnlyPath p r demand arcs → ⊥

-- the price 1 for each place, which is within the limit
pub record AreOnes (p : Parts) (prices : List ℕ) : Type 0 where
  pub count : length prices ≡ places p
  pub each : All (λ price. price ≡ 1) prices
  pub limit : AreWithinLimit p prices

-- each node has the fewest arcs of all ways to it
abbrev pub AreFewestArcs : Parts → (ArcId → Bool) → ℕ → List (Option ℕ) → Type 0
AreFewestArcs p takes source labels = AreLeast p takes (λ arcs. length arcs) source labels

-- a simple path of the demand, of arcs that may be taken
pub record IsPathOf (p : Parts) (takes : ArcId → Bool) (k : ℕ) (arcs : List ArcId) : Type 0 where
  pub simple : IsSimplePath p (demand_at p k) arcs
  pub taken : All (λ a. IsTrue (takes a)) arcs

-- the arc may be taken to the node, from one with this price
pub record IsStep (p : Parts) (takes : ArcId → Bool) (labels : List (Option ℕ)) (here steps : ℕ) (a : ArcId) : Type 0 where
  pub taken : IsTrue (takes a)
  pub leads : (head_of p a).0 ≡ here
  pub nearer : label_at labels (tail_of p a).0 ≡ Some steps

-- an arc to the node from one with this price; or there is none
abbrev pub IsStepBack : Parts → (ArcId → Bool) → List (Option ℕ) → ℕ → ℕ → Option ArcId → Type 0
IsStepBack p takes labels here steps found = MatchOption found ((a : ArcId) → IsStep p takes labels here steps a → ⊥) (IsStep p takes labels here steps)

-- the paths of the design of these paths, whose counts do not matter
abbrev pub path_in : List (List ArcId) → ℕ → List ArcId
path_in paths k = slice_index_or paths k []

-- a permitted path of each of the first n demands
pub record ArePathsTo (p : Parts) (r : Forbidden) (n : ℕ) (paths : List (List ArcId)) : Type 0 where
  pub count : length paths ≡ n
  pub each : (k : ℕ) → k < n → IsPermittedPath p r k (path_in paths k)

-- the only permitted path of each of the first n demands
abbrev pub AreOnlyTo : Parts → Forbidden → ℕ → List (List ArcId) → Type 0
AreOnlyTo p r n paths = (k : ℕ) → k < n → IsOnlyPath p r k (path_in paths k)

-- what is left to the demands: to one no path, or to each a path and to one a second, or these only paths
abbrev pub IsOnlyPaths : Parts → Forbidden → OnlyPaths → Type 0
IsOnlyPaths p r Missing = HavePaths p r → ⊥
IsOnlyPaths p r Second = HavePaths p r × HasSecond p r
IsOnlyPaths p r (Only paths) = (length paths ≡ length p.demands) × AreOnlyTo p r (length p.demands) paths
