-- Other paths than one, and what a restriction leaves to all demands.
use Rattle.std.specs.Prelude.{ℕ, ◌≡◌, ◌≢◌, ◌<◌, Bool, false, List, [], length, slice_index_or, IsTrue, ◌⊎◌}
use Rattle.plan_base.specs.declared.ids.ArcId.{ArcId}
use Rattle.plan_base.specs.declared.parts.Parts.{Parts}
use Rattle.plan_base.specs.Arcs.{is_arc, tail_of, head_of, demand_at}
use Rattle.plan_base.specs.Paths.{arc_at, node_at}
use Rattle.arc_restrict.specs.Restrictions.{Forbidden, IsPermittedPath, IsOnlyPath}
use Rattle.second_path.specs.declared.determined.Determined.{Determined}
use Rattle.second_path.specs.declared.determined.Determined.TheVariants.{Empty, Two, One}

-- another permitted path of the demand than this one
pub record IsOtherPath (p : Parts) (r : Forbidden) (k : ℕ) (arcs others : List ArcId) : Type 0 where
  pub permitted : IsPermittedPath p r k others
  pub different : others ≢ arcs

-- the demand has a permitted path
pub record HasPath (p : Parts) (r : Forbidden) (k : ℕ) : Type 0 where
  pub path : List ArcId
  pub permitted : IsPermittedPath p r k path

-- the one demand has the larger load, or the same load and the lower number
abbrev pub Precedes : Parts → ℕ → ℕ → Type 0
Precedes p k m =
    ((demand_at p m).load < (demand_at p k).load)
    ⊎ (((demand_at p k).load ≡ (demand_at p m).load) × (k < m))

-- the set holds the node of this number
abbrev pub holds : List Bool → ℕ → Bool
holds reached v = slice_index_or reached v false

-- permitted arcs lead from the demand's source to the node of this number, each from where the last one led
pub record IsReached (p : Parts) (r : Forbidden) (k v : ℕ) : Type 0 where
  pub walk : List ArcId
  pub are_arcs : (i : ℕ) → i < length walk → IsTrue (is_arc p (arc_at walk i))
  pub goes_on : (i : ℕ) → i < length walk → (tail_of p (arc_at walk i)).0 ≡ node_at p (demand_at p k).source walk i
  pub permitted : (i : ℕ) → i < length walk → r k (arc_at walk i) ≡ false
  pub ends : node_at p (demand_at p k).source walk (length walk) ≡ v

-- the set has the nodes that permitted arcs lead to from the demand's source and no others: its target is outside, and no permitted arc leaves it
pub record IsCutOff (p : Parts) (r : Forbidden) (k : ℕ) (set : List Bool) : Type 0 where
  pub nodes : length set ≡ p.nodes
  pub source : IsTrue (holds set (demand_at p k).source.0)
  pub target : holds set (demand_at p k).target.0 ≡ false
  pub reached : (v : ℕ) → IsTrue (holds set v) → IsReached p r k v
  pub closed : (a : ArcId) → IsTrue (is_arc p a) → r k a ≡ false
      → IsTrue (holds set (tail_of p a).0) → IsTrue (holds set (head_of p a).0)

-- the lowest-numbered demand without a permitted path, and the set of nodes that cuts it off
pub record IsFirstEmpty (p : Parts) (r : Forbidden) (k : ℕ) (reached : List Bool) : Type 0 where
  pub is_demand : k < length p.demands
  pub cut_off : IsCutOff p r k reached
  pub lowest : (m : ℕ) → m < k → HasPath p r m

-- each demand has a permitted path, and this is the first with two, of which these are two
pub record IsFirstTwo (p : Parts) (r : Forbidden) (k : ℕ) (first second : List ArcId) : Type 0 where
  pub is_demand : k < length p.demands
  pub permitted : IsPermittedPath p r k first
  pub other : IsOtherPath p r k first second
  pub all : (m : ℕ) → m < length p.demands → HasPath p r m
  pub others : (m : ℕ) → m < length p.demands → Precedes p m k → (arcs : List ArcId) × IsOnlyPath p r m arcs

-- each demand has one permitted path, and these are they
pub record AreOnlyPaths (p : Parts) (r : Forbidden) (paths : List (List ArcId)) : Type 0 where
  pub count : length paths ≡ length p.demands
  pub only : (k : ℕ) → k < length p.demands → IsOnlyPath p r k (slice_index_or paths k [])

-- what the answer says is so
abbrev pub IsDetermined : Parts → Forbidden → Determined → Type 0
IsDetermined p r (Empty demand reached) = IsFirstEmpty p r demand.0 reached
IsDetermined p r (Two demand first second) = IsFirstTwo p r demand.0 first second
IsDetermined p r (One paths) = AreOnlyPaths p r paths
