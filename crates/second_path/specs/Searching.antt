-- Pieces of the search. No public clause cites this module.
use Rattle.std.specs.Prelude.{ℕ, ◌≡◌, ◌<◌, ◌≤◌, Bool, true, false, List, [], ◌∷◌, ◌++◌, length, vec_len, slice_index_or, Option, Some, None, reverse, take, ◌⊎◌, IsTrue, ◌≢◌}
use Rattle.std.specs.List.{AllByRecursion}
use Rattle.plan_base.specs.declared.ids.NodeId.{NodeId}
use Rattle.plan_base.specs.declared.ids.ArcId.{ArcId}
use Rattle.plan_base.specs.declared.parts.Parts.{Parts}
use Rattle.plan_base.specs.Arcs.{is_arc, tail_of, head_of}
use Rattle.plan_base.specs.Paths.{arc_at, node_at}
use Rattle.arc_restrict.specs.Restrictions.{Forbidden, IsPermittedPath, IsOnlyPath}
use Rattle.second_path.specs.declared.search.Search.{Search}
use Rattle.second_path.specs.declared.determining.Held.{Held}
use Rattle.second_path.specs.Others.{holds, IsOtherPath, Precedes}

-- one of the first n arrivals leads to the node of this number
pub record IsLedTo (p : Parts) (arrivals : List ArcId) (n v : ℕ) : Type 0 where
  pub place : ℕ
  pub within : place < n
  pub leads : (head_of p (arc_at arrivals place)).0 ≡ v

-- the node is the start, or one of the first n arrivals leads to it
abbrev pub IsBefore : Parts → NodeId → List ArcId → ℕ → ℕ → Type 0
IsBefore p start arrivals n v = (v ≡ start.0) ⊎ IsLedTo p arrivals n v

-- the arrivals are a tree: each leads by an arc that may be taken from a node before it to a new node, which was not met at first
pub record IsTree (p : Parts) (takes : ArcId → Bool) (first : List Bool) (start : NodeId) (arrivals : List ArcId) : Type 0 where
  pub taken : (i : ℕ) → i < length arrivals → takes (arc_at arrivals i) ≡ true
  pub free : (i : ℕ) → i < length arrivals → holds first (head_of p (arc_at arrivals i)).0 ≢ true
  pub is_new : (i : ℕ) → i < length arrivals → IsBefore p start arrivals i (head_of p (arc_at arrivals i)).0 → ⊥
  pub rooted : (i : ℕ) → i < length arrivals → IsBefore p start arrivals i (tail_of p (arc_at arrivals i)).0

-- a tree, and the nodes that are met: those of the first set and those that the arrivals lead to
pub record IsSearch (p : Parts) (takes : ArcId → Bool) (first : List Bool) (start : NodeId) (met : List Bool) (arrivals : List ArcId) : Type 0 where
  pub tree : IsTree p takes first start arrivals
  pub start_met : holds first start.0 ≡ true
  pub met_first : (v : ℕ) → holds first v ≡ true → holds met v ≡ true
  pub met_led : (i : ℕ) → i < length arrivals → holds met (head_of p (arc_at arrivals i)).0 ≡ true
  pub met_only : (v : ℕ) → holds met v ≡ true → (holds first v ≡ true) ⊎ IsLedTo p arrivals (length arrivals) v

-- nothing is lost: met nodes stay met, and arrivals keep their places
pub record Grows (met more : List Bool) (arrivals longer : List ArcId) : Type 0 where
  pub count : length more ≡ length met
  pub stays : (v : ℕ) → holds met v ≡ true → holds more v ≡ true
  pub room : length arrivals ≤ length longer
  pub kept : (i : ℕ) → i < length arrivals → arc_at longer i ≡ arc_at arrivals i

-- each arc that may be taken from the node leads to a met node
abbrev pub IsSpent : Parts → (ArcId → Bool) → List Bool → ℕ → Type 0
IsSpent p takes met v = (a : ArcId) → takes a ≡ true → (tail_of p a).0 ≡ v → holds met (head_of p a).0 ≡ true

-- a search that has gone on as far as it can
pub record IsWhole (p : Parts) (takes : ArcId → Bool) (first : List Bool) (start : NodeId) (met : List Bool) (arrivals : List ArcId) : Type 0 where
  pub search : IsSearch p takes first start met arrivals
  pub spent : (v : ℕ) → IsBefore p start arrivals (length arrivals) v → IsSpent p takes met v

-- a search that has gone on as far as it can, and has not met the target
pub record IsInVain (p : Parts) (takes : ArcId → Bool) (first : List Bool) (start target : NodeId) (met : List Bool) (arrivals : List ArcId) : Type 0 where
  pub whole : IsWhole p takes first start met arrivals
  pub unmet : holds met target.0 ≡ false

-- going along an arc: a node that it leads to is met, and a search stays a search
pub record IsArrival (p : Parts) (takes : ArcId → Bool) (a : ArcId) (met more : List Bool) (arrivals longer : List ArcId) : Type 0 where
  pub grows : Grows met more arrivals longer
  pub is_met : takes a ≡ true → holds more (head_of p a).0 ≡ true
  pub search : (first : List Bool) (start : NodeId) → IsSearch p takes first start met arrivals
      → IsBefore p start arrivals (length arrivals) (tail_of p a).0 → IsSearch p takes first start more longer

-- going along the first n of the arcs that leave a node
pub record IsVisitSoFar (p : Parts) (takes : ArcId → Bool) (v : ℕ) (leaving : List ArcId) (n : ℕ) (met more : List Bool) (arrivals longer : List ArcId) : Type 0 where
  pub grows : Grows met more arrivals longer
  pub are_met : (i : ℕ) → i < n → takes (arc_at leaving i) ≡ true → holds more (head_of p (arc_at leaving i)).0 ≡ true
  pub search : (first : List Bool) (start : NodeId) → IsSearch p takes first start met arrivals
      → IsBefore p start arrivals (length arrivals) v → IsSearch p takes first start more longer

-- going along all arcs that leave a node
pub record IsVisit (p : Parts) (takes : ArcId → Bool) (v : ℕ) (met more : List Bool) (arrivals longer : List ArcId) : Type 0 where
  pub grows : Grows met more arrivals longer
  pub spent : IsSpent p takes more v
  pub search : (first : List Bool) (start : NodeId) → IsSearch p takes first start met arrivals
      → IsBefore p start arrivals (length arrivals) v → IsSearch p takes first start more longer

-- a search whose start and first n arrivals are spent
pub record IsSpentTo (p : Parts) (takes : ArcId → Bool) (first : List Bool) (start : NodeId) (n : ℕ) (met : List Bool) (arrivals : List ArcId) : Type 0 where
  pub search : IsSearch p takes first start met arrivals
  pub room : n ≤ length arrivals
  pub spent : (v : ℕ) → IsBefore p start arrivals n v → IsSpent p takes met v

-- none of the arcs leads to the node of this number
abbrev pub Avoids : Parts → ℕ → List ArcId → Type 0
Avoids p v arcs = AllByRecursion (λ a. (head_of p a).0 ≢ v) arcs

-- the arcs lead from one node to another and meet no node twice
abbrev pub IsRoute : Parts → NodeId → NodeId → List ArcId → Type 0
IsRoute p from to [] = from.0 ≡ to.0
IsRoute p from to (a ∷ arcs) = IsTrue (is_arc p a) × ((tail_of p a).0 ≡ from.0) × Avoids p from.0 (a ∷ arcs) × IsRoute p (head_of p a) to arcs

-- an arc that may be taken, to a node that is not in the first set
abbrev pub IsFree : Parts → (ArcId → Bool) → List Bool → ArcId → Type 0
IsFree p takes first a = (takes a ≡ true) × (holds first (head_of p a).0 ≢ true)

-- a route over arcs that may be taken, which enters no node of the first set
pub record IsFreeRoute (p : Parts) (takes : ArcId → Bool) (first : List Bool) (from to : NodeId) (arcs : List ArcId) : Type 0 where
  pub route : IsRoute p from to arcs
  pub free : AllByRecursion (IsFree p takes first) arcs

-- one step back along an arrival, where it leads to the wanted node
pub record IsStepBack (p : Parts) (a : ArcId) (want more : NodeId) (picked longer : List ArcId) : Type 0 where
  pub taken : (head_of p a).0 ≡ want.0 → (more ≡ tail_of p a) × (longer ≡ picked ++ a ∷ [])
  pub passed : (head_of p a).0 ≢ want.0 → (more ≡ want) × (longer ≡ picked)

-- what was picked, last first, leads from the wanted node to the target, and the first n arrivals lead to the wanted node and to none behind it
pub record IsBackTo (p : Parts) (takes : ArcId → Bool) (first : List Bool) (start target : NodeId) (arrivals : List ArcId) (n : ℕ) (want : NodeId) (picked : List ArcId) : Type 0 where
  pub route : IsFreeRoute p takes first want target (reverse picked)
  pub before : IsBefore p start arrivals n want.0
  pub behind : (v : ℕ) → IsBefore p start arrivals n v → Avoids p v (reverse picked)

-- one of the first n nodes of the walk from a source
pub record IsNodeBefore (p : Parts) (source : NodeId) (path : List ArcId) (n v : ℕ) : Type 0 where
  pub place : ℕ
  pub within : place < n
  pub is : node_at p source path place ≡ v

-- the set is the first n nodes of the walk
pub record IsBlockedTo (p : Parts) (source : NodeId) (path : List ArcId) (n : ℕ) (blocked : List Bool) : Type 0 where
  pub marked : (j : ℕ) → j < n → holds blocked (node_at p source path j) ≡ true
  pub only : (v : ℕ) → holds blocked v ≡ true → IsNodeBefore p source path n v

-- no other permitted path parts from this one at this place
abbrev pub HasNoOtherAt : Parts → Forbidden → ℕ → List ArcId → ℕ → Type 0
HasNoOtherAt p r k path i = (others : List ArcId) → IsPermittedPath p r k others
    → take i others ≡ take i path → i < length others → arc_at others i ≡ arc_at path i

-- one place for each node
pub record HasRoom (nodes : ℕ) (search : Search) : Type 0 where
  pub blocked : vec_len search.blocked ≡ nodes
  pub met : vec_len search.met ≡ nodes

-- one permitted path for each of the first n demands
pub record ArePaths (p : Parts) (r : Forbidden) (n : ℕ) (paths : List (List ArcId)) : Type 0 where
  pub count : length paths ≡ n
  pub permitted : (k : ℕ) → k < n → IsPermittedPath p r k (slice_index_or paths k [])

-- a demand with two paths, and those of the first n demands that come before it have only theirs
pub record IsHeld (p : Parts) (r : Forbidden) (paths : List (List ArcId)) (n : ℕ) (held : Held) : Type 0 where
  pub within : held.demand.0 < n
  pub other : IsOtherPath p r held.demand.0 (slice_index_or paths held.demand.0 []) held.other
  pub before : (m : ℕ) → m < n → Precedes p m held.demand.0 → IsOnlyPath p r m (slice_index_or paths m [])

-- of the first n demands, the first with two paths is held, or none has two
abbrev pub IsHeldTo : Parts → Forbidden → List (List ArcId) → ℕ → Option Held → Type 0
IsHeldTo p r paths n (Some held) = IsHeld p r paths n held
IsHeldTo p r paths n None = (m : ℕ) → m < n → IsOnlyPath p r m (slice_index_or paths m [])
