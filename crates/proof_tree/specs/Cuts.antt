-- Cuts: sets of nodes, and which grains of the loads that cross them are counted.
use Rattle.std.specs.Prelude.{ℕ, ◌≡◌, ◌≢◌, ◌<◌, ◌≤◌, ◌-◌, ◌*◌, Bool, true, false, not, ◌&&◌, ◌||◌, List, [], length, slice_index, slice_index_or, if◌then◌else◌, IsTrue, Any}
use Rattle.plan_base.specs.declared.ids.NodeId.{NodeId}
use Rattle.plan_base.specs.declared.ids.ArcId.{ArcId}
use Rattle.plan_base.specs.declared.parts.Orient.{Orient}
use Rattle.plan_base.specs.declared.parts.Orient.TheVariants.{Directed, Undirected, Bidirected}
use Rattle.plan_base.specs.declared.parts.Parts.{Parts}
use Rattle.plan_base.specs.Sums.{sum_below}
use Rattle.plan_base.specs.Arcs.{link_at, demand_at, tail_of, head_of}
use Rattle.plan_base.specs.Places.{is_two_way, places, link_of_place}
use Rattle.link_steps.specs.declared.batch.Batch.{Batch}
use Rattle.link_steps.specs.Tallies.{tally, IsTally, part}
use Rattle.proof_tree.specs.declared.limits.TheConstants.{MAX_CUTS, MAX_PERIOD}
use Rattle.proof_tree.specs.declared.cuts.Cut.{Cut}
use Rattle.proof_tree.specs.NodeSets.{holds}

-- the loads of both directions of a link share its capacity
abbrev pub is_shared : Orient → Bool
is_shared Directed = false
is_shared Undirected = true
is_shared Bidirected = false

-- from inside a set to outside it, or for both ways also from outside to inside
abbrev pub leaves_by : Bool → Bool → Bool → Bool
leaves_by both from to = (from && not to) || (both && (to && not from))

-- going from the one node to the other leaves the set, or enters it where that takes the same capacity
abbrev pub leaves : Parts → List Bool → NodeId → NodeId → Bool
leaves p nodes from to = leaves_by (is_shared p.orient) (holds nodes from) (holds nodes to)

-- the arc of a place, that of its link from source to target where the link has one place
abbrev pub arc_of_place : Parts → ℕ → ArcId
arc_of_place p q = record { 0 = if is_two_way p.orient then q else 2 * q }

-- the place crosses the set
abbrev pub place_crosses : Parts → List Bool → ℕ → Bool
place_crosses p nodes q = leaves p nodes (tail_of p (arc_of_place p q)) (head_of p (arc_of_place p q))

-- the demand crosses the set
abbrev pub demand_crosses : Parts → List Bool → ℕ → Bool
demand_crosses p nodes k = leaves p nodes (demand_at p k).source (demand_at p k).target

-- the loads of the demands that cross the set, in load grains
abbrev pub crossing_load : Parts → List Bool → ℕ
crossing_load p nodes = sum_below (λ k. if demand_crosses p nodes k then (demand_at p k).load else 0) (length p.demands)

-- the pre-installed capacity of the place's link where it is left out, else 0, in load grains
abbrev pub before_at : Parts → Cut → ℕ → ℕ
before_at p cut q = if cut.counts_installed then (link_at p (link_of_place p q)).pre else 0

-- what is left out on the places that cross the set, in load grains
abbrev pub crossing_before : Parts → Cut → ℕ
crossing_before p cut = sum_below (λ q. if place_crosses p cut.nodes q then before_at p cut q else 0) (places p)

-- what crosses the set beyond that, in load grains
abbrev pub rest_of : Parts → Cut → ℕ
rest_of p cut = crossing_load p cut.nodes - crossing_before p cut

-- the cut as a place sees it
abbrev pub batch_of : Parts → Cut → ℕ → Batch
batch_of p cut q = record { period = cut.period; first = cut.first; before = before_at p cut q; rest = rest_of p cut }

-- how many grains the cut counts of a load on a place, none where the place does not cross it
abbrev pub counted_at : Parts → Cut → ℕ → ℕ → ℕ
counted_at p cut q load = if place_crosses p cut.nodes q then part (batch_of p cut q) load else 0

-- how many grains the cut counts at least over all places
abbrev pub least_count : Parts → Cut → ℕ
least_count p cut = tally cut.period cut.first (rest_of p cut)

-- some nodes of the instance and not all, some grains of each period and at most all, and a period of at most twice the largest total load
pub record IsCut (p : Parts) (cut : Cut) : Type 0 where
  pub count : length cut.nodes ≡ p.nodes
  pub some : Any IsTrue cut.nodes
  pub not_all : Any (λ inside. inside ≡ false) cut.nodes
  pub is_tally : IsTally cut.period cut.first
  pub small : cut.period ≤ MAX_PERIOD

-- the cut that is read past the end of a list: no place crosses it
abbrev pub no_cut : Cut
no_cut = record { nodes = []; period = 1; first = 1; counts_installed = false }

-- the cut of this number
abbrev pub cut_at : List Cut → ℕ → Cut
cut_at cuts i = slice_index_or cuts i no_cut

-- each of them is a cut of the instance
abbrev pub AreCuts : Parts → List Cut → Type 0
AreCuts p cuts = (i : ℕ) → i < length cuts → IsCut p (cut_at cuts i)

-- no two of them are the same
abbrev pub AreDifferent : List Cut → Type 0
AreDifferent cuts = (i j : ℕ) → i < j → j < length cuts → cut_at cuts i ≢ cut_at cuts j

-- cuts of the instance, not too many, and no two the same
pub record IsCutList (p : Parts) (cuts : List Cut) : Type 0 where
  pub few : length cuts ≤ MAX_CUTS
  pub are_cuts : AreCuts p cuts
  pub different : AreDifferent cuts

-- what crosses each of them beyond what it leaves out, in load grains
pub record AreRests (p : Parts) (cuts : List Cut) (rests : List ℕ) : Type 0 where
  pub count : length rests ≡ length cuts
  pub each : (i : ℕ) → i < length cuts → slice_index rests i ≡ rest_of p (cut_at cuts i)
