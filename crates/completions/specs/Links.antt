-- How a design is completed link by link. No public contract cites it.
use Rattle.std.specs.Prelude.{ℕ, ◌≡◌, ◌<◌, ◌+◌, ◌*◌, max, List, [], length, slice_index_or}
use Rattle.plan_base.specs.declared.ids.ArcId.{ArcId}
use Rattle.plan_base.specs.declared.parts.Parts.{Parts}
use Rattle.plan_base.specs.Sums.{sum_below}
use Rattle.plan_base.specs.Arcs.{link_at}
use Rattle.plan_base.specs.declared.path.Design.{Design}
use Rattle.plan_base.specs.Designs.{need, carried, module_cost_with, cost_of, AreCountsInShape, IsGoodDesign}
use Rattle.link_steps.specs.Costs.{AreLeastCounts}
use Rattle.completions.specs.Completions.{with_paths}

-- least counts in shape for the loads of a link's places, and the step cost that they attain, in cost grains
pub record IsLinkCompletion (p : Parts) (e there back cost : ℕ) (counts : List ℕ) : Type 0 where
  pub least : AreLeastCounts p e (max there back) counts
  pub in_shape : AreCountsInShape (link_at p e) counts
  pub is_cost : cost ≡ (link_at p e).routing * (there + back) + module_cost_with (link_at p e) counts

-- the counts of a link in a list
abbrev pub counts_in : List (List ℕ) → ℕ → List ℕ
counts_in all e = slice_index_or all e []

-- what the link costs with its paths' loads and these counts, in cost grains
abbrev pub cost_with : Parts → List (List ArcId) → List (List ℕ) → ℕ → ℕ
cost_with p paths all e = (link_at p e).routing * carried p (with_paths paths) e + module_cost_with (link_at p e) (counts_in all e)

-- the links before a count are completed, and together they cost so much
pub record AreCompletedTo (p : Parts) (paths : List (List ArcId)) (count cost : ℕ) (all : List (List ℕ)) : Type 0 where
  pub list_count : length all ≡ count
  pub least : (e : ℕ) → e < count → AreLeastCounts p e (need p (with_paths paths) e) (counts_in all e)
  pub in_shape : (e : ℕ) → e < count → AreCountsInShape (link_at p e) (counts_in all e)
  pub is_cost : cost ≡ sum_below (cost_with p paths all) count

-- a feasible design in shape, and its cost in cost grains
pub record IsPriced (p : Parts) (found : ℕ × Design) : Type 0 where
  pub good : IsGoodDesign p found.1
  pub is_cost : found.0 ≡ cost_of p found.1
