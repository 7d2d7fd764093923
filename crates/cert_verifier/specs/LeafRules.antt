-- The rules of each kind of leaf, in their order. The last rule of a kind is that the leaf has its evidence.
use Rattle.std.specs.Prelude.{ℕ, ◌≡◌, ◌<◌, false, List, length, slice_index, IsTrue, Option, IsSome, IsSomeAnd}
use Rattle.plan_base.specs.declared.parts.Parts.{Parts}
use Rattle.plan_base.specs.declared.ids.DemandId.{DemandId}
use Rattle.plan_base.specs.declared.path.Design.{Design}
use Rattle.plan_base.specs.Facts.{is_useful}
use Rattle.plan_base.specs.Arcs.{link_at, demand_at}
use Rattle.plan_base.specs.Places.{places, link_of_place}
use Rattle.plan_base.specs.Designs.{need}
use Rattle.link_steps.specs.declared.range.LoadRange.{LoadRange}
use Rattle.link_steps.specs.Costs.{CanCarry}
use Rattle.arc_restrict.specs.Restrictions.{Forbidden}
use Rattle.arc_restrict.specs.Prices.{AreWithinLimit}
use Rattle.proof_tree.specs.declared.cuts.Cut.{Cut as LoadCut}
use Rattle.proof_tree.specs.declared.tree.Evidence.{Evidence}
use Rattle.proof_tree.specs.declared.tree.Evidence.TheVariants.{Bound, Routed, Overfull, Cut, Far, Crowd, Open}
use Rattle.proof_tree.specs.Regions.{Region}
use Rattle.proof_tree.specs.Evidence.{AreOnlyPaths, CostEnough, holds, is_cut_short}
use Rattle.proof_tree.specs.RatedEvidence.{AreLawfulNumbers, HasRatedEvidence}
use Rattle.verifier_paths.specs.OnlyPaths.{HavePaths}
use Rattle.cert_verifier.specs.declared.rejected.Rejected.{Rejected}
use Rattle.cert_verifier.specs.declared.rejected.Rejected.TheVariants.{Leaf}
use Rattle.cert_verifier.specs.Rules.{unless, ◌then_by◌}

-- each demand has one permitted path and no second one
abbrev pub HaveOnlyPaths : Parts → Forbidden → Type 0
HaveOnlyPaths p r = (d : Design) × AreOnlyPaths p r d

-- each link can carry what it needs for the only paths
abbrev pub CanCarryAll : Parts → Forbidden → Type 0
CanCarryAll p r = (d : Design) → AreOnlyPaths p r d → (e : ℕ) → e < length p.links → CanCarry p e (need p d e)

-- the demand exists and has a limit
pub record HasLimit (p : Parts) (id : DemandId) : Type 0 where
  pub demand : id.0 < length p.demands
  pub limit : IsSome (demand_at p id.0).hops

-- the prices of the places of useful links are 0 where their ranges end at the top load
abbrev pub AreFreeOnUseful : Parts → List LoadRange → List ℕ → Type 0
AreFreeOnUseful p ranges prices = (q : ℕ) → q < places p → IsTrue (is_useful (link_at p (link_of_place p q))) → is_cut_short p ranges q ≡ false → slice_index prices q ≡ 0

-- the leaf has its evidence
abbrev pub Closes : Parts → List LoadCut → Option ℕ → Region → Evidence → Type 0
Closes p cuts cost g evidence = HasRatedEvidence p cuts cost g evidence

-- the first rule that a leaf of a record of this index breaks.
-- Bound: 1 prices and rates as they have to be, 2 paths, 3 the bound is above the cost less the unit of costs.
-- Routed: 1 paths, 2 no second ones, 3 links carry them, 4 they cost at least the cost, 5 they keep their limits.
-- Overfull: 1 the link exists, 2 paths, 3 no second ones, 4 the link cannot carry them, or a place of it has a load outside
-- its range.
-- Cut: 1 the demand exists, 2 its source is in the set, 3 its target is not, 4 no permitted arc leaves the set.
-- Far: 1 the demand exists and has a limit, 2 no permitted path keeps it.
-- Crowd: 1 numbers within the limit, 2 free places of useful links where their ranges end at the top load, 3 paths, 4 the
-- demands ask for more than there is.
-- Open: 1 prices and rates as they have to be.
unfoldable pub LeafFinds : Parts → List LoadCut → Option ℕ → Region → ℕ → Evidence → Option Rejected → Type 0
LeafFinds p cuts cost g index (Bound numbers) =
    unless (AreLawfulNumbers p cuts numbers) (Leaf index 1)
    then_by unless (HavePaths p g.forbidden) (Leaf index 2)
    then_by unless (Closes p cuts cost g (Bound numbers)) (Leaf index 3)
LeafFinds p cuts cost g index Routed =
    unless (HavePaths p g.forbidden) (Leaf index 1)
    then_by unless (HaveOnlyPaths p g.forbidden) (Leaf index 2)
    then_by unless (CanCarryAll p g.forbidden) (Leaf index 3)
    then_by unless (IsSomeAnd cost (λ c. CostEnough p g.forbidden c)) (Leaf index 4)
    then_by unless (Closes p cuts cost g Routed) (Leaf index 5)
LeafFinds p cuts cost g index (Overfull link) =
    unless (link.0 < length p.links) (Leaf index 1)
    then_by unless (HavePaths p g.forbidden) (Leaf index 2)
    then_by unless (HaveOnlyPaths p g.forbidden) (Leaf index 3)
    then_by unless (Closes p cuts cost g (Overfull link)) (Leaf index 4)
LeafFinds p cuts cost g index (Cut demand reached) =
    unless (demand.0 < length p.demands) (Leaf index 1)
    then_by unless (IsTrue (holds reached (demand_at p demand.0).source)) (Leaf index 2)
    then_by unless (holds reached (demand_at p demand.0).target ≡ false) (Leaf index 3)
    then_by unless (Closes p cuts cost g (Cut demand reached)) (Leaf index 4)
LeafFinds p cuts cost g index (Far demand) =
    unless (HasLimit p demand) (Leaf index 1)
    then_by unless (Closes p cuts cost g (Far demand)) (Leaf index 2)
LeafFinds p cuts cost g index (Crowd prices) =
    unless (AreWithinLimit p prices) (Leaf index 1)
    then_by unless (AreFreeOnUseful p g.ranges prices) (Leaf index 2)
    then_by unless (HavePaths p g.forbidden) (Leaf index 3)
    then_by unless (Closes p cuts cost g (Crowd prices)) (Leaf index 4)
LeafFinds p cuts cost g index (Open numbers) = unless (AreLawfulNumbers p cuts numbers) (Leaf index 1)
