-- Limits: what they ask of a restriction and of ranges, and that the children of a split have them.
use Rattle.std.proofs.Common.{◌≡◌, ◌*◌, ◌<◌, ◌≤◌, List, length, arith}
use Rattle.std.proofs.lemmas.List.Elements.{All-weaker}
use Rattle.plan_base.specs.declared.ids.ArcId.{ArcId}
use Rattle.plan_base.specs.declared.parts.Parts.{Parts}
use Rattle.plan_base.specs.declared.limits.TheConstants.{MAX_TOTAL_LOAD}
use Rattle.plan_base.specs.Facts.{total_load}
use Rattle.plan_base.specs.Arcs.{link_at}
use Rattle.plan_base.specs.Places.{places, link_of_place}
use Rattle.plan_base.proofs.TopLoads.{top-le}
use Rattle.link_steps.specs.declared.range.LoadRange.{LoadRange}
use Rattle.link_steps.specs.Ranges.{AreRanges}
use Rattle.arc_restrict.specs.Rows.{Rows, HasSizeOf}
use Rattle.proof_tree.specs.Regions.{Region, IsLoadSplit}
use Rattle.proof_tree.proofs.RangeLaws.{AreRanges-up_to, AreRanges-above}
use Rattle.branch_tree.specs.declared.node.Limit.{Limit}
use Rattle.branch_tree.specs.declared.node.Limit.TheVariants as limit
use Rattle.branch_tree.specs.declared.node.LoadSplit.{LoadSplit}
use Rattle.branch_tree.specs.declared.node.Divider.{Divider}
use Rattle.branch_tree.specs.declared.node.Divider.TheVariants as divider
use Rattle.branch_tree.specs.Branches.{ranges_with, left_limit, right_limit, IsLimitOf, HasLimitRow, HasLimitRange}

-- a restriction made for the instance has the row of each limit of it
pub limit-row : (p : Parts) (rows : Rows) (last : Limit) → HasSizeOf p rows → IsLimitOf p last → HasLimitRow rows last
limit-row p rows (limit.Arcs id arcs) size is = (
  omega (arith, size.demands, is.0),
  All-weaker (λ (a : ArcId). a.0 < 2 * length p.links) (λ (a : ArcId). a.0 < rows.arcs) (λ a below. omega (arith, size.arcs, below)) arcs is.1,
)
limit-row p rows (limit.UpTo place load) size is = tt
limit-row p rows (limit.Above place load) size is = tt

-- as many ranges as the instance has places have the range of each limit of it
pub limit-range : (p : Parts) (ranges : List LoadRange) (last : Limit) → length ranges ≡ places p → IsLimitOf p last → HasLimitRange ranges last
limit-range p ranges (limit.Arcs id arcs) count is = tt
limit-range p ranges (limit.UpTo place load) count is = (omega (arith, count, is.0), is.1)
limit-range p ranges (limit.Above place load) count is = (omega (arith, count, is.0), is.1)

-- both children of a split may have its limits: they are limits of the instance, and leave each place a load
pub record HasSides (p : Parts) (ranges : List LoadRange) (by : Divider) : Type 0 where
  pub left : IsLimitOf p (left_limit by)
  pub right : IsLimitOf p (right_limit by)
  pub left_ranges : AreRanges p (ranges_with ranges (left_limit by))
  pub right_ranges : AreRanges p (ranges_with ranges (right_limit by))

-- a split of loads has such sides
pub load-sides : (p : Parts) (g : Region) (split : LoadSplit) → total_load p ≤ MAX_TOTAL_LOAD → AreRanges p g.ranges → IsLoadSplit p g.ranges split.place split.load → HasSides p g.ranges (divider.Load split)
load-sides p g split total are is =
    let had = are.each split.place is.is_place in
    let top = top-le p (link_at p (link_of_place p split.place)) in
    let low : split.load < MAX_TOTAL_LOAD = omega (arith, is.some_right, had.carried, top, total) in
    record {
      left = (is.is_place, low);
      right = (is.is_place, low);
      left_ranges = AreRanges-up_to p g split.place split.load is are;
      right_ranges = AreRanges-above p g split.place split.load is are;
    }
