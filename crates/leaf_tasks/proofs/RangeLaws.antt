-- Loads of a range are loads of the instance.
use Rattle.std.proofs.Common.{ℕ, ◌<◌, ◌≤◌, List, arith}
use Rattle.plan_base.specs.declared.parts.Parts.{Parts}
use Rattle.plan_base.specs.Arcs.{link_at}
use Rattle.plan_base.specs.Facts.{total_load}
use Rattle.plan_base.specs.Places.{places, link_of_place}
use Rattle.plan_base.proofs.TopLoads.{top-le}
use Rattle.link_steps.specs.declared.range.LoadRange.{LoadRange}
use Rattle.link_steps.specs.Ranges.{range_at, AreRanges}

-- a load that is not above the range of its place is not above the total load of the instance
pub within_total : (p : Parts) (ranges : List LoadRange) (q load : ℕ) → AreRanges p ranges → q < places p → load ≤ (range_at ranges q).most → load ≤ total_load p
within_total p ranges q load are below few = omega (arith, (are.each q below).carried, top-le p (link_at p (link_of_place p q)), few)
