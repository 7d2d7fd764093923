-- How open leaves keep what is forbidden at them, and which loads their places may carry there.
use Rattle.std.specs.Prelude.{ℕ, ◌≡◌, List, length, Option, Some, None, option_map, slice_get}
use Rattle.plan_base.specs.declared.parts.Parts.{Parts}
use Rattle.link_steps.specs.declared.range.LoadRange.{LoadRange}
use Rattle.arc_restrict.specs.Rows.{Rows, forbids, HasSizeOf}
use Rattle.proof_tree.specs.Regions.{Region}
use Rattle.branch_tree.specs.declared.node.Limit.{Limit}
use Rattle.branch_tree.specs.Branches.{forbidden_with, ranges_with}
use Rattle.branch_tree.specs.declared.node.Fate.{Fate}
use Rattle.branch_tree.specs.declared.node.Fate.TheVariants.{Undone, ClosedBy, DividedBy}
use Rattle.search_machine.specs.State.{Node, region_of}

-- a restriction in rows, and a range of loads for each place
pub record Kept : Type 0 where
  pub rows : Rows
  pub ranges : List LoadRange

-- the rows that are kept, if some are
abbrev pub rows_in : Option Kept → Option Rows
rows_in ground = option_map (λ kept. kept.rows) ground

-- the ranges that are kept, if some are
abbrev pub ranges_in : Option Kept → Option (List LoadRange)
ranges_in ground = option_map (λ kept. kept.ranges) ground

-- they are those of the region, and the rows fit the instance
pub record IsKeptRegion (p : Parts) (g : Region) (kept : Kept) : Type 0 where
  pub forbidden : forbids kept.rows ≡ g.forbidden
  pub size : HasSizeOf p kept.rows
  pub ranges : kept.ranges ≡ g.ranges

-- an open leaf keeps its region; another node keeps none
abbrev pub IsGroundOf : Parts → Region → Fate → Option Kept → Type 0
IsGroundOf p g Undone (Some kept) = IsKeptRegion p g kept
IsGroundOf p g Undone None = ⊥
IsGroundOf p g (ClosedBy found) ground = ground ≡ None
IsGroundOf p g (DividedBy division) ground = ground ≡ None

-- the kept region of each node
pub record HasGrounds (p : Parts) (nodes : List Node) (grounds : List (Option Kept)) : Type 0 where
  pub count : length grounds ≡ length nodes
  pub each : (n : ℕ) (node : Node) → slice_get nodes n ≡ Some node
      → (ground : Option Kept) × (slice_get grounds n ≡ Some ground) × IsGroundOf p (region_of p node) node.fate ground

-- what is kept below, where one limit more holds
pub record IsGroundBelow (above : Kept) (limit : Limit) (ground : Option Kept) : Type 0 where
  pub kept : Kept
  pub is_ground : ground ≡ Some kept
  pub forbidden : forbids kept.rows ≡ forbidden_with (forbids above.rows) limit
  pub demands : kept.rows.demands ≡ above.rows.demands
  pub arcs : kept.rows.arcs ≡ above.rows.arcs
  pub ranges : kept.ranges ≡ ranges_with above.ranges limit
