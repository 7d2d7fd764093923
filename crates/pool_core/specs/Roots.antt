-- The root of a new pool. No public clause cites this module.
use Rattle.std.specs.Prelude.{◌≡◌, ◌∷◌, [], List, Option, Some}
use Rattle.plan_base.specs.declared.parts.Parts.{Parts}
use Rattle.proof_tree.specs.Regions.{whole}
use Rattle.search_nodes.specs.Grounds.{Kept, IsKeptRegion}

-- the grounds are that of the root alone, which keeps the whole region
pub record HasFreeRoot (p : Parts) (grounds : List (Option Kept)) : Type 0 where
  pub kept : Kept
  pub is_ground : grounds ≡ Some kept ∷ []
  pub is_whole : IsKeptRegion p (whole p) kept
