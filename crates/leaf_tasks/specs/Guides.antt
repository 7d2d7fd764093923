-- What a guide keeps.
use Rattle.std.specs.Prelude.{ℕ, List, Option, None, Some}
use Rattle.incumbent.specs.declared.ration.DesignSearch.{DesignSearch}
use Rattle.path_pricing.specs.declared.priced.Priced.{Priced}
pub use Rattle.leaf_tasks.specs.Entries.{entry_at}

-- for each demand what it found, where it is known
abbrev pub Finds : Type 0
Finds = List (Option Priced)

-- the searches for designs, what is known above nodes that wait and above the node that is worked off, and what demands found last at that one
pub record Guided : Type 0 where
  pub designs : DesignSearch
  pub above : List (Option Finds)
  pub tried : Option Finds
  pub found : Finds

-- what the demand of this number found, where it is known
abbrev pub known_in : Option Finds → ℕ → Option Priced
known_in None k = None
known_in (Some finds) k = entry_at finds k
