-- Where marks stand.
use Rattle.std.specs.Prelude.{ℕ, ◌≡◌, length}
use Rattle.picture_layout.specs.declared.looks.Looks.{Looks}

-- there is a look for each of so many nodes and links
pub record HasLooks (looks : Looks) (node_count link_count : ℕ) : Type 0 where
  pub nodes : length looks.nodes ≡ node_count
  pub links : length looks.links ≡ link_count
