-- The nodes that a walk has met: those that have its stamp.
use Rattle.std.specs.Prelude.{ℕ, ◌<◌, ◌≤◌, Bool, List, ◌==◌, slice_index}

-- the stamps of the nodes, and that of the walk
pub record Stamps : Type 0 where
  pub stamps : List ℕ
  pub stamp : ℕ

-- the node of this number has the stamp of the walk
abbrev pub is_met : Stamps → ℕ → Bool
is_met met n = slice_index met.stamps n == met.stamp

-- no stamp is newer than that of the walk, which is not the one of a node that no walk has met
pub record AreKept (stamps : List ℕ) (stamp : ℕ) : Type 0 where
  pub low : (n : ℕ) → slice_index stamps n ≤ stamp
  pub begun : 0 < stamp
