-- Lists of cuts that go on with further ones.
use Rattle.std.specs.Prelude.{ℕ, ◌≡◌, ◌+◌, ◌≤◌, List, length, take}
use Rattle.plan_base.specs.declared.parts.Parts.{Parts}
use Rattle.proof_tree.specs.declared.cuts.Cut.{Cut}
use Rattle.proof_tree.specs.Cuts.{IsCutList}

-- a list goes on with another one, and a plan may have it
pub record IsExtended (p : Parts) (old new : List Cut) : Type 0 where
  pub list : IsCutList p new
  pub kept : take (length old) new ≡ old

-- so many cuts stand behind the old list, and no more than are wanted
pub record IsFoundOf (wanted : ℕ) (old new : List Cut) (found : ℕ) : Type 0 where
  pub count : length new ≡ length old + found
  pub within : found ≤ wanted
