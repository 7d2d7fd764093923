-- What a clause says of a pass on another deck's deque.
use Rattle.std.specs.Prelude.{◌≡◌, ℕ, zero, suc, List, [], ◌∷◌}
use Rattle.crossbeam_deque.specs.Handles.{view, SamePass}
use Rattle.block_deques.specs.declared.block.Block.{Block}
use Rattle.block_deques.specs.declared.block.Hand.{Hand}
use Rattle.block_deques.specs.declared.reach.Reach.{Reach}

-- what the pass knows
abbrev pub reach_view : Reach → Hand
reach_view r = view r.pass

-- it is a pass on the same deque
abbrev pub IsSameReach : Reach → Reach → Type 0
IsSameReach r s = (s.stealer ≡ r.stealer) × SamePass r.pass s.pass

-- the blocks that the pass took
abbrev pub reach_taken : Reach → List Block
reach_taken r = (reach_view r).taken

-- the blocks that the pass at a place took
abbrev pub taken_at : List Reach → ℕ → List Block
taken_at [] place = []
taken_at (r ∷ rs) zero = reach_taken r
taken_at (r ∷ rs) (suc place) = taken_at rs place
