-- The unforbidden arcs that leave a node, dealt out to two sides.
use Rattle.std.specs.Prelude.{ℕ, zero, suc, ◌≡◌, ◌%◌, Bool, not, ◌&&◌, ◌||◌, ◌==◌, List, [], ◌∷◌, ◌++◌, length, take, count_by, if◌then◌else◌}
use Rattle.plan_base.specs.declared.ids.NodeId.{NodeId}
use Rattle.plan_base.specs.declared.ids.ArcId.{ArcId}
use Rattle.plan_base.specs.declared.ids.DemandId.{DemandId}
use Rattle.plan_base.specs.declared.parts.Parts.{Parts}
use Rattle.plan_base.specs.Paths.{arc_at}
use Rattle.plan_base.specs.Leaving.{AreLeaving}
use Rattle.arc_restrict.specs.Restrictions.{Forbidden}

-- the arc is neither the one path's nor the other's
abbrev pub is_neither : ArcId → ArcId → ArcId → Bool
is_neither one other a = not (a.0 == one.0) && not (a.0 == other.0)

-- how many arcs before a place are neither path's and not forbidden to the demand
abbrev pub further_before : Forbidden → ℕ → ArcId → ArcId → List ArcId → ℕ → ℕ
further_before r k one other arcs i = count_by (λ a. not (r k a) && is_neither one other a) (take i arcs)

-- the one path's arc goes to the left, the other path's does not, and a further one does where it is the left side's turn
abbrev pub takes_left : ArcId → ArcId → Bool → ArcId → Bool
takes_left one other is_left_turn a = a.0 == one.0 || (not (a.0 == other.0) && is_left_turn)

-- the arc at a place goes to the left: it is not forbidden, and it is the first path's arc, or of the further ones the first, third and so on
abbrev pub goes_left : Forbidden → ℕ → ArcId → ArcId → List ArcId → ℕ → Bool
goes_left r k one other arcs i = not (r k (arc_at arcs i)) && takes_left one other (further_before r k one other arcs i % 2 == 0) (arc_at arcs i)

-- the arc at a place goes to the right: it is not forbidden, and does not go to the left
abbrev pub goes_right : Forbidden → ℕ → ArcId → ArcId → List ArcId → ℕ → Bool
goes_right r k one other arcs i = not (r k (arc_at arcs i)) && not (goes_left r k one other arcs i)

-- the arcs at the first n places that pass a test, in order
abbrev pub picked : (ℕ → Bool) → List ArcId → ℕ → List ArcId
picked test arcs zero = []
picked test arcs (suc n) = if test n then picked test arcs n ++ (arc_at arcs n ∷ []) else picked test arcs n

-- the sides of the split at a node where one path goes on along the one arc and another path along the other
pub record AreDealt (p : Parts) (r : Forbidden) (id : DemandId) (at : NodeId) (one other : ArcId) (left right : List ArcId) : Type 0 where
  pub leaving : List ArcId
  pub are_leaving : AreLeaving p at.0 leaving
  pub left_is : left ≡ picked (goes_left r id.0 one other leaving) leaving (length leaving)
  pub right_is : right ≡ picked (goes_right r id.0 one other leaving) leaving (length leaving)
