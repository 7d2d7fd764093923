-- What a deck has stolen, after one of its passes has moved on.
use Rattle.std.proofs.Common.{◌≡◌, ◌≢◌, ℕ, zero, suc, List, [], ◌∷◌, ◌++◌, map, set, Option, Some, None, slice_get, get_or, length, ◌<◌, refl, ap, sym, ◌∙◌, MatchOption, IfSome, IfNone}
use Rattle.crossbeam_deque.specs.Handles.{stealer_deque}
use Rattle.block_deques.specs.declared.block.Block.{Block}
use Rattle.block_deques.specs.declared.block.Hand.{Hand}
use Rattle.block_deques.specs.declared.reach.Reach.{Reach}
use Rattle.block_deques.specs.Hands.{Took}
use Rattle.block_deques.specs.Reaches.{reach_view, reach_taken, IsSameReach, taken_at}
use Rattle.block_deques.proofs.Places.{some_same, item_there, got_set, map-set_same}

-- what the pass at a place took
pub taken_there : (rs : List Reach) (k : ℕ) (r : Reach) → slice_get rs k ≡ Some r → taken_at rs k ≡ reach_taken r
taken_there [] k r at = absurd (cc at)
taken_there (p ∷ rs) zero r at = ap reach_taken (some_same p r at)
taken_there (p ∷ rs) (suc k) r at = taken_there rs k r at

taken_alike : (rs ss : List Reach) (k : ℕ) → slice_get ss k ≡ slice_get rs k → taken_at ss k ≡ taken_at rs k
taken_alike [] [] k e = refl
taken_alike [] (s ∷ ss) zero e = absurd (cc e)
taken_alike [] (s ∷ ss) (suc k) e = taken_alike [] ss k e
taken_alike (r ∷ rs) [] zero e = absurd (cc e)
taken_alike (r ∷ rs) [] (suc k) e = taken_alike rs [] k e
taken_alike (r ∷ rs) (s ∷ ss) zero e = ap reach_taken (some_same s r e)
taken_alike (r ∷ rs) (s ∷ ss) (suc k) e = taken_alike rs ss k e

-- the pass at the victim's place has moved on
pub record Moves (rs : List Reach) (victim : ℕ) (before after : Reach) : Type 0 where
  pub at : slice_get rs victim ≡ Some before
  pub same : IsSameReach before after

-- the pass that a theft leaves behind is on the same deque, at the victim's place
pub moved : (rs : List Reach) (victim : ℕ) (before after : Reach) → victim < length rs → before ≡ get_or rs victim before → IsSameReach before after → Moves rs victim before after
moved rs victim before after within is same = record { at = item_there rs victim before within is; same = same }

-- a theft leaves each pass on its deque
pub same_deques : (rs : List Reach) (victim : ℕ) (before after : Reach) → Moves rs victim before after → map (λ (r : Reach). stealer_deque r.stealer) (set rs victim after) ≡ map (λ (r : Reach). stealer_deque r.stealer) rs
same_deques rs victim before after m = map-set_same (λ (r : Reach). stealer_deque r.stealer) rs victim before after m.at (ap (λ s. stealer_deque s) m.same.0)

-- after a theft the victim's pass knows what it has taken
pub taken_now : (rs : List Reach) (victim : ℕ) (before after : Reach) → Moves rs victim before after → taken_at (set rs victim after) victim ≡ reach_taken after
taken_now rs victim before after m = taken_there (set rs victim after) victim after (got_set rs victim before after m.at).0

-- a theft changes no other pass
pub others_stay : (rs : List Reach) (victim : ℕ) (before after : Reach) → Moves rs victim before after → (k : ℕ) → k ≢ victim → taken_at (set rs victim after) k ≡ taken_at rs k
others_stay rs victim before after m k ne = taken_alike rs (set rs victim after) k ((got_set rs victim before after m.at).1 k ne)

-- a block that is stolen is the last of what was taken from the victim
pub one_stolen : (rs : List Reach) (victim : ℕ) (before after : Reach) (x : Block) → Moves rs victim before after → Took (reach_view before) (x ∷ []) (reach_view after) → taken_at (set rs victim after) victim ≡ taken_at rs victim ++ x ∷ []
one_stolen rs victim before after x m took = taken_now rs victim before after m ∙ ap (λ (v : Hand). v.taken) took.0 ∙ ap (λ xs. xs ++ x ∷ []) (sym (taken_there rs victim before m.at))

-- a theft that finds nothing takes nothing
pub none_stolen : (rs : List Reach) (victim : ℕ) (before after : Reach) → Moves rs victim before after → reach_view after ≡ reach_view before → taken_at (set rs victim after) victim ≡ taken_at rs victim
none_stolen rs victim before after m same = taken_now rs victim before after m ∙ ap (λ (v : Hand). v.taken) same ∙ sym (taken_there rs victim before m.at)

-- what a match says of one of its cases
pub if_some : (o : Option Block) (P : Type 0) (Q R : Block → Type 0) → MatchOption o P Q → ((x : Block) → Q x → R x) → IfSome o R
if_some None P Q R is f = tt
if_some (Some x) P Q R is f = f x is

-- a match says of nothing what it says in that case
pub if_none : (o : Option Block) (P R : Type 0) (Q : Block → Type 0) → MatchOption o P Q → (P → R) → IfNone o R
if_none None P R Q is f = f is
if_none (Some x) P R Q is f = tt
