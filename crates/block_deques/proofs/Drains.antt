-- Deques that are emptied.
use Rattle.std.proofs.Common.{◌≡◌, ℕ, ◌+◌, List, [], ◌∷◌, ◌++◌, ap, subst, arith, length}
use Rattle.crossbeam_deque.specs.Handles.{worker_view}
use Rattle.block_deques.specs.declared.block.Block.{Block}
use Rattle.block_deques.specs.declared.block.Hand.{Hand}
use Rattle.block_deques.specs.Hands.{weigh, hand, Took, Sums}
use Rattle.block_deques.specs.Making.{OwnerOf}
use Rattle.block_deques.specs.Gathers.{known, known_to, put_on, HasAllParts, AreWhole}
use Rattle.block_deques.proofs.Moves.{weigh-append}
use Rattle.block_deques.proofs.Places.{got_last, got_longer}
use Rattle.block_deques.proofs.Gains.{adds_last}

-- a block goes from the deque to the list
pub one_left : (first v w : Hand) (before left more : List Block) (x : Block) → Took v (x ∷ []) w → more ≡ left ++ x ∷ []
    → ((h : Block → ℕ) → weigh h left + known h first ≡ weigh h before + known h v) → (h : Block → ℕ) → weigh h more + known h first ≡ weigh h before + known h w
one_left first v w before left more x took is old h =
    let o = old h in
    let t : known h w ≡ known h (hand v.parts v.owner v.put (v.taken ++ x ∷ []) v.joined) = ap (known h) took.0 in
    omega (arith, ap (weigh h) is, weigh-append h left (x ∷ []), weigh-append h v.taken (x ∷ []))

-- the deque is empty
pub no_more : (first v : Hand) (before left : List Block) → v.put ≡ first.put → Sums v []
    → ((h : Block → ℕ) → weigh h left + known h first ≡ weigh h before + known h v) → (h : Block → ℕ) → weigh h left + known h first ≡ weigh h before + weigh h first.put
no_more first v before left same sums old h =
    let o = old h in
    let s = sums h in
    let p = ap (weigh h) same in omega arith

-- where each worker has every part, the last has and so have the others
pub whole_fewer : (ws fewer : List OwnerOf) (w : OwnerOf) → ws ≡ fewer ++ w ∷ [] → AreWhole ws → HasAllParts w × AreWhole fewer
whole_fewer ws fewer w is all =
    let all' : AreWhole (fewer ++ w ∷ []) = subst AreWhole is all in
    (all' (length fewer) w (got_last fewer w), (λ k v at. all' k v (got_longer fewer (w ∷ []) v k at)))

-- one deque more is emptied
pub one_emptied : (first ws fewer : List OwnerOf) (w : OwnerOf) (before after : List Block) → ws ≡ fewer ++ w ∷ []
    → ((h : Block → ℕ) → weigh h after + known h (worker_view w) ≡ weigh h before + weigh h (worker_view w).put)
    → ((h : Block → ℕ) → weigh h before + (known_to h first + put_on h ws) ≡ put_on h first + known_to h ws)
    → (h : Block → ℕ) → weigh h after + (known_to h first + put_on h fewer) ≡ put_on h first + known_to h fewer
one_emptied first ws fewer w before after is one old h =
    let o = old h in
    let n = one h in
    let p = adds_last (λ (z : OwnerOf). weigh h (worker_view z).put) ws fewer w is in
    let k = adds_last (λ (z : OwnerOf). known h (worker_view z)) ws fewer w is in omega arith
