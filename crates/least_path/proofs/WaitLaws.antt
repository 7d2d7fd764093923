-- What waits stays in the queue until its node is settled.
use Rattle.std.proofs.Common.{◌≡◌, ℕ, zero, suc, ◌<◌, ◌≤◌, ◌⊎◌, inl, inr, true, false, Bool, List, [], ◌∷◌, length, Some, arith, refl, sym, ap, subst, nat_lt, slice_index_or, All, IsPermutation, nat_cmp, ◌==◌}
use Rattle.std.specs.Prelude.{cond}
use Rattle.std.specs.declared.cmp.Ordering.{Ordering}
use Rattle.std.specs.declared.cmp.Ordering.TheVariants.{Less, Equal, Greater}
use Rattle.std.specs.Ordering.{is_lt, ordering_then}
use Rattle.std.specs.List.{Contains}
use Rattle.std.specs.BinaryHeap.{IsUpperBound}
use Rattle.std.proofs.Math.ListN.{set}
use Rattle.std.proofs.lemmas.Bool.{ltb-false}
use Rattle.std.proofs.lemmas.List.Elements.{All-nil, All-cons}
use Rattle.std.proofs.lemmas.List.Sorted.{Contains-permutation}
use Rattle.least_path.specs.declared.label.Label.{Label}
use Rattle.least_path.specs.declared.label.Stop.{Stop}
use Rattle.least_path.specs.declared.queue.Waiting.{Waiting}
use Rattle.least_path.specs.Labels.{Labels, label_at, IsNearest, first_labels_of}
use Rattle.least_path.specs.Waits.{Waiter, waits, nearer_first, AllWait, OthersWait, IsStale}
use Rattle.least_path.proofs.NearestLaws.{label_within}
use Rattle.least_path.proofs.OfferLaws.{new_or_old}
use Rattle.least_path.proofs.SettleLaws.{settled_label, settled_in, first-only}

-- of what waits first, nothing else has a smaller length
at_least : (a b : ℕ) (o : Ordering) → is_lt (ordering_then (nat_cmp a b) o) ≡ false → b ≤ a
at_least a b o h = by (nat_lt a b) refl h
  where
    by : (t : Bool) → nat_lt a b ≡ t → is_lt (ordering_then (cond t Less (cond (a == b) Equal Greater)) o) ≡ false → b ≤ a
    by true e less = absurd (let bad : true ≡ false = less in cc)
    by false e less = ltb-false a b e

-- what no waiter comes before has the least length
pub least_first : (first : Waiter) (queue : List Waiter) → IsUpperBound nearer_first first queue → All (λ (o : Waiter). first.0.length ≤ o.0.length) queue
least_first first [] h = All-nil (λ (o : Waiter). first.0.length ≤ o.0.length)
least_first first (x ∷ queue) h = All-cons (λ (o : Waiter). first.0.length ≤ o.0.length) x queue (at_least x.0.length first.0.length _ h.0) (least_first first queue h.1)

contains-first : (x : Waiter) (queue : List Waiter) → Contains (x ∷ queue) x
contains-first x queue = (0, omega arith, refl)

contains-later : (y x : Waiter) (queue : List Waiter) → Contains queue x → Contains (y ∷ queue) x
contains-later y x queue h = (suc h.0, (let within = h.1 in omega arith), h.2)

contains-at : (y x : Waiter) (queue : List Waiter) (k : ℕ) → k < suc (length queue) → slice_index_or (y ∷ queue) k x ≡ x → (y ≡ x) ⊎ Contains queue x
contains-at y x queue zero within is = inl is
contains-at y x queue (suc k) within is = inr (k, omega arith, is)

contains-cases : (y x : Waiter) (queue : List Waiter) → Contains (y ∷ queue) x → (y ≡ x) ⊎ Contains queue x
contains-cases y x queue h = contains-at y x queue h.0 h.1 h.2

-- when the first of the queue is taken, the other open nodes still wait
pub others-wait : (ls : Labels) (old new : List Waiter) (first : Waiting) → AllWait ls old → IsPermutation old (waits first.node.0 first.length ∷ new) → OthersWait ls new first.node.0
others-wait ls old new first h taken = λ v l other is open_.
    let top = waits first.node.0 first.length in
    elim (contains-cases top (waits v l.length) new (Contains-permutation old (top ∷ new) (waits v l.length) taken (h v l is open_))) [
      | inl same ↦ absurd (other (sym (ap (λ (w : Waiter). w.0.node.0) same)))
      | inr there ↦ there
    ]

-- what is stale may go
pub stale-wait : (ls : Labels) (old new : List Waiter) (first : Waiting) → AllWait ls old → IsPermutation old (waits first.node.0 first.length ∷ new) → IsStale ls first → AllWait ls new
stale-wait ls old new first h taken stale = λ v l is open_.
    let top = waits first.node.0 first.length in
    elim (contains-cases top (waits v l.length) new (Contains-permutation old (top ∷ new) (waits v l.length) taken (h v l is open_))) [
      | inl same ↦ absurd (stale l (subst (λ (k : ℕ). label_at ls k ≡ Some l) (sym (ap (λ (w : Waiter). w.0.node.0) same)) is) open_ (sym (ap (λ (w : Waiter). w.0.length) same)))
      | inr there ↦ there
    ]

-- a node with a new label waits with its length
pub offered-wait : (ls : Labels) (v : ℕ) (l : Label) (old new : List Waiter) → v < length ls → AllWait ls old → IsPermutation (waits v l.length ∷ old) new → AllWait (set ls v (Some l)) new
offered-wait ls v l old new within h joined = λ w m at open_.
    let top = waits v l.length in
    elim (new_or_old ls v l w m within at) [
      | inl is ↦
          subst (λ (x : Label). Contains new (waits w x.length)) is.same
          (subst (λ (k : ℕ). Contains new (waits k l.length)) (sym is.here) (Contains-permutation (top ∷ old) new top joined (contains-first top old)))
      | inr is ↦ Contains-permutation (top ∷ old) new (waits w m.length) joined (contains-later top (waits w m.length) old (h w m is.is open_))
    ]

-- a settled node need not wait
pub settled-wait : (ls : Labels) (queue : List Waiter) (stop : Stop) → IsNearest ls stop → OthersWait ls queue stop.node.0 → AllWait (settled_in ls stop) queue
settled-wait ls queue stop near h = λ w m at open_.
    elim (new_or_old ls stop.node.0 (settled_label stop.label) w m (label_within ls stop.node.0 stop.label near.is) at) [
      | inl is ↦ absurd (let bad : true ≡ false = subst (λ (x : Label). x.settled ≡ false) (sym is.same) open_ in cc)
      | inr is ↦ h w m is.other is.is open_
    ]

-- the source waits alone before the first node is settled
pub first-wait : (n s : ℕ) (queue : List Waiter) → s < n → IsPermutation (waits s 0 ∷ []) queue → AllWait (first_labels_of n s) queue
first-wait n s queue within joined = λ v l at open_.
    let is = first-only n s v l within at in
    subst (λ (x : Label). Contains queue (waits v x.length)) is.same
    (subst (λ (k : ℕ). Contains queue (waits k 0)) (sym is.here) (Contains-permutation (waits s 0 ∷ []) queue (waits s 0) joined (contains-first (waits s 0) [])))
