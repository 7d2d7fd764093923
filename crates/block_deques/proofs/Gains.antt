-- Deques that take in what passes know.
use Rattle.std.proofs.Common.{◌≡◌, ◌≢◌, ℕ, zero, suc, ◌+◌, ◌<◌, ◌≤◌, List, [], ◌∷◌, ◌++◌, length, set, ⊎_elim, refl, ap, sym, subst, ◌∙◌, arith, Some, slice_get, get_or, Vec, length-append, length-set}
use Rattle.std.proofs.lemmas.Option.{slice_get_within}
use Rattle.std.specs.declared.alloc.Global.{Global}
use Rattle.crossbeam_deque.specs.Handles.{IsPassOf, worker_flavor, worker_view, worker_deque, stealer_deque}
use Rattle.block_deques.specs.declared.block.Block.{Block}
use Rattle.block_deques.specs.declared.block.Hand.{Hand}
use Rattle.block_deques.specs.declared.reach.Reach.{Reach}
use Rattle.block_deques.specs.Hands.{both}
use Rattle.block_deques.specs.Reaches.{reach_view}
use Rattle.block_deques.specs.Making.{OwnerOf}
use Rattle.block_deques.specs.Gathers.{adds, known, known_to, known_in_row, known_in_all, IsRuling, AreRuling, IsRowOn, AreRowsOn, HasGained, HaveGained}
use Rattle.block_deques.proofs.Moves.{weigh-append}
use Rattle.block_deques.proofs.Places.{some_same, item_there, got_last, got_longer, set_cases, there}

-- a sum over two lists is the sums of both
pub adds-append : {A : Type 0} (f : A → ℕ) (xs ys : List A) → adds f (xs ++ ys) ≡ adds f xs + adds f ys
adds-append f [] ys = omega arith
adds-append f (x ∷ xs) ys = let r = adds-append f xs ys in omega arith

-- the last item adds its part to the sum
pub adds_last : {A : Type 0} (f : A → ℕ) (xs ys : List A) (x : A) → xs ≡ ys ++ x ∷ [] → adds f xs ≡ adds f ys + f x
adds_last f xs ys x is = let e = adds-append f ys (x ∷ []) in let i = ap (adds f) is in omega arith

-- a sum over a list of which one item changes
pub adds-set : {A : Type 0} (f : A → ℕ) (xs : List A) (i : ℕ) (x y : A) → slice_get xs i ≡ Some x → adds f (set xs i y) + f x ≡ adds f xs + f y
adds-set f [] i x y at = absurd (cc at)
adds-set f (z ∷ xs) zero x y at = let e = ap f (some_same z x at) in omega arith
adds-set f (z ∷ xs) (suc i) x y at = let r = adds-set f xs i x y at in omega arith

-- where two lists give the same at each place, they give the same
pub adds_alike : {A B : Type 0} (f : A → ℕ) (g : B → ℕ) (xs : List A) (ys : List B) → length xs ≡ length ys → ((k : ℕ) (x : A) (y : B) → slice_get xs k ≡ Some x → slice_get ys k ≡ Some y → f x ≡ g y) → adds f xs ≡ adds g ys
adds_alike f g [] [] e same = refl
adds_alike f g [] (y ∷ ys) e same = absurd (omega arith)
adds_alike f g (x ∷ xs) [] e same = absurd (omega arith)
adds_alike f g (x ∷ xs) (y ∷ ys) e same =
    let first : f x ≡ g y = same 0 x y refl refl in
    let rest : adds f xs ≡ adds g ys = adds_alike f g xs ys (omega arith) (λ k u v a b. same (suc k) u v a b) in omega arith

known-both : (h : Block → ℕ) (v u : Hand) → known h (both v u) ≡ known h v + known h u
known-both h v u = omega (arith, weigh-append h v.joined (u.taken ++ u.joined), weigh-append h u.taken u.joined)

-- a worker without a part more is as it was
pub none_gained : (w : OwnerOf) → HasGained 0 w w
none_gained w = (refl, refl, refl, omega arith, refl)

-- parts that are gained twice are gained together
pub gained_on : (a b : ℕ) (w v u : OwnerOf) → HasGained a w v → HasGained b v u → HasGained (a + b) w u
gained_on a b w v u p q = let m = p.3 in let n = q.3 in (q.0 ∙ p.0, q.1 ∙ p.1, q.2 ∙ p.2, omega arith, q.4 ∙ p.4)

-- a worker that gains parts still knows all that was put
pub ruling_on : (n : ℕ) (w v : OwnerOf) → HasGained n w v → IsRuling w → IsRuling v
ruling_on n w v g r = let m = g.3 in let p = r.2 in (g.1 ∙ r.0, g.2 ∙ r.1, omega arith)

-- the passes of rs, the front of a row, are still to come; those behind it have come
pub record Absorbed (ws vs : List OwnerOf) (row rs : List Reach) : Type 0 where
  pub same_length : length vs ≡ length ws
  pub within : length rs ≤ length ws
  pub deques : (k : ℕ) (w : OwnerOf) (r : Reach) → slice_get ws k ≡ Some w → slice_get rs k ≡ Some r → stealer_deque r.stealer ≡ worker_deque w
  pub untouched : (k : ℕ) (v : OwnerOf) → k < length rs → slice_get vs k ≡ Some v → slice_get ws k ≡ Some v
  pub gained : (k : ℕ) (w v : OwnerOf) → length rs ≤ k → slice_get ws k ≡ Some w → slice_get vs k ≡ Some v → HasGained 1 w v
  pub sums : (h : Block → ℕ) → known_to h vs + known_in_row h rs ≡ known_to h ws + known_in_row h row

-- before the first pass of a row, all are still to come
pub none_absorbed : (ws : List OwnerOf) (row : List Reach) → IsRowOn ws row → Absorbed ws ws row row
none_absorbed ws row is = let c = is.count in record {
  same_length = refl;
  within = omega arith;
  deques = is.deques;
  untouched = λ k v _ at. at;
  gained = λ k w v l at _. let b = slice_get_within ws k w at in absurd (omega arith);
  sums = λ h. refl;
}

-- the worker of a pass has taken in what the pass knows
pub one_absorbed : (ws vs : List OwnerOf) (row rs fewer : List Reach) (r : Reach) (old now : OwnerOf) → rs ≡ fewer ++ r ∷ [] → slice_get vs (length fewer) ≡ Some old
    → worker_deque now ≡ worker_deque old → worker_flavor now ≡ worker_flavor old → worker_view now ≡ both (worker_view old) (reach_view r)
    → Absorbed ws vs row rs → Absorbed ws (set vs (length fewer) now) row fewer
one_absorbed ws vs row rs fewer r old now is at deque flavor took a =
    let place = length fewer in
    let long : length rs ≡ place + 1 = ap length is ∙ length-append fewer (r ∷ []) in
    let first : slice_get ws place ≡ Some old = a.untouched place old (omega arith) at in
    let w = a.within in
    let thief = r.thief in
    let one = thief.3 in
    let gain : HasGained 1 old now = (deque, flavor, ap (λ (v : Hand). v.owner) took, (let p = ap (λ (v : Hand). v.parts) took in omega arith), ap (λ (v : Hand). v.put) took) in record {
      same_length = length-set vs place now ∙ a.same_length;
      within = omega arith;
      deques = λ k w p atw atp. a.deques k w p atw (ap (λ us. slice_get us k) is ∙ got_longer fewer (r ∷ []) p k atp);
      untouched = λ k v l atv. ⊎_elim
          (λ (t : (k ≡ place) × (now ≡ v)). let e = t.0 in absurd (omega arith))
          (λ (t : (k ≢ place) × (slice_get vs k ≡ Some v)). a.untouched k v (omega arith) t.1)
          (set_cases vs place now v k atv);
      gained = λ k w v l atw atv. ⊎_elim
          (λ (t : (k ≡ place) × (now ≡ v)).
          let here : slice_get ws k ≡ Some old = ap (slice_get ws) t.0 ∙ first in
          let same : w ≡ old = some_same w old (sym atw ∙ here) in
          subst (λ (z : OwnerOf × OwnerOf). HasGained 1 z.0 z.1) (λ i. (sym same i, t.1 i)) gain)
          (λ (t : (k ≢ place) × (slice_get vs k ≡ Some v)). let ne = t.0 in a.gained k w v (omega arith) atw t.1)
          (set_cases vs place now v k atv);
      sums = λ h.
          let s = a.sums h in
          let c = adds-set (λ (z : OwnerOf). known h (worker_view z)) vs place old now at in
          let k : known h (worker_view now) ≡ known h (worker_view old) + known h (reach_view r) = ap (known h) took ∙ known-both h (worker_view old) (reach_view r) in
          let f = adds_last (λ (z : Reach). known h (reach_view z)) rs fewer r is in omega arith;
    }

-- after a whole row each worker has gained one part
pub all_absorbed : (ws vs : List OwnerOf) (row : List Reach) → Absorbed ws vs row [] → HaveGained 1 ws vs
all_absorbed ws vs row a k w v atw atv = a.gained k w v (omega arith) atw atv

-- after a whole row the workers know what they and the row knew
pub sums_absorbed : (ws vs : List OwnerOf) (row : List Reach) → Absorbed ws vs row [] → (h : Block → ℕ) → known_to h vs ≡ known_to h ws + known_in_row h row
sums_absorbed ws vs row a h = let s = a.sums h in omega arith

-- the rows of left, the front of all rows, are still to come; those behind them have come
pub record RowsAbsorbed (ws vs : List OwnerOf) (rows left : List (Vec Reach Global)) : Type 0 where
  pub same_length : length vs ≡ length ws
  pub come : ℕ
  pub total : come + length left ≡ length rows
  pub gained : HaveGained come ws vs
  pub ruling : AreRuling vs
  pub rows_on : AreRowsOn vs left
  pub sums : (h : Block → ℕ) → known_to h vs + known_in_all h left ≡ known_to h ws + known_in_all h rows

-- before the first row, all are still to come
pub no_row_absorbed : (ws : List OwnerOf) (rows : List (Vec Reach Global)) → AreRuling ws → AreRowsOn ws rows → RowsAbsorbed ws ws rows rows
no_row_absorbed ws rows ruling on = record {
  same_length = refl;
  come = 0;
  total = omega arith;
  gained = λ k w v atw atv. subst (HasGained 0 w) (some_same w v (sym atw ∙ atv)) (none_gained w);
  ruling = ruling;
  rows_on = on;
  sums = λ h. refl;
}

row_on : (n : ℕ) (ws vs : List OwnerOf) (rs : List Reach) → length vs ≡ length ws → HaveGained n ws vs → IsRowOn ws rs → IsRowOn vs rs
row_on n ws vs rs same gained is = record {
  count = is.count ∙ sym same;
  deques = λ k v r atv atr.
      let l = slice_get_within vs k v atv in
      let w = there ws k (omega arith) in
      is.deques k w.0 r w.1 atr ∙ sym (gained k w.0 v w.1 atv).0;
}

-- where all rows are on the workers' deques, the last is and so are the others
pub rows_last : (ws : List OwnerOf) (left fewer : List (Vec Reach Global)) (row : Vec Reach Global) → left ≡ fewer ++ row ∷ [] → AreRowsOn ws left → IsRowOn ws row.items × AreRowsOn ws fewer
rows_last ws left fewer row is all =
    let all' : AreRowsOn ws (fewer ++ row ∷ []) = subst (AreRowsOn ws) is all in
    (all' (length fewer) row (got_last fewer row), (λ k p at. all' k p (got_longer fewer (row ∷ []) p k at)))

-- one row more is taken in
pub one_row_absorbed : (ws vs us : List OwnerOf) (rows left fewer : List (Vec Reach Global)) (row : Vec Reach Global) → left ≡ fewer ++ row ∷ [] → length us ≡ length vs → HaveGained 1 vs us
    → ((h : Block → ℕ) → known_to h us ≡ known_to h vs + known_in_row h row.items) → RowsAbsorbed ws vs rows left → RowsAbsorbed ws us rows fewer
one_row_absorbed ws vs us rows left fewer row is same gained sums a =
    let t = a.total in
    let long : length left ≡ length fewer + 1 = ap length is ∙ length-append fewer (row ∷ []) in
    let l = a.same_length in record {
      same_length = same ∙ a.same_length;
      come = a.come + 1;
      total = omega arith;
      gained = λ k w u atw atu.
          let b = slice_get_within us k u atu in
          let v = there vs k (omega arith) in
          gained_on a.come 1 w v.0 u (a.gained k w v.0 atw v.1) (gained k v.0 u v.1 atu);
      ruling = λ k u atu.
          let b = slice_get_within us k u atu in
          let v = there vs k (omega arith) in
          ruling_on 1 v.0 u (gained k v.0 u v.1 atu) (a.ruling k v.0 v.1);
      rows_on = λ k p at. row_on 1 vs us p.items same gained ((rows_last vs left fewer row is a.rows_on).1 k p at);
      sums = λ h.
          let s = a.sums h in
          let n = sums h in
          let f = adds_last (λ (z : Vec Reach Global). known_in_row h z.items) left fewer row is in omega arith;
    }

-- after all rows each worker has gained as many parts as there are rows
pub all_gained : (ws vs : List OwnerOf) (rows : List (Vec Reach Global)) → RowsAbsorbed ws vs rows [] → HaveGained (length rows) ws vs
all_gained ws vs rows a = let t = a.total in let all : a.come ≡ length rows = omega arith in subst (λ n. HaveGained n ws vs) all a.gained

-- after all rows the workers know what they and all rows knew
pub all_sums : (ws vs : List OwnerOf) (rows : List (Vec Reach Global)) → RowsAbsorbed ws vs rows [] → (h : Block → ℕ) → known_to h vs ≡ known_to h ws + known_in_all h rows
all_sums ws vs rows a h = let s = a.sums h in omega arith

-- the deque of the next pass is one that knows all
pub next_rules : (ws vs : List OwnerOf) (row rs fewer : List Reach) (r : Reach) (old : OwnerOf) → rs ≡ fewer ++ r ∷ [] → slice_get vs (length fewer) ≡ Some old → AreRuling ws → Absorbed ws vs row rs → IsRuling old
next_rules ws vs row rs fewer r old is at ruling a =
    let long : length rs ≡ length fewer + 1 = ap length is ∙ length-append fewer (r ∷ []) in
    ruling (length fewer) old (a.untouched (length fewer) old (omega arith) at)

-- it stands there
pub next_there : (ws vs : List OwnerOf) (row rs fewer : List Reach) (r : Reach) (place : ℕ) (old : OwnerOf) → rs ≡ fewer ++ r ∷ [] → place ≡ length fewer → old ≡ get_or vs place old → Absorbed ws vs row rs → slice_get vs (length fewer) ≡ Some old
next_there ws vs row rs fewer r place old is here same a =
    let long : length rs ≡ length fewer + 1 = ap length is ∙ length-append fewer (r ∷ []) in
    let w = a.within in
    let l = a.same_length in
    subst (λ k. slice_get vs k ≡ Some old) here (item_there vs place old (omega arith) same)

-- the next pass is one on that deque
pub next_pass : (ws vs : List OwnerOf) (row rs fewer : List Reach) (r : Reach) (old : OwnerOf) → rs ≡ fewer ++ r ∷ [] → slice_get vs (length fewer) ≡ Some old → Absorbed ws vs row rs → IsPassOf (worker_deque old) r.pass
next_pass ws vs row rs fewer r old is at a =
    let long : length rs ≡ length fewer + 1 = ap length is ∙ length-append fewer (r ∷ []) in
    let here = a.untouched (length fewer) old (omega arith) at in
    let deque = a.deques (length fewer) old r here (ap (λ us. slice_get us (length fewer)) is ∙ got_last fewer r) in
    subst (λ q. IsPassOf q r.pass) deque r.thief.1
