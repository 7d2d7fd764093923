-- All decks of one making together.
use Rattle.std.proofs.Common.{◌≡◌, ◌≢◌, ℕ, suc, ◌+◌, ◌<◌, ◌≤◌, ◌⊎◌, inl, inr, ⊎_elim, Bool, true, false, ◌==◌, ◌&&◌, if◌then◌else◌, List, [], ◌∷◌, ◌++◌, length, map, refl, ap, sym, subst, ◌∙◌, arith, slice_get, Some, Vec}
use Rattle.std.specs.List.{flat_map}
use Rattle.std.proofs.lemmas.Bool.{eqb-true, eqb-false}
use Rattle.std.proofs.lemmas.List.{length-map}
use Rattle.std.proofs.lemmas.Option.{slice_get_within}
use Rattle.std.specs.declared.alloc.Global.{Global}
use Rattle.crossbeam_deque.specs.Handles.{worker_flavor, worker_view, worker_deque, stealer_deque}
use Rattle.block_deques.specs.declared.block.Block.{Block}
use Rattle.block_deques.specs.declared.reach.Reach.{Reach}
use Rattle.block_deques.specs.declared.deck.Deck.{Deck}
use Rattle.block_deques.specs.Hands.{weigh}
use Rattle.block_deques.specs.Passes.{block_at}
use Rattle.block_deques.specs.Reaches.{reach_taken}
use Rattle.block_deques.specs.Decks.{DeckId, deck_id, put_by, popped_by, taken_by}
use Rattle.block_deques.specs.Wholes.{AreOneMaking, all_put, all_taken, HaveSame, times, IsEachOnce, one_at}
use Rattle.block_deques.specs.Making.{OwnerOf}
use Rattle.block_deques.specs.Gathers.{known_to, known_in_row, known_in_all, put_on, worker_of, reaches_of, IsRuling, AreRuling, IsRowOn, AreRowsOn, HaveGained, AreWhole}
use Rattle.block_deques.proofs.Moves.{weigh-append}
use Rattle.block_deques.proofs.Places.{some_same, there, got_map, map_got}
use Rattle.block_deques.proofs.Gains.{adds_alike}

-- what the workers have put is what the decks have put
pub put_total : (h : Block → ℕ) (ds : List Deck) → put_on h (map worker_of ds) ≡ weigh h (all_put ds)
put_total h [] = refl
put_total h (d ∷ ds) = let r = put_total h ds in omega (arith, weigh-append h (put_by d) (all_put ds))

known_row : (h : Block → ℕ) (rs : List Reach) → known_in_row h rs ≡ weigh h (flat_map reach_taken rs)
known_row h [] = refl
known_row h (r ∷ rs) =
    let none = ap (weigh h) r.thief.4 in
    let e = known_row h rs in omega (arith, weigh-append h (reach_taken r) (flat_map reach_taken rs))

-- what workers and passes know to be taken is what the decks have taken
pub taken_total : (h : Block → ℕ) (ds : List Deck) → known_to h (map worker_of ds) + known_in_all h (map reaches_of ds) ≡ weigh h (all_taken ds)
taken_total h [] = omega arith
taken_total h (d ∷ ds) =
    let none = ap (weigh h) d.owned.3 in
    let row = known_row h d.reaches.items in
    let e = taken_total h ds in omega (arith, weigh-append h (popped_by d) (flat_map reach_taken d.reaches.items), weigh-append h (taken_by d) (all_taken ds))

-- decks of one making have rows on their workers' deques
pub rows_on : (ds : List Deck) → AreOneMaking ds → AreRowsOn (map worker_of ds) (map reaches_of ds)
rows_on ds making k row at =
    let d = got_map reaches_of ds k row at in
    let all : map (λ (r : Reach). stealer_deque r.stealer) d.0.reaches.items ≡ map (λ (i : DeckId). i.own) (map deck_id ds) = making.all k (deck_id d.0) (map_got deck_id ds k d.0 d.1) in
    let on : IsRowOn (map worker_of ds) d.0.reaches.items = record {
      count = sym (length-map d.0.reaches.items (λ (r : Reach). stealer_deque r.stealer)) ∙ ap length all ∙ length-map (map deck_id ds) (λ (i : DeckId). i.own) ∙ length-map ds deck_id ∙ sym (length-map ds worker_of);
      deques = λ j w r atw atr.
          let e = got_map worker_of ds j w atw in
          let left = map_got (λ (r : Reach). stealer_deque r.stealer) d.0.reaches.items j r atr in
          let right = map_got (λ (i : DeckId). i.own) (map deck_id ds) j (deck_id e.0) (map_got deck_id ds j e.0 e.1) in
          some_same (stealer_deque r.stealer) (worker_deque e.0.worker) (sym left ∙ ap (λ us. slice_get us j) all ∙ right) ∙ ap (λ (z : OwnerOf). worker_deque z) e.2;
    } in
    subst (λ (z : Vec Reach Global). IsRowOn (map worker_of ds) z.items) d.2 on

-- the workers of decks know all that was put
pub ruling : (ds : List Deck) → AreRuling (map worker_of ds)
ruling ds k w at =
    let d = got_map worker_of ds k w at in
    let o = d.0.owned in
    let p = o.2 in
    let c = d.0.counted.1 in
    subst IsRuling d.2 (o.0, o.1, omega arith)

-- with a part from each deck a worker has all
pub whole_again : (ds : List Deck) (vs : List OwnerOf) → AreOneMaking ds → length vs ≡ length (map worker_of ds) → HaveGained (length (map reaches_of ds)) (map worker_of ds) vs → AreWhole vs
whole_again ds vs making same gained k v at =
    let l = slice_get_within vs k v at in
    let w = there (map worker_of ds) k (omega arith) in
    let g = gained k w.0 v w.1 at in
    let d = got_map worker_of ds k w.0 w.1 in
    let o = d.0.owned in
    let row = rows_on ds making k d.0.reaches (map_got reaches_of ds k d.0 d.1) in
    let long = row.count in
    let parts = o.2 in
    let more = g.3 in
    let mine = ap (λ (z : OwnerOf). (worker_view z).parts) d.2 in
    let a = length-map ds worker_of in
    let b = length-map ds reaches_of in
    (g.1 ∙ ap (λ (z : OwnerOf). worker_flavor z) (sym d.2) ∙ o.0, g.2 ∙ ap (λ (z : OwnerOf). (worker_view z).owner) (sym d.2) ∙ o.1, omega arith)

-- parts that workers gain do not change what was put
pub put_stays : (n : ℕ) (ws vs : List OwnerOf) → length vs ≡ length ws → HaveGained n ws vs → (h : Block → ℕ) → put_on h vs ≡ put_on h ws
put_stays n ws vs same gained h = adds_alike (λ (z : OwnerOf). weigh h (worker_view z).put) (λ (z : OwnerOf). weigh h (worker_view z).put) vs ws same (λ k v w atv atw. ap (weigh h) (gained k w v atw atv).4)

-- once the deques are empty, what was put is what was taken and what was left
pub together : (ds : List Deck) (vs : List OwnerOf) (left : List Block) → length vs ≡ length (map worker_of ds) → HaveGained (length (map reaches_of ds)) (map worker_of ds) vs
    → ((h : Block → ℕ) → known_to h vs ≡ known_to h (map worker_of ds) + known_in_all h (map reaches_of ds))
    → ((h : Block → ℕ) → weigh h left + known_to h vs ≡ put_on h vs) → HaveSame (all_put ds) (all_taken ds ++ left)
together ds vs left same gained known rest h =
    let p = put_total h ds in
    let t = taken_total h ds in
    let s = put_stays (length (map reaches_of ds)) (map worker_of ds) vs same gained h in
    let k = known h in
    let r = rest h in omega (arith, weigh-append h (all_taken ds) left)

abbrev unit : Bool → ℕ
unit is = if is then 1 else 0

one_cases : (deck index : ℕ) (x : Block) → (one_at deck index x ≡ 0) ⊎ ((one_at deck index x ≡ 1) × (x.deck ≡ deck) × (x.index ≡ index))
one_cases deck index x = by_tests (x.deck == deck) (x.index == index) refl refl
  where
    by_tests : (p q : Bool) → (x.deck == deck) ≡ p → (x.index == index) ≡ q → (unit (p && q) ≡ 0) ⊎ ((unit (p && q) ≡ 1) × (x.deck ≡ deck) × (x.index ≡ index))
    by_tests true true e f = inr (refl, eqb-true x.deck deck e, eqb-true x.index index f)
    by_tests true false e f = inl refl
    by_tests false true e f = inl refl
    by_tests false false e f = inl refl

-- blocks that are numbered from one on have an index once at most
times_from : (deck index from : ℕ) (xs : List Block) → ((k : ℕ) → k < length xs → (block_at xs k).index ≡ from + k) → (times deck index xs ≤ 1) × (index < from → times deck index xs ≡ 0)
times_from deck index from [] numbers = (omega arith, (λ _. refl))
times_from deck index from (x ∷ xs) numbers =
    let here : x.index ≡ from + 0 = numbers 0 (omega arith) in
    let rest = times_from deck index (from + 1) xs (λ k l. let n = numbers (suc k) (omega arith) in omega arith) in
    let small = rest.0 in ⊎_elim
    (λ (z : one_at deck index x ≡ 0). (omega arith, (λ l. let r = rest.1 (omega arith) in omega arith)))
    (λ (o : (one_at deck index x ≡ 1) × (x.deck ≡ deck) × (x.index ≡ index)). let a = o.0 in let i = o.2 in let r = rest.1 (omega arith) in (omega arith, (λ l. absurd (omega arith))))
    (one_cases deck index x)

-- blocks of other decks
times_none : (deck index other : ℕ) (xs : List Block) → other ≢ deck → ((k : ℕ) → k < length xs → (block_at xs k).deck ≡ other) → times deck index xs ≡ 0
times_none deck index other [] ne numbers = refl
times_none deck index other (x ∷ xs) ne numbers =
    let here : x.deck ≡ other = numbers 0 (omega arith) in
    let rest = times_none deck index other xs ne (λ k l. numbers (suc k) (omega arith)) in ⊎_elim
    (λ (z : one_at deck index x ≡ 0). omega arith)
    (λ (o : (one_at deck index x ≡ 1) × (x.deck ≡ deck) × (x.index ≡ index)). absurd (ne (sym here ∙ o.1)))
    (one_cases deck index x)

same_or_not : (i j : ℕ) → (i ≡ j) ⊎ (i ≢ j)
same_or_not i j = by_test (i == j) refl
  where
    by_test : (p : Bool) → (i == j) ≡ p → (i ≡ j) ⊎ (i ≢ j)
    by_test true e = inl (eqb-true i j e)
    by_test false e = inr (eqb-false i j e)

once_from : (deck index from : ℕ) (ds : List Deck) → ((k : ℕ) (d : Deck) → slice_get ds k ≡ Some d → d.number ≡ from + k) → (times deck index (all_put ds) ≤ 1) × (deck < from → times deck index (all_put ds) ≡ 0)
once_from deck index from [] numbers = (omega arith, (λ _. refl))
once_from deck index from (d ∷ ds) numbers =
    let here : d.number ≡ from + 0 = numbers 0 d refl in
    let rest = once_from deck index (from + 1) ds (λ k e at. let n = numbers (suc k) e at in omega arith) in
    let small = rest.0 in
    let sum = weigh-append (one_at deck index) (put_by d) (all_put ds) in ⊎_elim
    (λ (e : d.number ≡ deck).
    let mine = (times_from deck index 0 (put_by d) (λ k l. let n = (d.numbered k l).1 in omega arith)).0 in
    let none = rest.1 (omega arith) in (omega arith, (λ l. absurd (omega arith))))
    (λ (ne : d.number ≢ deck).
    let mine = times_none deck index d.number (put_by d) ne (λ k l. (d.numbered k l).0) in (omega arith, (λ l. let none = rest.1 (omega arith) in omega arith)))
    (same_or_not d.number deck)

-- the blocks that decks of one making have put occur once each
pub each_once : (ds : List Deck) → AreOneMaking ds → IsEachOnce (all_put ds)
each_once ds making deck index = (once_from deck index 0 ds (λ k d at. let n = making.numbers k (deck_id d) (map_got deck_id ds k d at) in omega arith)).0
