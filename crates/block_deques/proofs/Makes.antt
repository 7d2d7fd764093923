-- How decks come about.
use Rattle.std.proofs.Common.{◌≡◌, ◌≢◌, ℕ, zero, suc, ◌+◌, ◌-◌, ◌<◌, ◌≤◌, List, [], ◌∷◌, ◌++◌, length, map, set, ⊎_elim, refl, ap, sym, subst, ◌∙◌, arith, Some, slice_get, Vec, length-append, length-set}
use Rattle.std.proofs.lemmas.Option.{slice_get_within}
use Rattle.std.proofs.lemmas.List.{length-map}
use Rattle.std.specs.declared.alloc.Global.{Global}
use Rattle.crossbeam_deque.specs.Handles.{worker_view, worker_deque, stealer_deque}
use Rattle.block_deques.specs.declared.limits.TheConstants.{MAX_DECKS}
use Rattle.block_deques.specs.declared.block.Block.{Block}
use Rattle.block_deques.specs.declared.block.Hand.{Hand}
use Rattle.block_deques.specs.Passes.{IsOwner, AreDeckBlocks}
use Rattle.block_deques.specs.declared.reach.Reach.{Reach}
use Rattle.block_deques.specs.declared.deck.Deck.{Deck}
use Rattle.block_deques.specs.Hands.{thief, owner_after, all_parts}
use Rattle.block_deques.specs.Reaches.{reach_view, taken_at}
use Rattle.block_deques.specs.Decks.{DeckId, deck_id}
use Rattle.block_deques.specs.Wholes.{AreNewDecks}
use Rattle.block_deques.specs.Making.{OwnerOf, AreFresh, AreRich, HasGiven, HaveGiven, IsRow, AreRows, IsDeckOf, AreDecksOf}
use Rattle.block_deques.proofs.Places.{some_same, at_seam, got_end, got_last, got_longer, set_cases, there, map-pointwise, got_map}

-- the first n of ws have given a part away
pub record Halfway (ws vs : List OwnerOf) (rs : List Reach) (n : ℕ) : Type 0 where
  pub same_length : length vs ≡ length ws
  pub count : length rs ≡ n
  pub given : (k : ℕ) (w v : OwnerOf) → k < n → slice_get ws k ≡ Some w → slice_get vs k ≡ Some v → HasGiven w v
  pub untouched : (k : ℕ) (v : OwnerOf) → n ≤ k → slice_get vs k ≡ Some v → slice_get ws k ≡ Some v
  pub deques : (k : ℕ) (w : OwnerOf) (r : Reach) → slice_get ws k ≡ Some w → slice_get rs k ≡ Some r → stealer_deque r.stealer ≡ worker_deque w
  pub new : (k : ℕ) (r : Reach) → slice_get rs k ≡ Some r → reach_view r ≡ thief

-- before the first worker has given, the row is empty
pub halfway_at_first : (ws : List OwnerOf) → Halfway ws ws [] 0
halfway_at_first ws = record {
  same_length = refl;
  count = refl;
  given = λ k w v l _ _. absurd (omega arith);
  untouched = λ k v _ at. at;
  deques = λ k w r _ at. absurd (cc at);
  new = λ k r at. absurd (cc at);
}

-- the next worker has given a part away, and its pass is at the end of the row
pub one_more_given : (ws vs : List OwnerOf) (rs : List Reach) (n : ℕ) (old now : OwnerOf) (r : Reach) → slice_get vs n ≡ Some old → HasGiven old now → stealer_deque r.stealer ≡ worker_deque old → reach_view r ≡ thief
    → Halfway ws vs rs n → Halfway ws (set vs n now) (rs ++ r ∷ []) (n + 1)
one_more_given ws vs rs n old now r at gave deque is h =
    let first : slice_get ws n ≡ Some old = h.untouched n old (omega arith) at in record {
      same_length = length-set vs n now ∙ h.same_length;
      count = let c = h.count in omega (arith, length-append rs (r ∷ []));
      given = λ k w v l atw atv. ⊎_elim
          (λ (t : (k ≡ n) × (now ≡ v)).
          let here : slice_get ws k ≡ Some old = ap (slice_get ws) t.0 ∙ first in
          let same : w ≡ old = some_same w old (sym atw ∙ here) in
          subst (λ (z : OwnerOf × OwnerOf). HasGiven z.0 z.1) (λ i. (sym same i, t.1 i)) gave)
          (λ (t : (k ≢ n) × (slice_get vs k ≡ Some v)). let ne = t.0 in h.given k w v (omega arith) atw t.1)
          (set_cases vs n now v k atv);
      untouched = λ k v l atv. ⊎_elim
          (λ (t : (k ≡ n) × (now ≡ v)). let e = t.0 in absurd (omega arith))
          (λ (t : (k ≢ n) × (slice_get vs k ≡ Some v)). h.untouched k v (omega arith) t.1)
          (set_cases vs n now v k atv);
      deques = λ k w p atw atp. ⊎_elim
          (λ (t : slice_get rs k ≡ Some p). h.deques k w p atw t)
          (λ (t : (k ≡ length rs) × (r ≡ p)).
          let here : slice_get ws k ≡ Some old = ap (slice_get ws) (t.0 ∙ h.count) ∙ first in
          let same : old ≡ w = some_same old w (sym here ∙ atw) in
          ap (λ (z : Reach). stealer_deque z.stealer) (sym t.1) ∙ deque ∙ ap (λ (z : OwnerOf). worker_deque z) same)
          (got_end rs r p k atp);
      new = λ k p atp. ⊎_elim
          (λ (t : slice_get rs k ≡ Some p). h.new k p t)
          (λ (t : (k ≡ length rs) × (r ≡ p)). subst (λ (z : Reach). reach_view z ≡ thief) t.1 is)
          (got_end rs r p k atp);
    }

-- when the last worker has given, all have
pub all_given : (ws vs : List OwnerOf) (rs : List Reach) (n : ℕ) → length vs ≤ n → Halfway ws vs rs n → HaveGiven ws vs
all_given ws vs rs n le h k w v atw atv = let l = slice_get_within vs k v atv in h.given k w v (omega arith) atw atv

-- a row is one on the same deques
pub row_moves : (ws vs : List OwnerOf) (rs : List Reach) → length vs ≡ length ws → ((k : ℕ) (w v : OwnerOf) → slice_get ws k ≡ Some w → slice_get vs k ≡ Some v → worker_deque v ≡ worker_deque w) → IsRow ws rs → IsRow vs rs
row_moves ws vs rs same deque row = record {
  count = row.count ∙ sym same;
  deques = λ k v r atv atr.
      let l = slice_get_within vs k v atv in
      let w = there ws k (omega arith) in
      row.deques k w.0 r w.1 atr ∙ sym (deque k w.0 v w.1 atv);
  new = row.new;
}

-- when the last worker has given, the passes are a row on all deques
pub row_given : (ws vs : List OwnerOf) (rs : List Reach) (n : ℕ) → length vs ≤ n → n ≤ length vs → Halfway ws vs rs n → IsRow vs rs
row_given ws vs rs n le ge h = let c = h.count in let s = h.same_length in row_moves ws vs rs h.same_length (λ k w v atw atv. (all_given ws vs rs n le h k w v atw atv).0)
    (record { count = omega arith; deques = h.deques; new = h.new })

-- each has one part less
pub poorer : (parts : ℕ) (ws vs : List OwnerOf) → length vs ≡ length ws → AreFresh parts ws → HaveGiven ws vs → AreFresh (parts - 1) vs
poorer parts ws vs same fresh gave k v atv =
    let l = slice_get_within vs k v atv in
    let w = there ws k (omega arith) in
    let f = fresh k w.0 w.1 in
    let g = gave k w.0 v w.1 atv in
    (g.1 ∙ f.0, g.2 ∙ ap owner_after f.1)

-- new workers with more than one part can give one away
pub still_rich : (parts : ℕ) (ws : List OwnerOf) → 1 < parts → AreFresh parts ws → AreRich ws
still_rich parts ws more fresh k w at = let f = fresh k w at in let p = ap (λ v. v.parts) f.1 in (f.0, omega arith)

-- rows stay on the deques when the workers give a part away
pub rows_move : (ws vs : List OwnerOf) (rows : List (Vec Reach Global)) → length vs ≡ length ws → HaveGiven ws vs → AreRows ws rows → AreRows vs rows
rows_move ws vs rows same gave all k row at = row_moves ws vs row.items same (λ k w v atw atv. (gave k w v atw atv).0) (all k row at)

-- one row more
pub rows_more : (ws : List OwnerOf) (rows : List (Vec Reach Global)) (row : Vec Reach Global) → AreRows ws rows → IsRow ws row.items → AreRows ws (rows ++ row ∷ [])
rows_more ws rows row all new k p at = ⊎_elim (λ t. all k p t) (λ (t : (k ≡ length rows) × (row ≡ p)). subst (λ (z : Vec Reach Global). IsRow ws z.items) t.1 new) (got_end rows row p k at)

-- the last of some rows is a row, and so are the others
pub rows_fewer : (ws : List OwnerOf) (rows fewer : List (Vec Reach Global)) (row : Vec Reach Global) → rows ≡ fewer ++ row ∷ [] → AreRows ws rows → IsRow ws row.items × AreRows ws fewer
rows_fewer ws rows fewer row is all =
    let all' : AreRows ws (fewer ++ row ∷ []) = subst (AreRows ws) is all in
    (all' (length fewer) row (got_last fewer row), (λ k p at. all' k p (got_longer fewer (row ∷ []) p k at)))

-- the worker that comes next stands at this place
pub next_worker : (ws done rest left : List OwnerOf) (w : OwnerOf) → ws ≡ done ++ left → left ≡ w ∷ rest → slice_get ws (length done) ≡ Some w
next_worker ws done rest left w whole is = ap (λ us. slice_get us (length done)) (whole ∙ ap (λ us. done ++ us) is) ∙ at_seam done w rest

-- a worker that has put nothing owns its deque for so many decks
pub owns : (ws : List OwnerOf) (k : ℕ) (w : OwnerOf) (rs : List Reach) → length ws ≤ MAX_DECKS → AreFresh (all_parts - length ws) ws → slice_get ws k ≡ Some w → IsRow ws rs → IsOwner (length rs) w
owns ws k w rs few fresh at row =
    let f = fresh k w at in
    let p = ap (λ (v : Hand). v.parts) f.1 in
    let c = row.count in (f.0, ap (λ (v : Hand). v.owner) f.1, omega arith, ap (λ (v : Hand). v.joined) f.1)

-- a row has a pass for each worker, and no more than decks are allowed
pub counted : (ws : List OwnerOf) (k : ℕ) (w : OwnerOf) (rs : List Reach) → length ws ≤ MAX_DECKS → slice_get ws k ≡ Some w → IsRow ws rs → (k < length rs) × (length rs ≤ MAX_DECKS)
counted ws k w rs few at row = let l = slice_get_within ws k w at in let c = row.count in (omega arith, omega arith)

-- a new worker has put nothing
pub nothing_put : (ws : List OwnerOf) (k parts : ℕ) (w : OwnerOf) → AreFresh parts ws → slice_get ws k ≡ Some w → (worker_view w).put ≡ []
nothing_put ws k parts w fresh at = ap (λ (v : Hand). v.put) (fresh k w at).1

-- a new worker has taken nothing
pub nothing_taken : (ws : List OwnerOf) (k parts : ℕ) (w : OwnerOf) → AreFresh parts ws → slice_get ws k ≡ Some w → (worker_view w).taken ≡ []
nothing_taken ws k parts w fresh at = ap (λ (v : Hand). v.taken) (fresh k w at).1

-- no blocks are numbered in order
pub none_numbered : (deck : ℕ) (blocks : List Block) → blocks ≡ [] → AreDeckBlocks deck blocks
none_numbered deck blocks none place within = let e = ap length none in absurd (omega arith)

-- one deck more
pub decks_more : (ws : List OwnerOf) (ds more : List Deck) (d : Deck) → more ≡ ds ++ d ∷ [] → AreDecksOf ws ds → IsDeckOf ws (length ds) d → AreDecksOf ws more
decks_more ws ds more d is all new = subst (AreDecksOf ws) (sym is) longer
  where
    longer : AreDecksOf ws (ds ++ d ∷ [])
    longer k p at = ⊎_elim (λ t. all k p t) (λ (t : (k ≡ length ds) × (d ≡ p)). subst (λ (z : ℕ × Deck). IsDeckOf ws z.0 z.1) (λ i. (sym t.0 i, t.1 i)) new) (got_end ds d p k at)

none_taken : (rs : List Reach) → ((k : ℕ) (r : Reach) → slice_get rs k ≡ Some r → reach_view r ≡ thief) → (victim : ℕ) → taken_at rs victim ≡ []
none_taken [] new victim = refl
none_taken (r ∷ rs) new zero = ap (λ v. v.taken) (new 0 r refl)
none_taken (r ∷ rs) new (suc victim) = none_taken rs (λ k p at. new (suc k) p at) victim

-- when each worker has its deck, the decks are new ones
pub new_decks : (ws : List OwnerOf) (ds : List Deck) → length ds ≡ length ws → AreDecksOf ws ds → AreNewDecks (length ws) ds
new_decks ws ds same all = record {
  length_is = same;
  making = record {
    numbers = λ k id at. let d = got_map deck_id ds k id at in ap (λ (i : DeckId). i.number) (sym d.2) ∙ (all k d.0 d.1).number;
    all = λ k id at. let d = got_map deck_id ds k id at in ap (λ (i : DeckId). i.all) (sym d.2) ∙ deques_of d.0 (all k d.0 d.1).row;
  };
  new = λ k d at. let new = all k d at in record { put = new.new; popped = new.none; stolen = none_taken d.reaches.items new.row.new };
}
  where
    deques_of : (d : Deck) → IsRow ws d.reaches.items → (deck_id d).all ≡ map (λ (i : DeckId). i.own) (map deck_id ds)
    deques_of d row = map-pointwise (λ (r : Reach). stealer_deque r.stealer) (λ (i : DeckId). i.own) d.reaches.items (map deck_id ds) (row.count ∙ sym same ∙ sym (length-map ds deck_id))
        (λ k r id atr ati. let e = got_map deck_id ds k id ati in row.deques k e.0.worker r (all k e.0 e.1).worker atr ∙ ap (λ (i : DeckId). i.own) e.2)
