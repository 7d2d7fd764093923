-- Each move keeps the rule of a deck.
use Rattle.std.proofs.Common.{◌≡◌, ◌≢◌, ℕ, zero, suc, ◌+◌, ◌<◌, ◌≤◌, true, true≢false, List, [], ◌∷◌, ◌++◌, length, set, sym, refl, ap, ◌∙◌, subst, ⊎_elim, append_assoc, length-append, arith}
use mathlib.Core.Option.{some, some-injective, some-ne-none}
use lib.ListN.{get_elem?}
use Rattle.crossbeam_deque.specs.Tasks.{Pushes, Takes, Forks, Merges, Learns, Finds}
use Rattle.crossbeam_deque.proofs.Lists.{at_set, at_snoc}
use Rattle.block_deques.specs.declared.block.Block.{Block}
use Rattle.block_deques.specs.declared.block.Hand.{Hand}
use Rattle.block_deques.specs.Hands.{weigh, total, Rises, IsNumbered, hand, all_parts, Fits, Kept, Puts, Took, owner_after, thief, spent_hand, both, Sums, Drained}

-- a weight of two lists of blocks is the weights of both
pub weigh-append : (h : Block → ℕ) (xs ys : List Block) → weigh h (xs ++ ys) ≡ weigh h xs + weigh h ys
weigh-append h [] ys = omega arith
weigh-append h (x ∷ xs) ys = let r = weigh-append h xs ys in omega (arith, r)

-- a total over all hands of which one changes
pub total_set : (f : Hand → ℕ) (vs : List Hand) (i : ℕ) (v w : Hand) → get_elem? vs i ≡ some v → total f (set vs i w) + f v ≡ total f vs + f w
total_set f [] i v w at = absurd (some-ne-none v (sym at))
total_set f (x ∷ xs) zero v w at = let e : f x ≡ f v = ap f (some-injective x v at) in omega (arith, e)
total_set f (x ∷ xs) (suc i) v w at = let r = total_set f xs i v w at in omega (arith, r)

total_snoc : (f : Hand → ℕ) (vs : List Hand) (w : Hand) → total f (vs ++ w ∷ []) ≡ total f vs + f w
total_snoc f [] w = omega arith
total_snoc f (x ∷ xs) w = let r = total_snoc f xs w in omega (arith, r)

each_set : (F : ℕ → Hand → Type 0) (vs : List Hand) (i : ℕ) (w : Hand) → F i w → ((j : ℕ) (u : Hand) → j ≢ i → get_elem? vs j ≡ some u → F j u)
    → (j : ℕ) (u : Hand) → get_elem? (set vs i w) j ≡ some u → F j u
each_set F vs i w here else j u at = ⊎_elim (λ (t : (j ≡ i) × (w ≡ u)). subst (λ (z : ℕ × Hand). F z.0 z.1) (λ k. (sym t.0 k, t.1 k)) here)
    (λ (t : (j ≢ i) × (get_elem? vs j ≡ some u)). else j u t.0 t.1) (at_set vs i j w u at)

numbered_more : (n : ℕ) (xs : List Block) (x : Block) → IsNumbered n xs → x.index ≡ n + length xs → IsNumbered n (xs ++ x ∷ [])
numbered_more n [] x k e = (omega arith, tt)
numbered_more n (y ∷ ys) x k e = (k.0, numbered_more (n + 1) ys x k.1 (omega arith))

numbered_at : (n : ℕ) (xs : List Block) (x : Block) (ys : List Block) → IsNumbered n (xs ++ x ∷ ys) → x.index ≡ n + length xs
numbered_at n [] x ys k = let e = k.0 in omega arith
numbered_at n (y ∷ xs) x ys k = let r = numbered_at (n + 1) xs x ys k.1 in omega (arith, r)

rises_more : (low high high' : ℕ) (xs : List Block) (x : Block) → low ≤ high → Rises low high xs → high ≤ x.index → x.index < high' → Rises low high' (xs ++ x ∷ [])
rises_more low high high' [] x le r a b = (omega arith, b, tt)
rises_more low high high' (y ∷ ys) x le r a b = let p = r.0 in let q = r.1 in (r.0, omega arith, rises_more (y.index + 1) high high' ys x (omega arith) r.2 a b)

rises_on : (low high high' : ℕ) (xs : List Block) → high ≤ high' → Rises low high xs → Rises low high' xs
rises_on low high high' [] le r = tt
rises_on low high high' (y ∷ ys) le r = let q = r.1 in (r.0, omega arith, rises_on (y.index + 1) high high' ys le r.2)

-- the owner may put a block with the next number
pub puts_one : (port : ℕ) (v : Hand) (x : Block) → v.owner ≡ true → x.index ≡ length v.put → Pushes Kept port v (x ∷ []) (Puts v (x ∷ []))
puts_one port v x own number items views k at =
    let w = hand v.parts v.owner (v.put ++ x ∷ []) v.taken v.joined in
    let mine = k.each port v at in
    let all : v.put ≡ k.front ++ items = (mine.0 own).1 in
    let longer : (k.front ++ items) ++ x ∷ [] ≡ k.front ++ (items ++ x ∷ []) = append_assoc k.front items (x ∷ []) in
    let parts = total_set (λ u. u.parts) views port v w at in
    let old = k.parts in (
      w,
      record {
        writer = k.writer;
        front = k.front;
        numbered = subst (IsNumbered 0) longer (numbered_more 0 (k.front ++ items) x k.numbered (omega (arith, number, ap length all)));
        weights = λ h. let s = total_set (λ u. weigh h u.taken + weigh h u.joined) views port v w at in let o = k.weights h in omega arith;
        parts = omega arith;
        each = each_set (Fits k.writer (length k.front) (k.front ++ (items ++ x ∷ []))) views port w
            ((λ _. ((mine.0 own).0, ap (λ l. l ++ x ∷ []) all ∙ longer)), mine.1, mine.2)
            (λ j u ne there. let g = k.each j u there in ((λ o. absurd (ne ((g.0 o).0 ∙ sym (mine.0 own).0))), g.1, g.2));
      },
      refl,
    )

takes_first : (port : ℕ) (v : Hand) → 0 < v.parts → (x : Block) (items : List Block) (views : List Hand) → Kept (x ∷ items) views → get_elem? views port ≡ some v
    → (w : Hand) × Kept items (set views port w) × Took v (x ∷ []) w
takes_first port v some_part x items views k at =
    let w = hand v.parts v.owner v.put (v.taken ++ x ∷ []) v.joined in
    let mine = k.each port v at in
    let shift : k.front ++ (x ∷ items) ≡ (k.front ++ x ∷ []) ++ items = sym (append_assoc k.front (x ∷ []) items) in
    let index = numbered_at 0 k.front x items k.numbered in
    let long = length-append k.front (x ∷ []) in
    let parts = total_set (λ u. u.parts) views port v w at in
    let old = k.parts in (
      w,
      record {
        writer = k.writer;
        front = k.front ++ x ∷ [];
        numbered = subst (IsNumbered 0) shift k.numbered;
        weights = λ h.
            let s = total_set (λ u. weigh h u.taken + weigh h u.joined) views port v w at in
            let o = k.weights h in omega (arith, weigh-append h v.taken (x ∷ []), weigh-append h k.front (x ∷ []));
        parts = omega arith;
        each = each_set (Fits k.writer (length (k.front ++ x ∷ [])) ((k.front ++ x ∷ []) ++ items)) views port w
            ((λ o. ((mine.0 o).0, (mine.0 o).1 ∙ shift)), rises_more 0 (length k.front) (length (k.front ++ x ∷ [])) v.taken x (omega arith) mine.1 (omega arith) (omega arith), (λ none. absurd (omega arith)))
            (λ j u ne there. let g = k.each j u there in ((λ o. ((g.0 o).0, (g.0 o).1 ∙ shift)), rises_on 0 (length k.front) (length (k.front ++ x ∷ [])) u.taken (omega arith) g.1, g.2));
      },
      (refl, (length (k.front ++ x ∷ []), rises_more 0 (length k.front) (length (k.front ++ x ∷ [])) v.taken x (omega arith) mine.1 (omega arith) (omega arith))),
    )

-- a hand with a part may take a block
pub takes_one : (port : ℕ) (v : Hand) → 0 < v.parts → Takes Kept port v 1 (Took v)
takes_one port v some_part [] items views a b k at = absurd (omega arith)
takes_one port v some_part (x ∷ []) items views a b k at = takes_first port v some_part x items views k at
takes_one port v some_part (x ∷ y ∷ ys) items views a b k at = absurd (omega arith)

-- where the deque stays what it is, hands that fit it keep the rule
row_stays : (items : List Block) (views after : List Hand) (k : Kept items views) → ((h : Block → ℕ) → total (λ v. weigh h v.taken + weigh h v.joined) after ≡ weigh h k.front) → total (λ v. v.parts) after ≡ all_parts
    → ((port : ℕ) (v : Hand) → get_elem? after port ≡ some v → Fits k.writer (length k.front) (k.front ++ items) port v) → Kept items after
row_stays items views after k weights parts each = record { writer = k.writer; front = k.front; numbered = k.numbered; weights = weights; parts = parts; each = each }

-- a new thief has a part
pub forks : (port : ℕ) (v : Hand) → 1 < v.parts → Forks Kept port v (owner_after v) thief
forks port v more items views k at =
    let w = owner_after v in
    let vs = set views port w in
    let mine = k.each port v at in
    let parts = total_set (λ u. u.parts) views port v w at in
    let parts' = total_snoc (λ u. u.parts) vs thief in
    let old = k.parts in row_stays items views (vs ++ thief ∷ []) k
    (λ h. let s = total_set (λ u. weigh h u.taken + weigh h u.joined) views port v w at in
    let t = total_snoc (λ u. weigh h u.taken + weigh h u.joined) vs thief in
    let o = k.weights h in omega arith)
    (omega arith)
    (λ j u e. ⊎_elim
    (λ there. each_set (Fits k.writer (length k.front) (k.front ++ items)) views port w (mine.0, mine.1, (λ none. absurd (omega arith))) (λ j u _ there. k.each j u there) j u there)
    (λ (is : thief ≡ u). subst (λ (z : Hand). Fits k.writer (length k.front) (k.front ++ items) j z) is ((λ o. absurd (true≢false (sym o))), tt, (λ none. (refl, refl))))
    (at_snoc vs thief u j e))

-- one pass takes in another
pub merges : (port : ℕ) (v : Hand) (other : ℕ) (u : Hand) → 0 < v.parts → Merges Kept port v other u (both v u) spent_hand
merges port v other u some_part items views k at ne at' =
    let w = both v u in
    let vs = set views port w in
    let mine = k.each port v at in
    let parts = total_set (λ z. z.parts) views port v w at in
    let parts' = total_set (λ z. z.parts) vs other u spent_hand at' in
    let old = k.parts in row_stays items views (set vs other spent_hand) k
    (λ h. let s = total_set (λ z. weigh h z.taken + weigh h z.joined) views port v w at in
    let t = total_set (λ z. weigh h z.taken + weigh h z.joined) vs other u spent_hand at' in
    let o = k.weights h in omega (arith, weigh-append h v.joined (u.taken ++ u.joined), weigh-append h u.taken u.joined))
    (omega arith)
    (each_set (Fits k.writer (length k.front) (k.front ++ items)) vs other spent_hand ((λ o. absurd (true≢false (sym o))), tt, (λ none. (refl, refl)))
    (λ j z _ there. each_set (Fits k.writer (length k.front) (k.front ++ items)) views port w (mine.0, mine.1, (λ none. absurd (omega arith))) (λ j z _ there. k.each j z there) j z there))

-- who has every part knows what was taken of it
least : (f : Hand → ℕ) (vs : List Hand) (i : ℕ) (v : Hand) → get_elem? vs i ≡ some v → f v ≤ total f vs
least f [] i v at = absurd (some-ne-none v (sym at))
least f (x ∷ xs) zero v at = let e : f x ≡ f v = ap f (some-injective x v at) in omega arith
least f (x ∷ xs) (suc i) v at = let r = least f xs i v at in omega arith

nothing : (f : Hand → ℕ) (vs : List Hand) → ((j : ℕ) (u : Hand) → get_elem? vs j ≡ some u → u.parts ≡ 0 → f u ≡ 0) → total (λ z. z.parts) vs ≡ 0 → total f vs ≡ 0
nothing f [] idle z = refl
nothing f (x ∷ xs) idle z =
    let e = idle 0 x refl (omega arith) in
    let r = nothing f xs (λ j u at. idle (suc j) u at) (omega arith) in omega arith

alone : (f : Hand → ℕ) (vs : List Hand) (i : ℕ) (v : Hand) → get_elem? vs i ≡ some v → ((j : ℕ) (u : Hand) → get_elem? vs j ≡ some u → u.parts ≡ 0 → f u ≡ 0) → total (λ z. z.parts) vs ≡ v.parts → total f vs ≡ f v
alone f [] i v at idle all = absurd (some-ne-none v (sym at))
alone f (x ∷ xs) zero v at idle all =
    let e : f x ≡ f v = ap f (some-injective x v at) in
    let p : x.parts ≡ v.parts = ap (λ (z : Hand). z.parts) (some-injective x v at) in
    let r = nothing f xs (λ j u there. idle (suc j) u there) (omega arith) in omega arith
alone f (x ∷ xs) (suc i) v at idle all =
    let le = least (λ z. z.parts) xs i v at in
    let e = idle 0 x refl (omega arith) in
    let r = alone f xs i v at (λ j u there. idle (suc j) u there) (omega arith) in omega arith

-- an owner with all parts learns that what was put is what was taken and what the deque holds
pub sums : (port : ℕ) (v : Hand) → v.owner ≡ true → v.parts ≡ all_parts → Learns Kept port v (Sums v)
sums port v own all items views k at h =
    let mine = k.each port v at in
    let put : v.put ≡ k.front ++ items = (mine.0 own).1 in
    let w = k.weights h in
    let idle : (j : ℕ) (u : Hand) → get_elem? views j ≡ some u → u.parts ≡ 0 → weigh h u.taken + weigh h u.joined ≡ 0 = λ j u there z. let t = (k.each j u there).2 z in (let a : weigh h u.taken ≡ 0 = ap (weigh h) t.0 in let b : weigh h u.joined ≡ 0 = ap (weigh h) t.1 in omega arith) in
    let only = alone (λ u. weigh h u.taken + weigh h u.joined) views port v at idle (k.parts ∙ sym all) in
    omega (arith, ap (weigh h) put, weigh-append h k.front items)

-- a new deque has one hand, with all parts
pub begins : Kept [] (hand all_parts true [] [] [] ∷ [])
begins = record {
  writer = 0;
  front = [];
  numbered = tt;
  weights = λ h. refl;
  parts = omega arith;
  each = λ j v at. first_only j v at;
}
  where
    first_only : (j : ℕ) (v : Hand) → get_elem? (hand all_parts true [] [] [] ∷ []) j ≡ some v → Fits 0 0 [] j v
    first_only zero v at = subst (Fits 0 0 [] 0) (some-injective _ v at) ((λ _. (refl, refl)), tt, (λ none. (refl, refl)))
    first_only (suc j) v at = absurd (some-ne-none v (sym at))

weigh-one : (xs : List Block) → weigh (λ _. 1) xs ≡ length xs
weigh-one [] = refl
weigh-one (x ∷ xs) = let r = weigh-one xs in omega (arith, r)

inside : (vs : List Hand) (i : ℕ) (v w : Hand) → get_elem? vs i ≡ some v → get_elem? (set vs i w) i ≡ some w
inside [] i v w e = absurd (some-ne-none v (sym e))
inside (x ∷ xs) zero v w e = refl
inside (x ∷ xs) (suc i) v w e = inside xs i v w e

-- an owner with all parts may take a block, which is one that was put
pub drains : (port : ℕ) (v : Hand) → v.owner ≡ true → v.parts ≡ all_parts → Takes Kept port v 1 (Drained v)
drains port v own all xs items views a b k at =
    let t = takes_one port v (omega arith) xs items views a b k at in
    let w = t.0 in
    let s = sums port w (ap (λ (z : Hand). z.owner) t.2.0 ∙ own) (ap (λ (z : Hand). z.parts) t.2.0 ∙ all) items (set views port w) t.1 (inside views port v w at) (λ _. 1) in
    (w, t.1, (t.2, omega (arith, weigh-one w.put, weigh-one w.taken, weigh-one w.joined)))

-- an owner with all parts that finds the deque empty learns that all that was put was taken
pub finds_none : (port : ℕ) (v : Hand) → v.owner ≡ true → v.parts ≡ all_parts → Finds Kept port v (Sums v [])
finds_none port v own all views k at = sums port v own all [] views k at
