-- Each record is read exactly where it is written so.
use Rattle.std.proofs.Common.{◌≡◌, ℕ, zero, suc, ◌+◌, ◌-◌, ◌^◌, ◌<◌, ◌≤◌, ◌==◌, ◌&&◌, ◌⊎◌, inl, inr, nat_lt, nat_le, Bool, true, false, cond, List, [], ◌∷◌, ◌++◌, length, take, drop, codes, Option, Some, None, refl, sym, ap, subst, ◌∙◌, length-append, arith}
use Rattle.std.specs.Option.{option_map}
use Rattle.std.proofs.lemmas.Bool.{ne_eqb, eqb-true, eq-eqb, and_parts, and_from, ltb-true, lt-ltb, leb-true, le-leb}
use Rattle.std.proofs.lemmas.List.{length-map, take_at, drop_at, length-take-le, take-append-drop, append-nil}
use Rattle.std.proofs.lemmas.Option.{cond_some}
use Rattle.plan_base.specs.declared.ids.ArcId.{ArcId}
use Rattle.plan_base.specs.declared.limits.TheConstants.{MAX_NODES}
use Rattle.plan_base.specs.Paths.{arc_at}
use Rattle.proof_tree.specs.declared.limits.TheConstants.{MAX_SIDE_ARCS}
use Rattle.proof_tree.specs.declared.tree.Evidence.{Evidence}
use Rattle.proof_tree.specs.declared.tree.Evidence.TheVariants.{Bound, Routed, Overfull, Cut, Far, Crowd, Open}
use Rattle.proof_tree.specs.declared.tree.TreeNode.{TreeNode}
use Rattle.proof_tree.specs.declared.tree.TreeNode.TheVariants.{Split, Loads, Leaf}
use Rattle.proof_tree.specs.Spellings.{IsAscending, IsWrittenSide, FitsEvidence, FitsRecord}
use Rattle.plan_tokens.specs.Words.{◌>>=◌, numerals, row, behind, each, numbers_of}
use Rattle.cert_format.specs.Grammar.{arc_numbers, counted, members, leaf_line, record_line, AreArcs, HasLeafFields, HasRecordFields}
use Rattle.cert_format.specs.Bodies.{
  only_if,
  choose,
  fixed_of,
  one_in,
  arc_of,
  uncounted,
  ascends,
  side_arcs,
  with_rest,
  side_of,
  two_sides,
  right_side,
  behind_left,
  sides_of,
  split_with,
  split_in,
  loads_in,
  cut_with,
  overfull_with,
  far_with,
  lone_number,
  behind_number,
  flags_of,
  set_of,
  cut_in,
  prices_of,
  priced_of,
  leaf_of,
  record_of,
}
use Rattle.plan_tokens.proofs.NumberWords.{then-some, map-some, behind_found, behind_takes, numbers_found, numbers_takes, each_takes, each_found, no-length}
use Rattle.cert_format.proofs.BodyLaws.{AreSmall, only_true, chosen, fixed_takes, one_takes, one_again, uncounted_takes, uncounted_again, arc_takes, arc_again, arcs_small}

-- where something is found under a test, the test holds
pub when_some : {A : Type 0} (t : Bool) (o : Option A) (y : A) → cond t o None ≡ Some y → (t ≡ true) × (o ≡ Some y)
when_some true o y e = (refl, e)
when_some false o y e = absurd cc

-- ---- ascending arcs

ascends-at : (arcs : List ArcId) → ascends (arc_numbers arcs) ≡ true → (i : ℕ) → suc i < length arcs → (arc_at arcs i).0 < (arc_at arcs (suc i)).0
unfolding ascends
ascends-at [] e i lt = absurd (omega arith)
ascends-at (a ∷ []) e i lt = absurd (omega arith)
ascends-at (a ∷ b ∷ arcs) e zero lt = ltb-true a.0 b.0 (and_parts (nat_lt a.0 b.0) (ascends (b.0 ∷ arc_numbers arcs)) e).0
ascends-at (a ∷ b ∷ arcs) e (suc i) lt = ascends-at (b ∷ arcs) (and_parts (nat_lt a.0 b.0) (ascends (b.0 ∷ arc_numbers arcs)) e).1 i (omega (arith, lt))

ascends-from : (arcs : List ArcId) → ascends (arc_numbers arcs) ≡ true → IsAscending arcs
ascends-from arcs e = ascends-at arcs e

ascends-again : (arcs : List ArcId) → IsAscending arcs → ascends (arc_numbers arcs) ≡ true
unfolding ascends
ascends-again [] h = refl
ascends-again (a ∷ []) h = refl
ascends-again (a ∷ b ∷ arcs) h =
    and_from (nat_lt a.0 b.0) (ascends (b.0 ∷ arc_numbers arcs)) (lt-ltb a.0 b.0 (h 0 (omega arith)))
    (ascends-again (b ∷ arcs) (λ i lt. h (suc i) (omega (arith, lt))))

-- ---- one side of a split

-- arcs that can stand as one side of a split, and numbers that begin with the count and numbers of these arcs
pub record IsSide (arcs : List ArcId) (ns rest : List ℕ) : Type 0 where
  pub side : IsWrittenSide arcs
  pub fields : AreArcs arcs
  pub numbers : ns ≡ counted (arc_numbers arcs) ++ rest

-- a side of a split that is read can stand as one, and the numbers taken are its own
pub side_takes : (ns : List ℕ) (x : List ArcId × List ℕ) → side_of ns ≡ Some x → IsSide x.0 ns x.1
unfolding side_of
side_takes [] x e = absurd cc
side_takes (m ∷ ns) x e =
    let (test, made) = when_some (nat_le m MAX_SIDE_ARCS && nat_le m (length ns)) (option_map (with_rest (drop m ns)) (side_arcs (take m ns))) x e in
    let both = and_parts (nat_le m MAX_SIDE_ARCS) (nat_le m (length ns)) test in
    let few : m ≤ MAX_SIDE_ARCS = leb-true m MAX_SIDE_ARCS both.0 in
    let within : m ≤ length ns = leb-true m (length ns) both.1 in
    let (arcs, found, is) = map-some (side_arcs (take m ns)) (with_rest (drop m ns)) x made in
    let (rises, numbers) = when_some (ascends (take m ns)) (each arc_of (take m ns)) arcs found in
    let all = each_takes arc_of (λ (a : ArcId). a.0 < 2 ^ 32) (λ (a : ArcId). a.0) arc_takes (take m ns) arcs numbers in
    let long : length (arc_numbers arcs) ≡ m = ap length (sym all.1) ∙ length-take-le m ns within in
    let count : length arcs ≡ m = sym (length-map arcs (λ (a : ArcId). a.0)) ∙ long in
    subst (λ (y : List ArcId × List ℕ). IsSide y.0 (m ∷ ns) y.1) is (record {
      side = record { few = omega (arith, count, few); ascending = ascends-from arcs (ap ascends (sym all.1) ∙ rises) };
      fields = all.0;
      numbers = ap (λ xs. m ∷ xs) (sym (take-append-drop m ns) ∙ ap (λ xs. xs ++ drop m ns) all.1) ∙ ap (λ k. k ∷ (arc_numbers arcs ++ drop m ns)) (sym long);
    })

-- the numbers of arcs that can stand as a side of a split are read as these arcs, and the rest is left
pub side_again : (arcs : List ArcId) (rest : List ℕ) → IsWrittenSide arcs → AreArcs arcs → side_of (counted (arc_numbers arcs) ++ rest) ≡ Some (arcs, rest)
unfolding side_of
side_again arcs rest s h =
    let ns : List ℕ = arc_numbers arcs in
    let count : length ns ≡ length arcs = length-map arcs (λ (a : ArcId). a.0) in
    let few : length ns ≤ MAX_SIDE_ARCS = omega (arith, count, s.few) in
    let within : length ns ≤ length (ns ++ rest) = omega (arith, length-append ns rest) in
    let test : (nat_le (length ns) MAX_SIDE_ARCS && nat_le (length ns) (length (ns ++ rest))) ≡ true =
    and_from (nat_le (length ns) MAX_SIDE_ARCS) (nat_le (length ns) (length (ns ++ rest))) (le-leb (length ns) MAX_SIDE_ARCS few) (le-leb (length ns) (length (ns ++ rest)) within) in
    ap (λ t. cond t (option_map (with_rest (drop (length ns) (ns ++ rest))) (side_arcs (take (length ns) (ns ++ rest)))) None) test
    ∙ ap (λ xs. option_map (with_rest (drop (length ns) (ns ++ rest))) (side_arcs xs)) (take_at ns rest (length ns) refl)
    ∙ ap (λ xs. option_map (with_rest xs) (side_arcs ns)) (drop_at ns rest (length ns) refl)
    ∙ ap (λ t. option_map (with_rest rest) (cond t (each arc_of ns) None)) (ascends-again arcs s.ascending)
    ∙ ap (option_map (with_rest rest)) (each_found arc_of (λ (a : ArcId). a.0 < 2 ^ 32) (λ (a : ArcId). a.0) arc_again arcs h)

-- ---- a split

-- arcs that can stand as the two sides of a split, and the numbers of both
pub record AreSides (left right : List ArcId) (ns : List ℕ) : Type 0 where
  pub left_side : IsWrittenSide left
  pub right_side : IsWrittenSide right
  pub left_fields : AreArcs left
  pub right_fields : AreArcs right
  pub numbers : ns ≡ counted (arc_numbers left) ++ counted (arc_numbers right)

sides-takes : (ns : List ℕ) (x : List ArcId × List ArcId) → sides_of ns ≡ Some x → AreSides x.0 x.1 ns
unfolding sides_of
sides-takes ns x e =
    let (l, first, later) = then-some (side_of ns) behind_left x e in
    let (r, second, test) = then-some (side_of l.1) (right_side l) x later in
    let (none, is) = cond_some (length r.1 == 0) (two_sides l.0 r.0) x test in
    let left = side_takes ns l first in
    let right = side_takes l.1 r second in
    let end : l.1 ≡ counted (arc_numbers r.0) = right.numbers ∙ ap (λ xs. counted (arc_numbers r.0) ++ xs) (no-length r.1 none) ∙ append-nil (counted (arc_numbers r.0)) in
    subst (λ (y : List ArcId × List ArcId). AreSides y.0 y.1 ns) is (record {
      left_side = left.side;
      right_side = right.side;
      left_fields = left.fields;
      right_fields = right.fields;
      numbers = left.numbers ∙ ap (λ xs. counted (arc_numbers l.0) ++ xs) end;
    })

sides-again : (left right : List ArcId) → IsWrittenSide left → IsWrittenSide right → AreArcs left → AreArcs right → sides_of (counted (arc_numbers left) ++ counted (arc_numbers right)) ≡ Some (left, right)
unfolding sides_of
sides-again left right l r lf rf =
    ap (λ o. o >>= behind_left) (side_again left (counted (arc_numbers right)) l lf)
    ∙ ap (λ xs. side_of xs >>= right_side (with_rest (counted (arc_numbers right)) left)) (sym (append-nil (counted (arc_numbers right))))
    ∙ ap (λ o. o >>= right_side (with_rest (counted (arc_numbers right)) left)) (side_again right [] r rf)

-- the line of a record
pub record IsRecordLine (nodes links : ℕ) (node : TreeNode) (body : List ℕ) : Type 0 where
  pub fits : FitsRecord nodes links node
  pub fields : HasRecordFields node
  pub line : body ≡ record_line node

split-takes : (nodes links : ℕ) (ns : List ℕ) (node : TreeNode) → split_in ns ≡ Some node → (body : List ℕ) → body ≡ row (codes "SPLIT") ns → IsRecordLine nodes links node body
unfolding split_in record_line
split-takes nodes links [] node e body line = absurd cc
split-takes nodes links (d ∷ []) node e body line = absurd cc
split-takes nodes links (d ∷ v ∷ ns) node e body line =
    let (test, made) = when_some (nat_lt d (2 ^ 32) && nat_lt v (2 ^ 32)) (option_map (split_with d v) (sides_of ns)) node e in
    let both = and_parts (nat_lt d (2 ^ 32)) (nat_lt v (2 ^ 32)) test in
    let (x, found, is) = map-some (sides_of ns) (split_with d v) node made in
    let sides = sides-takes ns x found in
    subst (λ (n : TreeNode). IsRecordLine nodes links n body) is (record {
      fits = (sides.left_side, sides.right_side);
      fields = (ltb-true d (2 ^ 32) both.0, ltb-true v (2 ^ 32) both.1, sides.left_fields, sides.right_fields);
      line = line ∙ ap (λ xs. row (codes "SPLIT") (d ∷ v ∷ xs)) sides.numbers;
    })

-- ---- a load split

loads-takes : (nodes links : ℕ) (ns : List ℕ) (node : TreeNode) → loads_in ns ≡ Some node → (body : List ℕ) → body ≡ row (codes "LOADS") ns → IsRecordLine nodes links node body
unfolding loads_in record_line
loads-takes nodes links [] node e body line = absurd cc
loads-takes nodes links (q ∷ []) node e body line = absurd cc
loads-takes nodes links (q ∷ c ∷ []) node e body line =
    let (test, is) = cond_some (nat_lt q (2 ^ 32) && nat_lt c (2 ^ 64)) (Loads q c) node e in
    let both = and_parts (nat_lt q (2 ^ 32)) (nat_lt c (2 ^ 64)) test in
    subst (λ (n : TreeNode). IsRecordLine nodes links n body) is (record { fits = tt; fields = (ltb-true q (2 ^ 32) both.0, ltb-true c (2 ^ 64) both.1); line = line })
loads-takes nodes links (q ∷ c ∷ n ∷ ns) node e body line = absurd cc

-- ---- the nodes of a cut

next-takes : (at : ℕ) (ns rest : List ℕ) → behind_number at ns ≡ Some rest → ns ≡ at ∷ rest
unfolding behind_number
next-takes at [] rest e = absurd cc
next-takes at (n ∷ ns) rest e =
    let (test, is) = cond_some (n == at) ns rest e in
    ap (λ k. k ∷ ns) (eqb-true n at test) ∙ ap (λ xs. at ∷ xs) is

-- where a set is read from numbers, it has an answer for each node, and the numbers are its nodes
pub flags_takes : (at left : ℕ) (ns : List ℕ) (fs : List Bool) → flags_of at left ns ≡ Some fs → (length fs ≡ left) × (ns ≡ members at fs)
unfolding flags_of members
flags_takes at zero ns fs e =
    let (none, is) = cond_some (length ns == 0) [] fs e in
    (ap length (sym is), no-length ns none ∙ ap (members at) is)
flags_takes at (suc left) ns fs e =
    elim (chosen (behind_number at ns) (λ rest. option_map (λ flags. true ∷ flags) (flags_of (suc at) left rest)) (option_map (λ flags. false ∷ flags) (flags_of (suc at) left ns)) fs e) [
      | inl (rest, first, later) ↦
          (let (more, found, is) = map-some (flags_of (suc at) left rest) (λ flags. true ∷ flags) fs later in
          let h = flags_takes (suc at) left rest more found in
          (ap length (sym is) ∙ ap (λ k. suc k) h.0, next-takes at ns rest first ∙ ap (λ xs. at ∷ xs) h.1 ∙ ap (members at) is))
      | inr other ↦
          (let (more, found, is) = map-some (flags_of (suc at) left ns) (λ flags. false ∷ flags) fs other in
          let h = flags_takes (suc at) left ns more found in
          (ap length (sym is) ∙ ap (λ k. suc k) h.0, h.1 ∙ ap (members at) is))
    ]

later-none : (at b : ℕ) (fs : List Bool) → at < b → behind_number at (members b fs) ≡ None
unfolding behind_number members
later-none at b [] lt = refl
later-none at b (true ∷ fs) lt = ap (λ t. only_if t (members (suc b) fs)) (ne_eqb b at (λ e. absurd (omega arith)))
later-none at b (false ∷ fs) lt = later-none at (suc b) fs (omega arith)

next-again : (at : ℕ) (rest : List ℕ) → behind_number at (at ∷ rest) ≡ Some rest
unfolding behind_number
next-again at rest = only_true (at == at) rest (eq-eqb at at refl)

-- the numbers of the nodes in a set are read as this set
pub flags_again : (at : ℕ) (fs : List Bool) → flags_of at (length fs) (members at fs) ≡ Some fs
unfolding flags_of members
flags_again at [] = refl
flags_again at (true ∷ fs) =
    ap (λ o. choose o (λ rest. option_map (λ flags. true ∷ flags) (flags_of (suc at) (length fs) rest)) (option_map (λ flags. false ∷ flags) (flags_of (suc at) (length fs) (at ∷ members (suc at) fs)))) (next-again at (members (suc at) fs))
    ∙ ap (option_map (λ flags. true ∷ flags)) (flags_again (suc at) fs)
flags_again at (false ∷ fs) =
    ap (λ o. choose o (λ rest. option_map (λ flags. true ∷ flags) (flags_of (suc at) (length fs) rest)) (option_map (λ flags. false ∷ flags) (flags_of (suc at) (length fs) (members (suc at) fs)))) (later-none at (suc at) fs (omega arith))
    ∙ ap (option_map (λ flags. false ∷ flags)) (flags_again (suc at) fs)

-- no more nodes are in a set than it has answers
pub members_few : (at : ℕ) (fs : List Bool) → length (members at fs) ≤ length fs
unfolding members
members_few at [] = omega arith
members_few at (true ∷ fs) = omega (arith, members_few (suc at) fs)
members_few at (false ∷ fs) = omega (arith, members_few (suc at) fs)

members-small : (at most : ℕ) (fs : List Bool) → at + length fs ≤ most → most ≤ 2 ^ 128 → AreSmall (members at fs)
unfolding members
members-small at most [] within small = tt
members-small at most (true ∷ fs) within small = (omega arith, members-small (suc at) most fs (omega arith) small)
members-small at most (false ∷ fs) within small = members-small (suc at) most fs (omega arith) small

-- ---- sets of nodes

-- a set stands in one list of numbers
pub set_takes : (nodes : ℕ) (ns : List ℕ) (fs : List Bool) → set_of nodes ns ≡ Some fs → (length fs ≡ nodes) × (ns ≡ counted (members 0 fs))
unfolding set_of
set_takes nodes ns fs e =
    let (ms, first, later) = then-some (uncounted nodes ns) (flags_of 0 nodes) fs e in
    let count = uncounted_takes nodes ns ms first in
    let flags = flags_takes 0 nodes ms fs later in
    (flags.0, count.1 ∙ ap counted flags.1)

-- and is read from it again
pub set_again : (nodes : ℕ) (fs : List Bool) → length fs ≡ nodes → set_of nodes (counted (members 0 fs)) ≡ Some fs
unfolding set_of
set_again nodes fs long =
    let few : length (members 0 fs) ≤ nodes = omega (arith, members_few 0 fs, long) in
    ap (λ o. o >>= flags_of 0 nodes) (uncounted_again nodes (members 0 fs) few)
    ∙ ap (λ k. flags_of 0 k (members 0 fs)) (sym long)
    ∙ flags_again 0 fs

-- its numbers are small
pub set_small : (nodes : ℕ) (fs : List Bool) → nodes ≤ MAX_NODES → length fs ≡ nodes → AreSmall (counted (members 0 fs))
set_small nodes fs small long =
    let few : length (members 0 fs) ≤ nodes = omega (arith, members_few 0 fs, long) in
    (omega (arith, few, small), members-small 0 nodes fs (omega (arith, long)) (omega (arith, small)))

-- ---- leaves

-- the line of a leaf
pub record IsLeafLine (nodes links : ℕ) (e : Evidence) (body : List ℕ) : Type 0 where
  pub fits : FitsEvidence nodes links e
  pub fields : HasLeafFields e
  pub line : body ≡ leaf_line e

cut-takes : (nodes links : ℕ) (ns : List ℕ) (e : Evidence) → cut_in nodes ns ≡ Some e → (body : List ℕ) → body ≡ row (codes "CUT") ns → IsLeafLine nodes links e body
unfolding cut_in leaf_line
cut-takes nodes links [] e h body line = absurd cc
cut-takes nodes links (d ∷ ns) e h body line =
    let (test, made) = when_some (nat_lt d (2 ^ 32)) (option_map (cut_with d) (set_of nodes ns)) e h in
    let (fs, found, is) = map-some (set_of nodes ns) (cut_with d) e made in
    let set = set_takes nodes ns fs found in
    subst (λ (x : Evidence). IsLeafLine nodes links x body) is (record {
      fits = set.0;
      fields = ltb-true d (2 ^ 32) test;
      line = line ∙ ap (λ xs. row (codes "CUT") (d ∷ xs)) set.1;
    })

-- a lone number stands in one text
lone-takes : (bytes : List ℕ) (n : ℕ) → lone_number bytes ≡ Some n → (n < 2 ^ 32) × (bytes ≡ numerals (n ∷ []))
unfolding lone_number
lone-takes bytes n h =
    let (ns, numbers, found) = then-some (numbers_of bytes) (one_in 0 (2 ^ 32 - 1)) n h in
    let one = one_takes 0 (2 ^ 32 - 1) ns n found in
    (omega (arith, one.1), (numbers_takes bytes ns numbers).1 ∙ ap numerals one.2)

overfull-line : (nodes links n : ℕ) → n < 2 ^ 32 → IsLeafLine nodes links (overfull_with n) (row (codes "OVERFULL") (n ∷ []))
unfolding leaf_line
overfull-line nodes links n small = record { fits = tt; fields = small; line = refl }

far-line : (nodes links n : ℕ) → n < 2 ^ 32 → IsLeafLine nodes links (far_with n) (row (codes "FAR") (n ∷ []))
unfolding leaf_line
far-line nodes links n small = record { fits = tt; fields = small; line = refl }

-- a leaf of a word and a lone number
lone-line : (nodes links : ℕ) (word : List ℕ) (make : ℕ → Evidence) (body rest : List ℕ) (e : Evidence) → ((n : ℕ) → n < 2 ^ 32 → IsLeafLine nodes links (make n) (row word (n ∷ []))) → behind word body ≡ Some rest
    → option_map make (lone_number rest) ≡ Some e → IsLeafLine nodes links e body
lone-line nodes links word make body rest e each first later =
    let (n, found, is) = map-some (lone_number rest) make e later in
    let one = lone-takes rest n found in
    let line : body ≡ row word (n ∷ []) = behind_takes word body rest first ∙ ap (λ bs. word ++ bs) one.1 in
    subst (λ (x : Evidence). IsLeafLine nodes links x body) is (subst (IsLeafLine nodes links (make n)) (sym line) (each n one.0))

record ArePrices (links : ℕ) (word ps body : List ℕ) : Type 0 where
  count : length ps ≡ links
  small : AreSmall ps
  line : body ≡ row word ps

priced-one : (links : ℕ) (word : List ℕ) (make : List ℕ → Evidence) (body : List ℕ) (e : Evidence) (other : Option Evidence)
    → choose (behind word body) (λ rest. option_map make (prices_of links rest)) other ≡ Some e → ((ps : List ℕ) × (make ps ≡ e) × ArePrices links word ps body) ⊎ (other ≡ Some e)
unfolding prices_of
priced-one links word make body e other h =
    elim (chosen (behind word body) (λ rest. option_map make (prices_of links rest)) other e h) [
      | inr more ↦ inr more
      | inl (rest, first, later) ↦
          (let (ps, found, is) = map-some (prices_of links rest) make e later in
          let (ns, numbers, test) = then-some (numbers_of rest) (λ ns. only_if (length ns == links) ns) ps found in
          let (count, same) = cond_some (length ns == links) ns ps test in
          let all = numbers_takes rest ns numbers in
          inl (
            ps,
            is,
            record {
              count = subst (λ xs. length xs ≡ links) same (eqb-true (length ns) links count);
              small = subst AreSmall same all.0;
              line = behind_takes word body rest first ∙ ap (λ bs. word ++ bs) (all.1 ∙ ap numerals same);
            },
          ))
    ]

priced-takes : (nodes links : ℕ) (body : List ℕ) (e : Evidence) → priced_of links body ≡ Some e → IsLeafLine nodes links e body
unfolding priced_of leaf_line
priced-takes nodes links body e h =
    elim (priced-one links (codes "PRICED") (λ prices. Bound prices) body e (choose (behind (codes "CROWD") body) (λ rest. option_map (λ prices. Crowd prices) (prices_of links rest)) (choose (behind (codes "OPEN") body) (λ rest. option_map (λ prices. Open prices) (prices_of links rest)) None)) h) [
      | inl (ps, is, p) ↦ subst (λ (x : Evidence). IsLeafLine nodes links x body) is (record { fits = p.count; fields = p.small; line = p.line })
      | inr more ↦ elim (priced-one links (codes "CROWD") (λ prices. Crowd prices) body e (choose (behind (codes "OPEN") body) (λ rest. option_map (λ prices. Open prices) (prices_of links rest)) None) more) [
        | inl (ps, is, p) ↦ subst (λ (x : Evidence). IsLeafLine nodes links x body) is (record { fits = p.count; fields = p.small; line = p.line })
        | inr last ↦ elim (priced-one links (codes "OPEN") (λ prices. Open prices) body e None last) [
          | inl (ps, is, p) ↦ subst (λ (x : Evidence). IsLeafLine nodes links x body) is (record { fits = p.count; fields = p.small; line = p.line })
          | inr none ↦ absurd cc
        ]
      ]
    ]

routed-takes : (nodes links : ℕ) (body : List ℕ) (e : Evidence) → body ≡ codes "ROUTED" → Some Routed ≡ Some e → IsLeafLine nodes links e body
unfolding leaf_line
routed-takes nodes links body e line same =
    let is : Routed ≡ e = cc in
    subst (λ (x : Evidence). IsLeafLine nodes links x body) is (record { fits = tt; fields = tt; line = line })

abbrev from_far : ℕ → List ℕ → Option Evidence
from_far links body = choose (behind (codes "FAR") body) (λ rest. option_map far_with (lone_number rest)) (priced_of links body)

abbrev from_cut : ℕ → ℕ → List ℕ → Option Evidence
from_cut nodes links body = choose (behind (codes "CUT") body) (λ rest. numbers_of rest >>= cut_in nodes) (from_far links body)

abbrev from_overfull : ℕ → ℕ → List ℕ → Option Evidence
from_overfull nodes links body = choose (behind (codes "OVERFULL") body) (λ rest. option_map overfull_with (lone_number rest)) (from_cut nodes links body)

-- a leaf that is read fits and its numbers fit their fields, and the line is its own
pub leaf_takes : (nodes links : ℕ) (body : List ℕ) (e : Evidence) → leaf_of nodes links body ≡ Some e → IsLeafLine nodes links e body
unfolding leaf_of
leaf_takes nodes links body e h =
    elim (chosen (fixed_of (codes "ROUTED") body) (λ _. Some Routed) (from_overfull nodes links body) e h) [
      | inl (x, first, later) ↦ routed-takes nodes links body e (fixed_takes (codes "ROUTED") body x first) later
      | inr more ↦ elim (chosen (behind (codes "OVERFULL") body) (λ rest. option_map overfull_with (lone_number rest)) (from_cut nodes links body) e more) [
        | inl (rest, first, later) ↦ lone-line nodes links (codes "OVERFULL") overfull_with body rest e (overfull-line nodes links) first later
        | inr other ↦ elim (chosen (behind (codes "CUT") body) (λ rest. numbers_of rest >>= cut_in nodes) (from_far links body) e other) [
          | inl (rest, first, later) ↦
              (let (ns, numbers, found) = then-some (numbers_of rest) (cut_in nodes) e later in
              cut-takes nodes links ns e found body (behind_takes (codes "CUT") body rest first ∙ ap (λ bs. codes "CUT" ++ bs) (numbers_takes rest ns numbers).1))
          | inr further ↦ elim (chosen (behind (codes "FAR") body) (λ rest. option_map far_with (lone_number rest)) (priced_of links body) e further) [
            | inl (rest, first, later) ↦ lone-line nodes links (codes "FAR") far_with body rest e (far-line nodes links) first later
            | inr last ↦ priced-takes nodes links body e last
          ]
        ]
      ]
    ]

-- the line of a leaf, or of a load split
abbrev from_leaf : ℕ → ℕ → List ℕ → Option TreeNode
from_leaf nodes links body = option_map (λ evidence. Leaf evidence) (leaf_of nodes links body)

abbrev from_loads : ℕ → ℕ → List ℕ → Option TreeNode
from_loads nodes links body = choose (behind (codes "LOADS") body) (λ rest. numbers_of rest >>= loads_in) (from_leaf nodes links body)

-- a record that is read fits and its numbers fit their fields, and the line is its own
pub record_takes : (nodes links : ℕ) (body : List ℕ) (node : TreeNode) → record_of nodes links body ≡ Some node → IsRecordLine nodes links node body
unfolding record_of record_line
record_takes nodes links body node h =
    elim (chosen (behind (codes "SPLIT") body) (λ rest. numbers_of rest >>= split_in) (from_loads nodes links body) node h) [
      | inl (rest, first, later) ↦
          (let (ns, numbers, found) = then-some (numbers_of rest) split_in node later in
          split-takes nodes links ns node found body (behind_takes (codes "SPLIT") body rest first ∙ ap (λ bs. codes "SPLIT" ++ bs) (numbers_takes rest ns numbers).1))
      | inr more ↦ elim (chosen (behind (codes "LOADS") body) (λ rest. numbers_of rest >>= loads_in) (from_leaf nodes links body) node more) [
        | inl (rest, first, later) ↦
            (let (ns, numbers, found) = then-some (numbers_of rest) loads_in node later in
            loads-takes nodes links ns node found body (behind_takes (codes "LOADS") body rest first ∙ ap (λ bs. codes "LOADS" ++ bs) (numbers_takes rest ns numbers).1))
        | inr last ↦
            (let (e, found, is) = map-some (leaf_of nodes links body) (λ (evidence : Evidence). Leaf evidence) node last in
            let l = leaf_takes nodes links body e found in
            subst (λ (n : TreeNode). IsRecordLine nodes links n body) is (record { fits = l.fits; fields = l.fields; line = l.line }))
      ]
    ]

-- ---- written records are read again

prices-again : (links : ℕ) (ps : List ℕ) → length ps ≡ links → AreSmall ps → prices_of links (numerals ps) ≡ Some ps
unfolding prices_of
prices-again links ps count small = ap (λ o. o >>= λ ns. only_if (length ns == links) ns) (numbers_found ps small) ∙ only_true (length ps == links) ps (eq-eqb (length ps) links count)

lone-again : (n : ℕ) → n < 2 ^ 32 → lone_number (numerals (n ∷ [])) ≡ Some n
unfolding lone_number
lone-again n small = ap (λ o. o >>= one_in 0 (2 ^ 32 - 1)) (numbers_found (n ∷ []) (omega arith, tt)) ∙ one_again 0 (2 ^ 32 - 1) n (omega arith) (omega arith)

-- the numbers of a leaf that is closed by a cut are below 2^128
pub cut_small : (nodes d : ℕ) (fs : List Bool) → nodes ≤ MAX_NODES → d < 2 ^ 32 → length fs ≡ nodes → AreSmall (d ∷ counted (members 0 fs))
cut_small nodes d fs small fits long = (omega (arith, fits), set_small nodes fs small long)

cut-again : (nodes d : ℕ) (fs : List Bool) → nodes ≤ MAX_NODES → d < 2 ^ 32 → length fs ≡ nodes → (numbers_of (numerals (d ∷ counted (members 0 fs))) >>= cut_in nodes) ≡ Some (cut_with d fs)
unfolding cut_in
cut-again nodes d fs small fits long =
    let below : AreSmall (d ∷ counted (members 0 fs)) = cut_small nodes d fs small fits long in
    ap (λ o. o >>= cut_in nodes) (numbers_found (d ∷ counted (members 0 fs)) below)
    ∙ ap (λ t. cond t (option_map (cut_with d) (set_of nodes (counted (members 0 fs)))) None) (lt-ltb d (2 ^ 32) fits)
    ∙ ap (option_map (cut_with d)) (set_again nodes fs long)

-- the line of a leaf that fits, with numbers that fit their fields, is read as this leaf
pub leaf_again : (nodes links : ℕ) (e : Evidence) → nodes ≤ MAX_NODES → FitsEvidence nodes links e → HasLeafFields e → leaf_of nodes links (leaf_line e) ≡ Some e
unfolding leaf_of priced_of fixed_of behind leaf_line
leaf_again nodes links (Bound ps) small fits fields = ap (option_map (λ prices. Bound prices)) (prices-again links ps fits fields)
leaf_again nodes links Routed small fits fields = refl
leaf_again nodes links (Overfull link) small fits fields = ap (option_map overfull_with) (lone-again link.0 fields)
leaf_again nodes links (Cut demand reached) small fits fields = cut-again nodes demand.0 reached small fields fits
leaf_again nodes links (Far demand) small fits fields = ap (option_map far_with) (lone-again demand.0 fields)
leaf_again nodes links (Crowd ps) small fits fields = ap (option_map (λ prices. Crowd prices)) (prices-again links ps fits fields)
leaf_again nodes links (Open ps) small fits fields = ap (option_map (λ prices. Open prices)) (prices-again links ps fits fields)

-- a leaf's line is no split's, and no load split's
no-split : (e : Evidence) → (behind (codes "SPLIT") (leaf_line e) ≡ None) × (behind (codes "LOADS") (leaf_line e) ≡ None)
unfolding behind leaf_line
no-split (Bound ps) = (refl, refl)
no-split Routed = (refl, refl)
no-split (Overfull link) = (refl, refl)
no-split (Cut demand reached) = (refl, refl)
no-split (Far demand) = (refl, refl)
no-split (Crowd ps) = (refl, refl)
no-split (Open ps) = (refl, refl)

-- numbers below 2^128 followed by such numbers are all below 2^128
pub small_append : (xs ys : List ℕ) → AreSmall xs → AreSmall ys → AreSmall (xs ++ ys)
small_append [] ys h k = k
small_append (x ∷ xs) ys h k = (h.0, small_append xs ys h.1 k)

-- the count and the arc numbers of one side of a split are below 2^128
pub side_small : (arcs : List ArcId) → IsWrittenSide arcs → AreArcs arcs → AreSmall (counted (arc_numbers arcs))
side_small arcs s h = (omega (arith, s.few, length-map arcs (λ (a : ArcId). a.0)), arcs_small arcs h)

no-split-loads : (ns : List ℕ) → behind (codes "SPLIT") (row (codes "LOADS") ns) ≡ None
unfolding behind
no-split-loads ns = refl

loads-again : (q c : ℕ) → q < 2 ^ 32 → c < 2 ^ 64 → (numbers_of (numerals (q ∷ c ∷ [])) >>= loads_in) ≡ Some (Loads q c)
unfolding loads_in
loads-again q c small low =
    ap (λ o. o >>= loads_in) (numbers_found (q ∷ c ∷ []) (omega (arith, small), (omega (arith, low), tt)))
    ∙ only_true (nat_lt q (2 ^ 32) && nat_lt c (2 ^ 64)) (Loads q c) (and_from (nat_lt q (2 ^ 32)) (nat_lt c (2 ^ 64)) (lt-ltb q (2 ^ 32) small) (lt-ltb c (2 ^ 64) low))

-- the line of a record that fits, with numbers that fit their fields, is read as this record
pub record_again : (nodes links : ℕ) (node : TreeNode) → nodes ≤ MAX_NODES → FitsRecord nodes links node → HasRecordFields node → record_of nodes links (record_line node) ≡ Some node
unfolding record_of record_line split_in
record_again nodes links (Split demand at left right) small fits fields =
    let ns : List ℕ = demand.0 ∷ at.0 ∷ (counted (arc_numbers left) ++ counted (arc_numbers right)) in
    let below : AreSmall ns = (omega (arith, fields.0), (omega (arith, fields.1), small_append (counted (arc_numbers left)) (counted (arc_numbers right)) (side_small left fits.0 fields.2) (side_small right fits.1 fields.3))) in
    ap (λ o. choose o (λ rest. numbers_of rest >>= split_in) (from_loads nodes links (row (codes "SPLIT") ns))) (behind_found (codes "SPLIT") (numerals ns))
    ∙ ap (λ o. o >>= split_in) (numbers_found ns below)
    ∙ ap (λ t. cond t (option_map (split_with demand.0 at.0) (sides_of (counted (arc_numbers left) ++ counted (arc_numbers right)))) None) (and_from (nat_lt demand.0 (2 ^ 32)) (nat_lt at.0 (2 ^ 32)) (lt-ltb demand.0 (2 ^ 32) fields.0) (lt-ltb at.0 (2 ^ 32) fields.1))
    ∙ ap (option_map (split_with demand.0 at.0)) (sides-again left right fits.0 fits.1 fields.2 fields.3)
record_again nodes links (Loads place load) small fits fields =
    let ns : List ℕ = place ∷ load ∷ [] in
    ap (λ o. choose o (λ rest. numbers_of rest >>= split_in) (from_loads nodes links (row (codes "LOADS") ns))) (no-split-loads ns)
    ∙ ap (λ o. choose o (λ rest. numbers_of rest >>= loads_in) (from_leaf nodes links (row (codes "LOADS") ns))) (behind_found (codes "LOADS") (numerals ns))
    ∙ loads-again place load fields.0 fields.1
record_again nodes links (Leaf e) small fits fields =
    ap (λ o. choose o (λ rest. numbers_of rest >>= split_in) (from_loads nodes links (leaf_line e))) (no-split e).0
    ∙ ap (λ o. choose o (λ rest. numbers_of rest >>= loads_in) (from_leaf nodes links (leaf_line e))) (no-split e).1
    ∙ ap (option_map (λ (evidence : Evidence). Leaf evidence)) (leaf_again nodes links e small fits fields)
