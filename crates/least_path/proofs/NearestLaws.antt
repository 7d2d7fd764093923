-- What the nearer of two says of the nodes so far.
use Rattle.std.proofs.Common.{◌≡◌, ℕ, suc, ◌+◌, ◌<◌, ◌≤◌, ◌⊎◌, inl, inr, true, false, Bool, not, ◌&&◌, nat_lt, length, Option, Some, None, MatchOption, arith, refl, sym, ◌∙◌, subst, ◌≢◌}
use Rattle.std.proofs.lemmas.Bool.{ltb-true, ltb-false}
use Rattle.std.proofs.lemmas.List.{get_or_past}
use Rattle.plan_base.specs.declared.ids.NodeId.{NodeId}
use Rattle.least_path.specs.declared.label.Label.{Label}
use Rattle.least_path.specs.declared.label.Stop.{Stop}
use Rattle.least_path.specs.Labels.{Labels, label_at, is_nearer_than, nearer_with, nearer_of, HasNoOpenBelow, HasNoOpen, IsNearestBelow, IsNearest}

-- a test holds or fails
pub decide : (b : Bool) → (b ≡ true) ⊎ (b ≡ false)
decide true = inl refl
decide false = inr refl

-- two numbers are equal or differ
pub same_or_not : (v w : ℕ) → (v ≡ w) ⊎ (v ≢ w)
same_or_not v w = grind arith

-- a number below the next one is below this one or equal to it
pub below_cases : (i l : ℕ) → i < suc l → (i < l) ⊎ (i ≡ l)
below_cases i l h = grind arith

-- a number is below another or reaches it
pub lt_or_le : (v n : ℕ) → (v < n) ⊎ (n ≤ v)
lt_or_le v n = grind arith

-- a node with a label is one of the nodes
pub label_within : (ls : Labels) (v : ℕ) (l : Label) → label_at ls v ≡ Some l → v < length ls
label_within ls v l is = elim (lt_or_le v (length ls)) [
  | inl below ↦ below
  | inr past ↦ absurd (let bad : None ≡ Some l = sym (get_or_past ls v None past) ∙ is in cc)
]

-- a node has one label
pub some_same : (x : Option Label) (l m : Label) → x ≡ Some l → x ≡ Some m → l ≡ m
some_same x l m a b = cc

-- the nearest of the nodes below n, if one of them is not settled
abbrev pub IsFoundBelow : Labels → ℕ → Option Stop → Type 0
IsFoundBelow ls n found = MatchOption found (HasNoOpenBelow ls n) (λ stop. IsNearestBelow ls n stop)

-- a settled node changes nothing
found-kept : (ls : Labels) (n : ℕ) (found : Option Stop) → ((l : Label) → label_at ls n ≡ Some l → l.settled ≡ true) → IsFoundBelow ls n found → IsFoundBelow ls (suc n) found
found-kept ls n None settled h = λ v l below is. elim (below_cases v n below) [
  | inl before ↦ h v l before is
  | inr here ↦ settled l (subst (λ (k : ℕ). label_at ls k ≡ Some l) here is)
]
found-kept ls n (Some stop) settled h = record {
  is = h.is;
  unsettled = h.unsettled;
  least = λ v l below is open_. elim (below_cases v n below) [
    | inl before ↦ h.least v l before is open_
    | inr here ↦ absurd (let bad : true ≡ false = sym (settled l (subst (λ (k : ℕ). label_at ls k ≡ Some l) here is)) ∙ open_ in cc)
  ];
}

-- a node that is no nearer than what was found
found-farther : (ls : Labels) (n : ℕ) (stop : Stop) (l : Label) → label_at ls n ≡ Some l → stop.label.length ≤ l.length → IsNearestBelow ls n stop → IsNearestBelow ls (suc n) stop
found-farther ls n stop l is farther h = record {
  is = h.is;
  unsettled = h.unsettled;
  least = λ v m below at open_. elim (below_cases v n below) [
    | inl before ↦ h.least v m before at open_
    | inr here ↦
        let same : l ≡ m = some_same (label_at ls n) l m is (subst (λ (k : ℕ). label_at ls k ≡ Some m) here at) in
        subst (λ (x : Label). stop.label.length ≤ x.length) same farther
  ];
}

-- a node that is nearer than each before it
found-nearer : (ls : Labels) (n : ℕ) (node : NodeId) (l : Label) → node.0 ≡ n → label_at ls n ≡ Some l → l.settled ≡ false → ((v : ℕ) (m : Label) → v < n → label_at ls v ≡ Some m → m.settled ≡ false → l.length ≤ m.length) → IsNearestBelow ls (suc n) (record { node = node; label = l })
found-nearer ls n node l number is open_ least = record {
  is = rw number is;
  unsettled = open_;
  least = λ v m below at open_m. elim (below_cases v n below) [
    | inl before ↦ least v m before at open_m
    | inr here ↦
        let same : l ≡ m = some_same (label_at ls n) l m is (subst (λ (k : ℕ). label_at ls k ≡ Some m) here at) in
        subst (λ (x : Label). l.length ≤ x.length) same (omega arith)
  ];
}

nearer-taken : (found : Option Stop) (node : NodeId) (l : Label) → is_nearer_than l found ≡ true → nearer_with found node l ≡ Some (record { node = node; label = l })
unfolding nearer_with
nearer-taken found node l h = rw h refl

nearer-left : (found : Option Stop) (node : NodeId) (l : Label) → is_nearer_than l found ≡ false → nearer_with found node l ≡ found
unfolding nearer_with
nearer-left found node l h = rw h refl

unsettled-nearer : (found : Option Stop) (l : Label) → is_nearer_than l found ≡ true → l.settled ≡ false
unsettled-nearer None l h = not_true-false l.settled h
  where
    not_true-false : (b : Bool) → not b ≡ true → b ≡ false
    not_true-false false h = refl
    not_true-false true h = absurd (let bad : false ≡ true = h in cc)
unsettled-nearer (Some stop) l h = first l.settled (nat_lt l.length stop.label.length) h
  where
    first : (a b : Bool) → (not a && b) ≡ true → a ≡ false
    first false b h = refl
    first true b h = absurd (let bad : false ≡ true = h in cc)

shorter-nearer : (l : Label) (stop : Stop) → is_nearer_than l (Some stop) ≡ true → l.length < stop.label.length
shorter-nearer l stop h = ltb-true l.length stop.label.length (second l.settled (nat_lt l.length stop.label.length) h)
  where
    second : (a b : Bool) → (not a && b) ≡ true → b ≡ true
    second false b h = h
    second true b h = absurd (let bad : false ≡ true = h in cc)

farther : (l : Label) (stop : Stop) → is_nearer_than l (Some stop) ≡ false → l.settled ≡ false → stop.label.length ≤ l.length
farther l stop h open_ = ltb-false l.length stop.label.length (second l.settled (nat_lt l.length stop.label.length) open_ h)
  where
    second : (a b : Bool) → a ≡ false → (not a && b) ≡ false → b ≡ false
    second false b is h = h
    second true b is h = absurd (let bad : true ≡ false = is in cc)

settled-not_nearer : (l : Label) → is_nearer_than l None ≡ false → l.settled ≡ true
settled-not_nearer l h = not_false-true l.settled h
  where
    not_false-true : (b : Bool) → not b ≡ false → b ≡ true
    not_false-true true h = refl
    not_false-true false h = absurd (let bad : true ≡ false = h in cc)

found-taken : (ls : Labels) (n : ℕ) (found : Option Stop) (node : NodeId) (l : Label) → node.0 ≡ n → label_at ls n ≡ Some l → is_nearer_than l found ≡ true → IsFoundBelow ls n found → IsNearestBelow ls (suc n) (record { node = node; label = l })
found-taken ls n None node l number is near h = found-nearer ls n node l number is (unsettled-nearer None l near) (λ v m below at open_m. absurd (let bad : true ≡ false = sym (h v m below at) ∙ open_m in cc))
found-taken ls n (Some stop) node l number is near h = found-nearer ls n node l number is (unsettled-nearer (Some stop) l near) (λ v m below at open_m. omega (arith, shorter-nearer l stop near, h.least v m below at open_m))

found-left : (ls : Labels) (n : ℕ) (found : Option Stop) (l : Label) → label_at ls n ≡ Some l → is_nearer_than l found ≡ false → IsFoundBelow ls n found → IsFoundBelow ls (suc n) found
found-left ls n None l is far h = found-kept ls n None (λ m at. subst (λ (x : Label). x.settled ≡ true) (some_same (label_at ls n) l m is at) (settled-not_nearer l far)) h
found-left ls n (Some stop) l is far h = elim (decide l.settled) [
  | inl settled ↦ found-kept ls n (Some stop) (λ m at. subst (λ (x : Label). x.settled ≡ true) (some_same (label_at ls n) l m is at) settled) h
  | inr open_ ↦ found-farther ls n stop l is (farther l stop far open_) h
]

found-with : (ls : Labels) (n : ℕ) (found : Option Stop) (node : NodeId) (l : Label) → node.0 ≡ n → label_at ls n ≡ Some l → IsFoundBelow ls n found → IsFoundBelow ls (suc n) (nearer_with found node l)
found-with ls n found node l number is h = elim (decide (is_nearer_than l found)) [
  | inl near ↦ subst (IsFoundBelow ls (suc n)) (sym (nearer-taken found node l near)) (found-taken ls n found node l number is near h)
  | inr far ↦ subst (IsFoundBelow ls (suc n)) (sym (nearer-left found node l far)) (found-left ls n found l is far h)
]

found-suc : (ls : Labels) (n : ℕ) (found : Option Stop) (node : NodeId) (known : Option Label) → node.0 ≡ n → label_at ls n ≡ known → IsFoundBelow ls n found → IsFoundBelow ls (suc n) (nearer_of found node known)
found-suc ls n found node None number is h = found-kept ls n found (λ l at. absurd (let bad : None ≡ Some l = sym is ∙ at in cc)) h
found-suc ls n found node (Some l) number is h = found-with ls n found node l number is h

-- the nearer of what was found and the next node is the nearest up to there
pub found-more : (ls : Labels) (n : ℕ) (found : Option Stop) (node : NodeId) (known : Option Label) → node.0 ≡ n → label_at ls n ≡ known → IsFoundBelow ls n found → IsFoundBelow ls (n + 1) (nearer_of found node known)
found-more ls n found node known number is h =
    let e : suc n ≡ n + 1 = omega arith in
    subst (λ (k : ℕ). IsFoundBelow ls k (nearer_of found node known)) e (found-suc ls n found node known number is h)

-- after the last node, what was found is the nearest open node, and nothing where none is open
pub found-all : (ls : Labels) (found : Option Stop) → IsFoundBelow ls (length ls) found → MatchOption found (HasNoOpen ls) (λ stop. IsNearest ls stop)
found-all ls None h = λ v l is. h v l (label_within ls v l is) is
found-all ls (Some stop) h = record {
  is = h.is;
  unsettled = h.unsettled;
  least = λ v l is open_. h.least v l (label_within ls v l is) is open_;
}
