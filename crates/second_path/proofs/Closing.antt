-- Where no search from a node of the path comes to the target, the path is the only one.
use Rattle.std.proofs.Common.{◌≡◌, ◌≢◌, ℕ, zero, suc, ◌<◌, ◌≤◌, ◌+◌, ◌-◌, ◌⊎◌, inl, inr, Bool, true, false, not, nat_lt, ◌&&◌, ◌==◌, List, [], ◌∷◌, ◌++◌, length, take, get_or, Option, Some, None, refl, sym, ap, subst, ◌∙◌, arith, IsTrue}
use Rattle.std.proofs.lemmas.Bool.{eqb-true, eqb-false, ne_eqb, ltb-true, ltb-false}
use Rattle.std.proofs.lemmas.List.{get_or-take, take_all, take_more, length-take-le}
use Rattle.plan_base.specs.declared.ids.NodeId.{NodeId}
use Rattle.plan_base.specs.declared.ids.ArcId.{ArcId}
use Rattle.plan_base.specs.declared.parts.Demand.{Demand}
use Rattle.plan_base.specs.declared.parts.Parts.{Parts}
use Rattle.plan_base.specs.Arcs.{is_arc, tail_of, head_of, demand_at, no_arc}
use Rattle.plan_base.specs.Paths.{arc_at, node_at}
use Rattle.arc_restrict.specs.Restrictions.{Forbidden, IsPermittedPath, IsOnlyPath}
use Rattle.arc_restrict.specs.Partings.{AreOfOneDemand}
use Rattle.arc_restrict.proofs.PartingLaws.{same_from_fronts}
use Rattle.second_path.specs.Ways.{is_left_out, may_take}
use Rattle.second_path.specs.Others.{holds, IsReached, IsCutOff}
use Rattle.second_path.specs.Searching.{IsBefore, IsTree, IsWhole, IsInVain, IsBlockedTo, HasNoOtherAt}
use Rattle.second_path.proofs.Trees.{more-before, more-last, length-more, old_or_last, at_each, false_true}
use Rattle.second_path.proofs.Visits.{takes_arcs}
use Rattle.second_path.proofs.Joins.{taken_permitted}

same_arc : (first second : List ArcId) (n i : ℕ) → take n first ≡ take n second → i < n → arc_at first i ≡ arc_at second i
same_arc first second n i same below = sym (get_or-take n first i no_arc below) ∙ ap (λ (arcs : List ArcId). get_or arcs i no_arc) same ∙ get_or-take n second i no_arc below

same_node : (p : Parts) (s : NodeId) (first second : List ArcId) (n i : ℕ) → take n first ≡ take n second → i ≤ n → node_at p s first i ≡ node_at p s second i
same_node p s first second n zero same upto = refl
same_node p s first second n (suc i) same upto = ap (λ (a : ArcId). (head_of p a).0) (same_arc first second n i same (omega (arith, upto)))

abbrev arc_of : ℕ → ArcId
arc_of n = record { 0 = n }

three : (a b c : Bool) → a ≡ true → b ≡ false → c ≡ false → (a && (not b && not c)) ≡ true
three a b c is_a not_b not_c = rw (is_a, not_b, not_c) refl

takes_of : (p : Parts) (r : Forbidden) (k : ℕ) (out : Option ArcId) (a : ArcId) → is_arc p a ≡ true → r k a ≡ false → is_left_out out a ≡ false → may_take p r k out a ≡ true
unfolding may_take
takes_of p r k out a is_an_arc permitted kept = three (is_arc p a) (r k a) (is_left_out out a) is_an_arc permitted kept

before_or_at : (i m : ℕ) → i ≤ m → (i < m) ⊎ (i ≡ m)
before_or_at i m h = grind arith

-- where a search in vain begins at a node of the path, no other path turns off there
pub no_other_at : (p : Parts) (r : Forbidden) (k : ℕ) (path : List ArcId) (i : ℕ) (first met : List Bool) (start : NodeId) (xs : List ArcId)
    → IsPermittedPath p r k path → i < length path → start.0 ≡ node_at p (demand_at p k).source path i
    → IsBlockedTo p (demand_at p k).source path (i + 1) first → (target : NodeId) → target ≡ (demand_at p k).target
    → IsInVain p (may_take p r k (Some (arc_at path i))) first start target met xs → HasNoOtherAt p r k path i
no_other_at p r k path i first met start xs path_is within is_start blocked target is_target vain others others_is same in_others =
    by_arc ((arc_at path i).0 == (arc_at others i).0) refl
  where
    s : NodeId
    s = (demand_at p k).source

    takes : ArcId → Bool
    takes = may_take p r k (Some (arc_at path i))

    whole : IsWhole p takes first start met xs
    whole = vain.whole

    unmet : holds met (demand_at p k).target.0 ≡ false
    unmet = subst (λ (v : NodeId). holds met v.0 ≡ false) is_target vain.unmet

    start_other : start.0 ≡ node_at p s others i
    start_other = is_start ∙ sym (same_node p s others path i i same (omega arith))

    -- the path's own arc is not taken from a later node
    kept : (arc_at path i).0 ≢ (arc_at others i).0 → (m : ℕ) → i ≤ m → m < length others → (arc_at path i).0 ≢ (arc_at others m).0
    kept differ m upto inside equal = elim (before_or_at i m upto) [
      | inr is ↦ differ (equal ∙ ap (λ n. (arc_at others n).0) (sym is))
      | inl before ↦ others_is.simple.no_node_twice i m before (omega (arith, inside))
          (sym start_other ∙ is_start ∙ sym (path_is.simple.goes_on i within)
          ∙ ap (λ n. (tail_of p (arc_of n)).0) equal ∙ others_is.simple.goes_on m inside)
    ]

    new_node : (m : ℕ) → i ≤ m → m < length others → holds first (node_at p s others (suc m)) ≢ true
    new_node m upto inside was =
        let old = blocked.only _ was in
        others_is.simple.no_node_twice old.place (suc m) (omega (arith, old.within, upto)) (omega (arith, inside))
        (same_node p s others path i old.place same (omega (arith, old.within)) ∙ old.is)

    inside : (arc_at path i).0 ≢ (arc_at others i).0 → (j m : ℕ) → m ≡ i + j → m ≤ length others → IsBefore p start xs (length xs) (node_at p s others m)
    inside differ zero m is upto = (let at_i : m ≡ i = omega (arith, is) in inl (ap (node_at p s others) at_i ∙ sym start_other))
    inside differ (suc j) zero is upto = absurd (omega (arith, is))
    inside differ (suc j) (suc m) is upto =
        let prev = inside differ j m (omega (arith, is)) (omega (arith, upto)) in
        let a = arc_at others m in
        let out : ((arc_at path i).0 == a.0) ≡ false = ne_eqb _ _ (kept differ m (omega (arith, is)) (omega (arith, upto))) in
        let taken : takes a ≡ true = takes_of p r k (Some (arc_at path i)) a (others_is.simple.are_arcs m (omega (arith, upto))) (others_is.permitted m no_arc (omega (arith, upto))) out in
        let now_met = whole.spent _ prev a taken (others_is.simple.goes_on m (omega (arith, upto))) in
        elim (whole.search.met_only _ now_met) [
          | inl was ↦ absurd (new_node m (omega (arith, is)) (omega (arith, upto)) was)
          | inr led ↦ inr led
        ]

    target_met : IsBefore p start xs (length xs) (demand_at p k).target.0 → holds met (demand_at p k).target.0 ≡ true
    target_met h = elim h [
      | inl is ↦ subst (λ v. holds met v ≡ true) (sym is) (whole.search.met_first start.0 whole.search.start_met)
      | inr led ↦ subst (λ v. holds met v ≡ true) led.leads (whole.search.met_led led.place led.within)
    ]

    by_arc : (b : Bool) → ((arc_at path i).0 == (arc_at others i).0) ≡ b → arc_at others i ≡ arc_at path i
    by_arc true e = sym (ap arc_of (eqb-true _ _ e))
    by_arc false e =
        let differ = eqb-false _ _ e in
        let at_end = inside differ (length others - i) (length others) (omega (arith, in_others)) (omega arith) in
        absurd (false_true _ unmet (target_met (subst (IsBefore p start xs (length xs)) others_is.simple.ends_at_target at_end)))

-- ---- the only path

agree : (p : Parts) (r : Forbidden) (k : ℕ) (path others : List ArcId) → IsPermittedPath p r k path → IsPermittedPath p r k others
    → ((i : ℕ) → i < length path → HasNoOtherAt p r k path i) → (n : ℕ) → n ≤ length path → (take n others ≡ take n path) ⊎ (others ≡ path)
agree p r k path others path_is others_is none zero upto = inl refl
agree p r k path others path_is others_is none (suc n) upto = elim (agree p r k path others path_is others_is none n (omega (arith, upto))) [
  | inr is ↦ inr is
  | inl same ↦ by_length same (nat_lt n (length others)) refl
]
  where
    one : AreOfOneDemand p others path
    one = record { demand = k; first_is = others_is.simple; second_is = path_is.simple }

    longer : take n others ≡ take n path → n < length others → take (n + 1) others ≡ take (n + 1) path
    longer same in_others =
        take_more others n no_arc in_others
        ∙ ap (λ xs. xs ++ arc_at others n ∷ []) same
        ∙ ap (λ a. take n path ++ a ∷ []) (none n (omega (arith, upto)) others others_is same in_others)
        ∙ sym (take_more path n no_arc (omega (arith, upto)))

    ended : take n others ≡ take n path → length others ≤ n → others ≡ path
    ended same done =
        let whole : others ≡ take n path = sym (take_all n others done) ∙ same in
        let is_n : length others ≡ n = ap length whole ∙ length-take-le n path (omega (arith, upto)) in
        same_from_fronts p others path n one (omega (arith, is_n, upto)) same

    by_length : take n others ≡ take n path → (b : Bool) → nat_lt n (length others) ≡ b → (take (suc n) others ≡ take (suc n) path) ⊎ (others ≡ path)
    by_length same true e = inl (let next : n + 1 ≡ suc n = omega arith in subst (λ m. take m others ≡ take m path) next (longer same (ltb-true _ _ e)))
    by_length same false e = inr (ended same (ltb-false _ _ e))

-- a path off which no other turns at any of its nodes is the only one
pub only_path : (p : Parts) (r : Forbidden) (k : ℕ) (path : List ArcId) → IsPermittedPath p r k path → ((i : ℕ) → i < length path → HasNoOtherAt p r k path i) → IsOnlyPath p r k path
only_path p r k path path_is none = record {
  permitted = path_is;
  only = λ others others_is. elim (agree p r k path others path_is others_is none (length path) (omega arith)) [
    | inr is ↦ is
    | inl same ↦ same_whole others others_is same (nat_lt (length path) (length others)) refl
  ];
}
  where
    same_whole : (others : List ArcId) → IsPermittedPath p r k others → take (length path) others ≡ take (length path) path → (b : Bool) → nat_lt (length path) (length others) ≡ b → others ≡ path
    same_whole others others_is same true e =
        let less : length path < length others = ltb-true _ _ e in
        same_from_fronts p others path (length path) (record { demand = k; first_is = others_is.simple; second_is = path_is.simple }) (omega (arith, less)) same
    same_whole others others_is same false e =
        let less : length others ≤ length path = ltb-false _ _ e in
        sym (take_all (length path) others less) ∙ same ∙ take_all (length path) path (omega arith)

-- ---- no path

reached_start : (p : Parts) (r : Forbidden) (k v : ℕ) → v ≡ (demand_at p k).source.0 → IsReached p r k v
reached_start p r k v is = record {
  walk = [];
  are_arcs = λ i within. absurd (omega (arith, within));
  goes_on = λ i within. absurd (omega (arith, within));
  permitted = λ i within. absurd (omega (arith, within));
  ends = sym is;
}

node_kept : (p : Parts) (s : NodeId) (xs : List ArcId) (x : ArcId) (i : ℕ) → i ≤ length xs → node_at p s (xs ++ x ∷ []) i ≡ node_at p s xs i
node_kept p s xs x zero upto = refl
node_kept p s xs x (suc i) upto = ap (λ (a : ArcId). (head_of p a).0) (more-before xs x i (omega (arith, upto)))

reached_more : (p : Parts) (r : Forbidden) (k v : ℕ) (a : ArcId) → IsTrue (is_arc p a) → r k a ≡ false → (tail_of p a).0 ≡ v → IsReached p r k v → IsReached p r k (head_of p a).0
reached_more p r k v a is_an_arc permitted leaves h = record {
  walk = h.walk ++ a ∷ [];
  are_arcs = at_each (λ i b. IsTrue (is_arc p b)) h.walk a h.are_arcs is_an_arc;
  goes_on = at_each (λ i b. (tail_of p b).0 ≡ node_at p s (h.walk ++ a ∷ []) i) h.walk a
      (λ i within. h.goes_on i within ∙ sym (node_kept p s h.walk a i (omega (arith, within))))
      (leaves ∙ sym h.ends ∙ sym (node_kept p s h.walk a (length h.walk) (omega arith)));
  permitted = at_each (λ i b. r k b ≡ false) h.walk a h.permitted permitted;
  ends = subst (λ n. node_at p s (h.walk ++ a ∷ []) n ≡ (head_of p a).0) (sym (length-more h.walk a)) (ap (λ (b : ArcId). (head_of p b).0) (more-last h.walk a));
}
  where
    s : NodeId
    s = (demand_at p k).source

-- permitted arcs lead to each node of a search
reached_before : (p : Parts) (r : Forbidden) (k : ℕ) (first : List Bool) (xs : List ArcId) → IsTree p (may_take p r k None) first (demand_at p k).source xs
    → (n v : ℕ) → n ≤ length xs → IsBefore p (demand_at p k).source xs n v → IsReached p r k v
reached_before p r k first xs tree zero v upto h = elim h [ inl is ↦ reached_start p r k v is | inr led ↦ absurd (omega (arith, led.within)) ]
reached_before p r k first xs tree (suc n) v upto h = elim h [
  | inl is ↦ reached_start p r k v is
  | inr led ↦ elim (old_or_last n led.place led.within) [
    | inl earlier ↦ reached_before p r k first xs tree n v (omega (arith, upto)) (inr (record { place = led.place; within = earlier; leads = led.leads }))
    | inr is ↦ (
        let a = arc_at xs n in
        let within : n < length xs = omega (arith, upto) in
        let taken = tree.taken n within in
        subst (IsReached p r k) (ap (λ i. (head_of p (arc_at xs i)).0) (sym is) ∙ led.leads)
        (reached_more p r k (tail_of p a).0 a (takes_arcs p r k None a taken) (taken_permitted p r k None a taken) refl
        (reached_before p r k first xs tree n (tail_of p a).0 (omega (arith, upto)) (tree.rooted n within))))
  ]
]

-- the nodes that a search in vain from the source has met, where it alone is blocked
pub cut_off : (p : Parts) (r : Forbidden) (k : ℕ) (d : Demand) (first met : List Bool) (xs : List ArcId) → d ≡ demand_at p k → length met ≡ p.nodes
    → ((v : ℕ) → holds first v ≡ true → v ≡ d.source.0)
    → IsInVain p (may_take p r k None) first d.source d.target met xs → IsCutOff p r k met
cut_off p r k d first met xs is_demand count only vain = from_source
    (subst (λ (e : Demand). (v : ℕ) → holds first v ≡ true → v ≡ e.source.0) is_demand only)
    (subst (λ (e : Demand). IsInVain p (may_take p r k None) first e.source e.target met xs) is_demand vain)
  where
    from_source : ((v : ℕ) → holds first v ≡ true → v ≡ (demand_at p k).source.0)
        → IsInVain p (may_take p r k None) first (demand_at p k).source (demand_at p k).target met xs → IsCutOff p r k met
    from_source only vain =
        let before : (v : ℕ) → holds met v ≡ true → IsBefore p (demand_at p k).source xs (length xs) v =
        λ v is. elim (vain.whole.search.met_only v is) [ inl was ↦ inl (only v was) | inr led ↦ inr led ] in
        record {
          nodes = count;
          source = vain.whole.search.met_first _ vain.whole.search.start_met;
          target = vain.unmet;
          reached = λ v is. reached_before p r k first xs vain.whole.search.tree (length xs) v (omega arith) (before v is);
          closed = λ a is_an_arc permitted tail_met. vain.whole.spent _ (before _ tail_met) a (takes_of p r k None a is_an_arc permitted refl) refl;
        }
