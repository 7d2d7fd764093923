-- A gathered round: its paths are columns, so the node permits each demand one; and a gathering makes a round gathered.
use Rattle.std.proofs.Common.{◌≡◌, ◌≢◌, ℕ, zero, suc, ◌<◌, ◌≤◌, inl, inr, Bool, true, false, ◌&&◌, ◌||◌, ◌==◌, List, [], ◌∷◌, length, Option, Some, None, slice_get, refl, sym, ap, subst, ◌∙◌, arith}
use Rattle.std.specs.Prelude.{slice_index_or, filter, if◌then◌else◌}
use Rattle.std.proofs.lemmas.Bool.{eqb-true}
use Rattle.std.proofs.lemmas.Option.{slice_get_within, get_or_from_slice_get}
use Rattle.std.proofs.lemmas.List.{get_or-set_same, get_or-set_other}
use Rattle.plan_base.specs.declared.ids.ArcId.{ArcId}
use Rattle.plan_base.specs.declared.ids.BranchId.{BranchId}
use Rattle.plan_base.specs.declared.parts.Parts.{Parts}
use Rattle.plan_base.specs.Faults.{demand_id}
use Rattle.plan_base.proofs.Bools.{not-false, not-true, and-first}
use Rattle.plan_base.proofs.FirstFault.{none-when, when-none, none-first_in, first_in-none}
use Rattle.column_pool.specs.Columns.{Columns, columns_at, is_same_path, is_column, column_added, columns_with, is_permitted}
use Rattle.column_pool.proofs.AddedColumns.{is_column-added, told-IsPermitted}
use Rattle.master_step.specs.Columns.{HasColumns}
use Rattle.search_machine.specs.State.{Found, Round, Node, State, restriction_of}
use Rattle.search_machine.specs.Changes.{gap_at}
use Rattle.search_machine.specs.Gathering.{columns_for, with_path_of, gathered, ungathered_at, first_ungathered, IsCompleteRound, IsGathered}
use Rattle.search_machine.specs.Nodes.{IsSoundRound}
use Rattle.search_machine.specs.Soundness.{IsSound}
use Rattle.search_machine.proofs.Frames.{same_or_other}
use Rattle.search_machine.proofs.Replacing.{node_at}
use Rattle.search_machine.proofs.Gathering.{AreColumns-gathered, round-paths_found}
use Rattle.search_machine.proofs.Unrefused.{complete-no_gap}

-- What is gathered

found-read : (found : List (Option Found)) (k : ℕ) (o : Option Found) → slice_get found k ≡ Some o → slice_index_or found k None ≡ o
found-read found k o is = get_or_from_slice_get found k o None is

module _ (p : Parts) (columns : Columns) (found : List (Option Found)) (counts : (n : ℕ) → n ≤ length p.demands → length (gathered columns found n) ≡ length p.demands) where
  is_column-gathered : (n k : ℕ) (one : Found) → k < n → n ≤ length p.demands → slice_get found k ≡ Some (Some one) → is_column (columns_at (gathered columns found n) k) one.path ≡ true
  is_column-gathered zero k one below within is = absurd (omega arith)
  is_column-gathered (suc n) k one below within is = elim (same_or_other k n) [
    | inl last ↦
        let read : slice_index_or found n None ≡ Some one = found-read found n (Some one) (subst (λ (i : ℕ). slice_get found i ≡ Some (Some one)) last is) in
        let written : columns_at (columns_with before n one.path) n ≡ column_added (columns_at before n) one.path =
        get_or-set_same before n (column_added (columns_at before n) one.path) [] (let c = counts n (omega arith) in omega arith) in
        let here : is_column (columns_at (columns_with before n one.path) n) one.path ≡ true =
        ap (λ (xs : List (List ArcId)). is_column xs one.path) written ∙ is_column-added (columns_at before n) one.path in
        subst (λ (i : ℕ). is_column (columns_at (gathered columns found (suc n)) i) one.path ≡ true) (sym last)
        (subst (λ (o : Option Found). is_column (columns_at (with_path_of before n o) n) one.path ≡ true) (sym read) here)
    | inr earlier ↦ by (slice_index_or found n None) earlier (is_column-gathered n k one (omega arith) (omega arith) is)
  ]
    where
      before : Columns
      before = gathered columns found n

      by : (o : Option Found) → k ≢ n → is_column (columns_at before k) one.path ≡ true → is_column (columns_at (with_path_of before n o) k) one.path ≡ true
      by None ne h = h
      by (Some two) ne h = ap (λ (xs : List (List ArcId)). is_column xs one.path) (get_or-set_other before n k (column_added (columns_at before n) two.path) [] ne) ∙ h

-- after a gathering the round is gathered
pub gathered-all : (s : State) (id : BranchId) (version : ℕ) (node : Node) (round : Round) → IsSound s → IsCompleteRound s id version node round
    → first_ungathered (gathered s.columns round.found (length s.problem.demands)) (Some round) ≡ None
gathered-all s id version node round h is = none-first_in (ungathered_at columns) round.found by
  where
    columns : Columns
    columns = gathered s.columns round.found (length s.problem.demands)

    sound : IsSoundRound s.problem s.cuts (restriction_of node) round
    sound = (rw is.is_round at ((node_at s id.0 node h is.is_node).round)).1

    by : (k : ℕ) (o : Option Found) → slice_get round.found k ≡ Some o → ungathered_at columns k o ≡ None
    by k None x = refl
    by k (Some one) x =
        let below : k < length s.problem.demands = (let w = slice_get_within round.found k (Some one) x in let c = sound.count in omega arith) in
        let there = is_column-gathered s.problem s.columns round.found
        (λ n within. (AreColumns-gathered s.problem s.columns round.found n h.columns (round-paths_found s id node round h is.is_node is.is_round) within).count)
        (length s.problem.demands) k one below (omega arith) x in
        none-when _ (demand_id k) (not-true _ there)

-- What the node permits

abbrev arc_of : ℕ → ArcId
arc_of n = record { 0 = n }

is_same_path-told : (one other : List ArcId) → is_same_path one other ≡ true → one ≡ other
is_same_path-told [] [] h = refl
is_same_path-told [] (b ∷ other) h = absurd (let bad : false ≡ true = h in cc)
is_same_path-told (a ∷ one) [] h = absurd (let bad : false ≡ true = h in cc)
is_same_path-told (a ∷ one) (b ∷ other) h =
    let first : a.0 ≡ b.0 = eqb-true _ _ (and-first (a.0 == b.0) (is_same_path one other) h) in
    let rest = is_same_path-told one other (and-second (a.0 == b.0) (is_same_path one other) h) in
    ap (λ (n : ℕ). arc_of n ∷ one) first ∙ ap (λ (xs : List ArcId). b ∷ xs) rest
  where
    and-second : (x y : Bool) → (x && y) ≡ true → y ≡ true
    and-second true y e = e
    and-second false y e = absurd (let bad : false ≡ true = e in cc)

-- a column that the restriction permits is one of the permitted ones
permitted-some : (test : List ArcId → Bool) (paths : List (List ArcId)) (path : List ArcId) → is_column paths path ≡ true → test path ≡ true → 0 < length (filter test paths)
permitted-some test [] path h passes = absurd (let bad : false ≡ true = h in cc)
permitted-some test (other ∷ paths) path h passes = by (is_same_path other path) refl h (λ x. permitted-some test paths path x passes)
  where
    more : (b : Bool) → test other ≡ b → 0 < length (filter test paths) → 0 < length (if b then other ∷ filter test paths else filter test paths)
    more true e some = omega arith
    more false e some = some

    first : (b : Bool) → b ≡ true → 0 < length (if b then other ∷ filter test paths else filter test paths)
    first true e = omega arith
    first false e = absurd (let bad : false ≡ true = e in cc)

    by : (b : Bool) → is_same_path other path ≡ b → (b || is_column paths path) ≡ true → (is_column paths path ≡ true → 0 < length (filter test paths)) → 0 < length (filter test (other ∷ paths))
    by true e x rest = first (test other) (ap test (is_same_path-told other path e) ∙ passes)
    by false e x rest = more (test other) refl (rest x)

-- the node permits each demand of its gathered round a column
pub gathered-columns : (s : State) (id : BranchId) (version : ℕ) (node : Node) (round : Round) → IsSound s → IsGathered s id version node round → HasColumns s.problem (columns_for s node)
gathered-columns s id version node round h g k below =
    read (slice_index_or round.found k None) (found-at k below) refl
  where
    is : IsCompleteRound s id version node round
    is = g.complete_round

    sound : IsSoundRound s.problem s.cuts (restriction_of node) round
    sound = (rw is.is_round at ((node_at s id.0 node h is.is_node).round)).1

    found-at : (i : ℕ) → i < length s.problem.demands → slice_get round.found i ≡ Some (slice_index_or round.found i None)
    found-at i within = reads round.found i (let c = sound.count in omega arith)
      where
        reads : (found : List (Option Found)) (j : ℕ) → j < length found → slice_get found j ≡ Some (slice_index_or found j None)
        reads [] j inside = absurd (omega arith)
        reads (o ∷ found) zero inside = refl
        reads (o ∷ found) (suc j) inside = reads found j (omega arith)

    no_gap : (o : Option Found) → gap_at k o ≡ None → slice_get round.found k ≡ Some o → (one : Found) × (slice_get round.found k ≡ Some (Some one))
    no_gap None gap at = absurd (let bad : Some (demand_id k) ≡ None = gap in cc)
    no_gap (Some one) gap at = (one, at)

    read : (o : Option Found) → slice_get round.found k ≡ Some o → slice_index_or round.found k None ≡ o → 0 < length (columns_for s node k)
    read o at same =
        let within : k < length round.found = slice_get_within round.found k o at in
        let gap : gap_at k o ≡ None = ap (gap_at k) (sym same) ∙ first_in-none gap_at round.found (complete-no_gap round is.complete) k None within in
        let one = no_gap o gap at in
        let is_one : slice_index_or round.found k None ≡ Some one.0 = found-read round.found k (Some one.0) one.1 in
        let told : ungathered_at s.columns k (Some one.0) ≡ None = ap (ungathered_at s.columns k) (sym is_one) ∙ first_in-none (ungathered_at s.columns) round.found g.gathered_all k None within in
        let there : is_column (columns_at s.columns k) one.0.path ≡ true = not-false _ (when-none _ (demand_id k) told) in
        let permitted = (sound.least k one.0 one.1).permitted.permitted in
        permitted-some (is_permitted (restriction_of node) k) (columns_at s.columns k) one.0.path there (told-IsPermitted (restriction_of node) k one.0.path permitted)
