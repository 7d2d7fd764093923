-- What makes a new pool an opening state.
use Rattle.search_nodes.specs.declared.slot.Slot.{Slot}
use Rattle.search_nodes.specs.declared.slot.Slot.TheVariants.{Free, Of}
use Rattle.std.proofs.Common.{[], ◌≡◌, ℕ, zero, suc, ◌+◌, ◌<◌, ◌≤◌, ◌⊎◌, inl, inr, List, ◌∷◌, ◌++◌, length, Option, Some, None, slice_get, refl, sym, ap, subst, ◌∙◌, arith, sum_by, count_by, cond, length-append}
use Rattle.std.specs.Prelude.{IsSomeAnd}
use Rattle.std.proofs.lemmas.Option.{slice_get_within}
use Rattle.std.proofs.lemmas.List.Sums.{sum_by-cons}
use Rattle.plan_base.specs.declared.parts.Parts.{Parts}
use Rattle.plan_base.specs.Facts.{IsInstance}
use Rattle.plan_base.specs.Places.{places}
use Rattle.link_steps.specs.Unit.{IsUnit}
use Rattle.proof_tree.specs.declared.cuts.Cut.{Cut}
use Rattle.proof_tree.specs.Cuts.{IsCutList}
use Rattle.cut_values.specs.Numbers.{CutProblem, AreNumbers, AreStartNumbers}
use Rattle.column_pool.specs.Columns.{Columns, no_columns}
use Rattle.search_machine.specs.declared.limits.TheConstants.{MAX_ROUNDS, MAX_BUDGET}
use Rattle.search_machine.specs.State.{Round, Node, State, rounds_in, region_of}
use Rattle.search_machine.specs.Machine.{root_with, opening_with, IsOpeningState}
use Rattle.search_machine.specs.Opening.{IsTaken}
use Rattle.search_nodes.specs.Slots.{is_free}
use Rattle.search_view.specs.Views.{AreFreePlaces, HasPlaces, IsKeptPool}
use Rattle.proof_tree.specs.Regions.{whole}
use Rattle.search_nodes.specs.Grounds.{Kept, IsKeptRegion, IsGroundOf, HasGrounds}
use Rattle.pool_core.specs.Roots.{HasFreeRoot}
use Rattle.search_machine.proofs.Lists.{slice_get-append_left, slice_get-append_right}
use Rattle.search_machine.proofs.Frames.{one_at}

-- the empty list is a list of no free slots, each with room for so many demands and prices
pub free_places-none : (demands prices : ℕ) → AreFreePlaces 0 demands prices []
free_places-none demands prices = record { length_is = refl; each = λ slot below. absurd (omega arith) }

below-or-last : (i n : ℕ) → i < n + 1 → (i < n) ⊎ (i ≡ n)
below-or-last i n h = grind arith

-- one more place
pub free_places-next : (count demands width : ℕ) (slots : List Slot) (place : Round) → AreFreePlaces count demands width slots
    → place.slot ≡ count → length place.found ≡ demands → length place.prices ≡ width → AreFreePlaces (count + 1) demands width (slots ++ (Free place ∷ []))
free_places-next count demands width slots place h slot found prices =
    let long = length-append slots (Free place ∷ []) in
    let size = h.length_is in
    record {
      length_is = omega arith;
      each = λ n below. elim (below-or-last n count below) [
        | inl before ↦ let e = h.each n before in (e.0, slice_get-append_left slots (Free place ∷ []) n (Free e.0) e.1, e.2, e.3, e.4)
        | inr last ↦
            let at : slice_get (slots ++ (Free place ∷ [])) (length slots + 0) ≡ Some (Free place) = slice_get-append_right slots (Free place ∷ []) 0 in
            let here : length slots + 0 ≡ n = omega arith in
            (place, subst (λ (i : ℕ). slice_get (slots ++ (Free place ∷ [])) i ≡ Some (Free place)) here at, slot ∙ sym last, found, prices)
      ];
    }

-- rules for lists of free slots: the empty list, and one slot more
pub ruleset free_places = (free_places-none, free_places-next)

-- where each place is free, all are counted
all_free : (slots : List Slot) → ((k : ℕ) → k < length slots → (place : Round) × (slice_get slots k ≡ Some (Free place))) → count_by is_free slots ≡ length slots
all_free [] each = refl
all_free (o ∷ slots) each =
    let first = each 0 (omega arith) in
    let is : o ≡ Free first.0 = (let e = first.1 in cc) in
    let one : ◌≡◌ {A = ℕ} (cond (is_free o) 1 0) 1 = ap (λ (x : Slot). cond {A = ℕ} (is_free x) 1 0) is in
    omega (arith, one, sum_by-cons (λ (x : Slot). cond (is_free x) 1 0) o slots, all_free slots (λ k below. each (suc k) (omega arith)))

module _ (s : State) (prices : List ℕ) (nodes : s.nodes ≡ root_with prices ∷ []) where
  none_taken : (slot : ℕ) → IsTaken s slot → ⊥
  none_taken slot taken = at_root taken.0 taken.1 (subst (λ (xs : List Node). slice_get xs taken.0 ≡ Some taken.1) nodes taken.2) taken.3
    where
      at_root : (n : ℕ) (node : Node) → slice_get (root_with prices ∷ []) n ≡ Some node → IsSomeAnd node.round (λ r. r.slot ≡ slot) → ⊥
      at_root zero node is has = let same : root_with prices ≡ node = cc in subst (λ (x : Node). IsSomeAnd x.round (λ r. r.slot ≡ slot)) (sym same) has
      at_root (suc n) node is has = let bad : ◌≡◌ {A = Option Node} None (Some node) = is in absurd (cc)

  -- where all slots are free, they fit a state that has the root alone, which waits
  pub opening-slots : (slots : List Slot) → AreFreePlaces MAX_ROUNDS (length s.problem.demands) (places s.problem + length s.cuts) slots → HasPlaces s slots
  opening-slots slots h =
      let free : (k : ℕ) (o : Slot) → slice_get slots k ≡ Some o → (place : Round) × (o ≡ Free place) × (place.slot ≡ k) × (length place.found ≡ length s.problem.demands) × (length place.prices ≡ places s.problem + length s.cuts)
      = λ k o is.
      let size = h.length_is in
      let within = slice_get_within slots k o is in
      let e = h.each k (omega arith) in
      (e.0, one_at slots k o (Free e.0) is e.1, e.2, e.3, e.4) in
      let same : (k : ℕ) (place : Round) (is : slice_get slots k ≡ Some (Free place)) → (free k (Free place) is).0 ≡ place = λ k place is. let e = (free k (Free place) is).1 in cc in
      record {
        count = h.length_is;
        total = (
            let all = all_free slots (λ k below. let size = h.length_is in let e = h.each k (omega arith) in (e.0, e.1)) in
            let size = h.length_is in
            let idle : sum_by (λ (x : Node). rounds_in x) s.nodes ≡ 0 = ap (sum_by (λ (x : Node). rounds_in x)) nodes in
            omega arith
            );
        taken = λ k n is. absurd (let e : Of n ≡ Free (free k (Of n) is).0 = (free k (Of n) is).1 in cc);
        free = λ k place is taken. none_taken k taken;
        slot_is = λ k place is. ap (λ (r : Round). r.slot) (sym (same k place is)) ∙ (free k (Free place) is).2;
        demands = λ k place is. ap (λ (r : Round). length r.found) (sym (same k place is)) ∙ (free k (Free place) is).3;
        prices = λ k place is. ap (λ (r : Round). length r.prices) (sym (same k place is)) ∙ (free k (Free place) is).4;
      }

  -- the kept whole region is that of the root, where the root is the only node
  pub opening-grounds : (kept : Kept) → IsKeptRegion s.problem (whole s.problem) kept → HasGrounds s.problem s.nodes (Some kept ∷ [])
  opening-grounds kept is_whole = subst (λ (xs : List Node). HasGrounds s.problem xs (Some kept ∷ [])) (sym nodes) (record {
    count = refl;
    each = at_root;
  })
    where
      at_root : (n : ℕ) (node : Node) → slice_get (root_with prices ∷ []) n ≡ Some node → (ground : Option Kept) × (slice_get (Some kept ∷ []) n ≡ Some ground) × IsGroundOf s.problem (region_of s.problem node) node.fate ground
      at_root zero node is =
          let same : root_with prices ≡ node = cc in
          (Some kept, refl, subst (λ (x : Node). IsGroundOf s.problem (region_of s.problem x) x.fate (Some kept)) same is_whole)
      at_root (suc n) node is = let bad : ◌≡◌ {A = Option Node} None (Some node) = is in absurd (cc)

module _ (p : Parts) (cuts : List Cut) (unit budget : ℕ) (prices : List ℕ) (lawful : IsInstance p) (are_cuts : IsCutList p cuts) (is_unit : IsUnit p unit) (start : AreStartNumbers p cuts prices) (numbers : AreNumbers p cuts prices) where
  -- the state before any event, of a lawful instance with its cuts, unit and start prices, is an opening state
  pub opening-state : IsOpeningState p cuts budget (opening_with p cuts unit budget prices)
  opening-state = record { lawful = lawful; are_cuts = are_cuts; unit = unit; is_unit = is_unit; prices = prices; are_start = start; are_numbers = numbers; is_state = refl }

  -- the opening state is a pool where all slots are free and the root keeps the whole region
  pub opening-kept : (table : CutProblem) (kept : Kept) (slots : List Slot) → 0 < budget → budget ≤ MAX_BUDGET → table.problem ≡ p → table.cuts ≡ cuts
      → AreFreePlaces MAX_ROUNDS (length p.demands) (places p + length cuts) slots → IsKeptRegion p (whole p) kept
      → IsKeptPool (opening_with p cuts unit budget prices) table (Some kept ∷ []) slots
  opening-kept table kept slots some most same same_cuts free is_whole = record {
    pool = record {
      some_budget = some;
      budget = most;
      reachable = record { opening = opening_with p cuts unit budget prices; entries = []; is_opening = opening-state; run = refl };
      has_places = opening-slots (opening_with p cuts unit budget prices) prices refl slots free;
    };
    table_is = same;
    cuts_are = same_cuts;
    has_grounds = opening-grounds (opening_with p cuts unit budget prices) prices refl kept is_whole;
  }

  -- the same on the pool's own fields
  pub opening-kept-at : (table : CutProblem) (nodes : List Node) (columns : Columns) (grounds : List (Option Kept)) (slots : List Slot) → 0 < budget → budget ≤ MAX_BUDGET → table.problem ≡ p → table.cuts ≡ cuts
      → AreFreePlaces MAX_ROUNDS (length p.demands) (places p + length cuts) slots → HasFreeRoot p grounds → nodes ≡ root_with prices ∷ [] → columns ≡ no_columns p
      → IsKeptPool (record (opening_with p cuts unit budget prices) { nodes = nodes; columns = columns }) table grounds slots
  opening-kept-at table nodes columns grounds slots some most same same_cuts free root is_nodes is_columns =
      let kept = opening-kept table root.kept slots some most same same_cuts free root.is_whole in
      subst (λ (cs : Columns). IsKeptPool (record (opening_with p cuts unit budget prices) { nodes = nodes; columns = cs }) table grounds slots) (sym is_columns)
      (subst (λ (xs : List Node). IsKeptPool (record (opening_with p cuts unit budget prices) { nodes = xs }) table grounds slots) (sym is_nodes)
      (subst (λ (xs : List (Option Kept)). IsKeptPool (opening_with p cuts unit budget prices) table xs slots) (sym root.is_ground) kept))

  -- a state of the same cuts, with the waiting root alone and no columns, is an opening state
  pub opening-state-at : (held : List Cut) (nodes : List Node) (columns : Columns) → held ≡ cuts → nodes ≡ root_with prices ∷ [] → columns ≡ no_columns p
      → IsOpeningState p cuts budget (record (opening_with p cuts unit budget prices) { cuts = held; nodes = nodes; columns = columns })
  opening-state-at held nodes columns same is is_columns =
      subst (λ (xs : List Cut). IsOpeningState p cuts budget (record (opening_with p cuts unit budget prices) { cuts = xs; nodes = nodes; columns = columns })) (sym same)
      (subst (λ (cs : Columns). IsOpeningState p cuts budget (record (opening_with p cuts unit budget prices) { nodes = nodes; columns = cs })) (sym is_columns)
      (subst (λ (xs : List Node). IsOpeningState p cuts budget (record (opening_with p cuts unit budget prices) { nodes = xs })) (sym is) opening-state))
