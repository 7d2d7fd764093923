-- What marks forbid, arc by arc, and what becomes of it when a mark is set or taken away.
use Rattle.std.proofs.Common.{◌≡◌, ◌≢◌, ℕ, suc, ◌*◌, ◌+◌, ◌<◌, ◌≤◌, inl, inr, Bool, true, false, ◌==◌, ◌&&◌, ◌||◌, not, List, [], ◌∷◌, length, get_or, set, replicate, slice_index_or, nat_lt, if◌then◌else◌, refl, sym, ap, ◌∙◌, arith, All}
use Rattle.std.proofs.Math.Path.{fun_ext}
use Rattle.std.proofs.lemmas.Bool.{lt-ltb, le-ltb, eq-eqb, ne_eqb, eqb-true, and_left, and_right, and_parts, and_from, or_right, cases_lt, cases_eq}
use Rattle.std.proofs.lemmas.List.{get_or-set_same, get_or-set_other, get_or-replicate, get_or_past, length-replicate}
use Rattle.std.proofs.lemmas.List.Folds.{Any-from_list_any}
use Rattle.std.proofs.Math.Nat.{mul-le-mul}
use Rattle.std.proofs.lemmas.Nat.{same_from_place, mul-add-lt}
use Rattle.plan_base.specs.declared.ids.ArcId.{ArcId}
use Rattle.plan_base.specs.declared.ids.DemandId.{DemandId}
use Rattle.arc_restrict.specs.Restrictions.{Forbidden, is_among, none_forbidden, with_forbidden}
use Rattle.verifier_paths.specs.Kept.{Marks, forbidden_by, AreKept, AreClear, IsUnrestricted, without_forbidden}

-- marks forbid nothing to demands that do not exist
pub past_demands : (rows : Marks) (k : ℕ) (a : ArcId) → rows.demands ≤ k → forbidden_by rows k a ≡ false
unfolding forbidden_by
past_demands rows k a h = and_left _ _ (le-ltb k rows.demands h)

-- marks forbid no arcs that do not exist
pub past_arcs : (rows : Marks) (k : ℕ) (a : ArcId) → rows.arcs ≤ a.0 → forbidden_by rows k a ≡ false
unfolding forbidden_by
past_arcs rows k a h = and_right _ _ (and_left _ _ (le-ltb a.0 rows.arcs h))

-- to a demand an arc is forbidden exactly where its mark is set
pub within_rows : (rows : Marks) (k : ℕ) (a : ArcId) → k < rows.demands → a.0 < rows.arcs → forbidden_by rows k a ≡ slice_index_or rows.marks (k * rows.arcs + a.0) false
unfolding forbidden_by
within_rows rows k a demand arc =
    let first : nat_lt k rows.demands ≡ true = lt-ltb _ _ demand in
    let second : nat_lt a.0 rows.arcs ≡ true = lt-ltb _ _ arc in
    rw (first, second) refl

-- a mark is kept below the count of marks
pub mark_within : (demands arcs k : ℕ) (a : ArcId) (marks : List Bool) → AreKept demands arcs marks → k < demands → a.0 < arcs → k * arcs + a.0 < length marks
mark_within demands arcs k a marks kept demand arc = omega (arith, mul-add-lt k arcs a.0 demands demand arc, kept.whole)

-- a row is kept within the marks
pub row_within : (demands arcs k : ℕ) (marks : List Bool) → AreKept demands arcs marks → k < demands → k * arcs + arcs ≤ length marks
row_within demands arcs k marks kept demand =
    let one : suc k * arcs ≤ demands * arcs = mul-le-mul (let le : suc k ≤ demands = omega (arith, demand) in le) (let le : arcs ≤ arcs = omega arith in le) in
    let split : suc k * arcs ≡ k * arcs + arcs = grind arith in
    omega (arith, one, split, kept.whole)

-- a row with no mark set forbids nothing
pub unrestricted_row : (rows : Marks) (k : ℕ) → k < rows.demands → AreClear rows.marks (k * rows.arcs) rows.arcs → IsUnrestricted (forbidden_by rows) k
unrestricted_row rows k here clear a = elim (cases_lt a.0 rows.arcs) [
  | inl there ↦ within_rows rows k a here there ∙ clear a.0 there
  | inr past ↦ past_arcs rows k a past
]

-- a demand to which nothing is forbidden has a row without marks
pub clear_row : (rows : Marks) (k : ℕ) → k < rows.demands → IsUnrestricted (forbidden_by rows) k → AreClear rows.marks (k * rows.arcs) rows.arcs
clear_row rows k here unrestricted i within = sym (within_rows rows k (record { 0 = i }) here within) ∙ unrestricted (record { 0 = i })

-- each arc is among the one arc exactly where it is that arc
is_among-one : (a b : ArcId) → is_among (a ∷ []) b ≡ (a.0 == b.0)
is_among-one a b = grind arith

-- the restriction with the arc forbidden to the demand, or not
abbrev pub remarked : Bool → Forbidden → DemandId → ArcId → Forbidden
remarked mark r id a = if mark then with_forbidden r id (a ∷ []) else without_forbidden r id (a ∷ [])

-- another arc, or an arc of another demand, is as before
remarked-other : (mark : Bool) (r : Forbidden) (id : DemandId) (a : ArcId) (k : ℕ) (b : ArcId) → ((k ≡ id.0) × (a.0 ≡ b.0) → ⊥) → remarked mark r id a k b ≡ r k b
remarked-other mark r id a k b other = cases mark
  where
    apart : (k == id.0 && is_among (a ∷ []) b) ≡ false
    apart = elim (cases_eq k id.0) [
      | inl here ↦ and_right _ _ (is_among-one a b ∙ ne_eqb _ _ (λ same. other (here, same)))
      | inr elsewhere ↦ and_left _ _ (ne_eqb _ _ elsewhere)
    ]

    or_false : (x y : Bool) → y ≡ false → (x || y) ≡ x
    or_false true y h = refl
    or_false false y h = h

    and_true : (x y : Bool) → y ≡ false → (x && not y) ≡ x
    and_true true y h = ap not h
    and_true false y h = refl

    cases : (mark : Bool) → remarked mark r id a k b ≡ r k b
    cases true = or_false (r k b) _ apart
    cases false = and_true (r k b) _ apart

-- the arc itself is as its mark
remarked-same : (mark : Bool) (r : Forbidden) (id : DemandId) (a : ArcId) → remarked mark r id a id.0 a ≡ mark
remarked-same mark r id a = cases mark
  where
    there : (id.0 == id.0 && is_among (a ∷ []) a) ≡ true
    there = and_from _ _ (eq-eqb id.0 id.0 refl) (is_among-one a a ∙ eq-eqb a.0 a.0 refl)

    cases : (mark : Bool) → remarked mark r id a id.0 a ≡ mark
    cases true = or_right _ _ there
    cases false = and_right _ _ (ap not there)

-- the arc of a number
abbrev ArcId_of : ℕ → ArcId
ArcId_of n = record { 0 = n }

-- with one mark written, the arc is as the mark says, and nothing else changes
pub forbidden_by-written : (rows : Marks) (id : DemandId) (a : ArcId) (mark : Bool) → AreKept rows.demands rows.arcs rows.marks → id.0 < rows.demands → a.0 < rows.arcs
    → forbidden_by (record rows { marks = set rows.marks (id.0 * rows.arcs + a.0) mark }) ≡ remarked mark (forbidden_by rows) id a
forbidden_by-written rows id a mark kept demand arc = fun_ext (λ j. fun_ext (λ b. at j b))
  where
    within : id.0 * rows.arcs + a.0 < length rows.marks
    within = mark_within rows.demands rows.arcs id.0 a rows.marks kept demand arc

    itself : (j : ℕ) (b : ArcId) → j ≡ id.0 → a.0 ≡ b.0 → forbidden_by (record rows { marks = set rows.marks (id.0 * rows.arcs + a.0) mark }) j b ≡ remarked mark (forbidden_by rows) id a j b
    itself j b here same =
        let new = record rows { marks = set rows.marks (id.0 * rows.arcs + a.0) mark } in
        let is_b : a ≡ b = ap (λ (n : ℕ). ArcId_of n) same in
        let is : forbidden_by new id.0 a ≡ mark = within_rows new id.0 a demand arc ∙ get_or-set_same rows.marks (id.0 * rows.arcs + a.0) mark false within in
        ap (λ (i : ℕ). forbidden_by new i b) here ∙ ap (forbidden_by new id.0) (sym is_b) ∙ is
        ∙ sym (ap (λ (i : ℕ). remarked mark (forbidden_by rows) id a i b) here ∙ ap (remarked mark (forbidden_by rows) id a id.0) (sym is_b) ∙ remarked-same mark (forbidden_by rows) id a)

    elsewhere : (j : ℕ) (b : ArcId) → ((j ≡ id.0) × (a.0 ≡ b.0) → ⊥) → forbidden_by (record rows { marks = set rows.marks (id.0 * rows.arcs + a.0) mark }) j b ≡ forbidden_by rows j b
    elsewhere j b other =
        let new = record rows { marks = set rows.marks (id.0 * rows.arcs + a.0) mark } in
        elim (cases_lt j rows.demands) [
          | inr past ↦ past_demands new j b past ∙ sym (past_demands rows j b past)
          | inl here ↦ elim (cases_lt b.0 rows.arcs) [
            | inr past ↦ past_arcs new j b past ∙ sym (past_arcs rows j b past)
            | inl there ↦
                let apart : j * rows.arcs + b.0 ≢ id.0 * rows.arcs + a.0 = λ same. (let one = same_from_place j b.0 id.0 a.0 rows.arcs there arc same in other (one.0, sym one.1)) in
                within_rows new j b here there ∙ get_or-set_other rows.marks (id.0 * rows.arcs + a.0) (j * rows.arcs + b.0) mark false apart ∙ sym (within_rows rows j b here there)
          ]
        ]

    at : (j : ℕ) (b : ArcId) → forbidden_by (record rows { marks = set rows.marks (id.0 * rows.arcs + a.0) mark }) j b ≡ remarked mark (forbidden_by rows) id a j b
    at j b = elim (cases_eq j id.0) [
      | inr apart ↦ elsewhere j b (λ both. apart both.0) ∙ sym (remarked-other mark (forbidden_by rows) id a j b (λ both. apart both.0))
      | inl here ↦ elim (cases_eq a.0 b.0) [
        | inr apart ↦ elsewhere j b (λ both. apart both.1) ∙ sym (remarked-other mark (forbidden_by rows) id a j b (λ both. apart both.1))
        | inl same ↦ itself j b here same
      ]
    ]

-- the same where the place is worked out before
pub forbidden_by-set : (demands arcs : ℕ) (marks : List Bool) (id : DemandId) (a : ArcId) (place : ℕ) (mark : Bool) → AreKept demands arcs marks → id.0 < demands → a.0 < arcs → place ≡ id.0 * arcs + a.0
    → forbidden_by (record { demands = demands; arcs = arcs; marks = set marks place mark }) ≡ remarked mark (forbidden_by (record { demands = demands; arcs = arcs; marks = marks })) id a
forbidden_by-set demands arcs marks id a place mark kept demand arc is =
    ap (λ (i : ℕ). forbidden_by (record { demands = demands; arcs = arcs; marks = set marks i mark })) is
    ∙ forbidden_by-written (record { demands = demands; arcs = arcs; marks = marks }) id a mark kept demand arc

-- marks that are all false forbid nothing
pub forbidden_by-none : (demands arcs n : ℕ) → forbidden_by (record { demands = demands; arcs = arcs; marks = replicate n false }) ≡ none_forbidden
forbidden_by-none demands arcs n = fun_ext (λ k. fun_ext (λ a. at k a))
  where
    false_at : (i : ℕ) → get_or {A = Bool} (replicate n false) i false ≡ false
    false_at i = elim (cases_lt i n) [ inl within ↦ get_or-replicate n i false false within | inr past ↦ get_or_past (replicate n false) i false (omega (arith, length-replicate {A = Bool} n false)) ]

    at : (k : ℕ) (a : ArcId) → forbidden_by (record { demands = demands; arcs = arcs; marks = replicate n false }) k a ≡ false
    at k a =
        let rows : Marks = record { demands = demands; arcs = arcs; marks = replicate n false } in
        elim (cases_lt k demands) [
          | inr past ↦ past_demands rows k a past
          | inl here ↦ elim (cases_lt a.0 arcs) [
            | inr past ↦ past_arcs rows k a past
            | inl there ↦ within_rows rows k a here there ∙ false_at (k * arcs + a.0)
          ]
        ]

-- no rows forbid nothing
pub forbidden_by-no_rows : (arcs : ℕ) (marks : List Bool) → forbidden_by (record { demands = 0; arcs = arcs; marks = marks }) ≡ none_forbidden
forbidden_by-no_rows arcs marks = fun_ext (λ k. fun_ext (λ a. past_demands (record { demands = 0; arcs = arcs; marks = marks }) k a (omega arith)))

-- arcs that were free are free again once they are no more forbidden
pub undo_forbid : (r : Forbidden) (id : DemandId) (arcs : List ArcId) → All (λ a. r id.0 a ≡ false) arcs → without_forbidden (with_forbidden r id arcs) id arcs ≡ r
undo_forbid r id arcs free = fun_ext (λ k. fun_ext (λ a. at k a))
  where
    free_among : (a : ArcId) → is_among arcs a ≡ true → r id.0 a ≡ false
    free_among a is =
        let hit = Any-from_list_any (λ b. b.0 == a.0) arcs is in
        let same : hit.1 ≡ a = ap (λ (n : ℕ). ArcId_of n) (eqb-true _ _ hit.4) in
        ap (r id.0) (sym same) ∙ ap (r id.0) (sym hit.3) ∙ free hit.0 hit.1 hit.2

    turned : (x y : Bool) → (y ≡ true → x ≡ false) → ((x || y) && not y) ≡ x
    turned true true h = sym (h refl)
    turned true false h = refl
    turned false true h = refl
    turned false false h = refl

    at : (k : ℕ) (a : ArcId) → without_forbidden (with_forbidden r id arcs) id arcs k a ≡ r k a
    at k a = elim (cases_eq k id.0) [
      | inl here ↦ turned (r k a) _ (λ both. ap (λ (j : ℕ). r j a) here ∙ free_among a (and_parts _ _ both).1)
      | inr apart ↦ turned (r k a) _ (λ both. absurd (let bad : false ≡ true = sym (and_left _ _ (ne_eqb _ _ apart)) ∙ both in cc))
    ]
