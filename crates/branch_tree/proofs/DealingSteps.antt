-- One arc more, dealt out to the two sides or to neither.
use Rattle.std.proofs.Common.{◌≡◌, ℕ, ◌+◌, ◌%◌, ◌<◌, inl, inr, Bool, true, false, not, ◌&&◌, ◌==◌, List, [], ◌∷◌, ◌++◌, length, if◌then◌else◌, refl, sym, ap, ap₂, ◌∙◌, arith, add-one}
use Rattle.std.proofs.lemmas.Bool.{eq-eqb, ne_eqb, cases_eq, cases_Bool, and_from, and_left, and_right, not_from_false}
use Rattle.std.proofs.lemmas.List.Sums.{count_by_more_yes, count_by_more_no}
use Rattle.plan_base.specs.declared.ids.ArcId.{ArcId}
use Rattle.plan_base.specs.Arcs.{no_arc}
use Rattle.plan_base.specs.Paths.{arc_at}
use Rattle.arc_restrict.specs.Restrictions.{Forbidden}
use Rattle.branch_tree.specs.Dealing.{is_neither, further_before, takes_left, goes_left, goes_right, picked}

-- one more than an even number is odd, and one more than an odd number is even
parity : (n : ℕ) → ((n + 1) % 2 == 0) ≡ not (n % 2 == 0)
parity n = elim (cases_eq (n % 2) 0) [
  | inl even ↦ (
      let odd : ((n + 1) % 2 == 0) ≡ false = ne_eqb _ _ (λ both. omega arith) in
      odd ∙ sym (ap not (eq-eqb (n % 2) 0 even)))
  | inr odd ↦ (
      let even : ((n + 1) % 2 == 0) ≡ true = eq-eqb _ _ (omega arith) in
      even ∙ sym (ap not (ne_eqb (n % 2) 0 odd)))
]

swapped : {A : Type 0} (b : Bool) (x y : A) → (if b then x else y) ≡ (if not b then y else x)
swapped true x y = refl
swapped false x y = refl

-- no place that fails a test is picked
pub picked-no : (test : ℕ → Bool) (arcs : List ArcId) (i : ℕ) → test i ≡ false → picked test arcs (i + 1) ≡ picked test arcs i
picked-no test arcs i fails = rw (add-one, fails) refl

-- a place that passes or fails a test, by the test's value
picked-by : (test : ℕ → Bool) (arcs : List ArcId) (i : ℕ) (b : Bool) → test i ≡ b → picked test arcs (i + 1) ≡ (if b then picked test arcs i ++ (arc_at arcs i ∷ []) else picked test arcs i)
picked-by test arcs i b is = rw (add-one, is) refl

module _ (r : Forbidden) (k : ℕ) (one other : ArcId) (arcs : List ArcId) (i : ℕ) where
  abbrev is_left_turn : Bool
  is_left_turn = further_before r k one other arcs i % 2 == 0

  -- a forbidden arc goes to neither side, and takes no turn
  pub left-kept : r k (arc_at arcs i) ≡ true → picked (goes_left r k one other arcs) arcs (i + 1) ≡ picked (goes_left r k one other arcs) arcs i
  left-kept forbidden = picked-no (goes_left r k one other arcs) arcs i (and_left _ _ (ap not forbidden))

  -- a forbidden arc does not go to the right side
  pub right-kept : r k (arc_at arcs i) ≡ true → picked (goes_right r k one other arcs) arcs (i + 1) ≡ picked (goes_right r k one other arcs) arcs i
  right-kept forbidden = picked-no (goes_right r k one other arcs) arcs i (and_left _ _ (ap not forbidden))

  -- a forbidden arc leaves the turn as it is
  pub turn-kept : i < length arcs → r k (arc_at arcs i) ≡ true → (further_before r k one other arcs (i + 1) % 2 == 0) ≡ is_left_turn
  turn-kept within forbidden = ap (λ (n : ℕ). n % 2 == 0) (count_by_more_no _ arcs i no_arc within (and_left _ _ (ap not forbidden)))

  -- an arc that is not forbidden goes to one side
  pub left-put : (turn : Bool) (left : List ArcId) → turn ≡ is_left_turn → left ≡ picked (goes_left r k one other arcs) arcs i → r k (arc_at arcs i) ≡ false
      → (if takes_left one other turn (arc_at arcs i) then left ++ (arc_at arcs i ∷ []) else left) ≡ picked (goes_left r k one other arcs) arcs (i + 1)
  left-put turn left turn_is left_is allowed =
      ap₂ (λ (b : Bool) (side : List ArcId). if takes_left one other b (arc_at arcs i) then side ++ (arc_at arcs i ∷ []) else side) turn_is left_is
      ∙ sym (picked-by (goes_left r k one other arcs) arcs i _ (ap (λ (b : Bool). not b && takes_left one other is_left_turn (arc_at arcs i)) allowed))

  -- an arc that is not forbidden goes to the right side where it does not go to the left
  pub right-put : (turn : Bool) (right : List ArcId) → turn ≡ is_left_turn → right ≡ picked (goes_right r k one other arcs) arcs i → r k (arc_at arcs i) ≡ false
      → (if takes_left one other turn (arc_at arcs i) then right else right ++ (arc_at arcs i ∷ [])) ≡ picked (goes_right r k one other arcs) arcs (i + 1)
  right-put turn right turn_is right_is allowed =
      ap₂ (λ (b : Bool) (side : List ArcId). if takes_left one other b (arc_at arcs i) then side else side ++ (arc_at arcs i ∷ [])) turn_is right_is
      ∙ swapped (takes_left one other is_left_turn (arc_at arcs i)) (picked (goes_right r k one other arcs) arcs i) (picked (goes_right r k one other arcs) arcs i ++ (arc_at arcs i ∷ []))
      ∙ sym (picked-by (goes_right r k one other arcs) arcs i _ (ap (λ (b : Bool). not b && not (not b && takes_left one other is_left_turn (arc_at arcs i))) allowed))

  -- and takes a turn where it is neither path's
  pub turn-put : (turn : Bool) → turn ≡ is_left_turn → i < length arcs → r k (arc_at arcs i) ≡ false
      → (if is_neither one other (arc_at arcs i) then not turn else turn) ≡ (further_before r k one other arcs (i + 1) % 2 == 0)
  turn-put turn turn_is within allowed = ap (λ (t : Bool). if is_neither one other (arc_at arcs i) then not t else t) turn_is ∙ sym (elim (cases_Bool (is_neither one other (arc_at arcs i))) [
    | inl neither ↦ (
        let counted = count_by_more_yes (λ (a : ArcId). not (r k a) && is_neither one other a) arcs i no_arc within (and_from _ _ (not_from_false _ allowed) neither) in
        ap (λ (n : ℕ). n % 2 == 0) counted ∙ parity _ ∙ sym (ap (λ (b : Bool). if b then not is_left_turn else is_left_turn) neither))
    | inr either ↦ (
        let passed = count_by_more_no (λ (a : ArcId). not (r k a) && is_neither one other a) arcs i no_arc within (and_right _ _ either) in
        ap (λ (n : ℕ). n % 2 == 0) passed ∙ sym (ap (λ (b : Bool). if b then not is_left_turn else is_left_turn) either))
  ])
