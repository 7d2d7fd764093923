-- The restriction of a child still leaves an arc at each network node, and forbids none at the demand's target.
use Rattle.std.proofs.Common.{◌≡◌, ◌≢◌, ℕ, zero, suc, ◌<◌, inl, inr, Bool, true, false, ◌||◌, ◌&&◌, ◌==◌, List, [], ◌∷◌, length, get_or, refl, sym, ap, subst, ◌∙◌, arith}
use Rattle.std.proofs.lemmas.Bool.{eqb-true, eqb-false}
use Rattle.std.proofs.lemmas.List.{get_or_default}
use Rattle.plan_base.specs.declared.ids.ArcId.{ArcId}
use Rattle.plan_base.specs.declared.ids.DemandId.{DemandId}
use Rattle.plan_base.specs.declared.parts.Parts.{Parts}
use Rattle.plan_base.specs.Arcs.{tail_of, demand_at, no_arc}
use Rattle.plan_base.specs.Paths.{arc_at}
use Rattle.arc_restrict.specs.Restrictions.{Forbidden, is_among, with_forbidden, IsPermittedPath}
use Rattle.proof_tree.specs.Splits.{IsSide, HasPathWith, PartsTwoPaths}
use Rattle.proof_tree.proofs.Covering.{is_among-All}
use Rattle.search_machine.specs.State.{ArcSplit}
use Rattle.search_machine.specs.Dividing.{PartsAt}
use Rattle.search_machine.specs.Nodes.{LeavesNode, IsOpenEnough}
use Rattle.search_machine.specs.Depth.{choices_of}
use Rattle.search_machine.proofs.Frames.{same_or_other}
use Rattle.search_machine.proofs.Choices.{TakesAWay, choices_of-less}

is_among-self : (arcs : List ArcId) (i : ℕ) (d : ArcId) → i < length arcs → is_among arcs (get_or arcs i d) ≡ true
is_among-self [] i d h = absurd (omega arith)
is_among-self (a ∷ arcs) zero d h = by (a.0 == a.0) refl
  where
    by : (b : Bool) → (a.0 == a.0) ≡ b → is_among (a ∷ arcs) a ≡ true
    by true e = rw e refl
    by false e = absurd (eqb-false _ _ e refl)
is_among-self (a ∷ arcs) (suc i) d h = rw (is_among-self arcs i d (omega arith)) (or_true (a.0 == (get_or arcs i d).0))
  where
    or_true : (b : Bool) → (b || true) ≡ true
    or_true true = refl
    or_true false = refl

-- A side of a split: its arcs leave the node, which is not the target, and the node keeps another arc.
record IsSideOf (p : Parts) (r : Forbidden) (id : DemandId) (node : ℕ) (arcs : List ArcId) : Type 0 where
  leave : (a : ArcId) → is_among arcs a ≡ true → (tail_of p a).0 ≡ node
  no_target : node ≢ (demand_at p id.0).target.0
  kept : ArcId
  leaves : LeavesNode p node kept
  permitted : r id.0 kept ≡ false
  other : is_among arcs kept ≡ false

or_false : (a b : Bool) → a ≡ false → b ≡ false → (a || b) ≡ false
or_false a b x y = rw (x, y) refl

-- an arc that is not among those, or of another demand, is not forbidden by them
not_forbidden : (r : Forbidden) (id : DemandId) (arcs : List ArcId) (k : ℕ) (a : ArcId) → r k a ≡ false → (k ≡ id.0 → is_among arcs a ≡ false) → with_forbidden r id arcs k a ≡ false
not_forbidden r id arcs k a free none = or_false (r k a) (k == id.0 && is_among arcs a) free (by (k == id.0) refl)
  where
    by : (b : Bool) → (k == id.0) ≡ b → (b && is_among arcs a) ≡ false
    by false e = refl
    by true e = none (eqb-true _ _ e)

not_true : (b : Bool) → (b ≡ true → ⊥) → b ≡ false
not_true true h = absurd (h refl)
not_true false h = refl

IsOpenEnough-side : (p : Parts) (r : Forbidden) (id : DemandId) (node : ℕ) (arcs : List ArcId) → IsSideOf p r id node arcs → IsOpenEnough p r → IsOpenEnough p (with_forbidden r id arcs)
IsOpenEnough-side p r id node arcs side h = record {
  at_target = λ k below a arc tail. not_forbidden r id arcs k a (h.at_target k below a arc tail)
      (λ same. not_true (is_among arcs a) (λ among. side.no_target (sym (side.leave a among) ∙ (tail ∙ ap (λ (i : ℕ). (demand_at p i).target.0) same))));
  elsewhere = λ k at below a leaves. elim (same_or_other at node) [
    | inl here ↦ elim (same_or_other k id.0) [
      | inl same ↦ (
        side.kept,
        record { arc = side.leaves.arc; tail = side.leaves.tail ∙ sym here },
        not_forbidden r id arcs k side.kept (subst (λ (i : ℕ). r i side.kept ≡ false) (sym same) side.permitted) (λ s. side.other),
      )
      | inr ne ↦ let b = h.elsewhere k at below a leaves in (b.0, b.1, not_forbidden r id arcs k b.0 b.2 (λ s. absurd (ne s)))
    ]
    | inr ne ↦ let b = h.elsewhere k at below a leaves in
        (b.0, b.1, not_forbidden r id arcs k b.0 b.2 (λ s. not_true (is_among arcs b.0) (λ among. ne (sym b.1.tail ∙ side.leave b.0 among))))
  ];
}

module _ (p : Parts) (r : Forbidden) (d : ArcSplit) (parts : PartsAt p r d) where
  -- two paths never part at their target
  parts-before_target : d.at.0 ≢ (demand_at p d.demand.0).target.0
  parts-before_target same =
      let simple = parts.first_path.simple in
      let tail = is_among-All (λ a. (tail_of p a).0 ≡ d.at.0) d.left (arc_at parts.first parts.place) parts.is_split.left_side.leave parts.on_left in
      simple.no_node_twice parts.place (length parts.first) parts.in_first (omega arith)
      (sym (simple.goes_on parts.place parts.in_first) ∙ (tail ∙ (same ∙ sym simple.ends_at_target)))

  -- an arc of one side that is not on the other keeps the node open there
  side_of : (arcs others : List ArcId) → IsSide p r d.demand d.at arcs → IsSide p r d.demand d.at others → is_among arcs (get_or others 0 no_arc) ≡ false → IsSideOf p r d.demand d.at.0 arcs
  side_of arcs others side other not_among = record {
    leave = λ a among. is_among-All (λ b. (tail_of p b).0 ≡ d.at.0) arcs a side.leave among;
    no_target = parts-before_target;
    kept = get_or others 0 no_arc;
    leaves = record { arc = other.are_arcs 0 no_arc other.some; tail = other.leave 0 no_arc other.some };
    permitted = other.permitted 0 no_arc other.some;
    other = not_among;
  }

  -- what a side takes and leaves
  takes_of : (arcs : List ArcId) → IsSide p r d.demand d.at arcs → IsSideOf p r d.demand d.at.0 arcs → TakesAWay p r d.demand d.at.0 arcs
  takes_of arcs side h = record {
    demand = parts.is_split.demand;
    node_within = parts.is_split.node;
    no_target = h.no_target;
    taken = get_or arcs 0 no_arc;
    taken_leaves = record { arc = side.are_arcs 0 no_arc side.some; tail = side.leave 0 no_arc side.some };
    was_free = side.permitted 0 no_arc side.some;
    among = is_among-self arcs 0 no_arc side.some;
    kept = h.kept;
    kept_leaves = h.leaves;
    stays_free = not_forbidden r d.demand arcs d.demand.0 h.kept h.permitted (λ same. h.other);
  }

  left_side : IsSideOf p r d.demand d.at.0 d.left
  left_side =
      let s = parts.is_split in
      let b = get_or d.right 0 no_arc in
      side_of d.left d.right s.left_side s.right_side
      (not_true (is_among d.left b) (λ among.
      let no = is_among-All (λ a. is_among d.right a ≡ false) d.left b s.disjoint among in
      let yes = is_among-self d.right 0 no_arc s.right_side.some in cc))

  right_side : IsSideOf p r d.demand d.at.0 d.right
  right_side = let s = parts.is_split in side_of d.right d.left s.right_side s.left_side (s.disjoint 0 no_arc s.left_side.some)

  -- a split of arcs that parts two paths leaves its left child fewer choices
  pub choices-left : choices_of p (with_forbidden r d.demand d.left) < choices_of p r
  choices-left = choices_of-less p r d.demand d.at.0 d.left (takes_of d.left parts.is_split.left_side left_side)

  -- a split of arcs that parts two paths leaves its right child fewer choices
  pub choices-right : choices_of p (with_forbidden r d.demand d.right) < choices_of p r
  choices-right = choices_of-less p r d.demand d.at.0 d.right (takes_of d.right parts.is_split.right_side right_side)

  -- the left child leaves each demand an arc at each node that has arcs, and all arcs at its target
  pub IsOpenEnough-left : IsOpenEnough p r → IsOpenEnough p (with_forbidden r d.demand d.left)
  IsOpenEnough-left = IsOpenEnough-side p r d.demand d.at.0 d.left left_side

  -- the right child leaves each demand an arc at each node that has arcs, and all arcs at its target
  pub IsOpenEnough-right : IsOpenEnough p r → IsOpenEnough p (with_forbidden r d.demand d.right)
  IsOpenEnough-right = IsOpenEnough-side p r d.demand d.at.0 d.right right_side

  path_with : (arcs path : List ArcId) (place : ℕ) → IsPermittedPath p r d.demand.0 path → place < length path → is_among arcs (arc_at path place) ≡ true → HasPathWith p r d.demand.0 arcs
  path_with arcs path place is within among =
      (path, is, (place, arc_at path place, within, get_or_default path place (arc_at path place) no_arc within, among))

  -- a split of arcs where two paths part has a permitted path of the demand through each side
  pub PartsAt-parts : PartsTwoPaths p r d.demand d.left d.right
  PartsAt-parts = (path_with d.left parts.first parts.place parts.first_path parts.in_first parts.on_left, path_with d.right parts.second parts.place parts.second_path parts.in_second parts.on_right)
