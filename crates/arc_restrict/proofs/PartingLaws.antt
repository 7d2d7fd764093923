-- Where two simple paths of one demand part.
use Rattle.std.proofs.Common.{◌≡◌, ◌≢◌, ℕ, zero, suc, ◌<◌, inl, inr, List, length, take, get_or, min, refl, sym, ap, ◌∙◌, arith}
use Rattle.std.proofs.lemmas.Bool.{cases_order}
use Rattle.std.proofs.lemmas.List.{get_or-take, take_all}
use Rattle.plan_base.specs.declared.ids.NodeId.{NodeId}
use Rattle.plan_base.specs.declared.ids.ArcId.{ArcId}
use Rattle.plan_base.specs.declared.parts.Demand.{Demand}
use Rattle.plan_base.specs.declared.parts.Parts.{Parts}
use Rattle.plan_base.specs.Arcs.{tail_of, head_of, no_arc}
use Rattle.plan_base.specs.Paths.{arc_at, node_at, IsSimplePath}
use Rattle.arc_restrict.specs.Partings.{AreOfOneDemand, PartAt}

-- paths with the same first n arcs have the same arc at each place before n
same_arc : (first second : List ArcId) (n i : ℕ) → take n first ≡ take n second → i < n → arc_at first i ≡ arc_at second i
same_arc first second n i same below = sym (get_or-take n first i no_arc below) ∙ ap (λ (arcs : List ArcId). get_or arcs i no_arc) same ∙ get_or-take n second i no_arc below

-- and have reached the same node after n arcs
same_node : (p : Parts) (source : NodeId) (first second : List ArcId) (n : ℕ) → take n first ≡ take n second → node_at p source first n ≡ node_at p source second n
same_node p source first second zero same = refl
same_node p source first second (suc n) same = ap (λ (a : ArcId). (head_of p a).0) (same_arc first second (suc n) n same (omega arith))

-- the node of a number
abbrev node_of : ℕ → NodeId
node_of n = record { 0 = n }

-- the arcs after the same front lead on from one node
pub part_at : (p : Parts) (first second : List ArcId) (n : ℕ) (one other : ArcId) (node : NodeId) → AreOfOneDemand p first second → take n first ≡ take n second
    → n < length first → n < length second → one ≡ arc_at first n → other ≡ arc_at second n → one.0 ≢ other.0 → node ≡ tail_of p one → PartAt p first second node one other
part_at p first second n one other node of_one same in_first in_second one_is other_is differ from = record {
  place = n;
  in_first = in_first;
  in_second = in_second;
  same = same;
  one_is = sym one_is;
  other_is = sym other_is;
  differ = differ;
  from_node = sym from;
  other_from_node = ap (λ (m : ℕ). node_of m) one_tail ∙ sym from;
}
  where
    one_tail : (tail_of p other).0 ≡ (tail_of p one).0
    one_tail =
        ap (λ (a : ArcId). (tail_of p a).0) other_is ∙ of_one.second_is.goes_on n in_second
        ∙ sym (same_node p _ first second n same) ∙ sym (of_one.first_is.goes_on n in_first) ∙ sym (ap (λ (a : ArcId). (tail_of p a).0) one_is)

-- a simple path of the demand that begins with all of another is that other
not_longer : (p : Parts) (k : Demand) (first second : List ArcId) → IsSimplePath p k first → IsSimplePath p k second → take (length first) first ≡ take (length first) second → length first < length second → ⊥
not_longer p k first second first_is second_is same longer =
    second_is.no_node_twice (length first) (length second) longer (omega arith)
    (sym (same_node p k.source first second (length first) same) ∙ first_is.ends_at_target ∙ sym second_is.ends_at_target)

-- simple paths that have the same arcs as far as both go are the same
pub same_from_fronts : (p : Parts) (first second : List ArcId) (n : ℕ) → AreOfOneDemand p first second → n ≡ min (length first) (length second) → take n first ≡ take n second → first ≡ second
same_from_fronts p first second n of_one is same = elim (cases_order (length first) (length second)) [
  | inl equal ↦ (
      let whole : n ≡ length first = omega arith in
      sym (take_all n first (omega arith)) ∙ same ∙ take_all n second (omega arith))
  | inr apart ↦ elim apart [
    | inl shorter ↦ (let whole : n ≡ length first = omega arith in absurd (not_longer p _ first second of_one.first_is of_one.second_is (rw whole at same) shorter))
    | inr longer ↦ (let whole : n ≡ length second = omega arith in absurd (not_longer p _ second first of_one.second_is of_one.first_is (sym (rw whole at same)) longer))
  ]
]
