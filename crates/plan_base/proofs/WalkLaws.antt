-- What the loop over the arcs of a path knows: where it stands, and which nodes it has met.
use Rattle.std.proofs.Common.{◌≡◌, ℕ, ◌+◌, ◌<◌, Bool, true, false, not, ◌&&◌, ◌||◌, ◌==◌, List, length, get_or, take, Some, None, refl, sym, ap, ◌∙◌, add-one}
use Rattle.std.specs.List.{list_any}
use Rattle.std.proofs.lemmas.List.{get_or_default}
use Rattle.std.proofs.lemmas.List.Folds.{list_any_more}
use Rattle.base_items.specs.Met.{Stamps, is_met}
use Rattle.plan_base.specs.declared.ids.NodeId.{NodeId}
use Rattle.plan_base.specs.declared.ids.ArcId.{ArcId}
use Rattle.plan_base.specs.declared.ids.DemandId.{DemandId}
use Rattle.plan_base.specs.declared.parts.Parts.{Parts}
use Rattle.plan_base.specs.declared.design_fault.DesignFault.{DesignFault}
use Rattle.plan_base.specs.declared.design_fault.DesignFault.TheVariants.{NotAPath, Repeats}
use Rattle.plan_base.specs.First.{when, first_fault, fault_at, first_in}
use Rattle.plan_base.specs.Facts.{IsInstance}
use Rattle.plan_base.specs.Arcs.{is_arc, tail_of, head_of, no_arc}
use Rattle.plan_base.specs.Paths.{arc_at}
use Rattle.plan_base.specs.DesignFaults.{has_met, step_fault}
use Rattle.plan_base.specs.Walks.{walk_fault, IsWalk}
use Rattle.plan_base.proofs.Bools.{not_and-both}
use Rattle.plan_base.proofs.FirstFault.{or_else-none, when-none, first_fault-next, first_fault-here, fault_at-get_or}
use Rattle.plan_base.proofs.PathLaws.{head-within}

-- what is wrong with the arc is the same, told by the nodes that are met
pub step_fault-walk_fault : (p : Parts) (id : DemandId) (source : NodeId) (arcs : List ArcId) (i here : ℕ) (met : Stamps) (a : ArcId) → IsWalk p source arcs i here met → step_fault p id source arcs i a ≡ walk_fault p id met here i a
unfolding step_fault walk_fault
step_fault-walk_fault p id source arcs i here met a walk = by_cases (is_arc p a) refl
  where
    by_cases : (b : Bool) → is_arc p a ≡ b → step_fault p id source arcs i a ≡ walk_fault p id met here i a
    by_cases false is = rw is refl
    by_cases true is =
        let same : is_met met (head_of p a).0 ≡ has_met p source (take i arcs) (head_of p a) = walk.has_met_nodes (head_of p a) in
        rw (same, walk.stands) refl

-- the walk stops here
pub walk-stops : (p : Parts) (id : DemandId) (source : NodeId) (arcs : List ArcId) (i here : ℕ) (met : Stamps) (d : ArcId) (e : DesignFault) → IsWalk p source arcs i here met → i < length arcs
    → first_fault (fault_at (step_fault p id source arcs) arcs) i ≡ None → Some e ≡ walk_fault p id met here i (get_or arcs i d) → first_in (step_fault p id source arcs) arcs ≡ Some e
walk-stops p id source arcs i here met d e walk within before here_is =
    first_fault-here (fault_at (step_fault p id source arcs) arcs) e i (length arcs) before
    (fault_at-get_or (step_fault p id source arcs) arcs i d within ∙ step_fault-walk_fault p id source arcs i here met (get_or arcs i d) walk ∙ sym here_is) within

-- the walk goes on
pub walk-goes_on : (p : Parts) (id : DemandId) (source : NodeId) (arcs : List ArcId) (i here : ℕ) (met : Stamps) (d : ArcId) → IsWalk p source arcs i here met → i < length arcs
    → first_fault (fault_at (step_fault p id source arcs) arcs) i ≡ None → None ≡ walk_fault p id met here i (get_or arcs i d) → first_fault (fault_at (step_fault p id source arcs) arcs) (i + 1) ≡ None
walk-goes_on p id source arcs i here met d walk within before none =
    first_fault-next (fault_at (step_fault p id source arcs) arcs) i before
    (fault_at-get_or (step_fault p id source arcs) arcs i d within ∙ step_fault-walk_fault p id source arcs i here met (get_or arcs i d) walk ∙ sym none)

is_arc-no_fault : (p : Parts) (id : DemandId) (met : Stamps) (here i : ℕ) (a : ArcId) → None ≡ walk_fault p id met here i a → is_arc p a ≡ true
unfolding walk_fault
is_arc-no_fault p id met here i a none =
    let both = or_else-none (when (not (is_arc p a && ((tail_of p a).0 == here))) (NotAPath id i)) (when (is_met met (head_of p a).0) (Repeats id i)) (sym none) in
    (not_and-both (is_arc p a) ((tail_of p a).0 == here) (when-none _ _ both.0)).0

-- before its first arc, the walk has met its source alone
pub IsWalk-begin : (p : Parts) (source : NodeId) (arcs : List ArcId) (met : Stamps) → source.0 < p.nodes → ((n : ℕ) → is_met met n ≡ (source.0 == n)) → IsWalk p source arcs 0 source.0 met
IsWalk-begin p source arcs met start h = record {
  stands = refl;
  stands_within = start;
  has_met_nodes = λ node. h node.0 ∙ first (source.0 == node.0);
}
  where
    first : (b : Bool) → b ≡ (b || false)
    first true = refl
    first false = refl

or-assoc : (a b c : Bool) → ((a || b) || c) ≡ (a || (b || c))
or-assoc true b c = refl
or-assoc false b c = refl

-- one arc more, and the node that it leads to
pub IsWalk-next : (p : Parts) (id : DemandId) (source : NodeId) (arcs : List ArcId) (i here : ℕ) (met next_met : Stamps) (d : ArcId) (next : NodeId) → IsInstance p → IsWalk p source arcs i here met → i < length arcs
    → None ≡ walk_fault p id met here i (get_or arcs i d) → next ≡ head_of p (get_or arcs i d) → ((n : ℕ) → is_met next_met n ≡ (is_met met n || (next.0 == n))) → IsWalk p source arcs (i + 1) next.0 next_met
IsWalk-next p id source arcs i here met next_met d next inst walk within none is_next more =
    let a = get_or arcs i d in
    let is = is_arc-no_fault p id met here i a none in
    let same : get_or arcs i d ≡ arc_at arcs i = get_or_default arcs i d no_arc within in
    record {
      stands = rw add-one (ap (λ (n : NodeId). n.0) is_next ∙ ap (λ (x : ArcId). (head_of p x).0) same);
      stands_within = rw is_next (head-within p a inst is);
      has_met_nodes = λ node.
          let test = λ (x : ArcId). is_arc p x && ((head_of p x).0 == node.0) in
          let last : test a ≡ (next.0 == node.0) = rw (is, is_next) refl in
          let longer : list_any test (take (i + 1) arcs) ≡ (list_any test (take i arcs) || test a) = list_any_more test arcs i d within in
          let old : is_met met node.0 ≡ has_met p source (take i arcs) node = walk.has_met_nodes node in
          more node.0 ∙ ap (λ b. b || (next.0 == node.0)) old ∙ or-assoc (source.0 == node.0) (list_any test (take i arcs)) (next.0 == node.0) ∙ ap (λ b. source.0 == node.0 || (list_any test (take i arcs) || b)) (sym last) ∙ ap (λ b. source.0 == node.0 || b) (sym longer);
    }

-- the steps of the loop over the arcs of a path
pub ruleset walk_laws = (walk-stops, walk-goes_on, IsWalk-begin, IsWalk-next)
