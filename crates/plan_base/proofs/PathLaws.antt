-- A walk without a fault meets no node twice, so it has fewer arcs than there are nodes.
use Rattle.std.proofs.Common.{IsTrue, ◌≡◌, ◌≢◌, ℕ, zero, suc, ◌<◌, ◌≤◌, ◌⊎◌, inl, inr, Bool, true, false, not, ◌&&◌, List, length, get_or, take, None, if◌then◌else◌, sym, ◌∙◌, arith, ◌==◌}
use Rattle.std.specs.List.{list_any}
use Rattle.std.proofs.lemmas.Bool.{eqb-true, eqb-false, eq-eqb, ltb-true, ne_eqb}
use Rattle.std.proofs.lemmas.List.{get_or-take, length-take-le, get_or_default}
use Rattle.std.proofs.lemmas.List.Folds.{list_any_none}
use Rattle.std_collections.proofs.IndexTableLemmas.Probe.{pigeonhole, OneToOne}
use Rattle.plan_base.specs.declared.ids.NodeId.{NodeId}
use Rattle.plan_base.specs.declared.ids.ArcId.{ArcId}
use Rattle.plan_base.specs.declared.ids.DemandId.{DemandId}
use Rattle.plan_base.specs.declared.parts.Demand.{Demand}
use Rattle.plan_base.specs.declared.parts.Parts.{Parts}
use Rattle.plan_base.specs.First.{when, first_fault, fault_at, first_in}
use Rattle.plan_base.specs.Facts.{IsInstance}
use Rattle.plan_base.specs.Arcs.{is_arc, tail_of, head_of, link_of, is_back, no_link, no_arc}
use Rattle.plan_base.specs.Paths.{arc_at, node_at, IsSimplePath}
use Rattle.plan_base.specs.DesignFaults.{has_met, step_fault, path_fault}
use Rattle.plan_base.specs.declared.design_fault.DesignFault.TheVariants.{NotAPath, Repeats}
use Rattle.plan_base.proofs.Bools.{or-false_both, not_and-both, both-not_and, or-both_false, and-false_of, and-first, false-and_of, not-false, not-true, list_any-false_at}
use Rattle.plan_base.proofs.FirstFault.{first_fault-none, none-first_fault, fault_at-get_or, or_else-none, none-or_else, when-none, none-when}

-- what holds of an arc without a fault
record GoesOn (p : Parts) (source : NodeId) (arcs : List ArcId) (i : ℕ) : Type 0 where
  is_an_arc : is_arc p (arc_at arcs i) ≡ true
  leaves : (tail_of p (arc_at arcs i)).0 ≡ node_at p source arcs i
  is_new : has_met p source (take i arcs) (head_of p (arc_at arcs i)) ≡ false

GoesOn-step_fault : (p : Parts) (id : DemandId) (source : NodeId) (arcs : List ArcId) (i : ℕ) → step_fault p id source arcs i (arc_at arcs i) ≡ None → GoesOn p source arcs i
unfolding step_fault
GoesOn-step_fault p id source arcs i h =
    let a = arc_at arcs i in
    let both = or_else-none (when (not (is_arc p a && ((tail_of p a).0 == node_at p source arcs i))) (NotAPath id i)) (when (has_met p source (take i arcs) (head_of p a)) (Repeats id i)) h in
    let goes = not_and-both (is_arc p a) ((tail_of p a).0 == node_at p source arcs i) (when-none _ _ both.0) in
    record { is_an_arc = goes.0; leaves = eqb-true _ _ goes.1; is_new = when-none _ _ both.1 }

step_fault-GoesOn : (p : Parts) (id : DemandId) (source : NodeId) (arcs : List ArcId) (i : ℕ) → GoesOn p source arcs i → step_fault p id source arcs i (arc_at arcs i) ≡ None
unfolding step_fault
step_fault-GoesOn p id source arcs i h =
    let a = arc_at arcs i in
    none-or_else _ _
    (none-when (not (is_arc p a && ((tail_of p a).0 == node_at p source arcs i))) (NotAPath id i) (both-not_and _ _ h.is_an_arc (eq-eqb _ _ h.leaves)))
    (none-when (has_met p source (take i arcs) (head_of p a)) (Repeats id i) h.is_new)

-- the arcs before a place without a fault
GoesOn-before : (p : Parts) (id : DemandId) (source : NodeId) (arcs : List ArcId) (i : ℕ) → i ≤ length arcs → first_fault (fault_at (step_fault p id source arcs) arcs) i ≡ None → (j : ℕ) → j < i → GoesOn p source arcs j
GoesOn-before p id source arcs i within none j below =
    GoesOn-step_fault p id source arcs j (sym (fault_at-get_or (step_fault p id source arcs) arcs j no_arc (omega arith)) ∙ first_fault-none (fault_at (step_fault p id source arcs) arcs) i none j below)

-- a node that the walk has not met is none of the nodes so far
new_node-differs : (p : Parts) (source : NodeId) (arcs : List ArcId) (i : ℕ) → i < length arcs → ((j : ℕ) → j ≤ i → GoesOn p source arcs j) → (k : ℕ) → k ≤ i → node_at p source arcs k ≢ node_at p source arcs (suc i)
new_node-differs p source arcs i within fine zero below same =
    let new = or-false_both (source.0 == (head_of p (arc_at arcs i)).0) _ (fine i (omega arith)).is_new in
    eqb-false _ _ new.0 same
new_node-differs p source arcs i within fine (suc k) below same =
    let new = or-false_both (source.0 == (head_of p (arc_at arcs i)).0) _ (fine i (omega arith)).is_new in
    let test = λ (a : ArcId). is_arc p a && ((head_of p a).0 == (head_of p (arc_at arcs i)).0) in
    let at_k : test (get_or (take i arcs) k no_arc) ≡ false = list_any-false_at test (take i arcs) k no_arc (omega (arith, length-take-le i arcs (omega arith))) new.1 in
    let is_k : get_or (take i arcs) k no_arc ≡ arc_at arcs k = get_or-take i arcs k no_arc (omega arith) in
    let here : test (arc_at arcs k) ≡ false = rw is_k at at_k in
    eqb-false _ _ (and-false_of _ _ (fine k (omega arith)).is_an_arc here) same

either : {X : Type 0} (b : Bool) (P : X → Type 0) {x y : X} → P x → P y → P (if b then x else y)
either true P on_true on_false = on_true
either false P on_true on_false = on_false

-- the node after an arc is one of the nodes
pub head-within : (p : Parts) (a : ArcId) → IsInstance p → is_arc p a ≡ true → (head_of p a).0 < p.nodes
head-within p a inst is =
    let inside = ltb-true (link_of a) (length p.links) (and-first _ _ is) in
    let lawful = inst.links (link_of a) no_link inside in
    either (is_back a) (λ (n : NodeId). n.0 < p.nodes) lawful.source lawful.target

node-within : (p : Parts) (source : NodeId) (arcs : List ArcId) (i : ℕ) → IsInstance p → source.0 < p.nodes → ((j : ℕ) → j < i → GoesOn p source arcs j) → node_at p source arcs i < p.nodes
node-within p source arcs zero inst start fine = start
node-within p source arcs (suc i) inst start fine = head-within p (arc_at arcs i) inst (fine i (omega arith)).is_an_arc

-- no node is met twice
nodes-differ : (p : Parts) (source : NodeId) (arcs : List ArcId) (i : ℕ) → i ≤ length arcs → ((j : ℕ) → j < i → GoesOn p source arcs j) → (j k : ℕ) → j < k → k ≤ i → node_at p source arcs j ≢ node_at p source arcs k
nodes-differ p source arcs i within fine j zero before below same = absurd (omega arith)
nodes-differ p source arcs i within fine j (suc k) before below same =
    new_node-differs p source arcs k (omega arith) (λ m upto. fine m (omega arith)) j (omega arith) same

compare_cases : (j k : ℕ) → (j < k) ⊎ ((j ≡ k) ⊎ (k < j))
compare_cases j k = grind arith

one_to_one : (f : ℕ → ℕ) (n : ℕ) → ((j k : ℕ) → j < k → k < n → f j ≢ f k) → OneToOne f n
one_to_one f n differ j k j_in k_in same = elim (compare_cases j k) [ inl before ↦ absurd (differ j k before k_in same) | inr w ↦ elim w [ inl is ↦ is | inr after ↦ absurd (differ k j after j_in (sym same)) ] ]

-- a walk without a fault has gone over fewer arcs than there are nodes
pub walk-short : (p : Parts) (id : DemandId) (source : NodeId) (arcs : List ArcId) (i : ℕ) → IsInstance p → source.0 < p.nodes → i ≤ length arcs → first_fault (fault_at (step_fault p id source arcs) arcs) i ≡ None → i < p.nodes
walk-short p id source arcs i inst start within none =
    let fine = GoesOn-before p id source arcs i within none in
    pigeonhole (suc i) p.nodes (node_at p source arcs)
    (λ j j_in. node-within p source arcs j inst start (λ m below. fine m (omega arith)))
    (one_to_one (node_at p source arcs) (suc i) (λ j k before k_in. nodes-differ p source arcs i within fine j k before (omega arith)))

-- A path has no fault exactly where it is a simple path of the demand.
pub IsSimplePath-path_fault : (p : Parts) (id : DemandId) (k : Demand) (arcs : List ArcId) → path_fault p id k arcs ≡ None → IsSimplePath p k arcs
unfolding path_fault
IsSimplePath-path_fault p id k arcs h =
    let both = or_else-none (first_in (step_fault p id k.source arcs) arcs) (when (not (node_at p k.source arcs (length arcs) == k.target.0)) (NotAPath id (length arcs))) h in
    let fine = GoesOn-before p id k.source arcs (length arcs) (omega arith) both.0 in
    record {
      are_arcs = λ i within. (fine i within).is_an_arc;
      goes_on = λ i within. (fine i within).leaves;
      no_node_twice = λ i j before within. nodes-differ p k.source arcs (length arcs) (omega arith) fine i j before within;
      ends_at_target = eqb-true _ _ (not-false _ (when-none _ _ both.1));
    }

-- the next node of a simple path is new
is_new-IsSimplePath : (p : Parts) (k : Demand) (arcs : List ArcId) → IsSimplePath p k arcs → (i : ℕ) → i < length arcs → has_met p k.source (take i arcs) (head_of p (arc_at arcs i)) ≡ false
is_new-IsSimplePath p k arcs h i within =
    let test = λ (a : ArcId). is_arc p a && ((head_of p a).0 == (head_of p (arc_at arcs i)).0) in
    or-both_false (k.source.0 == (head_of p (arc_at arcs i)).0) (list_any test (take i arcs))
    (ne_eqb _ _ (h.no_node_twice 0 (suc i) (omega arith) (omega arith)))
    (list_any_none test (take i arcs) (λ j d below.
    let j_in : j < i = omega (arith, below, length-take-le i arcs (omega arith)) in
    let is_j : get_or (take i arcs) j d ≡ arc_at arcs j = get_or-take i arcs j d j_in ∙ get_or_default arcs j d no_arc (omega arith) in
    rw is_j (false-and_of _ _ (ne_eqb _ _ (h.no_node_twice (suc j) (suc i) (omega arith) (omega arith))))))

-- a simple path of the demand has no fault
pub path_fault-IsSimplePath : (p : Parts) (id : DemandId) (k : Demand) (arcs : List ArcId) → IsSimplePath p k arcs → path_fault p id k arcs ≡ None
unfolding path_fault
path_fault-IsSimplePath p id k arcs h =
    none-or_else (first_in (step_fault p id k.source arcs) arcs) _
    (none-first_fault (fault_at (step_fault p id k.source arcs) arcs) (length arcs)
    (λ i within. fault_at-get_or (step_fault p id k.source arcs) arcs i no_arc within ∙ step_fault-GoesOn p id k.source arcs i (record {
      is_an_arc = h.are_arcs i within;
      leaves = h.goes_on i within;
      is_new = is_new-IsSimplePath p k arcs h i within;
    })))
    (none-when (not (node_at p k.source arcs (length arcs) == k.target.0)) (NotAPath id (length arcs)) (not-true _ (eq-eqb _ _ h.ends_at_target)))

node_at-within : (p : Parts) (source : NodeId) (arcs : List ArcId) (i : ℕ) → IsInstance p → source.0 < p.nodes → ((j : ℕ) → j < i → IsTrue (is_arc p (arc_at arcs j))) → node_at p source arcs i < p.nodes
node_at-within p source arcs zero inst start are = start
node_at-within p source arcs (suc i) inst start are = head-within p (arc_at arcs i) inst (are i (omega arith))

-- A simple path has fewer arcs than there are nodes.
pub length-IsSimplePath : (p : Parts) (k : Demand) (arcs : List ArcId) → IsInstance p → k.source.0 < p.nodes → IsSimplePath p k arcs → length arcs < p.nodes
length-IsSimplePath p k arcs inst start h =
    pigeonhole (suc (length arcs)) p.nodes (node_at p k.source arcs)
    (λ j j_in. node_at-within p k.source arcs j inst start (λ i below. h.are_arcs i (omega arith)))
    (one_to_one (node_at p k.source arcs) (suc (length arcs)) (λ j m before m_in. h.no_node_twice j m before (omega arith)))
