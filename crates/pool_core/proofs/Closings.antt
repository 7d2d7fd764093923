-- Where no fault is found, a closing may come, and each answer of a closing is an event.
use Rattle.std.proofs.Common.{◌≡◌, ℕ, ◌<◌, Bool, true, false, not, ◌||◌, List, Option, Some, None, slice_get, refl, sym, ap, subst, ◌∙◌, ℤ, pos, ◌+ℤ◌, ◌<ℤ◌}
use Rattle.std.specs.Prelude.{IsSomeAnd, IfSome, is_some}
use Rattle.plan_base.specs.declared.ids.BranchId.{BranchId}
use Rattle.plan_base.specs.First.{◌or_else◌, when}
use Rattle.plan_base.proofs.Bools.{not-false}
use Rattle.plan_base.proofs.FirstFault.{or_else-none, when-none}
use Rattle.master_step.proofs.Trying.{int_lt-true}
use Rattle.proof_tree.specs.declared.tree.Evidence.TheVariants as evidence
use Rattle.search_machine.specs.declared.answers.NodeState.{NodeState}
use Rattle.search_machine.specs.declared.answers.Closing.{Closing}
use Rattle.search_machine.specs.declared.answers.Closing.TheVariants as closing
use Rattle.branch_tree.specs.declared.node.Fate.{Fate}
use Rattle.branch_tree.specs.declared.node.Fate.TheVariants.{Undone, ClosedBy, DividedBy}
use Rattle.search_machine.specs.State.{Round, Best, Node, State, cutoff_of, state_by, state_in, state_of, kept_by, kept_prices}
use Rattle.search_machine.specs.Changes.{is_spent, is_open_state, bound_in, examined_with}
use Rattle.search_machine.specs.Closing.{reaches, is_closable, closable_in, close_fault, closed_by, ClosesBy, by_crowd, by_bound, Closes, CloseStep}
use Rattle.search_machine.specs.Machine.{Closing_of, to_closing, IsReachable}
use Rattle.search_nodes.specs.Rounds.{proof_of, HasReason}
use Rattle.search_view.specs.Views.{closed_at}
use Rattle.search_nodes.specs.declared.reason.Reason.TheVariants as reason
use Rattle.search_machine.proofs.Runs.{IsReachable-step}
use Rattle.pool_core.proofs.Answering.{is_spent-false}

-- the node is an open leaf, and the budget is not spent
pub record IsOpenLeaf (s : State) (id : BranchId) : Type 0 where
  pub node : Node
  pub is_node : slice_get s.nodes id.0 ≡ Some node
  pub undone : node.fate ≡ Undone

open-undone : (fate : Fate) (round : Option Round) → is_open_state (state_by fate round) ≡ true → fate ≡ Undone
open-undone Undone round h = refl
open-undone (ClosedBy found) round h = absurd (let bad : false ≡ true = h in cc)
open-undone (DividedBy d) round h = absurd (let bad : false ≡ true = h in cc)

open-in : (o : Option Node) → is_open_state (state_in o) ≡ true → (node : Node) × (o ≡ Some node) × (node.fate ≡ Undone)
open-in None h = absurd (let bad : false ≡ true = h in cc)
open-in (Some node) h = (node, refl, open-undone node.fate node.round h)

-- a number in an open state names a node that is neither closed nor divided
pub open_state-leaf : (s : State) (id : BranchId) → is_open_state (state_of s id) ≡ true → IsOpenLeaf s id
open_state-leaf s id h = let w = open-in (slice_get s.nodes id.0) h in record { node = w.0; is_node = w.1; undone = w.2 }

-- the node may be closed by what is recorded
pub record MayClose (s : State) (id : BranchId) : Type 0 where
  pub not_spent : s.examined < s.budget
  pub is_open : is_open_state (state_of s id) ≡ true
  pub node : Node
  pub is_node : slice_get s.nodes id.0 ≡ Some node
  pub undone : node.fate ≡ Undone
  pub closable : is_closable s.unit (cutoff_of s) node ≡ true

closable-at : (unit : ℕ) (cost : Option ℕ) (o : Option Node) (node : Node) → o ≡ Some node → closable_in unit cost o ≡ true → is_closable unit cost node ≡ true
closable-at unit cost o node is h = subst (λ (x : Option Node). closable_in unit cost x ≡ true) is h

-- where no fault is found, the budget is not spent, and the node is an open leaf that is closable
pub close_fault-none : (s : State) (id : BranchId) → close_fault s id ≡ None → MayClose s id
unfolding close_fault
close_fault-none s id h =
    let a = when (is_spent s) (closing.Spent s.examined) in
    let b = when (not (is_open_state (state_of s id))) (closing.NotOpen (state_of s id)) in
    let c = when (not (closable_in s.unit (cutoff_of s) (slice_get s.nodes id.0))) (closing.Weak (bound_in (slice_get s.nodes id.0)) (cutoff_of s)) in
    let one = or_else-none a (b or_else c) h in
    let two = or_else-none b c one.1 in
    let is_open = not-false _ (when-none _ _ two.0) in
    let leaf = open_state-leaf s id is_open in
    record {
      not_spent = is_spent-false s (when-none _ _ one.0);
      is_open = is_open;
      node = leaf.node;
      is_node = leaf.is_node;
      undone = leaf.undone;
      closable = closable-at s.unit (cutoff_of s) (slice_get s.nodes id.0) leaf.node leaf.is_node (not-false _ (when-none _ _ two.1));
    }

-- a fault is a refusal
pub close_fault-refusal : (s : State) (id : BranchId) (refusal : Closing) → close_fault s id ≡ Some refusal → CloseStep s id refusal s
unfolding close_fault
close_fault-refusal s id (closing.Spent x) h = (h, refl)
close_fault-refusal s id (closing.NotOpen x) h = (h, refl)
close_fault-refusal s id (closing.Weak x y) h = (h, refl)
close_fault-refusal s id closing.Closed h =
    absurd (never (is_spent s) (not (is_open_state (state_of s id))) (not (closable_in s.unit (cutoff_of s) (slice_get s.nodes id.0))) s.examined (state_of s id) (bound_in (slice_get s.nodes id.0)) (cutoff_of s) h)
  where
    never : (a b c : Bool) (x : ℕ) (y : NodeState) (z : Option ℤ) (w : Option ℕ) → (when a (closing.Spent x) or_else when b (closing.NotOpen y) or_else when c (closing.Weak z w)) ≡ Some closing.Closed → ⊥
    never true b c x y z w h = cc
    never false true c x y z w h = cc
    never false false true x y z w h = cc
    never false false false x y z w h = cc

reaches-above : (unit : ℕ) (cost : Option ℕ) (best : Best) → reaches unit (Some best) cost ≡ true → IsSomeAnd cost (λ c. pos c <ℤ (best.bound +ℤ pos unit))
reaches-above unit None best h = absurd (let bad : false ≡ true = h in cc)
reaches-above unit (Some cost) best h = int_lt-true (pos cost) (best.bound +ℤ pos unit) h

-- what is recorded of a closable node closes it
pub closable-closes : (unit : ℕ) (cost : Option ℕ) (node : Node) → is_closable unit cost node ≡ true → ClosesBy unit cost node (proof_of node.crowd (kept_prices node))
closable-closes unit cost node h = by_crowd_ node.crowd refl
  where
    by_best : node.crowd ≡ None → (best : Option Best) → node.best ≡ best → reaches unit best cost ≡ true → ClosesBy unit cost node (evidence.Bound (kept_by best node.first_prices))
    by_best none None is reached = absurd (let bad : false ≡ true = reached in cc)
    by_best none (Some best) is reached = by_bound best none is (reaches-above unit cost best reached)

    by_crowd_ : (crowd : Option (List ℕ)) → node.crowd ≡ crowd → ClosesBy unit cost node (proof_of crowd (kept_prices node))
    by_crowd_ (Some prices) is = by_crowd prices is
    by_crowd_ None is =
        let reached : reaches unit node.best cost ≡ true = subst (λ (o : Option (List ℕ)). (is_some o || reaches unit node.best cost) ≡ true) is h in
        by_best is node.best refl reached

-- the closing is the event
pub closes : (s : State) (id : BranchId) (may : MayClose s id) → Closes s id (examined_with s id (closed_by (proof_of may.node.crowd (kept_prices may.node)) may.node))
closes s id may = record {
  not_spent = may.not_spent;
  node = may.node;
  is_node = may.is_node;
  undone = may.undone;
  found = proof_of may.node.crowd (kept_prices may.node);
  closes_by = closable-closes s.unit (cutoff_of s) may.node may.closable;
  becomes = refl;
}

-- the state with the node closed by its crowd proof, or else by its best prices, is reachable
pub closes-reachable : (s : State) (id : BranchId) → IsReachable s → (may : MayClose s id) → IsReachable (examined_with s id (closed_by (proof_of may.node.crowd (kept_prices may.node)) may.node))
closes-reachable s id h may = IsReachable-step s (examined_with s id (closed_by (proof_of may.node.crowd (kept_prices may.node)) may.node)) (Closing_of id) (to_closing closing.Closed) h (closes s id may)

-- a closable node has what closes it
closable-reason : (unit : ℕ) (cost : Option ℕ) (crowd : Option (List ℕ)) (best : Option Best) → (is_some crowd || reaches unit best cost) ≡ true → (is_some crowd || is_some best) ≡ true
closable-reason unit cost (Some prices) best h = refl
closable-reason unit cost None None h = absurd (let bad : false ≡ true = h in cc)
closable-reason unit cost None (Some best) h = refl

-- a node that may be closed has a crowd proof or a recorded bound
pub has_reason : (s : State) (id : BranchId) → MayClose s id → IfSome (slice_get s.nodes id.0) (λ x. HasReason x reason.Recorded)
has_reason s id may =
    subst (λ (o : Option Node). IfSome o (λ x. HasReason x reason.Recorded)) (sym may.is_node) (closable-reason s.unit (cutoff_of s) may.node.crowd may.node.best may.closable)

-- the state with the node closed by what is recorded of it is reachable
pub closed-reachable : (s : State) (id : BranchId) → IsReachable s → MayClose s id → IsReachable (closed_at s id reason.Recorded (slice_get s.nodes id.0))
closed-reachable s id h may = subst (λ (o : Option Node). IsReachable (closed_at s id reason.Recorded o)) (sym may.is_node) (closes-reachable s id h may)

-- the state with the node closed by what is recorded of it is that of a closing that is answered as closed
pub closed-step : (s : State) (id : BranchId) → MayClose s id → (t : State) → t ≡ closed_at s id reason.Recorded (slice_get s.nodes id.0) → CloseStep s id closing.Closed t
closed-step s id may t is = subst (Closes s id) (sym (is ∙ ap (closed_at s id reason.Recorded) may.is_node)) (closes s id may)
