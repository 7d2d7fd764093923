-- Where no fault is found, an examination may come.
use Rattle.std.proofs.Common.{◌≡◌, ℕ, ◌<◌, ◌≤◌, ◌⊎◌, inl, inr, Bool, true, false, not, ◌&&◌, ◌==◌, Option, Some, None, slice_get, refl, sym, ap, subst, ◌∙◌, arith}
use Rattle.std.specs.Prelude.{IfSome, is_some, nat_lt, if◌then◌else◌, Ok, Err}
use Rattle.std.proofs.lemmas.Bool.{ltb-false}
use Rattle.std.proofs.lemmas.Bool.Decides.{nat_tests}
use Rattle.plan_base.specs.declared.ids.BranchId.{BranchId}
use Rattle.plan_base.specs.First.{◌or_else◌, when}
use Rattle.plan_base.proofs.Bools.{not-false}
use Rattle.plan_base.proofs.FirstFault.{or_else-none, when-none}
use Rattle.proof_tree.specs.declared.tree.Evidence.{Evidence}
use Rattle.search_machine.specs.declared.limits.TheConstants.{MAX_VERSIONS}
use Rattle.search_machine.specs.declared.answers.ExamineFault.{ExamineFault}
use Rattle.search_machine.specs.declared.answers.ExamineFault.TheVariants as examine_fault
use Rattle.search_machine.specs.declared.answers.Examined.TheVariants as examined
use Rattle.search_nodes.specs.declared.reason.Reason.TheVariants as reason
use Rattle.search_machine.specs.declared.tree.HeldCut.{HeldCut}
use Rattle.branch_tree.specs.declared.node.Fate.{Fate}
use Rattle.branch_tree.specs.declared.node.Fate.TheVariants.{Undone}
use Rattle.search_machine.specs.State.{Round, Node, State, cutoff_of, state_by, state_in, state_of}
use Rattle.search_machine.specs.Changes.{is_spent, is_open_state, has_cut, bound_in, examined_with}
use Rattle.search_machine.specs.Closing.{is_closable, closed_by}
use Rattle.search_machine.specs.Readiness.{bound_or_zero, ready_fault, examine_refusal, IsExamined, IsReady}
use Rattle.search_machine.specs.Examining.{ClosesByCut, ExamineStep}
use Rattle.search_machine.specs.Machine.{Examining, to_examining, IsReachable}
use Rattle.search_view.specs.Views.{closed_at}
use Rattle.search_nodes.specs.Rounds.{cut_proof, HasReason}
use Rattle.search_view.specs.Examining.{IsReadyAt}
use Rattle.search_machine.proofs.Runs.{IsReachable-step}
use Rattle.pool_core.proofs.Answering.{is_spent-false}
use Rattle.pool_core.proofs.Closings.{open_state-leaf}

-- the node is an open leaf and the budget is not spent
pub record MayExamine (s : State) (id : BranchId) : Type 0 where
  pub is_open : is_open_state (state_of s id) ≡ true
  pub node : Node
  pub open_node : IsExamined s id node
  pub rest : (if has_cut (slice_get s.nodes id.0) then None else ready_fault s (slice_get s.nodes id.0)) ≡ None

-- where no refusal is found, the budget is not spent, and the node is an open leaf that may be examined
pub examine_refusal-none : (s : State) (id : BranchId) → examine_refusal s id ≡ None → MayExamine s id
unfolding examine_refusal
examine_refusal-none s id h =
    let a = when (is_spent s) (examine_fault.Spent s.examined) in
    let b = when (not (is_open_state (state_of s id))) (examine_fault.NotOpen (state_of s id)) in
    let c : Option ExamineFault = if has_cut (slice_get s.nodes id.0) then None else ready_fault s (slice_get s.nodes id.0) in
    let one = or_else-none a (b or_else c) h in
    let two = or_else-none b c one.1 in
    let is_open = not-false _ (when-none _ _ two.0) in
    let leaf = open_state-leaf s id is_open in
    record {
      is_open = is_open;
      node = leaf.node;
      open_node = record { not_spent = is_spent-false s (when-none _ _ one.0); is_node = leaf.is_node; undone = leaf.undone };
      rest = two.1;
    }

-- a fault is a refusal
pub examine_refusal-refusal : (s : State) (id : BranchId) (refusal : ExamineFault) → examine_refusal s id ≡ Some refusal → ExamineStep s id (Err refusal) s
examine_refusal-refusal s id (examine_fault.Spent x) h = (h, refl)
examine_refusal-refusal s id (examine_fault.NotOpen x) h = (h, refl)
examine_refusal-refusal s id examine_fault.Unpriced h = (h, refl)
examine_refusal-refusal s id (examine_fault.Closable x y) h = (h, refl)
examine_refusal-refusal s id (examine_fault.Unsettled x) h = (h, refl)
examine_refusal-refusal s id examine_fault.OutOfMemory h = refl

-- Cuts

cut-there : (cut : Option HeldCut) → is_some cut ≡ true → (held : HeldCut) × (cut ≡ Some held)
cut-there None h = absurd (let bad : false ≡ true = h in cc)
cut-there (Some held) h = (held, refl)

cut-none : (cut : Option HeldCut) → is_some cut ≡ false → cut ≡ None
cut-none None h = refl
cut-none (Some held) h = absurd (let bad : true ≡ false = h in cc)

cut-at : (o : Option Node) (node : Node) (b : Bool) → o ≡ Some node → has_cut o ≡ b → is_some node.cut ≡ b
cut-at o node b is h = subst (λ (x : Option Node). has_cut x ≡ b) is h

module _ (s : State) (id : BranchId) (may : MayExamine s id) (cut : has_cut (slice_get s.nodes id.0) ≡ true) where
  held : (held : HeldCut) × (may.node.cut ≡ Some held)
  held = cut-there may.node.cut (cut-at (slice_get s.nodes id.0) may.node true may.open_node.is_node cut)

  -- a node that holds a cut has what a closing by its cut needs
  pub cut-reason : IfSome (slice_get s.nodes id.0) (λ x. HasReason x reason.HeldCut)
  cut-reason = subst (λ (o : Option Node). IfSome o (λ x. HasReason x reason.HeldCut)) (sym may.open_node.is_node) (cut-at (slice_get s.nodes id.0) may.node true may.open_node.is_node cut)

  -- to close the node by the cut that it holds is the event
  pub cut-closes : ClosesByCut s id (closed_at s id reason.HeldCut (slice_get s.nodes id.0))
  cut-closes = record {
    node = may.node;
    open_node = may.open_node;
    cut = held.0;
    is_cut = held.1;
    becomes = ap (closed_at s id reason.HeldCut) may.open_node.is_node ∙ ap (λ (o : Option HeldCut). examined_with s id (closed_by (cut_proof o) may.node)) held.1;
  }

  -- the state with the node closed by the cut that it holds is reachable
  pub cut-reachable : IsReachable s → IsReachable (closed_at s id reason.HeldCut (slice_get s.nodes id.0))
  cut-reachable h = IsReachable-step s (closed_at s id reason.HeldCut (slice_get s.nodes id.0)) (Examining id) (to_examining (Ok examined.Cut)) h cut-closes

-- Nodes without a cut

settled-cases : (settled : Bool) (completed : ℕ) → (not settled && nat_lt completed MAX_VERSIONS) ≡ false → (settled ≡ true) ⊎ (MAX_VERSIONS ≤ completed)
settled-cases true completed h = inl refl
settled-cases false completed h = inr (ltb-false completed MAX_VERSIONS h)

some-completed : (completed : ℕ) → (completed == 0) ≡ false → 0 < completed
some-completed completed h = grind (arith, nat_tests)

ready-node : (s : State) (id : BranchId) (node : Node) → IsExamined s id node → node.cut ≡ None → ready_fault s (Some node) ≡ None → IsReady s id node
ready-node s id node open_node none h =
    let a = when (node.completed == 0) examine_fault.Unpriced in
    let b = when (is_closable s.unit (cutoff_of s) node) (examine_fault.Closable (bound_or_zero (bound_in (Some node))) (cutoff_of s)) in
    let c = when (not node.settled && nat_lt node.completed MAX_VERSIONS) (examine_fault.Unsettled node.completed) in
    let one = or_else-none a (b or_else c) h in
    let two = or_else-none b c one.1 in
    record {
      open_node = open_node;
      no_cut = none;
      priced = some-completed node.completed (when-none _ _ one.0);
      not_closable = when-none _ _ two.0;
      settled = settled-cases node.settled node.completed (when-none _ _ two.1);
    }

-- a node without a cut that may be examined is priced, not closable, and settled or out of versions
pub ready-at : (s : State) (id : BranchId) → MayExamine s id → has_cut (slice_get s.nodes id.0) ≡ false → IsReadyAt s id
ready-at s id may none =
    let no_cut = cut-none may.node.cut (cut-at (slice_get s.nodes id.0) may.node false may.open_node.is_node none) in
    let rest : ready_fault s (slice_get s.nodes id.0) ≡ None = subst (λ (b : Bool). (if b then None else ready_fault s (slice_get s.nodes id.0)) ≡ None) none may.rest in
    record { node = may.node; ready = ready-node s id may.node may.open_node no_cut (subst (λ (o : Option Node). ready_fault s o ≡ None) may.open_node.is_node rest) }

-- to close the node that is there for shown evidence is to close it by this evidence
pub shown-closed : (s : State) (id : BranchId) (node : Node) (found : Evidence) → slice_get s.nodes id.0 ≡ Some node
    → closed_at s id (reason.Shown found) (slice_get s.nodes id.0) ≡ examined_with s id (closed_by found node)
shown-closed s id node found is = ap (closed_at s id (reason.Shown found)) is

-- a node that is open to an examination is in an open state
pub open-at : (s : State) (id : BranchId) (node : Node) → IsExamined s id node → is_open_state (state_of s id) ≡ true
open-at s id node h = subst (λ (o : Option Node). is_open_state (state_in o) ≡ true) (sym h.is_node) (undone-open node.fate node.round h.undone)
  where
    undone-open : (fate : Fate) (round : Option Round) → fate ≡ Undone → is_open_state (state_by fate round) ≡ true
    undone-open fate None is = subst (λ (f : Fate). is_open_state (state_by f None) ≡ true) (sym is) refl
    undone-open fate (Some round) is = subst (λ (f : Fate). is_open_state (state_by f (Some round)) ≡ true) (sym is) refl
