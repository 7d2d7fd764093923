-- When a call would not be refused, and what is left where no node is next.
use Rattle.std.proofs.Common.{◌≡◌, ℕ, ◌+◌, ◌*◌, ◌<◌, ◌≤◌, Bool, true, false, not, ◌&&◌, ◌||◌, ◌==◌, List, length, get_or, Option, Some, None, slice_get, refl, sym, ap, subst, ◌∙◌, arith}
use Rattle.std.specs.Prelude.{nat_eq, nat_lt, nat_le, is_some, option_and_then, IsSome, if◌then◌else◌}
use Rattle.std.proofs.lemmas.Bool.{eqb-true, eqb-false}
use Rattle.std.proofs.lemmas.Bool.Decides.{nat_tests}
use Rattle.std.proofs.lemmas.List.Sums.{sum_by-le}
use Rattle.std.proofs.lemmas.Option.{slice_get-get_or}
use Rattle.plan_base.specs.declared.ids.BranchId.{BranchId}
use Rattle.plan_base.specs.declared.ids.DemandId.{DemandId}
use Rattle.plan_base.specs.declared.parts.Parts.{Parts}
use Rattle.plan_base.specs.Faults.{demand_id}
use Rattle.plan_base.specs.First.{fault_at, first_in}
use Rattle.plan_base.proofs.Bools.{not-true}
use Rattle.plan_base.proofs.FirstFault.{none-or_else, none-when, IsFirst-first_fault}
use Rattle.proof_tree.specs.declared.cuts.Cut.{Cut}
use Rattle.search_machine.specs.declared.answers.NodeState.{NodeState}
use Rattle.search_machine.specs.declared.answers.NodeState.TheVariants as state
use Rattle.search_machine.specs.declared.answers.RoundFault.TheVariants as round_fault
use Rattle.search_machine.specs.declared.answers.Closing.TheVariants as closing
use Rattle.search_machine.specs.declared.answers.ExamineFault.TheVariants as examine_fault
use Rattle.search_machine.specs.declared.limits.TheConstants.{MAX_ROUNDS, MAX_VERSIONS}
use Rattle.search_machine.specs.declared.tree.Found.{Found}
use Rattle.search_machine.specs.declared.tree.HeldCut.{HeldCut}
use Rattle.branch_tree.specs.declared.node.Fate.{Fate}
use Rattle.branch_tree.specs.declared.node.Fate.TheVariants.{Undone, ClosedBy, DividedBy}
use Rattle.search_machine.specs.State.{Round, Node, State, cutoff_of, left_of, rounds_by, rounds_in, active_count, state_by, state_in, state_of, round_of}
use Rattle.search_machine.specs.Changes.{is_spent, is_open_state, has_cut, gap_at, bound_in}
use Rattle.search_machine.specs.Opening.{is_waiting, open_fault}
use Rattle.search_machine.specs.Closing.{is_closable, closable_in, close_fault}
use Rattle.search_machine.specs.Readiness.{bound_or_zero, ready_fault, examine_refusal}
use Rattle.search_machine.specs.Nodes.{IsSoundNode}
use Rattle.search_machine.specs.Soundness.{IsSound}
use Rattle.search_machine.specs.PlanOf.{open_by, open_count, is_done}
use Rattle.search_machine.specs.Tasks.{IsToPrice, IsToAdvance}
use Rattle.search_view.specs.Work.{is_next_in, is_next, may_go_on_in}
use Rattle.search_view.proofs.Answering.{first_gap-none}
use Rattle.search_machine.proofs.Enough.{all_nodes}
use Rattle.search_machine.proofs.Replacing.{node_at}

-- Tests

-- a budget that is above the count of examined nodes is not spent
pub spent-false : (s : State) → s.examined < s.budget → is_spent s ≡ false
spent-false s h = grind (arith, nat_tests)

-- the test for less is true of a number that is less
pub lt-test : (a b : ℕ) → a < b → nat_lt a b ≡ true
lt-test a b h = grind (arith, nat_tests)

-- a number of which the test for less is true is less
pub test-lt : (a b : ℕ) → nat_lt a b ≡ true → a < b
test-lt a b h = grind (arith, nat_tests)

le-test : (a b : ℕ) → b < a → nat_le a b ≡ false
le-test a b h = grind (arith, nat_tests)

-- the test for 0 is false of a number above 0
pub eq-zero-test : (a : ℕ) → 0 < a → (a == 0) ≡ false
eq-zero-test a h = grind (arith, nat_tests)

same-zero_test : (n e o : ℕ) → e + o ≡ n → nat_eq n e ≡ (o == 0)
same-zero_test n e o h = by (nat_eq n e) (o == 0) refl refl
  where
    by : (a b : Bool) → nat_eq n e ≡ a → (o == 0) ≡ b → nat_eq n e ≡ (o == 0)
    by true true x y = x ∙ sym y
    by false false x y = x ∙ sym y
    by true false x y = absurd (let same : n ≡ e = eqb-true n e x in let zero_left : o ≡ 0 = omega arith in eqb-false o 0 y zero_left)
    by false true x y = absurd (let zero_left : o ≡ 0 = eqb-true o 0 y in let same : n ≡ e = omega arith in eqb-false n e x same)

zero-test : (a : ℕ) → a ≤ 0 → (a == 0) ≡ true
zero-test a h = grind (arith, nat_tests)

or-right : (a b : Bool) → b ≡ true → (a || b) ≡ true
or-right true b h = refl
or-right false b h = h

-- Done

-- the nodes that are not examined are the open leaves
pub done-count : (s : State) → IsSound s → (s.examined == s.budget) ≡ false → nat_eq (length s.nodes) s.examined ≡ is_done s
done-count s h unspent =
    let total : s.examined + open_count s ≡ length s.nodes = (let all = all_nodes s.nodes in let e = h.counts.examined in omega arith) in
    same-zero_test (length s.nodes) s.examined (open_count s) total ∙ sym (ap (λ (b : Bool). b || (open_count s == 0)) unspent)

first-false : (a b : Bool) → (a || b) ≡ false → a ≡ false
first-false true b h = absurd (let bad : true ≡ false = h in cc)
first-false false b h = refl

below : (e b : ℕ) → (e == b) ≡ false → e ≤ b → e < b
below e b h le = grind (arith, nat_tests)

-- a sound state that is not done has budget left
pub not_done-unspent : (s : State) → IsSound s → is_done s ≡ false → s.examined < s.budget
not_done-unspent s h not_done = below s.examined s.budget (first-false (s.examined == s.budget) (open_count s == 0) not_done) h.counts.within_budget

-- only an open leaf has a round
pub round-undone : (p : Parts) (cuts : List Cut) (node : Node) (r : Round) → IsSoundNode p cuts node → node.round ≡ Some r → node.fate ≡ Undone
round-undone p cuts node r h is = let in_round = rw is at (h.round) in in_round.0

-- a node with a round is next
round-next : (p : Parts) (cuts : List Cut) (room : Bool) (node : Node) (r : Round) → IsSoundNode p cuts node → node.round ≡ Some r → is_next_in room (state_by node.fate node.round) ≡ true
round-next p cuts room node r h is =
    ap (λ (f : Fate). is_next_in room (state_by f node.round)) (round-undone p cuts node r h is)
    ∙ ap (λ (o : Option Round). is_next_in room (state_by Undone o)) is

idle : (p : Parts) (cuts : List Cut) (room : Bool) (node : Node) → IsSoundNode p cuts node → is_next_in room (state_by node.fate node.round) ≡ false → rounds_by node.round ≤ 0
idle p cuts room node h not_next = by node.round refl
  where
    by : (o : Option Round) → node.round ≡ o → rounds_by node.round ≤ 0
    by None is = subst (λ (o : Option Round). rounds_by o ≤ 0) (sym is) (omega arith)
    by (Some r) is = absurd (let bad : true ≡ false = sym (round-next p cuts room node r h is) ∙ not_next in cc)

not_next-closed : (fate : Fate) (round : Option Round) → is_next_in true (state_by fate round) ≡ false → open_by fate ≤ 0
not_next-closed Undone None h = absurd (let bad : true ≡ false = h in cc)
not_next-closed Undone (Some r) h = absurd (let bad : true ≡ false = h in cc)
not_next-closed (ClosedBy found) round h = omega arith
not_next-closed (DividedBy d) round h = omega arith

-- the number as the name of a node
abbrev pub branch_id : ℕ → BranchId
branch_id n = record { 0 = n }

-- where no node is next, all is done
pub none_next-done : (s : State) → IsSound s → ((n : ℕ) → n < length s.nodes → is_next s (branch_id n) ≡ false) → is_done s ≡ true
none_next-done s h none = or-right (s.examined == s.budget) (open_count s == 0) (zero-test (open_count s) (omega (arith, all_closed)))
  where
    at : (k : ℕ) (d : Node) → k < length s.nodes → is_next_in (nat_lt (active_count s) MAX_ROUNDS) (state_by (get_or s.nodes k d).fate (get_or s.nodes k d).round) ≡ false
    at k d within = sym (ap (λ (o : Option Node). is_next_in (nat_lt (active_count s) MAX_ROUNDS) (state_in o)) (slice_get-get_or s.nodes k d within)) ∙ none k within

    no_rounds : active_count s ≤ length s.nodes * 0
    no_rounds = sum_by-le rounds_in 0 s.nodes (λ k d within. idle s.problem s.cuts (nat_lt (active_count s) MAX_ROUNDS) (get_or s.nodes k d) (h.nodes k d within) (at k d within))

    room : nat_lt (active_count s) MAX_ROUNDS ≡ true
    room = lt-test (active_count s) MAX_ROUNDS (omega (arith, no_rounds))

    all_closed : open_count s ≤ length s.nodes * 0
    all_closed = sum_by-le (λ (node : Node). open_by node.fate) 0 s.nodes
        (λ k d within. not_next-closed (get_or s.nodes k d).fate (get_or s.nodes k d).round
        (sym (ap (λ (b : Bool). is_next_in b (state_by (get_or s.nodes k d).fate (get_or s.nodes k d).round)) room) ∙ at k d within))

-- Openings

-- a node that is next and has no round waits, and a slot is free
pub record MayEnter (s : State) (id : BranchId) : Type 0 where
  pub waits : state_of s id ≡ state.Waiting
  pub room : active_count s < MAX_ROUNDS

-- with budget left, an opening of a node that waits while a slot is free is not refused
pub none-open_fault : (s : State) (id : BranchId) → s.examined < s.budget → MayEnter s id → open_fault s id ≡ None
unfolding open_fault
none-open_fault s id unspent may =
    none-or_else _ _ (none-when _ (round_fault.Spent s.examined) (spent-false s unspent))
    (none-or_else _ _ (none-when _ (round_fault.NotOpen (state_of s id)) (not-true _ (ap is_waiting may.waits)))
    (none-when _ (round_fault.Crowded (active_count s)) (le-test MAX_ROUNDS (active_count s) may.room)))

-- Calls on a node with a round

-- the node of this number has this round, and the budget is not spent
pub record HasRound (s : State) (id : BranchId) : Type 0 where
  pub node : Node
  pub round : Round
  pub is_node : slice_get s.nodes id.0 ≡ Some node
  pub is_round : node.round ≡ Some round

has-round_by : (node : Node) (o : Option Round) → node.round ≡ o → IsSome o → (r : Round) × (node.round ≡ Some r)
has-round_by node None is some = absurd (let bad : false ≡ true = some in cc)
has-round_by node (Some r) is some = (r, is)

has-round_in : (o : Option Node) → IsSome (option_and_then (λ (node : Node). node.round) o) → (node : Node) × (r : Round) × (o ≡ Some node) × (node.round ≡ Some r)
has-round_in None some = absurd (let bad : false ≡ true = some in cc)
has-round_in (Some node) some = let w = has-round_by node node.round refl some in (node, w.0, refl, w.1)

-- where a round is read of a number, there is a node with a round
pub has-round : (s : State) (id : BranchId) → IsSome (round_of s id) → HasRound s id
has-round s id some = let w = has-round_in (slice_get s.nodes id.0) some in record { node = w.0; round = w.1; is_node = w.2; is_round = w.3 }

-- the round read of a node with a round is this one
pub round_of-has : (s : State) (id : BranchId) (h : HasRound s id) → round_of s id ≡ Some h.round
round_of-has s id h = ap (option_and_then (λ (node : Node). node.round)) h.is_node ∙ h.is_round

active-some_by : (fate : Fate) (round : Option Round) → state_by fate round ≡ state.Active → is_some round ≡ true
active-some_by Undone None h = absurd (let bad : state.Waiting ≡ state.Active = h in cc)
active-some_by Undone (Some r) h = refl
active-some_by (ClosedBy found) round h = absurd (let bad : state.Closed ≡ state.Active = h in cc)
active-some_by (DividedBy d) round h = absurd (let bad : state.Divided ≡ state.Active = h in cc)

active-some_in : (o : Option Node) → state_in o ≡ state.Active → is_some (option_and_then (λ (node : Node). node.round) o) ≡ true
active-some_in None h = absurd (let bad : state.Unknown ≡ state.Active = h in cc)
active-some_in (Some node) h = active-some_by node.fate node.round h

-- an active node has a round
pub active-some : (s : State) (id : BranchId) → state_of s id ≡ state.Active → IsSome (round_of s id)
active-some s id h = active-some_in (slice_get s.nodes id.0) h

-- in a sound state, a node with a round is neither closed nor divided
pub has-undone : (s : State) (id : BranchId) → IsSound s → (h : HasRound s id) → h.node.fate ≡ Undone
has-undone s id sound h = round-undone s.problem s.cuts h.node h.round (node_at s id.0 h.node sound h.is_node) h.is_round

-- in a sound state, a node with a round is an open leaf
pub has-open : (s : State) (id : BranchId) → IsSound s → HasRound s id → is_open_state (state_of s id) ≡ true
has-open s id sound h =
    ap (λ (o : Option Node). is_open_state (state_in o)) h.is_node
    ∙ ap (λ (f : Fate). is_open_state (state_by f h.node.round)) (has-undone s id sound h)
    ∙ ap (λ (o : Option Round). is_open_state (state_by Undone o)) h.is_round

-- a closing is not refused
pub none-close_fault : (s : State) (id : BranchId) → IsSound s → s.examined < s.budget → HasRound s id → closable_in s.unit (cutoff_of s) (slice_get s.nodes id.0) ≡ true → close_fault s id ≡ None
unfolding close_fault
none-close_fault s id sound unspent h closable =
    none-or_else _ _ (none-when _ (closing.Spent s.examined) (spent-false s unspent))
    (none-or_else _ _ (none-when _ (closing.NotOpen (state_of s id)) (not-true _ (has-open s id sound h)))
    (none-when _ (closing.Weak (bound_in (slice_get s.nodes id.0)) (cutoff_of s)) (not-true _ closable)))

choice : {A : Type 0} (b : Bool) (x y : A) → b ≡ true → (if b then x else y) ≡ x
choice true x y h = refl
choice false x y h = absurd (let bad : false ≡ true = h in cc)

other_choice : {A : Type 0} (b : Bool) (x y : A) → b ≡ false → (if b then x else y) ≡ y
other_choice true x y h = absurd (let bad : true ≡ false = h in cc)
other_choice false x y h = refl

-- an examination of a node with a cut is not refused
pub none-examine_cut : (s : State) (id : BranchId) → IsSound s → s.examined < s.budget → HasRound s id → has_cut (slice_get s.nodes id.0) ≡ true → examine_refusal s id ≡ None
unfolding examine_refusal
none-examine_cut s id sound unspent h cut =
    none-or_else _ _ (none-when _ (examine_fault.Spent s.examined) (spent-false s unspent))
    (none-or_else _ _ (none-when _ (examine_fault.NotOpen (state_of s id)) (not-true _ (has-open s id sound h)))
    (choice _ None (ready_fault s (slice_get s.nodes id.0)) cut))

ready_fault-none : (s : State) (node : Node) → 0 < node.completed → is_closable s.unit (cutoff_of s) node ≡ false → may_go_on_in (Some node) ≡ false → ready_fault s (Some node) ≡ None
ready_fault-none s node priced not_closable goes_on =
    none-or_else _ _ (none-when _ examine_fault.Unpriced (eq-zero-test node.completed priced))
    (none-or_else _ _ (none-when _ (examine_fault.Closable (bound_or_zero (bound_in (Some node))) (cutoff_of s)) not_closable)
    (none-when _ (examine_fault.Unsettled node.completed) goes_on))

-- nor is one of a node that is priced, not closable, and settled or out of versions
pub none-examine_ready : (s : State) (id : BranchId) → IsSound s → s.examined < s.budget → (h : HasRound s id) → has_cut (slice_get s.nodes id.0) ≡ false
    → 0 < h.node.completed → is_closable s.unit (cutoff_of s) h.node ≡ false → may_go_on_in (Some h.node) ≡ false → examine_refusal s id ≡ None
unfolding examine_refusal
none-examine_ready s id sound unspent h cut priced not_closable goes_on =
    none-or_else _ _ (none-when _ (examine_fault.Spent s.examined) (spent-false s unspent))
    (none-or_else _ _ (none-when _ (examine_fault.NotOpen (state_of s id)) (not-true _ (has-open s id sound h)))
    (other_choice _ None (ready_fault s (slice_get s.nodes id.0)) cut ∙ ap (ready_fault s) h.is_node ∙ ready_fault-none s h.node priced not_closable goes_on))

-- where all is priced, a version was complete
pub complete-counted : (s : State) (id : BranchId) → IsSound s → (h : HasRound s id) → left_of h.round ≡ 0 → 0 < h.node.completed
complete-counted s id sound h complete =
    let versions = rw h.is_round at ((node_at s id.0 h.node sound h.is_node).versions) in
    versions.some_complete complete

-- Gaps

gap-some_at : (place : ℕ) (k : DemandId) (o : Option (Option Found)) → option_and_then (gap_at place) o ≡ Some k → (o ≡ Some None) × (k.0 ≡ place)
gap-some_at place k None h = absurd (let bad : ◌≡◌ {A = Option DemandId} None (Some k) = h in cc)
gap-some_at place k (Some None) h =
    let e : Some (demand_id place) ≡ Some k = h in
    let same : demand_id place ≡ k = cc in
    (refl, sym (ap (λ (d : DemandId). d.0) same))
gap-some_at place k (Some (Some found)) h = absurd (let bad : ◌≡◌ {A = Option DemandId} None (Some k) = h in cc)

-- the first gap is one
pub first_gap-some : (round : Round) (k : DemandId) → first_in gap_at round.found ≡ Some k → slice_get round.found k.0 ≡ Some None
first_gap-some round k h =
    let first = IsFirst-first_fault (fault_at gap_at round.found) (length round.found) k h in
    let at = gap-some_at first.place k (slice_get round.found first.place) first.found in
    ap (slice_get round.found) at.1 ∙ at.0

-- Tasks of a node with a round

cut-none : (o : Option Node) (node : Node) → o ≡ Some node → has_cut o ≡ false → node.cut ≡ None
cut-none o node is h = by node.cut (sym (ap has_cut is) ∙ h)
  where
    by : (cut : Option HeldCut) → is_some cut ≡ false → cut ≡ None
    by None e = refl
    by (Some cut) e = absurd (let bad : true ≡ false = e in cc)

-- the node whose round was read
pub record HasReadRound (s : State) (id : BranchId) (round : Round) : Type 0 where
  pub node : Node
  pub is_node : slice_get s.nodes id.0 ≡ Some node
  pub is_round : node.round ≡ Some round

-- the round that is read of a number is the round of the node there
pub has-read : (s : State) (id : BranchId) (round : Round) → Some round ≡ round_of s id → HasReadRound s id round
has-read s id round is =
    let h = has-round s id (ap is_some (sym is)) in
    record { node = h.node; is_node = h.is_node; is_round = h.is_round ∙ sym (round_of-has s id h) ∙ sym is }

-- the node whose round was read, with that round
abbrev pub with_read : (s : State) (id : BranchId) (round : Round) → HasReadRound s id round → HasRound s id
with_read s id round h = record { node = h.node; round = round; is_node = h.is_node; is_round = h.is_round }

-- with budget left and no cut, the first demand that the read round has not priced is one to price
pub to-price : (s : State) (id : BranchId) (round : Round) (slot version : ℕ) (k : DemandId) → s.examined < s.budget → Some round ≡ round_of s id → has_cut (slice_get s.nodes id.0) ≡ false
    → slot ≡ round.slot → version ≡ round.version → first_in gap_at round.found ≡ Some k → IsToPrice s id slot version k
to-price s id round slot version k unspent is cut same_slot same_version gap =
    let h = has-read s id round is in
    record {
      not_spent = unspent;
      node = h.node;
      round = round;
      active = record { is_node = h.is_node; is_round = h.is_round; slot_is = sym same_slot; version_is = sym same_version };
      not_priced = first_gap-some round k gap;
      no_cut = cut-none (slice_get s.nodes id.0) h.node h.is_node cut;
    }

and-both : (a b : Bool) → (a && b) ≡ true → (a ≡ true) × (b ≡ true)
and-both true b h = (refl, h)
and-both false b h = absurd (let bad : false ≡ true = h in cc)

not-false_of : (a : Bool) → not a ≡ true → a ≡ false
not-false_of true h = absurd (let bad : false ≡ true = h in cc)
not-false_of false h = refl

-- with budget left, a complete version of a node that is not closable and may go on is one to advance
pub to-advance : (s : State) (id : BranchId) (round : Round) (version : ℕ) → s.examined < s.budget → Some round ≡ round_of s id → closable_in s.unit (cutoff_of s) (slice_get s.nodes id.0) ≡ false
    → version ≡ round.version → first_in gap_at round.found ≡ None → may_go_on_in (slice_get s.nodes id.0) ≡ true → IsToAdvance s id version
to-advance s id round version unspent is not_closable same_version no_gap goes_on =
    let h = has-read s id round is in
    let both = and-both (not h.node.settled) (nat_lt h.node.completed MAX_VERSIONS) (sym (ap may_go_on_in h.is_node) ∙ goes_on) in
    record {
      not_spent = unspent;
      node = h.node;
      round = round;
      active = record { is_node = h.is_node; is_round = h.is_round; slot_is = refl; version_is = sym same_version };
      complete = first_gap-none round no_gap;
      not_settled = not-false_of h.node.settled both.0;
      room = test-lt h.node.completed MAX_VERSIONS both.1;
      not_closable = sym (ap (closable_in s.unit (cutoff_of s)) h.is_node) ∙ not_closable;
    }

-- with budget left, a node with a complete round, no cut, not closable and not to go on may be examined
pub to-examine : (s : State) (id : BranchId) (round : Round) → IsSound s → s.examined < s.budget → Some round ≡ round_of s id → has_cut (slice_get s.nodes id.0) ≡ false
    → closable_in s.unit (cutoff_of s) (slice_get s.nodes id.0) ≡ false → first_in gap_at round.found ≡ None → may_go_on_in (slice_get s.nodes id.0) ≡ false → examine_refusal s id ≡ None
to-examine s id round sound unspent is cut not_closable no_gap goes_on =
    let h = with_read s id round (has-read s id round is) in
    none-examine_ready s id sound unspent h cut (complete-counted s id sound h (first_gap-none round no_gap))
    (sym (ap (closable_in s.unit (cutoff_of s)) h.is_node) ∙ not_closable) (sym (ap may_go_on_in h.is_node) ∙ goes_on)

-- an open leaf that is next and not active may be entered
pub next-opens : (s : State) (id : BranchId) → s.examined < s.budget → is_next s id ≡ true → (state_of s id ≡ state.Active → ⊥) → open_fault s id ≡ None
next-opens s id unspent next idle = none-open_fault s id unspent (by (state_of s id) refl next)
  where
    by : (x : NodeState) → state_of s id ≡ x → is_next_in (nat_lt (active_count s) MAX_ROUNDS) x ≡ true → MayEnter s id
    by state.Active is h = absurd (idle is)
    by state.Waiting is h = record { waits = is; room = test-lt (active_count s) MAX_ROUNDS h }
    by state.Unknown is h = absurd (let bad : false ≡ true = h in cc)
    by state.Closed is h = absurd (let bad : false ≡ true = h in cc)
    by state.Divided is h = absurd (let bad : false ≡ true = h in cc)
