-- What a settling says: a step gains, or the node may be settled.
use Rattle.std.proofs.Common.{◌≡◌, ℕ, Bool, false, List, Some, slice_get, sym, ap, subst, ◌∙◌}
use Rattle.std.specs.Prelude.{ℤ}
use Rattle.plan_base.specs.declared.ids.BranchId.{BranchId}
use Rattle.master_step.specs.Restricted.{IsRestrictedValue}
use Rattle.master_step.specs.Outcomes.{IsGain, HasGain}
use Rattle.master_step.proofs.Uniqueness.{value-unique}
use Rattle.search_machine.specs.State.{Round, Node, State, ranges_of, round_of}
use Rattle.search_machine.specs.Gathering.{columns_for, has_enough}
use Rattle.search_machine.specs.Settling.{IsImprovable}
use Rattle.search_view.specs.Work.{enough_in}
use Rattle.search_view.specs.Valuing.{IsGatheredAt, ForRound}
use Rattle.pool_core.specs.Valuing.{HasNoMore, IsToSettle}
use Rattle.pool_core.proofs.Answering.{HasGathered}
use Rattle.search_view.proofs.Valuing.{same-round}

-- a node with a gathered round of this version has a gathered round
pub to-gathered : (s : State) (id : BranchId) (version : ℕ) → HasGathered s id version → IsGatheredAt s id
to-gathered s id version g = record { version = version; node = g.node; round = g.round; is_gathered = g.is_gathered }

-- a node with a gathered round may be settled where it has had enough versions, or no step gains
pub to-settle : (s : State) (id : BranchId) (version : ℕ) → HasGathered s id version → ForRound s id (HasNoMore s) → IsToSettle s id version
to-settle s id version g more =
    let is = g.is_gathered.complete_round in
    record { node = g.node; round = g.round; is_gathered = g.is_gathered; no_more = more g.node g.round is.is_node is.is_round }

-- whether the node has had enough versions, as it is read
pub enough-read : (s t : State) (id : BranchId) (told : Bool) (x : Node) → t ≡ s → told ≡ enough_in t (slice_get t.nodes id.0) → slice_get s.nodes id.0 ≡ Some x → has_enough s x ≡ told
enough-read s t id told x same is is_node = sym (is ∙ (ap (λ (u : State). enough_in u (slice_get u.nodes id.0)) same ∙ ap (enough_in s) is_node))

-- the gain, from the value before it and the value that is reached
pub gains-from : (s t : State) (id : BranchId) (read : Round) (prices : List ℕ) (old new : ℤ) → t ≡ s → Some read ≡ round_of t id → prices ≡ read.prices
    → ForRound t id (λ x round. IsRestrictedValue t.problem t.cuts (ranges_of t.problem x) (columns_for t x) prices old) → ForRound s id (λ x round. HasGain s.problem s.cuts (ranges_of s.problem x) (columns_for s x) round.prices new)
    → ForRound s id (λ x round. IsGain s.problem s.cuts (ranges_of s.problem x) (columns_for s x) round.prices old new)
gains-from s t id read prices old new same is is_prices valued gains x round is_node is_round =
    let had : HasGain s.problem s.cuts (ranges_of s.problem x) (columns_for s x) round.prices new = gains x round is_node is_round in
    let there : ForRound s id (λ x round. IsRestrictedValue s.problem s.cuts (ranges_of s.problem x) (columns_for s x) prices old) =
    subst (λ (u : State). ForRound u id (λ x round. IsRestrictedValue u.problem u.cuts (ranges_of u.problem x) (columns_for u x) prices old)) same valued in
    let rounds : read ≡ round = same-round s id read x round (is ∙ ap (λ (u : State). round_of u id) same) is_node is_round in
    let value : IsRestrictedValue s.problem s.cuts (ranges_of s.problem x) (columns_for s x) round.prices old =
    subst (λ (ps : List ℕ). IsRestrictedValue s.problem s.cuts (ranges_of s.problem x) (columns_for s x) ps old) (is_prices ∙ ap (λ (r : Round). r.prices) rounds) (there x round is_node is_round) in
    let same_value : had.0 ≡ old = value-unique s.problem s.cuts (ranges_of s.problem x) (columns_for s x) round.prices had.0 old had.1.is_raise.is_old value in
    subst (λ (v : ℤ). IsGain s.problem s.cuts (ranges_of s.problem x) (columns_for s x) round.prices v new) same_value had.1

-- where a step gains, more versions may follow and the state stays, the answer that it improves is the event
pub improvable : (s t : State) (id : BranchId) (version : ℕ) (old new : ℤ) → HasGathered s id version → ForRound s id (λ x round. (has_enough s x ≡ false) × IsGain s.problem s.cuts (ranges_of s.problem x) (columns_for s x) round.prices old new)
    → t ≡ s → IsImprovable s id version old new t
improvable s t id version old new g both same =
    let is = g.is_gathered.complete_round in
    let w = both g.node g.round is.is_node is.is_round in
    record { node = g.node; round = g.round; is_gathered = g.is_gathered; not_enough = w.0; is_gain = w.1; unchanged = same }
