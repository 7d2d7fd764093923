-- A gathering: where it is not refused, and the pool when paths became columns.
use Rattle.std.proofs.Common.{◌≡◌, ℕ, inr, Bool, true, false, not, List, length, Option, Some, None, slice_get, refl, sym, ap, ◌∙◌, arith}
use Rattle.std.specs.Prelude.{Result, Ok, Err, IfOk, IsErr, IsSome, option_map}
use Rattle.std.specs.declared.alloc.AllocError.{AllocError}
use Rattle.plan_base.specs.declared.ids.BranchId.{BranchId}
use Rattle.plan_base.specs.declared.ids.DemandId.{DemandId}
use Rattle.plan_base.specs.First.{◌or_else◌, when}
use Rattle.plan_base.proofs.FirstFault.{or_else-none}
use Rattle.cut_values.specs.Numbers.{CutProblem}
use Rattle.search_nodes.specs.Grounds.{Kept}
use Rattle.column_pool.specs.Columns.{Columns}
use Rattle.column_pool.specs.declared.brief.Brief.{Brief}
use Rattle.search_machine.specs.declared.answers.Gather.{Gather}
use Rattle.search_machine.specs.declared.answers.Gather.TheVariants as gather
use Rattle.search_machine.specs.declared.tree.Found.{Found}
use Rattle.search_machine.specs.State.{Round, Node, State, round_of}
use Rattle.search_machine.specs.Changes.{is_spent, version_in, is_version, stale_fault, first_gap}
use Rattle.search_machine.specs.Gathering.{gathered, gather_fault, IsBriefOf, Gathers, GathersFront, GatherStep}
use Rattle.search_machine.specs.Soundness.{IsSound}
use Rattle.search_machine.specs.Machine.{Gathering, to_gathering}
use Rattle.search_machine.proofs.Runs.{IsReachable-step}
use Rattle.search_nodes.specs.declared.slot.Slot.{Slot}
use Rattle.search_nodes.specs.Rounds.{IsFrontAdded}
use Rattle.search_view.specs.Views.{IsKeptPool}
use Rattle.search_machine.proofs.Frames.{one_at}
use Rattle.search_view.specs.Valuing.{ForRound}
use Rattle.pool_core.specs.Valuing.{IsCompleteAt}
use Rattle.pool_core.proofs.Answering.{complete_fault-none}
use Rattle.search_view.proofs.TaskLaws.{HasRound}
use Rattle.pool_core.proofs.TaskLaws.{has-some}
use Rattle.search_view.proofs.Reading.{sound-round}
use Rattle.search_view.proofs.Valuing.{same-round}

-- where no fault is found, the node has a complete round of the version
pub gather_fault-none : (s : State) (id : BranchId) (version : ℕ) → gather_fault s id version ≡ None → IsCompleteAt s id version
unfolding gather_fault
gather_fault-none s id version h =
    let both = or_else-none (stale_fault gather.Spent gather.Stale s id version) (option_map gather.Incomplete (first_gap (round_of s id))) h in
    complete_fault-none gather.Spent gather.Stale gather.Incomplete s id version both.0 both.1

never : (brief : Brief) (spent stale : Bool) (x : ℕ) (y : Option ℕ) (o : Option DemandId) → ((when spent (gather.Spent x) or_else when stale (gather.Stale y)) or_else option_map gather.Incomplete o) ≡ Some (gather.Taken brief) → ⊥
never brief true stale x y o h = let e : Some (gather.Spent x) ≡ Some (gather.Taken brief) = h in let same : gather.Spent x ≡ gather.Taken brief = cc in cc
never brief false true x y o h = let e : Some (gather.Stale y) ≡ Some (gather.Taken brief) = h in let same : gather.Stale y ≡ gather.Taken brief = cc in cc
never brief false false x y (Some k) h = let e : Some (gather.Incomplete k) ≡ Some (gather.Taken brief) = h in let same : gather.Incomplete k ≡ gather.Taken brief = cc in cc
never brief false false x y None h = let bad : ◌≡◌ {A = Option Gather} None (Some (gather.Taken brief)) = h in cc

-- a fault is a refusal
pub gather_fault-refusal : (s : State) (id : BranchId) (version : ℕ) (refusal : Gather) → gather_fault s id version ≡ Some refusal → GatherStep s id version (Ok refusal) s
unfolding gather_fault
gather_fault-refusal s id version (gather.Spent x) h = (h, refl)
gather_fault-refusal s id version (gather.Stale x) h = (h, refl)
gather_fault-refusal s id version (gather.Incomplete x) h = (h, refl)
gather_fault-refusal s id version (gather.Taken brief) h =
    absurd (never brief (is_spent s) (not (is_version (version_in (round_of s id)) version)) s.examined (version_in (round_of s id)) (first_gap (round_of s id)) h)

-- the round of a node whose round of the version is complete
abbrev pub complete-round : (s : State) (id : BranchId) (version : ℕ) → IsCompleteAt s id version → HasRound s id
complete-round s id version h = record { node = h.node; round = h.round; is_node = h.is_complete.is_node; is_round = h.is_complete.is_round }

-- the state with other columns
abbrev pub with_columns : State → Columns → State
with_columns s columns = record s { columns = columns }

module _ (s : State) (id : BranchId) (version : ℕ) (h : IsCompleteAt s id version) (sound : IsSound s) (found : List (Option Found)) (is_found : found ≡ h.round.found) where
  count : length found ≡ length s.problem.demands
  count = ap length is_found ∙ (sound-round s id sound (complete-round s id version h)).count

  -- where the paths of the first demands are added, the state is that of a gathering that wanted memory
  pub front-added : (columns : Columns) → IsFrontAdded s.columns found columns → GathersFront s id version (with_columns s columns)
  front-added columns f = record {
    node = h.node;
    round = h.round;
    complete_round = h.is_complete;
    front = f.front;
    within = (let w = f.within in let c = count in omega arith);
    becomes = ap (with_columns s) (f.becomes ∙ ap (λ (xs : List (Option Found)). gathered s.columns xs f.front) is_found);
  }

  -- to add the paths of all demands is to add those of the first ones, as many as there are
  pub all-added : (columns : Columns) → columns ≡ gathered s.columns found (length found) → IsFrontAdded s.columns found columns
  all-added columns is = record { front = length found; within = omega arith; becomes = is }

  -- the columns with all paths that are read are those with the paths of the node's round for each demand
  pub all-gathered : (columns : Columns) → columns ≡ gathered s.columns found (length found) → columns ≡ gathered s.columns h.round.found (length s.problem.demands)
  all-gathered columns is = is ∙ ap (gathered s.columns found) count ∙ ap (λ (xs : List (Option Found)). gathered s.columns xs (length s.problem.demands)) is_found

  -- what is said of the state after, where memory was not wanting
  pub added-at : (columns : Columns) → columns ≡ gathered s.columns found (length found) → ForRound s id (λ x round. with_columns s columns ≡ with_columns s (gathered s.columns round.found (length s.problem.demands)))
  added-at columns is x round is_node is_round =
      let same : x ≡ h.node = one_at s.nodes id.0 x h.node is_node h.is_complete.is_node in
      let both : Some round ≡ Some h.round = sym is_round ∙ ap (λ (n : Node). n.round) same ∙ h.is_complete.is_round in
      let rounds : round ≡ h.round = cc in
      ap (with_columns s) (all-gathered columns is ∙ ap (λ (r : Round). gathered s.columns r.found (length s.problem.demands)) (sym rounds))

-- some of the paths are added, whether memory was wanting or not
pub front-of : {X : Type 0} (r : Result X AllocError) (old new : Columns) (found : List (Option Found)) → IfOk r (λ _. new ≡ gathered old found (length found)) → (IsErr r → IsFrontAdded old found new) → IsFrontAdded old found new
front-of (Ok x) old new found all front = record { front = length found; within = omega arith; becomes = all }
front-of (Err e) old new found all front = front refl

-- the paths that are read are those of the round
pub complete-found : (s : State) (id : BranchId) (version : ℕ) (h : IsCompleteAt s id version) (read : Round) → Some read ≡ round_of s id → read.found ≡ h.round.found
complete-found s id version h read is = ap (λ (r : Round). r.found) (same-round s id read h.node h.round is h.is_complete.is_node h.is_complete.is_round)

-- the pool stays one when the paths of the first demands of a round became columns
pub gathered-kept : (s : State) (id : BranchId) (version : ℕ) (columns : Columns) (wanting : AllocError) (table : CutProblem) (grounds : List (Option Kept)) (places : List Slot) → GathersFront s id version (with_columns s columns)
    → IsKeptPool s table grounds places → IsKeptPool (with_columns s columns) table grounds places
gathered-kept s id version columns wanting table grounds places front h =
    let p = h.pool.has_places in
    record {
      pool = record {
        reachable = IsReachable-step s (with_columns s columns) (Gathering id version) (to_gathering (Err wanting)) h.pool.reachable (inr front);
        some_budget = h.pool.some_budget;
        budget = h.pool.budget;
        has_places = record { count = p.count; total = p.total; taken = p.taken; free = p.free; slot_is = p.slot_is; demands = p.demands; prices = p.prices };
      };
      table_is = h.table_is;
      cuts_are = h.cuts_are;
      has_grounds = h.has_grounds;
    }

-- The event

-- memory was wanting, and some of the paths are added
pub wanting-step : (s t : State) (id : BranchId) (version : ℕ) (r : Result Gather AllocError) → IsErr r → GathersFront s id version t → GatherStep s id version r t
wanting-step s t id version (Ok answer) bad front = absurd (let wrong : false ≡ true = bad in cc)
wanting-step s t id version (Err wanting) bad front = inr front

module _ (s t : State) (id : BranchId) (version : ℕ) (h : IsCompleteAt s id version) (added : ForRound s id (λ x round. t ≡ with_columns s (gathered s.columns round.found (length s.problem.demands)))) where
  becomes : t ≡ with_columns s (gathered s.columns h.round.found (length s.problem.demands))
  becomes = added h.node h.round h.is_complete.is_node h.is_complete.is_round

  there : slice_get t.nodes id.0 ≡ Some h.node
  there = ap (λ (u : State). slice_get u.nodes id.0) becomes ∙ h.is_complete.is_node

  -- the node has a round still after the paths of its round became columns
  pub added-some : IsSome (round_of t id)
  added-some = has-some t id (record { node = h.node; round = h.round; is_node = there; is_round = h.is_complete.is_round })

  -- all paths of the round added are those of the first demands, as many as there are
  pub added-front : GathersFront s id version t
  added-front = record { node = h.node; round = h.round; complete_round = h.is_complete; front = length s.problem.demands; within = omega arith; becomes = becomes }

  -- where all paths of the round are added and the brief tells of the new columns, this is the gathering
  pub added-gathers : (brief : Brief) → ForRound t id (λ x round. IsBriefOf t id x round brief) → Gathers s id version brief t
  added-gathers brief briefed = record { node = h.node; round = h.round; complete_round = h.is_complete; becomes = becomes; is_brief = briefed h.node h.round there h.is_complete.is_round }
