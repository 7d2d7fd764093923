-- A call at the end of a history.
use Rattle.std.proofs.Common.{ℕ, ◌≡◌, ◌↔◌, true, List, [], ◌∷◌, ◌++◌, refl, ap, sym, subst, Option, Some, None, IsSome, IfSome, slice_get, Result, Ok, Err, IfOk, OnErr}
use Rattle.std.specs.declared.alloc.AllocError.{AllocError}
use Rattle.plan_base.specs.declared.path.Design.{Design}
use Rattle.plan_base.specs.declared.ids.BranchId.{BranchId}
use Rattle.arc_restrict.specs.Rows.{Rows, forbids}
use Rattle.dual_versions.specs.declared.published.Published.{Published}
use Rattle.search_machine.specs.declared.answers.Publish.{Publish}
use Rattle.search_machine.specs.declared.answers.Opened.{Opened}
use Rattle.search_machine.specs.declared.answers.RoundFault.{RoundFault}
use Rattle.search_machine.specs.State.{State, state_of, restriction_of}
use Rattle.search_machine.specs.Changes.{is_open_state}
use Rattle.pool_core.specs.Views.{IsPublishedAt, design_of}
use Rattle.ticket_turns.specs.declared.view.Entry.{Entry}
use Rattle.ticket_turns.specs.Histories.{entry_of}
use Rattle.ticket_turns.specs.Steps.{Knowing}
use Rattle.ticket_turns.specs.Passes.{Pass, IsAtRest, HasEntered, HasLeft}
use Rattle.ticket_turns.proofs.Calling.{is_caller, is_adding}
use Rattle.pool_desk.specs.Events.{OpenStep, PublishStep}
use Rattle.linear_hub.specs.Calls.{Call, Opening, Publishing, Grounding, Pricing, Learning, Moves, shared_rows}
use Rattle.linear_hub.specs.Histories.{Leads}
use Rattle.linear_hub.specs.Seats.{HasCalled, HasFound}

-- a call whose move leads on from what was found makes the history longer by one
pub leads_more : (opening found after : State) (history : List (Entry Call)) (e : Entry Call) → Leads opening history found → Moves found e.call after → Leads opening (history ++ e ∷ []) after
leads_more opening found after [] e l step = (after, subst (λ z. Moves z e.call after) (sym l) step, refl)
leads_more opening found after (x ∷ xs) e l step = (l.0, l.1, leads_more l.0 found after xs e l.2 step)

-- the histories of the desks to whose pools they lead
abbrev pub LeadsTo : {D : Type 0} → (D → State) → State → List (Entry Call) → D → Type 0
LeadsTo pool_in opening history desk = Leads opening history (pool_in desk)

module _ {D : Type 0} (desk : D) (pool_in : D → State) (opening after : State) where
  -- the call leads on from where the seat entered
  pub leads_on : (old inside : Knowing D Call) (call : Call) → HasEntered (LeadsTo pool_in opening) old inside desk → Moves (pool_in desk) call after → Leads opening (inside.0.seen ++ entry_of inside.0 call ∷ []) after
  leads_on old inside call entered step = subst (λ l. Leads opening (l ++ entry_of inside.0 call ∷ []) after) (sym (ap (λ (x : Knowing D Call). x.0.seen) entered.after))
      (leads_more opening (pool_in desk) after entered.history (entry_of inside.0 call) entered.can step)

  -- the seat has called
  pub has_called : (seat : Pass D Call) (number calls : ℕ) (inside new : Knowing D Call) (call : Call) → IsAtRest number calls seat → HasEntered (LeadsTo pool_in opening) seat.me inside desk → Moves (pool_in desk) call after → HasLeft call inside new
      → HasCalled opening seat.me.0 new.0 call
  has_called seat number calls inside new call rest entered step left =
      let a = is_adding (LeadsTo pool_in opening) seat.me inside new desk call (is_caller number calls seat rest) entered left in record {
        between = a.between;
        found = pool_in desk;
        after = after;
        leads = a.can;
        moves = step;
        ends = a.ends;
        mine = a.mine;
        role = a.role;
        calls = a.calls;
      }

  -- what the call found
  pub has_found : (seat : Pass D Call) (number calls : ℕ) (inside new : Knowing D Call) (call : Call) (Fact : State → Type 0) → IsAtRest number calls seat → HasEntered (LeadsTo pool_in opening) seat.me inside desk → HasLeft call inside new
      → Fact (pool_in desk) → HasFound opening new.0.seen Fact
  has_found seat number calls inside new call Fact rest entered left fact =
      let a = is_adding (LeadsTo pool_in opening) seat.me inside new desk call (is_caller number calls seat rest) entered left in record {
        front = seat.me.0.seen ++ a.between;
        last = entry_of seat.me.0 call;
        is = a.ends;
        found = pool_in desk;
        leads = a.can;
        fact = fact;
      }

-- an opening is a move, also where memory was wanting
pub opening_moves : (p q : State) (X Y : Type 0) (id : BranchId) (r : Result (Result Opened RoundFault) AllocError) → IfOk r (λ answer. OpenStep p id answer q) → OnErr r ((q ≡ p) × X × Y) → Moves p (Opening id r) q
opening_moves p q X Y id (Ok answer) event same = event
opening_moves p q X Y id (Err wanting) event same = same.0

-- so is a publishing, of a node and a version by the names that a type gives them
pub publishing_moves : (p q : State) (X Y : Type 0) (id named : BranchId) (seen called : ℕ) (prices : List ℕ) (r : Result Publish AllocError) → (named ≡ id) × (called ≡ seen) → IfOk r (λ answer. PublishStep p id seen prices answer q) → OnErr r ((q ≡ p) × X × Y)
    → Moves p (Publishing named called prices r) q
publishing_moves p q X Y id named seen called prices (Ok answer) is event same = subst (λ (z : BranchId × ℕ). PublishStep p z.0 z.1 prices answer q) (λ i. (sym is.0 i, sym is.1 i)) event
publishing_moves p q X Y id named seen called prices (Err wanting) is event same = same.0

-- so is a reading of what is forbidden
pub grounding_moves : {A : Type 0} (rows_of : A → Rows) (p : State) (id : BranchId) (r : Result (Option A) AllocError)
    → IfOk r (λ found. IsSome found ↔ (is_open_state (state_of p id) ≡ true))
    → IfOk r (λ found. IfSome found (λ rows. IfSome (slice_get p.nodes id.0) (λ x. forbids (rows_of rows) ≡ restriction_of x)))
    → Moves p (Grounding id (shared_rows rows_of r)) p
grounding_moves rows_of p id (Ok None) leaf value = (record { leaf = leaf; value = tt }, refl)
grounding_moves rows_of p id (Ok (Some rows)) leaf value = (record { leaf = leaf; value = value }, refl)
grounding_moves rows_of p id (Err wanting) leaf value = refl

-- so is a reading of prices
pub pricing_moves : (p : State) (slot : ℕ) (r : Result (Option Published) AllocError) → IfOk r (IsPublishedAt p slot) → Moves p (Pricing slot r) p
pricing_moves p slot (Ok found) published = (published, refl)
pricing_moves p slot (Err wanting) published = refl

-- so is a reading of the best design
pub learning_moves : (p : State) (r : Result (Option Design) AllocError) → IfOk r (λ found. found ≡ design_of p) → Moves p (Learning r) p
learning_moves p (Ok found) design = (design, refl)
learning_moves p (Err wanting) design = refl

-- what holds where a node was opened
pub opened_seen : {P Q : Opened → Type 0} (r : Result (Result Opened RoundFault) AllocError) → ((opened : Opened) → P opened → Q opened) → IfOk r (λ answer. IfOk answer P) → IfOk r (λ answer. IfOk answer Q)
opened_seen (Ok (Ok opened)) f p = f opened p
opened_seen (Ok (Err fault)) f p = tt
opened_seen (Err wanting) f p = tt
