-- What clauses say of passes, and of the calls that their owners make.
use Rattle.std.specs.Prelude.{◌≡◌, ℕ, ◌+◌, ◌*◌, ◌<◌, ◌≤◌, false, List, [], ◌∷◌, ◌++◌, length, Option, None}
use mathlib.Core.List.{IsPrefix}
use Rattle.atomic_table.specs.declared.shared.Seat.{Seat}
use Rattle.ticket_turns.specs.declared.limits.TheConstants.{MAX_CALLS}
use Rattle.ticket_turns.specs.declared.view.Entry.{Entry}
use Rattle.ticket_turns.specs.declared.view.Role.TheVariants.{Maker, Caller}
use Rattle.ticket_turns.specs.declared.view.Stage.TheVariants.{Idle, Holding}
use Rattle.ticket_turns.specs.declared.view.View.{View}
use Rattle.ticket_turns.specs.Histories.{Leading, IsLegal, calls_by, OwnCalls, IsCaller, number_of, entry_of}
use Rattle.ticket_turns.specs.Rules.{all_draws}
use Rattle.ticket_turns.specs.Steps.{Knowing, drawing, with_seen, adding, Learns}

-- a seat of the table
abbrev pub Pass : Type 0 → Type 0 → Type 0
Pass D C = Seat (Option D) (View C)

-- what its owner knows
abbrev pub view_of : {D C : Type 0} → Pass D C → View C
view_of pass = pass.me.0

-- it has no ticket and not the slot
abbrev pub IsIdle : {D C : Type 0} → Pass D C → Type 0
IsIdle pass = (pass.me.0.stage ≡ Idle) × (pass.me.1 ≡ [])

-- it is a caller's, between two turns, with calls left
abbrev pub IsReady : {D C : Type 0} → Pass D C → Type 0
IsReady pass = IsIdle pass × IsCaller pass.me.0.role × (0 < pass.me.0.draws) × (0 < pass.me.0.parts)

-- it is a caller's whose turn it is: it has the slot, out of which it took the value, and has not added its call
abbrev pub IsInside : {D C : Type 0} → Pass D C → Type 0
IsInside pass = (ticket : ℕ) × (pass.me.0.stage ≡ Holding ticket false) × IsCaller pass.me.0.role × (pass.me.1 ≡ (0, None) ∷ [])

-- it is the pass of the caller of this number, between two turns, after so many calls
abbrev pub IsAtRest : {D C : Type 0} → ℕ → ℕ → Pass D C → Type 0
IsAtRest number calls pass = IsIdle pass × (pass.me.0.role ≡ Caller number) × (length pass.me.0.mine ≡ calls) × (pass.me.0.draws + calls ≡ MAX_CALLS) × (pass.me.0.parts ≡ 1)

-- it is the pass of a new caller of this number, which has seen nothing
abbrev pub IsNewCaller : {D C : Type 0} → ℕ → Pass D C → Type 0
IsNewCaller number pass = IsAtRest number 0 pass × (pass.me.0.seen ≡ []) × (pass.me.0.mine ≡ [])

-- it is the pass from which those of so many callers were split off: it has the parts and draws that were not given away, and has seen nothing
pub record IsMaker {D C : Type 0} (callers made : ℕ) (pass : Pass D C) : Type 0 where
  pub idle : IsIdle pass
  pub role : pass.me.0.role ≡ Maker made
  pub parts : pass.me.0.parts + made ≡ callers
  pub draws : pass.me.0.draws + made * MAX_CALLS ≡ all_draws callers
  pub seen : pass.me.0.seen ≡ []

-- a ticket was drawn and served. The value that was taken out of the slot is one to which the whole history leads, which the pass has seen; it begins with all that the pass had seen, and has of its calls those that it made
pub record HasEntered {D C : Type 0} (leads : Leading D C) (old new : Knowing D C) (found : D) : Type 0 where
  pub ticket : ℕ
  pub history : List (Entry C)
  pub after : new ≡ (with_seen (drawing old.0 ticket) (Holding ticket false) history, (0, None) ∷ [])
  pub can : leads history found
  pub learns : Learns leads old.0 history

-- the call is the last one of the history and of the pass's own calls; the pass has no ticket and not the slot
abbrev pub HasLeft : {D C : Type 0} → C → Knowing D C → Knowing D C → Type 0
HasLeft call old new = new ≡ (adding old.0 Idle call, [])

-- one call was added to a history that begins with all that the pass had seen and leads to the value that was found. Of the caller's calls the history has those that it made before, and this one
pub record HasAdded {D C : Type 0} (leads : Leading D C) (found : D) (v w : View C) (call : C) : Type 0 where
  pub between : List (Entry C)
  pub can : leads (v.seen ++ between) found
  pub ends : w.seen ≡ (v.seen ++ between) ++ entry_of v call ∷ []
  pub mine : w.mine ≡ v.mine ++ entry_of v call ∷ []
  pub role : w.role ≡ v.role
  pub calls : calls_by (number_of v.role) w.seen ≡ w.mine

-- whoever enters and then leaves with a call has added this one call
abbrev pub IsAdding : {D C : Type 0} → Leading D C → Type 0
IsAdding {D} {C} leads = (old inside new : Knowing D C) (found : D) (call : C) → IsCaller old.0.role → HasEntered leads old inside found → HasLeft call inside new → HasAdded leads found old.0 new.0 call

-- the second pass has seen a legal history that begins with what each of the two had seen, and has of its own calls those that it made. It keeps its role, its stage and its calls
pub record HasMet {D C : Type 0} (leads : Leading D C) (u v w : View C) : Type 0 where
  pub legal : IsLegal leads w.seen
  pub theirs : IsPrefix u.seen w.seen
  pub ours : IsPrefix v.seen w.seen
  pub own : OwnCalls w.seen v.role w.mine
  pub role : w.role ≡ v.role
  pub stage : w.stage ≡ v.stage
  pub mine : w.mine ≡ v.mine

-- the first pass has met the other, and has its parts and draws as well as its own
pub record HasTakenIn {D C : Type 0} (leads : Leading D C) (v other w : View C) : Type 0 where
  pub met : HasMet leads other v w
  pub parts : w.parts ≡ v.parts + other.parts
  pub draws : w.draws ≡ v.draws + other.draws

-- a history leads to the value that begins with all that the pass has seen, and has of its calls those that it made. It has at most as many calls as there are tickets for so many callers, without those that the pass may still draw
pub record IsAtEnd {D C : Type 0} (leads : Leading D C) (callers : ℕ) (v : View C) (value : D) : Type 0 where
  pub history : List (Entry C)
  pub can : leads history value
  pub long : length history + v.draws ≤ all_draws callers
  pub seen : IsPrefix v.seen history
  pub own : OwnCalls history v.role v.mine
