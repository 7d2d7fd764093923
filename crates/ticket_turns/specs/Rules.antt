-- The rule that all passes keep. Word 0 is the number of tickets drawn, word 1 the ticket that is served, word 2 the length of the history. The one slot has the value.
use Rattle.std.specs.Prelude.{◌≡◌, ◌≢◌, ℕ, ◌+◌, ◌*◌, ◌<◌, ◌≤◌, ◌⊎◌, ⊤, Bool, true, false, List, [], ◌∷◌, length, sum_by, Option, Some, None}
use mathlib.Core.Option.{some, none}
use mathlib.Core.List.{IsPrefix}
use lib.ListN.{get_elem?}
use Rattle.atomic_table.specs.Table.{State}
use Rattle.ticket_turns.specs.declared.limits.TheConstants.{MAX_CALLERS, MAX_CALLS}
use Rattle.ticket_turns.specs.declared.view.Entry.{Entry}
use Rattle.ticket_turns.specs.declared.view.Role.{Role}
use Rattle.ticket_turns.specs.declared.view.Role.TheVariants.{Maker, Caller, Guest}
use Rattle.ticket_turns.specs.declared.view.Stage.{Stage}
use Rattle.ticket_turns.specs.declared.view.Stage.TheVariants.{Idle, Waiting, Holding}
use Rattle.ticket_turns.specs.declared.view.View.{View}
use Rattle.ticket_turns.specs.Histories.{Leading, IsLegal, OwnCalls, IsCaller}

-- the table: its words, its slot and the views of all passes
abbrev pub TableState : Type 0 → Type 0 → Type 0
TableState D C = State (Option D) (View C)

-- different callers have different numbers, all below the maker's, and there is one maker
abbrev pub RolesApart : Role → Role → Type 0
RolesApart Guest r = ⊤
RolesApart (Maker m) (Maker k) = ⊥
RolesApart (Maker m) (Caller n) = n < m
RolesApart (Maker m) Guest = ⊤
RolesApart (Caller n) (Maker m) = n < m
RolesApart (Caller n) (Caller k) = n ≢ k
RolesApart (Caller n) Guest = ⊤

-- the ticket of a pass at this stage
abbrev pub ticket_of : Stage → Option ℕ
ticket_of Idle = None
ticket_of (Waiting t) = Some t
ticket_of (Holding t raised) = Some t

-- different tickets, or no ticket
abbrev pub TicketsApart : Option ℕ → Option ℕ → Type 0
TicketsApart None u = ⊤
TicketsApart (Some t) None = ⊤
TicketsApart (Some t) (Some u) = t ≢ u

-- two views have different roles and different tickets
abbrev pub Apart : {C : Type 0} → View C → View C → Type 0
Apart v w = RolesApart v.role w.role × TicketsApart (ticket_of v.stage) (ticket_of w.stage)

-- only a caller has a ticket, one that is drawn and has had no turn yet. The pass that holds the slot has the ticket that is served, and has seen the whole history
abbrev pub StageFits : {C : Type 0} → ℕ → ℕ → List (Entry C) → View C → Stage → Type 0
StageFits tickets serving history v Idle = ⊤
StageFits tickets serving history v (Waiting t) = (serving ≤ t) × (t < tickets) × (0 < v.parts) × IsCaller v.role
StageFits tickets serving history v (Holding t raised) = (t ≡ serving) × (t < tickets) × (0 < v.parts) × IsCaller v.role × (v.seen ≡ history)

-- what a view has seen and heard of begins the history, its calls are its own in it, and its stage fits
pub record Fits {C : Type 0} (tickets serving : ℕ) (history : List (Entry C)) (v : View C) : Type 0 where
  pub seen : IsPrefix v.seen history
  pub heard : IsPrefix v.heard history
  pub own : OwnCalls history v.role v.mine
  pub stage : StageFits tickets serving history v v.stage

-- some view has the ticket
abbrev pub IsHeld : {C : Type 0} → List (View C) → ℕ → Type 0
IsHeld {C} views t = (j : ℕ) × (v : View C) × (get_elem? views j ≡ some v) × (ticket_of v.stage ≡ Some t)

-- a pass at this stage holds the slot
abbrev pub HoldsSlot : Stage → Type 0
HoldsSlot Idle = ⊥
HoldsSlot (Waiting t) = ⊥
HoldsSlot (Holding t raised) = ⊤

-- the number of calls that the holder of the slot has added in its turn
abbrev pub raises : Bool → ℕ
raises true = 1
raises false = 0

-- the value is in the slot, the history leads to it, as many turns were had as it has calls, and no pass holds the slot
pub record IsHome {D C : Type 0} (leads : Leading D C) (serving : ℕ) (history : List (Entry C)) (s : TableState D C) : Type 0 where
  pub value : D
  pub homes : s.homes ≡ some (Some value) ∷ []
  pub can : leads history value
  pub long : length history ≡ serving
  pub nobody : (j : ℕ) (v : View C) → get_elem? s.views j ≡ some v → HoldsSlot v.stage → ⊥

-- a pass holds the slot, whose ticket is served; it has added its call or not yet
pub record IsOut {D C : Type 0} (serving : ℕ) (history : List (Entry C)) (s : TableState D C) : Type 0 where
  pub homes : s.homes ≡ none ∷ []
  pub holder : ℕ
  pub view : View C
  pub raised : Bool
  pub here : get_elem? s.views holder ≡ some view
  pub stage : view.stage ≡ Holding serving raised
  pub long : length history ≡ serving + raises raised

-- how many tickets there are for so many callers
abbrev pub all_draws : ℕ → ℕ
all_draws callers = callers * MAX_CALLS

-- the words, the slot and all views go together: there is one legal history, of which each view knows a beginning; the tickets that are drawn and have had no turn are held, each by one caller, whose turn it is or who waits
pub record Kept {D C : Type 0} (leads : Leading D C) (callers : ℕ) (s : TableState D C) : Type 0 where
  pub tickets : ℕ
  pub serving : ℕ
  pub history : List (Entry C)
  pub few : callers ≤ MAX_CALLERS
  pub order : serving ≤ tickets
  pub words : s.words ≡ tickets ∷ serving ∷ length history ∷ []
  pub draws : tickets + sum_by (λ v. v.draws) s.views ≡ all_draws callers
  pub parts : sum_by (λ v. v.parts) s.views ≡ callers
  pub legal : IsLegal leads history
  pub each : (j : ℕ) (v : View C) → get_elem? s.views j ≡ some v → Fits tickets serving history v
  pub apart : (i j : ℕ) (v w : View C) → i ≢ j → get_elem? s.views i ≡ some v → get_elem? s.views j ≡ some w → Apart v w
  pub held : (t : ℕ) → serving ≤ t → t < tickets → IsHeld s.views t
  pub place : IsHome leads serving history s ⊎ IsOut serving history s
