-- What each step tells its caller, and what becomes of its view.
use Rattle.std.specs.Prelude.{◌≡◌, ◌≢◌, ℕ, ◌+◌, ◌-◌, ⊤, true, false, List, [], ◌∷◌, ◌++◌, Option, Some}
use mathlib.Core.List.{IsPrefix}
use Rattle.atomic_table.specs.Table.{Me, Step, rest}
use Rattle.ticket_turns.specs.declared.limits.TheConstants.{MAX_CALLS}
use Rattle.ticket_turns.specs.declared.view.Entry.{Entry}
use Rattle.ticket_turns.specs.declared.view.Role.{Role}
use Rattle.ticket_turns.specs.declared.view.Role.TheVariants.{Maker, Caller, Guest}
use Rattle.ticket_turns.specs.declared.view.Stage.{Stage}
use Rattle.ticket_turns.specs.declared.view.Stage.TheVariants.{Idle, Waiting, Holding}
use Rattle.ticket_turns.specs.declared.view.View.{View}
use Rattle.ticket_turns.specs.Histories.{Leading, IsLegal, OwnCalls, entry_of}
use Rattle.ticket_turns.specs.Rules.{all_draws}

-- what a pass knows, and what it has of the slot
abbrev pub Knowing : Type 0 → Type 0 → Type 0
Knowing D C = Me (Option D) (View C)

-- the first view: it may make so many callers
abbrev pub maker : {C : Type 0} → ℕ → View C
maker callers = record { parts = callers; draws = all_draws callers; role = Maker 0; stage = Idle; seen = []; heard = []; mine = [] }

-- the view of a pass that was taken in
abbrev pub spent : {C : Type 0} → View C
spent = record { parts = 0; draws = 0; role = Guest; stage = Idle; seen = []; heard = []; mine = [] }

-- the view with a ticket that was drawn
abbrev pub drawing : {C : Type 0} → View C → ℕ → View C
drawing v ticket = record v { draws = v.draws - 1; stage = Waiting ticket }

-- the view at a stage, when it has seen this
abbrev pub with_seen : {C : Type 0} → View C → Stage → List (Entry C) → View C
with_seen v stage seen = record v { stage = stage; seen = seen }

-- the view at a stage, with the call as the last of the history and of its own calls
abbrev pub adding : {C : Type 0} → View C → Stage → C → View C
adding v stage call = record v { stage = stage; seen = v.seen ++ entry_of v call ∷ []; mine = v.mine ++ entry_of v call ∷ [] }

-- the stage of a holder that has added its call
abbrev pub raised_stage : Stage → Stage
raised_stage Idle = Idle
raised_stage (Waiting t) = Waiting t
raised_stage (Holding t raised) = Holding t true

-- the role of a maker that has made one caller more
abbrev pub made : Role → Role
made (Maker m) = Maker (m + 1)
made (Caller n) = Caller n
made Guest = Guest

-- the role of the caller that a maker makes next
abbrev pub next_role : Role → Role
next_role (Maker m) = Caller m
next_role (Caller n) = Guest
next_role Guest = Guest

-- the view of a maker when it has made a caller, to which it gave a part and draws
abbrev pub maker_after : {C : Type 0} → View C → View C
maker_after v = record v { parts = v.parts - 1; draws = v.draws - MAX_CALLS; role = made v.role }

-- the view of a new caller, which has seen what the maker has
abbrev pub new_caller : {C : Type 0} → View C → View C
new_caller v = record { parts = 1; draws = MAX_CALLS; role = next_role v.role; stage = Idle; seen = v.seen; heard = []; mine = [] }

-- the view of a guest, which has seen the same
abbrev pub guest_of : {C : Type 0} → View C → View C
guest_of v = record { parts = 0; draws = 0; role = Guest; stage = Idle; seen = v.seen; heard = []; mine = [] }

-- the view of a pass that takes in another one
abbrev pub joined : {C : Type 0} → View C → View C → View C
joined v w = record v { parts = v.parts + w.parts; draws = v.draws + w.draws; heard = w.seen }

-- the history is legal, begins with all that this view has seen and heard of, and its calls are its own in it
pub record Learns {D C : Type 0} (leads : Leading D C) (v : View C) (history : List (Entry C)) : Type 0 where
  pub legal : IsLegal leads history
  pub seen : IsPrefix v.seen history
  pub heard : IsPrefix v.heard history
  pub own : OwnCalls history v.role v.mine

-- a ticket was drawn: the number that was found
abbrev pub Draws : {D C : Type 0} → Step (Option D) → Knowing D C → ℕ → Knowing D C → Type 0
Draws step old found new = new ≡ (drawing old.0 found, old.1)

-- a pass looks at a word
abbrev pub Glances : {D C : Type 0} → Step (Option D) → Knowing D C → ℕ → Knowing D C → Type 0
Glances step old found new = new ≡ old

-- the ticket is served: the pass has the slot, with a value to which the whole history leads
pub record IsServed {D C : Type 0} (leads : Leading D C) (ticket : ℕ) (old new : Knowing D C) : Type 0 where
  pub history : List (Entry C)
  pub value : D
  pub after : new ≡ (with_seen old.0 (Holding ticket false) history, (0, Some value) ∷ old.1)
  pub can : leads history value
  pub learns : Learns leads old.0 history

-- a look with a ticket tells whether it is served
abbrev pub LooksAt : {D C : Type 0} → Leading D C → Stage → Knowing D C → ℕ → Knowing D C → Type 0
LooksAt leads Idle old found new = ⊤
LooksAt leads (Waiting t) old found new = (found ≡ t → IsServed leads t old new) × (found ≢ t → new ≡ old)
LooksAt leads (Holding t raised) old found new = ⊤

-- the same of the pass that looks
abbrev pub Looks : {D C : Type 0} → Leading D C → Step (Option D) → Knowing D C → ℕ → Knowing D C → Type 0
Looks leads step old found new = LooksAt leads old.0.stage old found new

-- the pass has seen the whole history
pub record HasHeard {D C : Type 0} (leads : Leading D C) (old new : Knowing D C) : Type 0 where
  pub history : List (Entry C)
  pub after : new ≡ (with_seen old.0 old.0.stage history, old.1)
  pub learns : Learns leads old.0 history

-- a look without a ticket
abbrev pub Hears : {D C : Type 0} → Leading D C → Step (Option D) → Knowing D C → ℕ → Knowing D C → Type 0
Hears leads step old found new = HasHeard leads old new

-- the holder of the slot has added its call
abbrev pub Raises : {D C : Type 0} → C → Step (Option D) → Knowing D C → ℕ → Knowing D C → Type 0
Raises call step old found new = new ≡ (adding old.0 (raised_stage old.0.stage) call, old.1)

-- the slot went back, and the next ticket is served
abbrev pub Serves : {D C : Type 0} → Step (Option D) → Knowing D C → ℕ → Knowing D C → Type 0
Serves step old found new = new ≡ (with_seen old.0 Idle old.0.seen, rest old.1)
