-- What a call, a meeting and the end tell of what seats know.
use Rattle.std.specs.Prelude.{ℕ, ◌≡◌, ◌⊎◌, List, [], ◌∷◌, ◌++◌, Some, slice_get}
use mathlib.Core.List.{IsPrefix}
use Rattle.ticket_turns.specs.declared.view.Entry.{Entry}
use Rattle.ticket_turns.specs.declared.view.View.{View}
use Rattle.ticket_turns.specs.Histories.{calls_by, number_of, entry_of}
use Rattle.search_machine.specs.State.{State}
use Rattle.linear_hub.specs.Calls.{Call, Moves}
use Rattle.linear_hub.specs.Histories.{Leads, IsLegalHistory}

-- a legal history begins with all that the seat had seen and ends with its call, which found one state and led to another. The seat's calls in it are those that it made before, and this one
pub record HasCalled (opening : State) (v w : View Call) (call : Call) : Type 0 where
  pub between : List (Entry Call)
  pub found : State
  pub after : State
  pub leads : Leads opening (v.seen ++ between) found
  pub moves : Moves found call after
  pub ends : w.seen ≡ (v.seen ++ between) ++ entry_of v call ∷ []
  pub mine : w.mine ≡ v.mine ++ entry_of v call ∷ []
  pub role : w.role ≡ v.role
  pub calls : calls_by (number_of v.role) w.seen ≡ w.mine

-- this holds of a state that the history finds before its last call
pub record HasFound (opening : State) (history : List (Entry Call)) (Fact : State → Type 0) : Type 0 where
  pub front : List (Entry Call)
  pub last : Entry Call
  pub is : history ≡ front ++ last ∷ []
  pub found : State
  pub leads : Leads opening front found
  pub fact : Fact found

-- one legal history, which the second seat has seen, begins with what each had seen, and has of its own calls those that it made
pub record HasMet (opening : State) (u v w : View Call) : Type 0 where
  pub legal : IsLegalHistory opening w.seen
  pub theirs : IsPrefix u.seen w.seen
  pub ours : IsPrefix v.seen w.seen
  pub mine : w.mine ≡ v.mine
  pub role : w.role ≡ v.role
  pub calls : calls_by (number_of v.role) w.seen ≡ w.mine

-- a legal history leads to this state, and begins with all that each of these seats had seen
pub record HasEnded {L : Type 0} (seen_by : L → List (Entry Call)) (opening : State) (seats : List L) (s : State) : Type 0 where
  pub history : List (Entry Call)
  pub leads : Leads opening history s
  pub seen : (k : ℕ) (x : L) → slice_get seats k ≡ Some x → IsPrefix (seen_by x) history

-- the same, of the seat that takes in the others, and of those
pub record HasGathered {L : Type 0} (seen_by : L → List (Entry Call)) (opening : State) (first : List (Entry Call)) (seats : List L) (s : State) : Type 0 where
  pub history : List (Entry Call)
  pub leads : Leads opening history s
  pub own : IsPrefix first history
  pub seen : (k : ℕ) (x : L) → slice_get seats k ≡ Some x → IsPrefix (seen_by x) history

-- each seat has its place as its number, has made no call, and has seen nothing
abbrev pub AreNew : {L : Type 0} → (L → ℕ) → (L → ℕ) → (L → View Call) → List L → Type 0
AreNew {L} number_in calls_of view_in seats = (k : ℕ) (x : L) → slice_get seats k ≡ Some x
    → (number_in x ≡ k) × (calls_of x ≡ 0) × ((view_in x).seen ≡ []) × ((view_in x).mine ≡ [])

-- each of the first seats was taken in, or stands among those that remain
abbrev pub Remains : {L : Type 0} → (L → List (Entry Call)) → List L → List L → List (Entry Call) → Type 0
Remains {L} seen_by all left history = (k : ℕ) (x : L) → slice_get all k ≡ Some x → (slice_get left k ≡ Some x) ⊎ IsPrefix (seen_by x) history
