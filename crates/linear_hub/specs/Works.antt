-- What a worker's calls make of its view.
use Rattle.std.specs.Prelude.{ℕ, ◌≡◌, ◌⊎◌, ◌<◌, ⊤, List, [], ◌∷◌, ◌++◌, length, slice_index_or}
use Rattle.ticket_turns.specs.declared.limits.TheConstants.{MAX_CALLS}
use Rattle.ticket_turns.specs.declared.view.Entry.{Entry}
use Rattle.ticket_turns.specs.declared.view.View.{View}
use Rattle.ticket_turns.specs.Passes.{Pass, view_of}
use Rattle.search_machine.specs.declared.task.Task.TheVariants as task
use Rattle.linear_hub.specs.Calls.{Call, Tasking, Opening, Offering, Gathering, Publishing, Settling, Closing_of, Examining, Bettering, Grounding, Pricing, Learning}

-- the call reads no prices from the pool
abbrev pub IsNoPricing : Call → Type 0
IsNoPricing (Tasking t) = ⊤
IsNoPricing (Opening id r) = ⊤
IsNoPricing (Offering offer r) = ⊤
IsNoPricing (Gathering id version r) = ⊤
IsNoPricing (Publishing id seen prices r) = ⊤
IsNoPricing (Settling id version r) = ⊤
IsNoPricing (Closing_of id r) = ⊤
IsNoPricing (Examining id r) = ⊤
IsNoPricing (Bettering design r) = ⊤
IsNoPricing (Grounding id r) = ⊤
IsNoPricing (Pricing slot r) = ⊥
IsNoPricing (Learning r) = ⊤

-- no entry does
abbrev pub HaveNoPricing : List (Entry Call) → Type 0
HaveNoPricing [] = ⊤
HaveNoPricing (e ∷ es) = IsNoPricing e.call × HaveNoPricing es

-- the seat's own calls grew by these, of which none reads prices
pub record HasWorked (v w : View Call) : Type 0 where
  pub added : List (Entry Call)
  pub mine : w.mine ≡ v.mine ++ added
  pub no_pricing : HaveNoPricing added
  pub role : w.role ≡ v.role

-- the seat is of the same table as before, and has worked
abbrev pub HasWorkedOn : {D : Type 0} → Pass D Call → Pass D Call → Type 0
HasWorkedOn p q = (q.table_id ≡ p.table_id) × HasWorked (view_of p) (view_of q)

-- the last entry that the seat has seen is its own last call, a task that was answered that nothing is left
pub record HasSeenDone (w : View Call) : Type 0 where
  pub front : List (Entry Call)
  pub own : List (Entry Call)
  pub last : Entry Call
  pub seen_is : w.seen ≡ front ++ last ∷ []
  pub mine_is : w.mine ≡ own ++ last ∷ []
  pub done : last.call ≡ Tasking task.Done

-- the seat has made all its calls, or was told that nothing is left
abbrev pub HasEndedWell : ℕ → View Call → Type 0
HasEndedWell calls w = (calls ≡ MAX_CALLS) ⊎ HasSeenDone w

-- this holds of the items at each place of two lists
abbrev pub AreRelated : {W : Type 0} → (W → W → Type 0) → List W → List W → Type 0
AreRelated {W} Relation before after = (k : ℕ) (d : W) → k < length before → Relation (slice_index_or before k d) (slice_index_or after k d)
