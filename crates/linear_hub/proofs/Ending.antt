-- Seats as they are made, and as they are taken in.
use Rattle.std.proofs.Common.{◌≡◌, ℕ, List, [], ◌∷◌, ◌++◌, length, ⊎_elim, sym, subst, Some, slice_get}
use mathlib.Core.List.{IsPrefix}
use Rattle.ticket_turns.specs.declared.view.Entry.{Entry}
use Rattle.ticket_turns.specs.declared.view.View.{View}
use Rattle.ticket_turns.specs.Histories.{IsCaller}
use Rattle.ticket_turns.specs.Passes.{HasMet as Meets}
use Rattle.ticket_turns.proofs.Calling.{own_calls}
use Rattle.block_deques.proofs.Places.{got_end}
use Rattle.linear_hub.proofs.Callers.{prefix_trans, still, none_left}
use Rattle.search_machine.specs.State.{State}
use Rattle.linear_hub.specs.Calls.{Call}
use Rattle.linear_hub.specs.Histories.{Leads}
use Rattle.linear_hub.specs.Seats.{AreNew, HasMet, HasEnded, HasGathered, Remains}
use Rattle.linear_hub.proofs.Answering.{LeadsTo}

-- one seat more
pub new_more : {L : Type 0} (number_of calls_of : L → ℕ) (view_in : L → View Call) (xs : List L) (x : L) → AreNew number_of calls_of view_in xs
    → (number_of x ≡ length xs) × (calls_of x ≡ 0) × ((view_in x).seen ≡ []) × ((view_in x).mine ≡ []) → AreNew number_of calls_of view_in (xs ++ x ∷ [])
new_more {L} number_of calls_of view_in xs x all new k s at = ⊎_elim (λ t. all k s t)
    (λ (t : (k ≡ length xs) × (x ≡ s)). subst (λ (z : ℕ × L). (number_of z.1 ≡ z.0) × (calls_of z.1 ≡ 0) × ((view_in z.1).seen ≡ []) × ((view_in z.1).mine ≡ [])) (λ i. (sym t.0 i, t.1 i)) new)
    (got_end xs x s k at)

-- one was taken in
pub one_less : {L : Type 0} (seen_by : L → List (Entry Call)) (all old ys : List L) (x : L) (before after : List (Entry Call)) → old ≡ ys ++ x ∷ [] → IsPrefix before after → IsPrefix (seen_by x) after
    → Remains seen_by all old before → Remains seen_by all ys after
one_less seen_by all old ys x before after e more new rest k s at = still seen_by old ys x s k before after e more new (rest k s at)

-- none remains
pub none_remains : {L : Type 0} (seen_by : L → List (Entry Call)) (o p : State) (all ys : List L) (first seen history : List (Entry Call)) → length ys ≡ 0 → Remains seen_by all ys seen → IsPrefix first seen → IsPrefix seen history → Leads o history p
    → HasGathered seen_by o first all p
none_remains seen_by o p all ys first seen history empty rest own whole leads = record {
  history = history;
  leads = leads;
  own = prefix_trans first seen history own whole;
  seen = λ k s at. ⊎_elim (λ t. absurd (none_left ys s k empty t)) (λ h. prefix_trans (seen_by s) seen history h whole) (rest k s at);
}

-- with the last of the seats as the one that takes in the others
pub all_ended : {L : Type 0} (seen_by : L → List (Entry Call)) (o p : State) (xs ys : List L) (x : L) → xs ≡ ys ++ x ∷ [] → HasGathered seen_by o (seen_by x) ys p → HasEnded seen_by o xs p
all_ended seen_by o p xs ys x e h = record {
  history = h.history;
  leads = h.leads;
  seen = λ k s at. ⊎_elim (λ t. h.seen k s t) (λ (t : (k ≡ length ys) × (x ≡ s)). subst (λ z. IsPrefix (seen_by z) h.history) t.1 h.own) (got_end ys x s k (subst (λ zs. slice_get zs k ≡ Some s) e at));
}

-- two seats have met
pub both_met : {D : Type 0} (pool_in : D → State) (opening : State) (u v w : View Call) → IsCaller v.role → Meets (LeadsTo pool_in opening) u v w → HasMet opening u v w
both_met pool_in opening u v w caller m = record {
  legal = (pool_in m.legal.0, m.legal.1);
  theirs = m.theirs;
  ours = m.ours;
  mine = m.mine;
  role = m.role;
  calls = own_calls w.seen v.role w.mine caller m.own;
}
