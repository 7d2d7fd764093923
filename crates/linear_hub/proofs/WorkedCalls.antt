-- What one call makes of a seat.
use Rattle.std.proofs.Common.{ℕ, ◌≡◌, [], ◌∷◌, ◌++◌, inr, sym, ap, subst}
use Rattle.ticket_turns.specs.declared.view.View.{View}
use Rattle.ticket_turns.specs.Histories.{entry_of}
use Rattle.ticket_turns.specs.Passes.{Pass, view_of}
use Rattle.search_machine.specs.State.{State}
use Rattle.search_machine.specs.declared.task.Task.{Task}
use Rattle.search_machine.specs.declared.task.Task.TheVariants as task
use Rattle.linear_hub.specs.Calls.{Call, Tasking}
use Rattle.linear_hub.specs.Seats.{HasCalled}
use Rattle.linear_hub.specs.Works.{IsNoPricing, HasWorked, HasEndedWell}
use Rattle.linear_hub.specs.Laws.{worked_same}

-- a seat that makes no call
pub worked_read : {D : Type 0} (p q : Pass D Call) → q ≡ p → HasWorked (view_of p) (view_of q)
worked_read {D} p q same = subst (λ (z : Pass D Call). HasWorked (view_of p) (view_of z)) (sym same) (worked_same (view_of p))

-- each call but a reading of prices
pub called_worked : (opening : State) (v w : View Call) (call : Call) → HasCalled opening v w call → IsNoPricing call → HasWorked v w
called_worked opening v w call c no_pricing = record { added = entry_of v call ∷ []; mine = c.mine; no_pricing = (no_pricing, tt); role = c.role }

-- a task that tells that nothing is left
pub task_ended : (opening : State) (v w : View Call) (answer : Task) (calls : ℕ) → HasCalled opening v w (Tasking answer) → answer ≡ task.Done → HasEndedWell calls w
task_ended opening v w answer calls c is = inr record {
  front = v.seen ++ c.between;
  own = v.mine;
  last = entry_of v (Tasking answer);
  seen_is = c.ends;
  mine_is = c.mine;
  done = ap (λ t. Tasking t) is;
}
