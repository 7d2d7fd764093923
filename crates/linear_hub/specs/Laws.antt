-- What calls make of a seat, one row of calls behind the other.
use Rattle.std.proofs.Common.{List, [], ◌∷◌, ◌++◌, refl, sym, ap, ◌∙◌, append_assoc, append-nil}
use Rattle.ticket_turns.specs.declared.view.Entry.{Entry}
use Rattle.ticket_turns.specs.declared.view.View.{View}
use Rattle.ticket_turns.specs.Passes.{Pass, view_of}
use Rattle.linear_hub.specs.Calls.{Call}
use Rattle.linear_hub.specs.Works.{HaveNoPricing, HasWorked, HasWorkedOn}

both : (xs ys : List (Entry Call)) → HaveNoPricing xs → HaveNoPricing ys → HaveNoPricing (xs ++ ys)
both [] ys p q = q
both (x ∷ xs) ys p q = (p.0, both xs ys p.1 q)

-- where no call is made, a seat's calls grew by none
pub worked_same : (v : View Call) → HasWorked v v
worked_same v = record { added = []; mine = sym (append-nil v.mine); no_pricing = tt; role = refl }

-- what grew twice grew by both, one behind the other
pub worked_more : (u v w : View Call) → HasWorked u v → HasWorked v w → HasWorked u w
worked_more u v w p q = record {
  added = p.added ++ q.added;
  mine = q.mine ∙ ap (λ l. l ++ q.added) p.mine ∙ append_assoc u.mine p.added q.added;
  no_pricing = both p.added q.added p.no_pricing q.no_pricing;
  role = q.role ∙ p.role;
}

-- the seat stays of its table
pub seat_same : {D : Type 0} (p : Pass D Call) → HasWorkedOn p p
seat_same p = (refl, worked_same (view_of p))

-- the same behind calls that follow others
pub seat_more : {D : Type 0} (p q r : Pass D Call) → HasWorkedOn p q → HasWorkedOn q r → HasWorkedOn p r
seat_more p q r s t = (t.0 ∙ s.0, worked_more (view_of p) (view_of q) (view_of r) s.1 t.1)
