-- Where events lead: one after another, and from an opening state.
use Rattle.std.proofs.Common.{◌≡◌, ℕ, List, [], ◌∷◌, ◌++◌, refl, sym, ap, subst, ◌∙◌}
use Rattle.plan_base.specs.declared.parts.Parts.{Parts}
use Rattle.proof_tree.specs.declared.cuts.Cut.{Cut}
use Rattle.search_machine.specs.State.{State}
use Rattle.search_machine.specs.Machine.{Event, Answer, Step, Entry, Run, IsOpeningState, IsReachable}
use Rattle.search_machine.specs.Tasks.{LeadsTo, IsSearchState}
use Rattle.search_machine.proofs.Runs.{opening-at, Step-goes, IsReachable-step, IsReachable-sound}

Run-append : (s t u : State) (xs ys : List Entry) → Run s xs t → Run t ys u → Run s (xs ++ ys) u
Run-append s t u [] ys run more = subst (λ (x : State). Run x ys u) run more
Run-append s t u (x ∷ xs) ys run more = (run.0, run.1, Run-append run.0 t u xs ys run.2 more)

-- a state leads to itself by no event
pub LeadsTo-stays : (s t : State) → t ≡ s → LeadsTo s t
LeadsTo-stays s t e = ([], e)

-- where events lead to a state and from it to a third, they lead to the third
pub LeadsTo-trans : (s t u : State) → LeadsTo s t → LeadsTo t u → LeadsTo s u
LeadsTo-trans s t u h k = (h.0 ++ k.0, Run-append s t u h.0 k.0 h.1 k.1)

-- one event leads to the state after it
pub LeadsTo-one : (s t : State) (event : Event) (answer : Answer) → Step s event answer t → LeadsTo s t
LeadsTo-one s t event answer step =
    let entry : Entry = record { event = event; answer = answer } in
    (entry ∷ [], (t, step, refl))

-- events leave the instance, the cuts and the budget
pub record KeepsBase (s t : State) : Type 0 where
  pub problem : t.problem ≡ s.problem
  pub cuts : t.cuts ≡ s.cuts
  pub budget : t.budget ≡ s.budget

Run-base : (s t : State) (entries : List Entry) → Run s entries t → KeepsBase s t
Run-base s t [] run = record { problem = ap (λ (x : State). x.problem) run; cuts = ap (λ (x : State). x.cuts) run; budget = ap (λ (x : State). x.budget) run }
Run-base s t (entry ∷ entries) run =
    let one = Step-goes s run.0 entry.event entry.answer run.1 in
    let rest = Run-base run.0 t entries run.2 in
    record { problem = rest.problem ∙ one.problem; cuts = rest.cuts ∙ one.cuts; budget = rest.budget ∙ one.budget }

-- where events lead, the instance, the cuts and the budget are the same
pub LeadsTo-base : (s t : State) → LeadsTo s t → KeepsBase s t
LeadsTo-base s t h = Run-base s t h.0 h.1

Run-reachable : (s t : State) (entries : List Entry) → IsReachable s → Run s entries t → IsReachable t
Run-reachable s t [] h run = subst IsReachable (sym run) h
Run-reachable s t (entry ∷ entries) h run = Run-reachable run.0 t entries (IsReachable-step s run.0 entry.event entry.answer h run.1) run.2

-- where events lead to from a state that can be reached can be reached too
pub LeadsTo-reachable : (s t : State) → IsReachable s → LeadsTo s t → IsReachable t
LeadsTo-reachable s t h leads = Run-reachable s t leads.0 h leads.1

-- where events lead from an opening state
pub opening-leads : (p : Parts) (cuts : List Cut) (budget : ℕ) (s t : State) → IsOpeningState p cuts budget s → LeadsTo s t → IsSearchState p cuts budget t
opening-leads p cuts budget s t opening leads =
    let problem : s.problem ≡ p = ap (λ (x : State). x.problem) opening.is_state in
    let cuts_are : s.cuts ≡ cuts = ap (λ (x : State). x.cuts) opening.is_state in
    let budget_is : s.budget ≡ budget = ap (λ (x : State). x.budget) opening.is_state in
    let first : IsReachable s = record {
      opening = s;
      entries = [];
      is_opening = opening-at p s.problem cuts s.cuts budget s.budget s problem cuts_are budget_is opening;
      run = refl;
    } in
    let reachable = LeadsTo-reachable s t first leads in
    let base = LeadsTo-base s t leads in
    record {
      reachable = reachable;
      sound = IsReachable-sound t reachable;
      problem = base.problem ∙ problem;
      cuts_are = base.cuts ∙ cuts_are;
      budget_is = base.budget ∙ budget_is;
    }
