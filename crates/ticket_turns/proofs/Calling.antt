-- What a turn tells of a caller's pass, for whoever makes calls.
use Rattle.std.proofs.Common.{◌≡◌, ℕ, ◌<◌, List, [], ◌∷◌, ◌++◌, refl, ap, sym, subst, ◌∙◌, arith, false, Option, Some, None}
use Rattle.atomic_table.specs.Table.{rest}
use Rattle.ticket_turns.specs.declared.limits.TheConstants.{MAX_CALLS}
use Rattle.ticket_turns.specs.declared.view.Entry.{Entry}
use Rattle.ticket_turns.specs.declared.view.Role.TheVariants.{Maker, Caller, Guest}
use Rattle.ticket_turns.specs.declared.view.Role.{Role}
use Rattle.ticket_turns.specs.declared.view.Stage.TheVariants.{Idle, Holding}
use Rattle.ticket_turns.specs.Histories.{Leading, OwnCalls, IsCaller, number_of, entry_of, calls_by}
use Rattle.ticket_turns.specs.Steps.{Knowing, with_seen, drawing, adding, Learns, IsServed}
use Rattle.ticket_turns.specs.Passes.{Pass, IsReady, IsAtRest, HasEntered, HasAdded, IsAdding}
use Rattle.ticket_turns.proofs.Growing.{own_more}

-- whoever is at rest is a caller
pub is_caller : {D C : Type 0} (number calls : ℕ) (pass : Pass D C) → IsAtRest number calls pass → IsCaller pass.me.0.role
is_caller number calls pass resting = subst IsCaller (sym resting.1) tt

-- a caller at rest with calls left is ready
pub ready : {D C : Type 0} (number calls : ℕ) (pass : Pass D C) → IsAtRest number calls pass → calls < MAX_CALLS → IsReady pass
ready number calls pass resting below =
    let few = resting.3 in
    let one = resting.4 in
    (resting.0, is_caller number calls pass resting, omega arith, omega arith)

-- what is said of each role, of a caller
pub own_calls : {C : Type 0} (history : List (Entry C)) (role : Role) (mine : List (Entry C)) → IsCaller role → OwnCalls history role mine → calls_by (number_of role) history ≡ mine
own_calls history (Maker m) mine is own = absurd is
own_calls history (Caller n) mine is own = own
own_calls history Guest mine is own = absurd is

abbrev value_or : {D : Type 0} → D → Option D → D
value_or d None = d
value_or d (Some p) = p

abbrev first_value : {D : Type 0} → D → List (ℕ × Option D) → D
first_value d [] = d
first_value d (x ∷ xs) = value_or d x.1

module _ {D C : Type 0} (leads : Leading D C) where
  -- drawing, looking and taking, one after another
  pub entered : (old drawn served new : Knowing D C) (ticket : ℕ) (value : D) → drawn ≡ (drawing old.0 ticket, old.1) → old.1 ≡ [] → IsServed leads ticket drawn served → served.1 ≡ (0, Some value) ∷ rest served.1
      → new ≡ (served.0, (0, None) ∷ rest served.1) → HasEntered leads old new value
  entered old drawn served new ticket value drew none_held h took put =
      let after : served ≡ (with_seen (drawing old.0 ticket) (Holding ticket false) h.history, (0, Some h.value) ∷ old.1) = h.after ∙ ap (λ (x : Knowing D C). (with_seen x.0 (Holding ticket false) h.history, (0, Some h.value) ∷ x.1)) drew in
      let left : rest served.1 ≡ [] = ap (λ (x : Knowing D C). rest x.1) after ∙ none_held in
      let lists : (0, Some h.value) ∷ old.1 ≡ (0, Some value) ∷ rest served.1 = sym (ap (λ (x : Knowing D C). x.1) after) ∙ took in
      let same : h.value ≡ value = ap (first_value value) lists in
      let l : Learns leads (drawing old.0 ticket) h.history = subst (λ (x : Knowing D C). Learns leads x.0 h.history) drew h.learns in
      record {
        ticket = ticket;
        history = h.history;
        after = put ∙ (λ i. ((after i).0, (0, None) ∷ left i));
        can = subst (λ p. leads h.history p) same h.can;
        learns = record { legal = l.legal; seen = l.seen; heard = l.heard; own = l.own };
      }

  -- entering and leaving
  pub is_adding : IsAdding leads
  is_adding old inside new found call is entered left =
      let v = with_seen (drawing old.0 entered.ticket) (Holding entered.ticket false) entered.history in
      let e = entry_of old.0 call in
      let begins = entered.learns.seen in
      let after : new.0 ≡ adding v Idle call = ap (λ (x : Knowing D C). x.0) left ∙ ap (λ (x : Knowing D C). adding x.0 Idle call) entered.after in
      subst (λ w. HasAdded leads found old.0 w call) (sym after) record {
        between = begins.0;
        can = subst (λ l. leads l found) (sym begins.1) entered.can;
        ends = ap (λ l. l ++ e ∷ []) (sym begins.1);
        mine = refl;
        role = refl;
        calls = own_calls (entered.history ++ e ∷ []) old.0.role (old.0.mine ++ e ∷ []) is (own_more entered.history e old.0.role old.0.mine is refl entered.learns.own);
      }
