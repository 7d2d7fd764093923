use Rattle.std.proofs.Common.{◌≡◌, ◌≢◌, ℕ, false, [], ◌∷◌, length, get_or, set, ◌⊎◌, inl, inr, refl, ap, sym, subst, ◌∙◌, arith, Option, Some}
use mathlib.Core.Logic.{dite}
use mathlib.Core.Option.{some, none}
use native.Mathlib.Decide.{ℕ_discrete}
use lib.ListN.{get_elem?}
use Rattle.atomic_table.specs.Table.{Act, keeps, takes, Allows, rest, homes_after}
use Rattle.atomic_table.proofs.Lists.{set_again, set_here}
use Rattle.ticket_turns.specs.declared.view.Stage.{Stage}
use Rattle.ticket_turns.specs.declared.view.Stage.TheVariants.{Idle, Waiting, Holding}
use Rattle.ticket_turns.specs.declared.view.View.{View}
use Rattle.ticket_turns.specs.Histories.{Leading}
use Rattle.ticket_turns.specs.Rules.{TableState, ticket_of, StageFits, Fits, IsHome, IsOut, Kept}
use Rattle.ticket_turns.specs.Steps.{Knowing, with_seen, IsServed, Glances, LooksAt, Looks, Hears}
use Rattle.ticket_turns.proofs.ViewLists.{prefix_self, each_set, at_inside, held_set}
use Rattle.ticket_turns.proofs.Keeping.{views_keep, any_step, GoesAt, idle_holds_none, apart_set, place_set, learned, holder_view, stays_apart, draws_stay, parts_stay}

-- Looking which ticket is served keeps the rule.

module _ {D C : Type 0} (leads : Leading D C) (callers id : ℕ) (m : Knowing D C) (s : TableState D C) (k : Kept leads callers s) where
  -- the table after the pass has seen the whole history and done this with the slot
  abbrev seen_all : Stage → Act (Option D) → TableState D C
  seen_all stage act = record { words = k.tickets ∷ k.serving ∷ length k.history ∷ []; homes = homes_after s.homes m.1 act; views = set s.views id (with_seen m.0 stage k.history) }

  -- a pass that sees the whole history and keeps its ticket keeps the rule
  sees_all : get_elem? s.views id ≡ some m.0 → (stage : Stage) (act : Act (Option D)) → ticket_of stage ≡ ticket_of m.0.stage → StageFits k.tickets k.serving k.history (with_seen m.0 stage k.history) stage
      → IsHome leads k.serving k.history (seen_all stage act) ⊎ IsOut k.serving k.history (seen_all stage act) → Kept leads callers (seen_all stage act)
  sees_all at stage act same fits place =
      let v = m.0 in
      let w = with_seen v stage k.history in
      let f = k.each id v at in
      views_keep leads callers s k (seen_all stage act) (sym k.words) (draws_stay leads callers s k id v w refl at) (parts_stay leads callers s k id v w refl at)
      (each_set (λ _ u. Fits k.tickets k.serving k.history u) s.views id w (record { seen = prefix_self k.history; heard = f.heard; own = f.own; stage = fits }) (λ j u _ there. k.each j u there))
      (apart_set s.views id w k.apart (stays_apart leads callers s k id v stage same at)) (λ t from below. held_set s.views id v w t at (λ has. same ∙ has) (k.held t from below)) place

  -- the ticket is served: the pass takes the slot
  served : get_elem? s.views id ≡ some m.0 → m.0.stage ≡ Waiting k.serving → IsHome leads k.serving k.history s
      → GoesAt leads callers s (k.tickets ∷ k.serving ∷ length k.history ∷ []) id m 1 (λ n. n) (λ n new. LooksAt leads (Waiting k.serving) m n new)
  served at is home =
      let v = m.0 in
      let w = with_seen v (Holding k.serving false) k.history in
      let waits = subst (StageFits k.tickets k.serving k.history v) is (k.each id v at).stage in
      let long = home.long in (
        w,
        takes 0 (Some home.value),
        ap (λ hs. get_elem? hs 0) home.homes,
        sees_all at (Holding k.serving false) (takes 0 (Some home.value)) (ap ticket_of (sym is)) (refl, waits.1, waits.2, waits.3, refl) (inr record {
          homes = ap (λ hs. set hs 0 none) home.homes;
          holder = id;
          view = w;
          raised = false;
          here = set_here s.views id w (at_inside s.views id v at);
          stage = refl;
          long = omega arith;
        }),
        ((λ _. record { history = k.history; value = home.value; after = refl; can = home.can; learns = learned leads callers s k id v at }), (λ ne. absurd (ne refl))),
      )

  -- another ticket is served: nothing changes
  unserved : (t : ℕ) → get_elem? s.views id ≡ some m.0 → k.serving ≢ t
      → GoesAt leads callers s (k.tickets ∷ k.serving ∷ length k.history ∷ []) id m 1 (λ n. n) (λ n new. LooksAt leads (Waiting t) m n new)
  unserved t at ne = (
    m.0,
    keeps,
    tt,
    subst (λ vs. Kept leads callers record { words = k.tickets ∷ k.serving ∷ length k.history ∷ []; homes = s.homes; views = vs }) (sym (set_again s.views id m.0 at))
        (subst (λ words. Kept leads callers record { words = words; homes = s.homes; views = s.views }) k.words k),
    ((λ e. absurd (ne e)), (λ _. refl)),
  )

  -- while a waiting pass has the ticket that is served, the value is in the slot
  at_home : get_elem? s.views id ≡ some m.0 → m.0.stage ≡ Waiting k.serving → IsHome leads k.serving k.history s ⊎ IsOut k.serving k.history s → IsHome leads k.serving k.history s
  at_home at is (inl h) = h
  at_home at is (inr a) =
      let same = holder_view leads callers s k id m.0 a at (ap ticket_of is) in
      let bad : Waiting k.serving ≡ Holding k.serving a.raised = sym is ∙ (ap (λ (u : View C). u.stage) (sym same) ∙ a.stage) in
      absurd (cc bad)

  looks_at : (t : ℕ) → get_elem? s.views id ≡ some m.0 → m.0.stage ≡ Waiting t
      → GoesAt leads callers s (k.tickets ∷ k.serving ∷ length k.history ∷ []) id m 1 (λ n. n) (λ n new. LooksAt leads (Waiting t) m n new)
  looks_at t at is = dite (ℕ_discrete k.serving t)
      (λ e. subst (λ u. GoesAt leads callers s (k.tickets ∷ k.serving ∷ length k.history ∷ []) id m 1 (λ n. n) (λ n new. LooksAt leads (Waiting u) m n new)) e
      (let is' : m.0.stage ≡ Waiting k.serving = is ∙ ap (λ (x : ℕ). Waiting x) (sym e) in served at is' (at_home at is' k.place)))
      (λ ne. unserved t at ne)

  -- a pass without a ticket sees the whole history
  hears_at : get_elem? s.views id ≡ some m.0 → m.0.stage ≡ Idle
      → GoesAt leads callers s (k.tickets ∷ k.serving ∷ length k.history ∷ []) id m 1 (λ n. n) (Hears leads any_step m)
  hears_at at is =
      let v = m.0 in
      let w = with_seen v v.stage k.history in (
        w,
        keeps,
        tt,
        sees_all at v.stage keeps refl (subst (StageFits k.tickets k.serving k.history w) (sym is) tt)
            (place_set leads k.serving k.history s _ id v w at (idle_holds_none v.stage is) (idle_holds_none v.stage is) k.place),
        record { history = k.history; after = refl; learns = learned leads callers s k id v at },
      )

module _ {D C : Type 0} (leads : Leading D C) where
  -- a look with a ticket
  pub looks : (callers slots id : ℕ) (m : Knowing D C) (t : ℕ) → m.0.stage ≡ Waiting t → Allows (Kept leads callers) slots id m 1 (λ n. n) (Looks leads any_step m)
  looks callers slots id m t is s k _ at _ =
      subst (λ words. GoesAt leads callers s words id m 1 (λ n. n) (Looks leads any_step m)) (sym k.words)
      (subst (λ stage. GoesAt leads callers s (k.tickets ∷ k.serving ∷ length k.history ∷ []) id m 1 (λ n. n) (λ n new. LooksAt leads stage m n new)) (sym is)
      (looks_at leads callers id m s k t at is))

  -- a look without one
  pub hears : (callers slots id : ℕ) (m : Knowing D C) → m.0.stage ≡ Idle → Allows (Kept leads callers) slots id m 1 (λ n. n) (Hears leads any_step m)
  hears callers slots id m is s k _ at _ = subst (λ words. GoesAt leads callers s words id m 1 (λ n. n) (Hears leads any_step m)) (sym k.words) (hears_at leads callers id m s k at is)

  -- a glance at a word, which changes nothing
  pub glances : (callers slots id : ℕ) (m : Knowing D C) (i : ℕ) → ((a b c : ℕ) → set (a ∷ b ∷ c ∷ []) i (get_or (a ∷ b ∷ c ∷ []) i 0) ≡ a ∷ b ∷ c ∷ [])
      → Allows (Kept leads callers) slots id m i (λ n. n) (Glances any_step m)
  glances callers slots id m i stays s k _ at _ =
      subst (λ words. GoesAt leads callers s words id m i (λ n. n) (Glances any_step m)) (sym k.words) (
        m.0,
        keeps,
        tt,
        subst (λ vs. Kept leads callers record { words = set (k.tickets ∷ k.serving ∷ length k.history ∷ []) i (get_or (k.tickets ∷ k.serving ∷ length k.history ∷ []) i 0); homes = s.homes; views = vs }) (sym (set_again s.views id m.0 at))
            (subst (λ words. Kept leads callers record { words = words; homes = s.homes; views = s.views }) (k.words ∙ sym (stays k.tickets k.serving (length k.history))) k),
        refl,
      )

  -- a look that finds the caller's own ticket hands it the slot
  pub served_after : (m new : Knowing D C) (t n : ℕ) → LooksAt leads m.0.stage m n new → m.0.stage ≡ Waiting t → n ≡ t → IsServed leads t m new
  served_after m new t n l is e = (subst (λ stage. LooksAt leads stage m n new) is l).0 e

  -- a pass whose ticket is served has the slot, in front of what it had
  pub has_slot : (m new : Knowing D C) (t : ℕ) → IsServed leads t m new → (value : D) × (new.1 ≡ (0, Some value) ∷ rest new.1)
  has_slot m new t h = (h.value, ap (λ x. x.1) h.after ∙ ap (λ xs. (0, Some h.value) ∷ xs) (sym (ap (λ (x : Knowing D C). rest x.1) h.after)))
