use Rattle.std.proofs.Common.{◌≡◌, ℕ, ◌+◌, ◌%◌, ◌^◌, ◌≤◌, true, false, List, [], ◌∷◌, ◌++◌, length, set, sum_by, inl, refl, ap, sym, subst, ◌∙◌, arith, Option, Some, None}
use mathlib.Core.Logic.{dite}
use mathlib.Core.Option.{some}
use native.Mathlib.Decide.{ℕ_discrete}
use lib.ListN.{get_elem?}
use Rattle.atomic_table.specs.Table.{gives, Allows, put_back, rest}
use Rattle.ticket_turns.specs.declared.view.Entry.{Entry}
use Rattle.ticket_turns.specs.declared.view.Stage.{Stage}
use Rattle.ticket_turns.specs.declared.view.Stage.TheVariants.{Idle, Waiting, Holding}
use Rattle.ticket_turns.specs.declared.view.View.{View}
use Rattle.ticket_turns.specs.Histories.{Leading, entry_of}
use Rattle.ticket_turns.specs.Rules.{TableState, ticket_of, TicketsApart, StageFits, Fits, HoldsSlot, IsOut, all_draws, Kept}
use Rattle.ticket_turns.specs.Steps.{Knowing, with_seen, adding, raised_stage, Serves}
use Rattle.ticket_turns.proofs.ViewLists.{each_set, held_set}
use Rattle.ticket_turns.proofs.Keeping.{any_step, GoesAt, no_ticket, apart_set, holding, others_apart, draws_stay, parts_stay, is_out}

-- Serving the next ticket keeps the rule: the slot goes back, with the value in it.

module _ {C : Type 0} (tickets serving : ℕ) (history : List (Entry C)) (v : View C) where
  -- whoever has another ticket than the one that was served fits when the next one is
  stage_next : (stage : Stage) → TicketsApart (ticket_of stage) (Some serving) → StageFits tickets serving history v stage → StageFits tickets (serving + 1) history v stage
  stage_next Idle ne f = tt
  stage_next (Waiting t) ne f = let a = f.0 in (dite (ℕ_discrete t serving) (λ e. absurd (ne e)) (λ other. omega arith), f.1, f.2, f.3)
  stage_next (Holding t raised) ne f = absurd (ne f.0)

  holds_not : (stage : Stage) → TicketsApart (ticket_of stage) (Some serving) → StageFits tickets serving history v stage → HoldsSlot stage → ⊥
  holds_not Idle ne f holds = holds
  holds_not (Waiting t) ne f holds = holds
  holds_not (Holding t raised) ne f holds = ne f.0

module _ {D C : Type 0} (leads : Leading D C) (callers id : ℕ) (m : Knowing D C) (t : ℕ) (value : D) (s : TableState D C) (k : Kept leads callers s) where
  serves_at : m.0.stage ≡ Holding t true → m.1 ≡ (0, Some value) ∷ [] → leads m.0.seen value → get_elem? s.views id ≡ some m.0 → IsOut k.serving k.history s
      → GoesAt leads callers s (k.tickets ∷ k.serving ∷ length k.history ∷ []) id m 1 (λ n. (n + 1) % 2 ^ 64) (Serves any_step m)
  serves_at is has can at out =
      let v = m.0 in
      let w = with_seen v Idle v.seen in
      let all : k.tickets + sum_by (λ (u : View C). u.draws) s.views ≡ all_draws callers = k.draws in
      let few = k.few in
      let f = k.each id v at in
      let has_slot = holding leads callers s k id v t true is at out in
      let holds = has_slot.0 in
      let mine = has_slot.1 in
      let long = has_slot.2 in
      let below = holds.1 in
      let is_served = holds.0 in
      let others = others_apart leads callers s k id v mine at in
      let kept : (u : ℕ) → k.serving + 1 ≤ u → ticket_of v.stage ≡ Some u → ticket_of Idle ≡ Some u = λ u from has_it.
      let both : Some k.serving ≡ Some u = sym mine ∙ has_it in
      let one : k.serving ≡ u = cc both in absurd (omega arith) in (
        w,
        gives,
        tt,
        record {
          tickets = k.tickets;
          serving = k.serving + 1;
          history = k.history;
          few = k.few;
          order = omega arith;
          words = ap (λ x. k.tickets ∷ x ∷ length k.history ∷ []) (omega arith);
          draws = draws_stay leads callers s k id v w refl at;
          parts = parts_stay leads callers s k id v w refl at;
          legal = k.legal;
          each = each_set (λ _ u. Fits k.tickets (k.serving + 1) k.history u) s.views id w
              (record { seen = f.seen; heard = f.heard; own = f.own; stage = tt })
              (λ j u ne there. let g = k.each j u there in record { seen = g.seen; heard = g.heard; own = g.own; stage = stage_next k.tickets k.serving k.history u u.stage (others j u ne there) g.stage });
          apart = apart_set s.views id w k.apart (λ j u ne there. (((k.apart id j v u (λ e. ne (sym e)) at there).0, tt), ((k.apart j id u v ne there at).0, no_ticket (ticket_of u.stage))));
          held = λ u from below. held_set s.views id v w u at (kept u from) (k.held u (omega arith) below);
          place = inl record {
            value = value;
            homes = ap (put_back s.homes) has ∙ ap (λ hs. set hs 0 (some (Some value))) out.homes;
            can = subst (λ l. leads l value) holds.4 can;
            long = long;
            nobody = each_set (λ j u. HoldsSlot u.stage → ⊥) s.views id w (λ b. b) (λ j u ne there. holds_not k.tickets k.serving k.history u u.stage (others j u ne there) (k.each j u there).stage);
          };
        },
        refl,
      )

module _ {D C : Type 0} (leads : Leading D C) where
  -- the next ticket is served
  pub serves : (callers slots id : ℕ) (m : Knowing D C) (t : ℕ) (value : D) → m.0.stage ≡ Holding t true → m.1 ≡ (0, Some value) ∷ [] → leads m.0.seen value
      → Allows (Kept leads callers) slots id m 1 (λ n. (n + 1) % 2 ^ 64) (Serves any_step m)
  serves callers slots id m t value is has can s k _ at _ =
      subst (λ words. GoesAt leads callers s words id m 1 (λ n. (n + 1) % 2 ^ 64) (Serves any_step m)) (sym k.words)
      (serves_at leads callers id m t value s k is has can at (is_out leads callers s k id m.0 (subst HoldsSlot (sym is) tt) at k.place))

  -- the same behind a raise of the count, when the value was put into the slot
  pub serves_raised : (callers slots id : ℕ) (m raised put : Knowing D C) (call : C) (value : D) (t : ℕ) → m.0.stage ≡ Holding t false → m.1 ≡ (0, None) ∷ [] → leads (m.0.seen ++ entry_of m.0 call ∷ []) value
      → raised ≡ (adding m.0 (raised_stage m.0.stage) call, m.1) → put ≡ (raised.0, (0, Some value) ∷ rest raised.1)
      → Allows (Kept leads callers) slots id put 1 (λ n. (n + 1) % 2 ^ 64) (Serves any_step put)
  serves_raised callers slots id m raised put call value t is has can up back =
      let view : put.0 ≡ adding m.0 (raised_stage m.0.stage) call = ap (λ (x : Knowing D C). x.0) back ∙ ap (λ (x : Knowing D C). x.0) up in
      let slot : put.1 ≡ (0, Some value) ∷ [] = ap (λ (x : Knowing D C). x.1) back ∙ (ap (λ (x : Knowing D C). (0, Some value) ∷ rest x.1) up ∙ ap (λ (x : List (ℕ × Option D)). (0, Some value) ∷ rest x) has) in
      serves callers slots id put t value
      (ap (λ (x : View C). x.stage) view ∙ ap raised_stage is)
      slot
      (subst (λ l. leads l value) (sym (ap (λ (x : View C). x.seen) view)) can)
