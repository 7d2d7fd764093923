use Rattle.std.proofs.Common.{◌≡◌, ℕ, ◌+◌, ◌-◌, ◌%◌, ◌^◌, ◌<◌, ◌≤◌, List, [], ◌∷◌, length, set, sum_by, refl, ap, sym, subst, arith, Some}
use mathlib.Core.Logic.{dite}
use mathlib.Core.Option.{some}
use native.Mathlib.Decide.{ℕ_discrete}
use lib.ListN.{get_elem?}
use Rattle.atomic_table.specs.Table.{keeps, Allows}
use Rattle.ticket_turns.specs.declared.view.Entry.{Entry}
use Rattle.ticket_turns.specs.declared.view.Stage.{Stage}
use Rattle.ticket_turns.specs.declared.view.Stage.TheVariants.{Idle, Waiting, Holding}
use Rattle.ticket_turns.specs.declared.view.View.{View}
use Rattle.ticket_turns.specs.Histories.{Leading, IsCaller}
use Rattle.ticket_turns.specs.Rules.{TableState, ticket_of, TicketsApart, StageFits, Fits, IsHeld, all_draws, Kept}
use Rattle.ticket_turns.specs.Steps.{Knowing, drawing, Draws}
use Rattle.ticket_turns.proofs.ViewLists.{total_set, each_set, held_set, held_here}
use Rattle.ticket_turns.proofs.Keeping.{any_step, GoesAt, idle_holds_none, idle_keeps, apart_set, place_set}

-- Drawing a ticket keeps the rule.

module _ {C : Type 0} (tickets serving : ℕ) (history : List (Entry C)) (v : View C) where
  -- what fits still does when one ticket more is drawn
  pub fits_more : (stage : Stage) → StageFits tickets serving history v stage → StageFits (tickets + 1) serving history v stage
  fits_more Idle f = tt
  fits_more (Waiting t) f = let a = f.1 in (f.0, omega arith, f.2, f.3)
  fits_more (Holding t raised) f = let a = f.1 in (f.0, omega arith, f.2, f.3, f.4)

  -- no view has a ticket that was not drawn
  pub fresh_ticket : (stage : Stage) → StageFits tickets serving history v stage → TicketsApart (Some tickets) (ticket_of stage) × TicketsApart (ticket_of stage) (Some tickets)
  fresh_ticket Idle f = (tt, tt)
  fresh_ticket (Waiting t) f = let a = f.1 in ((λ e. omega arith), (λ e. omega arith))
  fresh_ticket (Holding t raised) f = let a = f.1 in ((λ e. omega arith), (λ e. omega arith))

module _ {D C : Type 0} (leads : Leading D C) (callers id : ℕ) (m : Knowing D C) (s : TableState D C) (k : Kept leads callers s) where
  -- the new ticket is held as the others are
  still_held : get_elem? s.views id ≡ some m.0 → m.0.stage ≡ Idle → (t : ℕ) → k.serving ≤ t → t < k.tickets + 1 → IsHeld (set s.views id (drawing m.0 k.tickets)) t
  still_held at idle t from below = dite (ℕ_discrete t k.tickets)
      (λ e. held_here s.views id m.0 (drawing m.0 k.tickets) t at (ap (λ (x : ℕ). Some x) (sym e)))
      (λ ne. held_set s.views id m.0 (drawing m.0 k.tickets) t at (idle_keeps m.0.stage t idle) (k.held t from (omega arith)))

  draws_at : get_elem? s.views id ≡ some m.0 → m.0.stage ≡ Idle → IsCaller m.0.role → 0 < m.0.draws → 0 < m.0.parts
      → GoesAt leads callers s (k.tickets ∷ k.serving ∷ length k.history ∷ []) id m 0 (λ n. (n + 1) % 2 ^ 64) (Draws any_step m)
  draws_at at idle is some_draw some_part =
      let t = k.tickets in
      let v = m.0 in
      let w = drawing v t in
      let draws = total_set (λ u. u.draws) s.views id v w at in
      let all : t + sum_by (λ (u : View C). u.draws) s.views ≡ all_draws callers = k.draws in
      let has : sum_by (λ (u : View C). u.draws) (set s.views id w) + v.draws ≡ sum_by (λ (u : View C). u.draws) s.views + (v.draws - 1) = draws in
      let parts = total_set (λ u. u.parts) s.views id v w at in
      let all_parts = k.parts in
      let order = k.order in
      let few = k.few in
      let n : (t + 1) % 2 ^ 64 ≡ t + 1 = omega arith in (
        w,
        keeps,
        tt,
        record {
          tickets = t + 1;
          serving = k.serving;
          history = k.history;
          few = k.few;
          order = omega arith;
          words = ap (λ x. x ∷ k.serving ∷ length k.history ∷ []) n;
          draws = omega arith;
          parts = omega arith;
          legal = k.legal;
          each = each_set (λ _ u. Fits (t + 1) k.serving k.history u) s.views id w
              (let f = k.each id v at in record { seen = f.seen; heard = f.heard; own = f.own; stage = (order, omega arith, some_part, is) })
              (λ j u _ there. let f = k.each j u there in record { seen = f.seen; heard = f.heard; own = f.own; stage = fits_more t k.serving k.history u u.stage f.stage });
          apart = apart_set s.views id w k.apart (λ j u ne there.
              let f = fresh_ticket t k.serving k.history u u.stage (k.each j u there).stage in
              (((k.apart id j v u (λ e. ne (sym e)) at there).0, f.0), ((k.apart j id u v ne there at).0, f.1)));
          held = still_held at idle;
          place = place_set leads k.serving k.history s _ id v w at (idle_holds_none v.stage idle) (λ b. b) k.place;
        },
        refl,
      )

module _ {D C : Type 0} (leads : Leading D C) (callers slots id : ℕ) (m : Knowing D C) where
  -- a ticket is drawn
  pub draws : m.0.stage ≡ Idle → IsCaller m.0.role → 0 < m.0.draws → 0 < m.0.parts → Allows (Kept leads callers) slots id m 0 (λ n. (n + 1) % 2 ^ 64) (Draws any_step m)
  draws idle is some_draw some_part s k _ at _ = subst (λ words. GoesAt leads callers s words id m 0 (λ n. (n + 1) % 2 ^ 64) (Draws any_step m)) (sym k.words)
      (draws_at leads callers id m s k at idle is some_draw some_part)
