use Rattle.std.proofs.Common.{◌≡◌, ℕ, ◌+◌, ◌%◌, ◌^◌, true, false, List, [], ◌∷◌, ◌++◌, length, sum_by, inr, refl, ap, sym, subst, ◌∙◌, arith, length-append, Some}
use mathlib.Core.Option.{some}
use mathlib.Core.List.{IsPrefix}
use lib.ListN.{get_elem?}
use Rattle.atomic_table.specs.Table.{keeps, Allows}
use Rattle.atomic_table.proofs.Lists.{set_here}
use Rattle.ticket_turns.specs.declared.view.Entry.{Entry}
use Rattle.ticket_turns.specs.declared.view.Stage.{Stage}
use Rattle.ticket_turns.specs.declared.view.Stage.TheVariants.{Idle, Waiting, Holding}
use Rattle.ticket_turns.specs.declared.view.View.{View}
use Rattle.ticket_turns.specs.Histories.{Leading, IsLegal, IsCaller, entry_of}
use Rattle.ticket_turns.specs.Rules.{TableState, ticket_of, TicketsApart, StageFits, Fits, HoldsSlot, IsOut, all_draws, Kept}
use Rattle.ticket_turns.specs.Steps.{Knowing, adding, raised_stage, Raises}
use Rattle.ticket_turns.proofs.ViewLists.{prefix_self, prefix_more, each_set, at_inside, held_set}
use Rattle.ticket_turns.proofs.Growing.{own_more, own_other}
use Rattle.ticket_turns.proofs.Keeping.{any_step, GoesAt, apart_set, holding, others_apart, stays_apart, draws_stay, parts_stay, is_out}

-- Raising the count keeps the rule: the holder of the slot adds its call to the history.

module _ {C : Type 0} (tickets serving : ℕ) (history more : List (Entry C)) (v : View C) where
  -- whoever has another ticket than the one that is served fits a longer history
  stage_other : (stage : Stage) → TicketsApart (ticket_of stage) (Some serving) → StageFits tickets serving history v stage → StageFits tickets serving more v stage
  stage_other Idle ne f = tt
  stage_other (Waiting t) ne f = f
  stage_other (Holding t raised) ne f = absurd (ne f.0)

module _ {D C : Type 0} (leads : Leading D C) (callers id : ℕ) (m : Knowing D C) (call : C) (t : ℕ) (s : TableState D C) (k : Kept leads callers s) where
  raises_at : m.0.stage ≡ Holding t false → IsCaller m.0.role → IsLegal leads (m.0.seen ++ entry_of m.0 call ∷ []) → get_elem? s.views id ≡ some m.0 → IsOut k.serving k.history s
      → GoesAt leads callers s (k.tickets ∷ k.serving ∷ length k.history ∷ []) id m 2 (λ n. (n + 1) % 2 ^ 64) (Raises call any_step m)
  raises_at is caller legal at out =
      let v = m.0 in
      let w = adding v (raised_stage v.stage) call in
      let e = entry_of v call in
      let all : k.tickets + sum_by (λ (u : View C). u.draws) s.views ≡ all_draws callers = k.draws in
      let few = k.few in
      let f = k.each id v at in
      let has_slot = holding leads callers s k id v t false is at out in
      let holds = has_slot.0 in
      let long = has_slot.2 in
      let grown = length-append k.history (e ∷ []) in
      let below = holds.1 in
      let is_served = holds.0 in
      let whole : v.seen ++ e ∷ [] ≡ k.history ++ e ∷ [] = ap (λ l. l ++ e ∷ []) holds.4 in
      let after : raised_stage v.stage ≡ Holding t true = ap raised_stage is in
      let tickets : ticket_of v.stage ≡ ticket_of (raised_stage v.stage) = ap ticket_of is ∙ ap ticket_of (sym after) in
      let others = others_apart leads callers s k id v has_slot.1 at in (
        w,
        keeps,
        tt,
        record {
          tickets = k.tickets;
          serving = k.serving;
          history = k.history ++ e ∷ [];
          few = k.few;
          order = k.order;
          words = ap (λ x. k.tickets ∷ k.serving ∷ x ∷ []) (omega arith);
          draws = draws_stay leads callers s k id v w refl at;
          parts = parts_stay leads callers s k id v w refl at;
          legal = subst (IsLegal leads) whole legal;
          each = each_set (λ _ u. Fits k.tickets k.serving (k.history ++ e ∷ []) u) s.views id w
              (record {
                seen = subst (λ l. IsPrefix l (k.history ++ e ∷ [])) (sym whole) (prefix_self (k.history ++ e ∷ []));
                heard = prefix_more v.heard k.history (e ∷ []) f.heard;
                own = own_more k.history e v.role v.mine caller refl f.own;
                stage = subst (StageFits k.tickets k.serving (k.history ++ e ∷ []) w) (sym after) (holds.0, holds.1, holds.2, holds.3, whole);
              })
              (λ j u ne there. let g = k.each j u there in record {
                seen = prefix_more u.seen k.history (e ∷ []) g.seen;
                heard = prefix_more u.heard k.history (e ∷ []) g.heard;
                own = own_other k.history e v.role u.role u.mine caller refl (k.apart j id u v ne there at).0 g.own;
                stage = stage_other k.tickets k.serving k.history (k.history ++ e ∷ []) u u.stage (others j u ne there) g.stage;
              });
          apart = apart_set s.views id w k.apart (stays_apart leads callers s k id v w.stage (sym tickets) at);
          held = λ u from below. held_set s.views id v w u at (λ has. sym tickets ∙ has) (k.held u from below);
          place = inr record {
            homes = out.homes;
            holder = id;
            view = w;
            raised = true;
            here = set_here s.views id w (at_inside s.views id v at);
            stage = after ∙ ap (λ x. Holding x true) holds.0;
            long = omega arith;
          };
        },
        refl,
      )

module _ {D C : Type 0} (leads : Leading D C) where
  -- a call is added
  pub raises_call : (callers slots id : ℕ) (m : Knowing D C) (call : C) (t : ℕ) → m.0.stage ≡ Holding t false → IsCaller m.0.role → IsLegal leads (m.0.seen ++ entry_of m.0 call ∷ [])
      → Allows (Kept leads callers) slots id m 2 (λ n. (n + 1) % 2 ^ 64) (Raises call any_step m)
  raises_call callers slots id m call t is caller legal s k _ at _ =
      subst (λ words. GoesAt leads callers s words id m 2 (λ n. (n + 1) % 2 ^ 64) (Raises call any_step m)) (sym k.words)
      (raises_at leads callers id m call t s k is caller legal at (is_out leads callers s k id m.0 (subst HoldsSlot (sym is) tt) at k.place))
