use Rattle.std.proofs.Common.{◌≡◌, ℕ, set, refl, ap, sym, subst, ◌∙◌, arith}
use mathlib.Core.Option.{some}
use mathlib.Core.List.{IsPrefix}
use lib.ListN.{get_elem?}
use Rattle.atomic_table.specs.Table.{Joins}
use Rattle.atomic_table.proofs.Lists.{set_else}
use Rattle.ticket_turns.specs.declared.view.Stage.TheVariants.{Idle}
use Rattle.ticket_turns.specs.declared.view.View.{View}
use Rattle.ticket_turns.specs.Histories.{Leading}
use Rattle.ticket_turns.specs.Rules.{StageFits, Fits, Kept}
use Rattle.ticket_turns.specs.Steps.{Knowing, spent, joined, guest_of, with_seen, Learns, HasHeard}
use Rattle.ticket_turns.specs.Passes.{HasMet, HasTakenIn}
use Rattle.ticket_turns.proofs.ViewLists.{prefix_nil, total_set, each_set, held_set}
use Rattle.ticket_turns.proofs.Keeping.{views_keep, idle_holds_none, idle_keeps, stranger_apart, apart_set, place_set, stays_apart}

-- Joining two views keeps the rule, and what the one knows that took in the other.

module _ {D C : Type 0} (leads : Leading D C) (callers : ℕ) where
  -- one view takes in another
  pub joins : (id other : ℕ) (v w : View C) → v.stage ≡ Idle → w.stage ≡ Idle → Joins (Kept leads callers) id v other w (joined v w) spent
  joins id other v w idle idle' s k at ne at' =
      let both = joined v w in
      let vs = set s.views id both in
      let there : get_elem? s.views other ≡ some w = sym (set_else s.views id other both ne) ∙ at' in
      let draws = total_set (λ u. u.draws) s.views id v both at in
      let draws' = total_set (λ u. u.draws) vs other w spent at' in
      let all = k.draws in
      let parts = total_set (λ u. u.parts) s.views id v both at in
      let parts' = total_set (λ u. u.parts) vs other w spent at' in
      let all_parts = k.parts in
      let f = k.each id v at in
      let g = k.each other w there in
      views_keep leads callers s k record { words = s.words; homes = s.homes; views = set vs other spent } refl (omega arith) (omega arith)
      (each_set (λ _ u. Fits k.tickets k.serving k.history u) vs other spent (record { seen = prefix_nil k.history; heard = prefix_nil k.history; own = tt; stage = tt })
      (λ j u _ here. each_set (λ _ u. Fits k.tickets k.serving k.history u) s.views id both
      (record { seen = f.seen; heard = g.seen; own = f.own; stage = subst (StageFits k.tickets k.serving k.history both) (sym idle) tt }) (λ j u _ here. k.each j u here) j u here))
      (apart_set vs other spent (apart_set s.views id both k.apart (stays_apart leads callers s k id v v.stage refl at)) (λ j u _ _. stranger_apart spent refl refl u))
      (λ t from below. held_set vs other w spent t at' (idle_keeps w.stage t idle') (held_set s.views id v both t at (λ has. has) (k.held t from below)))
      (place_set leads k.serving k.history record { words = s.words; homes = s.homes; views = vs } s.words other w spent at' (idle_holds_none w.stage idle') (λ b. b)
      (place_set leads k.serving k.history s s.words id v both at (idle_holds_none v.stage idle) (idle_holds_none v.stage idle) k.place))

module _ {D C : Type 0} (leads : Leading D C) where
  -- what a pass knows that took in another and looked
  pub taken_in : (old between new : Knowing D C) (other : View C) → between ≡ (joined old.0 other, old.1) → HasHeard leads between new → HasTakenIn leads old.0 other new.0
  taken_in old between new other both h =
      let is : between.0 ≡ joined old.0 other = ap (λ (x : Knowing D C). x.0) both in
      let after : new.0 ≡ with_seen (joined old.0 other) old.0.stage h.history = ap (λ (x : Knowing D C). x.0) h.after ∙ ap (λ (x : View C). with_seen x x.stage h.history) is in
      let l : Learns leads (joined old.0 other) h.history = subst (λ (x : View C). Learns leads x h.history) is h.learns in
      subst (HasTakenIn leads old.0 other) (sym after) record {
        met = record { legal = l.legal; theirs = l.heard; ours = l.seen; own = l.own; role = refl; stage = refl; mine = refl };
        parts = refl;
        draws = refl;
      }

  -- what a pass knows that took in a copy of what another one has seen
  pub met_by_copy : (u v w copy : View C) → copy ≡ guest_of u → HasTakenIn leads v copy w → HasMet leads u v w
  met_by_copy u v w copy is t =
      let m = t.met in
      record { legal = m.legal; theirs = subst (λ (x : View C). IsPrefix x.seen w.seen) is m.theirs; ours = m.ours; own = m.own; role = m.role; stage = m.stage; mine = m.mine }
