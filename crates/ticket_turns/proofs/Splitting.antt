use Rattle.std.proofs.Common.{◌≡◌, ◌≢◌, ℕ, ◌+◌, ◌<◌, ◌≤◌, [], ◌∷◌, ◌++◌, set, refl, ap, sym, subst, le_refl, arith}
use Rattle.std.proofs.lemmas.List.Sums.{sum_by_push}
use mathlib.Core.Option.{some}
use lib.ListN.{get_elem?}
use Rattle.atomic_table.specs.Table.{Splits}
use Rattle.atomic_table.proofs.Lists.{set_again}
use Rattle.ticket_turns.specs.declared.limits.TheConstants.{MAX_CALLS}
use Rattle.ticket_turns.specs.declared.view.Role.{Role}
use Rattle.ticket_turns.specs.declared.view.Role.TheVariants.{Maker, Caller, Guest}
use Rattle.ticket_turns.specs.declared.view.Stage.TheVariants.{Idle}
use Rattle.ticket_turns.specs.declared.view.View.{View}
use Rattle.ticket_turns.specs.Histories.{Leading, calls_by, OwnCalls}
use Rattle.ticket_turns.specs.Rules.{RolesApart, ticket_of, Apart, StageFits, Fits, Kept}
use Rattle.ticket_turns.specs.Steps.{made, next_role, maker_after, new_caller, guest_of}
use Rattle.ticket_turns.proofs.ViewLists.{prefix_nil, total_set, each_set, each_snoc, held_set, held_snoc}
use Rattle.ticket_turns.proofs.Keeping.{views_keep, idle_holds_none, no_ticket, stranger_apart, apart_set, apart_snoc, place_set, place_snoc}

-- Splitting a view keeps the rule.

grows : (m : ℕ) (r : Role) → RolesApart (Maker m) r → RolesApart (Maker (m + 1)) r
grows m (Maker k) a = a
grows m (Caller n) a = omega arith
grows m Guest a = tt

grows' : (m : ℕ) (r : Role) → RolesApart r (Maker m) → RolesApart r (Maker (m + 1))
grows' m (Maker k) a = a
grows' m (Caller n) a = omega arith
grows' m Guest a = tt

newest : (m : ℕ) (r : Role) → RolesApart (Maker m) r → RolesApart (Caller m) r × RolesApart r (Caller m)
newest m (Maker k) a = absurd a
newest m (Caller n) a = ((λ e. omega arith), (λ e. omega arith))
newest m Guest a = (tt, tt)

module _ {D C : Type 0} (leads : Leading D C) (callers id : ℕ) (v : View C) where
  -- a copy for a guest
  pub copies : Splits (Kept leads callers) id v v (guest_of v)
  copies s k at =
      let w = guest_of v in
      let all = k.draws in
      let draws = sum_by_push (λ (u : View C). u.draws) s.views w in
      let all_parts = k.parts in
      let parts = sum_by_push (λ (u : View C). u.parts) s.views w in
      let f = k.each id v at in
      subst (λ vs. Kept leads callers record { words = s.words; homes = s.homes; views = vs ++ w ∷ [] }) (sym (set_again s.views id v at))
      (views_keep leads callers s k record { words = s.words; homes = s.homes; views = s.views ++ w ∷ [] } refl (omega arith) (omega arith)
      (each_snoc (λ u. Fits k.tickets k.serving k.history u) s.views w k.each (record { seen = f.seen; heard = prefix_nil k.history; own = tt; stage = tt }))
      (apart_snoc s.views w k.apart (λ j u _. stranger_apart w refl refl u)) (λ t from below. held_snoc s.views w t (k.held t from below))
      (place_snoc leads k.serving k.history s w (λ b. b) k.place))

  -- a part and draws for a new caller, of a number that no view has had yet
  pub new_callers : (m : ℕ) → v.role ≡ Maker m → v.stage ≡ Idle → 0 < v.parts → MAX_CALLS ≤ v.draws → Splits (Kept leads callers) id v (maker_after v) (new_caller v)
  new_callers m role idle some_part enough s k at =
      let left = maker_after v in
      let w = new_caller v in
      let vs = set s.views id left in
      let all = k.draws in
      let all_parts = k.parts in
      let draws = total_set (λ u. u.draws) s.views id v left at in
      let parts = total_set (λ u. u.parts) s.views id v left at in
      let draws' = sum_by_push (λ (u : View C). u.draws) vs w in
      let parts' = sum_by_push (λ (u : View C). u.parts) vs w in
      let f = k.each id v at in
      let none_yet : (n : ℕ) → m ≤ n → calls_by n k.history ≡ [] = subst (λ r. OwnCalls k.history r v.mine) role f.own in
      let left_role : left.role ≡ Maker (m + 1) = ap made role in
      let new_role : w.role ≡ Caller m = ap next_role role in
      let left_apart : (j : ℕ) (u : View C) → j ≢ id → get_elem? s.views j ≡ some u → Apart left u × Apart u left = λ j u ne there.
      let l = k.apart id j v u (λ e. ne (sym e)) at there in
      let r = k.apart j id u v ne there at in (
        (subst (λ z. RolesApart z u.role) (sym left_role) (grows m u.role (subst (λ z. RolesApart z u.role) role l.0)), l.1),
        (subst (λ z. RolesApart u.role z) (sym left_role) (grows' m u.role (subst (λ z. RolesApart u.role z) role r.0)), r.1),
      ) in
      let new_apart : (j : ℕ) (u : View C) → get_elem? vs j ≡ some u → Apart w u × Apart u w = each_set (λ _ u. Apart w u × Apart u w) s.views id left (
        (subst (λ (z : Role × Role). RolesApart z.0 z.1) (λ i. (sym new_role i, sym left_role i)) (omega arith), tt),
        (subst (λ (z : Role × Role). RolesApart z.0 z.1) (λ i. (sym left_role i, sym new_role i)) (omega arith), no_ticket (ticket_of v.stage)),
      )
      (λ j u ne there. let l = newest m u.role (subst (λ z. RolesApart z u.role) role (k.apart id j v u (λ e. ne (sym e)) at there).0) in
      ((subst (λ z. RolesApart z u.role) (sym new_role) l.0, tt), (subst (λ z. RolesApart u.role z) (sym new_role) l.1, no_ticket (ticket_of u.stage)))) in
      views_keep leads callers s k record { words = s.words; homes = s.homes; views = vs ++ w ∷ [] } refl (omega arith) (omega arith)
      (each_snoc (λ u. Fits k.tickets k.serving k.history u) vs w
      (each_set (λ _ u. Fits k.tickets k.serving k.history u) s.views id left
      (record {
        seen = f.seen;
        heard = f.heard;
        own = subst (λ r. OwnCalls k.history r v.mine) (sym left_role) (λ n le. none_yet n (omega arith));
        stage = subst (StageFits k.tickets k.serving k.history left) (sym idle) tt;
      })
      (λ j u _ there. k.each j u there))
      (record { seen = f.seen; heard = prefix_nil k.history; own = subst (λ r. OwnCalls k.history r []) (sym new_role) (none_yet m (le_refl m)); stage = tt }))
      (apart_snoc vs w (apart_set s.views id left k.apart left_apart) new_apart)
      (λ t from below. held_snoc vs w t (held_set s.views id v left t at (λ has. has) (k.held t from below)))
      (place_snoc leads k.serving k.history record { words = s.words; homes = s.homes; views = vs } w (λ b. b)
      (place_set leads k.serving k.history s s.words id v left at (idle_holds_none v.stage idle) (idle_holds_none v.stage idle) k.place))
