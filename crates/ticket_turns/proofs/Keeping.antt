use Rattle.std.proofs.Common.{◌≡◌, ◌≢◌, ℕ, ◌+◌, ◌<◌, ◌≤◌, Bool, List, [], ◌∷◌, ◌++◌, length, get_or, set, sum_by, ◌⊎◌, inl, inr, ⊎_elim, ap, sym, refl, subst, ◌∙◌, arith, Option, Some, None}
use mathlib.Core.Logic.{dite}
use mathlib.Core.Option.{none, some, some-injective}
use native.Mathlib.Decide.{ℕ_discrete}
use lib.ListN.{get_elem?}
use Rattle.atomic_table.specs.Table.{Step, step, Act, Valid, homes_after, carried_after}
use Rattle.atomic_table.proofs.Lists.{at_set, set_else, at_longer}
use Rattle.ticket_turns.specs.declared.view.Entry.{Entry}
use Rattle.ticket_turns.specs.declared.view.Role.{Role}
use Rattle.ticket_turns.specs.declared.view.Role.TheVariants.{Maker, Caller, Guest}
use Rattle.ticket_turns.specs.declared.view.Stage.{Stage}
use Rattle.ticket_turns.specs.declared.view.Stage.TheVariants.{Idle, Holding}
use Rattle.ticket_turns.specs.declared.view.View.{View}
use Rattle.ticket_turns.specs.Histories.{Leading}
use Rattle.ticket_turns.specs.Rules.{TableState, RolesApart, ticket_of, TicketsApart, Apart, StageFits, Fits, IsHeld, HoldsSlot, raises, IsHome, IsOut, all_draws, Kept}
use Rattle.ticket_turns.specs.Steps.{Knowing, Learns}
use Rattle.ticket_turns.proofs.ViewLists.{at_end, total_set, each_set, each_snoc}

-- What all steps share: the views stay apart, and the value stays where it is.

-- the steps here tell the same whatever their operands are
abbrev pub any_step : {D : Type 0} → Step (Option D)
any_step {D} = step 0 0 0 0 none

-- what a step owes at these words
abbrev pub GoesAt : {D C : Type 0} → Leading D C → ℕ → TableState D C → List ℕ → ℕ → Knowing D C → ℕ → (ℕ → ℕ) → (ℕ → Knowing D C → Type 0) → Type 0
GoesAt {D} {C} leads callers s words id me i f tells = (w : View C) × (a : Act (Option D)) × Valid s.homes me.1 a
    × Kept leads callers record { words = set words i (f (get_or words i 0)); homes = homes_after s.homes me.1 a; views = set s.views id w }
    × tells (get_or words i 0) (w, carried_after me.1 a)

-- an idle caller does not hold the slot
pub idle_holds_none : (stage : Stage) → stage ≡ Idle → HoldsSlot stage → ⊥
idle_holds_none stage is = subst (λ z. HoldsSlot z → ⊥) (sym is) (λ b. b)

-- a caller without a ticket is apart from all others
pub no_ticket : (ticket : Option ℕ) → TicketsApart ticket None
no_ticket None = tt
no_ticket (Some t) = tt

-- whoever has no ticket keeps any that it has
pub idle_keeps : {B : Type 0} (stage : Stage) (t : ℕ) → stage ≡ Idle → ticket_of stage ≡ Some t → B
idle_keeps stage t is has = let bad : None ≡ Some t = ap ticket_of (sym is) ∙ has in absurd (cc bad)

guest_apart : (r : Role) → RolesApart r Guest
guest_apart (Maker m) = tt
guest_apart (Caller n) = tt
guest_apart Guest = tt

module _ {C : Type 0} where
  -- a guest without a ticket is apart from all
  pub stranger_apart : (w : View C) → w.role ≡ Guest → w.stage ≡ Idle → (u : View C) → Apart w u × Apart u w
  stranger_apart w role idle u = (
    (subst (λ r. RolesApart r u.role) (sym role) tt, subst (λ st. TicketsApart (ticket_of st) (ticket_of u.stage)) (sym idle) tt),
    (subst (λ r. RolesApart u.role r) (sym role) (guest_apart u.role), subst (λ st. TicketsApart (ticket_of u.stage) (ticket_of st)) (sym idle) (no_ticket (ticket_of u.stage))),
  )

  -- all views are apart after one has changed, where the new one is apart from the others
  pub apart_set : (vs : List (View C)) (id : ℕ) (w : View C) → ((i j : ℕ) (v u : View C) → i ≢ j → get_elem? vs i ≡ some v → get_elem? vs j ≡ some u → Apart v u)
      → ((j : ℕ) (u : View C) → j ≢ id → get_elem? vs j ≡ some u → Apart w u × Apart u w)
      → (i j : ℕ) (v u : View C) → i ≢ j → get_elem? (set vs id w) i ≡ some v → get_elem? (set vs id w) j ≡ some u → Apart v u
  apart_set vs id w all new i j v u ne ati atj =
      ⊎_elim
      (λ (t : (i ≡ id) × (w ≡ v)). ⊎_elim
      (λ (r : (j ≡ id) × (w ≡ u)). absurd (ne (t.0 ∙ sym r.0)))
      (λ (r : (j ≢ id) × (get_elem? vs j ≡ some u)). subst (λ (z : View C). Apart z u) t.1 (new j u r.0 r.1).0)
      (at_set vs id j w u atj))
      (λ (t : (i ≢ id) × (get_elem? vs i ≡ some v)). ⊎_elim
      (λ (r : (j ≡ id) × (w ≡ u)). subst (λ (z : View C). Apart v z) r.1 (new i v t.0 t.1).1)
      (λ (r : (j ≢ id) × (get_elem? vs j ≡ some u)). all i j v u ne t.1 r.1)
      (at_set vs id j w u atj))
      (at_set vs id i w v ati)

  -- the same after one has come last
  pub apart_snoc : (vs : List (View C)) (w : View C) → ((i j : ℕ) (v u : View C) → i ≢ j → get_elem? vs i ≡ some v → get_elem? vs j ≡ some u → Apart v u)
      → ((j : ℕ) (u : View C) → get_elem? vs j ≡ some u → Apart w u × Apart u w)
      → (i j : ℕ) (v u : View C) → i ≢ j → get_elem? (vs ++ w ∷ []) i ≡ some v → get_elem? (vs ++ w ∷ []) j ≡ some u → Apart v u
  apart_snoc vs w all new i j v u ne ati atj =
      ⊎_elim
      (λ (t : get_elem? vs i ≡ some v). ⊎_elim
      (λ (r : get_elem? vs j ≡ some u). all i j v u ne t r)
      (λ r. subst (λ (z : View C). Apart v z) r.1 (new i v t).1)
      (at_end vs w u j atj))
      (λ t. ⊎_elim
      (λ (r : get_elem? vs j ≡ some u). subst (λ (z : View C). Apart z u) t.1 (new j u r).0)
      (λ r. absurd (ne (t.0 ∙ sym r.0)))
      (at_end vs w u j atj))
      (at_end vs w v i ati)

module _ {D C : Type 0} (leads : Leading D C) (serving : ℕ) (history : List (Entry C)) (s : TableState D C) where
  -- a pass without the slot changes its view: the value stays where it is
  pub place_set : (words : List ℕ) (id : ℕ) (v w : View C) → get_elem? s.views id ≡ some v → (HoldsSlot v.stage → ⊥) → (HoldsSlot w.stage → ⊥)
      → IsHome leads serving history s ⊎ IsOut serving history s
      → IsHome leads serving history record { words = words; homes = s.homes; views = set s.views id w } ⊎ IsOut serving history record { words = words; homes = s.homes; views = set s.views id w }
  place_set words id v w at none_before none_after (inl h) = inl record {
    value = h.value;
    homes = h.homes;
    can = h.can;
    long = h.long;
    nobody = each_set (λ j u. HoldsSlot u.stage → ⊥) s.views id w none_after (λ j u _ there. h.nobody j u there);
  }
  place_set words id v w at none_before none_after (inr a) = inr record {
    homes = a.homes;
    holder = a.holder;
    view = a.view;
    raised = a.raised;
    here = set_else s.views id a.holder w (λ same. none_before (subst (λ (u : View C). HoldsSlot u.stage) (some-injective _ _ (sym a.here ∙ (ap (get_elem? s.views) same ∙ at))) (subst HoldsSlot (sym a.stage) tt))) ∙ a.here;
    stage = a.stage;
    long = a.long;
  }

  -- the same where a view without the slot comes last
  pub place_snoc : (w : View C) → (HoldsSlot w.stage → ⊥) → IsHome leads serving history s ⊎ IsOut serving history s
      → IsHome leads serving history record { words = s.words; homes = s.homes; views = s.views ++ w ∷ [] } ⊎ IsOut serving history record { words = s.words; homes = s.homes; views = s.views ++ w ∷ [] }
  place_snoc w none_there (inl h) = inl record {
    value = h.value;
    homes = h.homes;
    can = h.can;
    long = h.long;
    nobody = each_snoc (λ u. HoldsSlot u.stage → ⊥) s.views w h.nobody none_there;
  }
  place_snoc w none_there (inr a) = inr record {
    homes = a.homes;
    holder = a.holder;
    view = a.view;
    raised = a.raised;
    here = at_longer s.views (w ∷ []) a.holder a.view a.here;
    stage = a.stage;
    long = a.long;
  }

module _ {D C : Type 0} (leads : Leading D C) (callers : ℕ) (s : TableState D C) (k : Kept leads callers s) where
  -- where the words stay, and with them the history, a table whose views fit it keeps the rule
  pub views_keep : (after : TableState D C) → after.words ≡ s.words → k.tickets + sum_by (λ (v : View C). v.draws) after.views ≡ all_draws callers → sum_by (λ (v : View C). v.parts) after.views ≡ callers
      → ((j : ℕ) (v : View C) → get_elem? after.views j ≡ some v → Fits k.tickets k.serving k.history v)
      → ((i j : ℕ) (v w : View C) → i ≢ j → get_elem? after.views i ≡ some v → get_elem? after.views j ≡ some w → Apart v w)
      → ((t : ℕ) → k.serving ≤ t → t < k.tickets → IsHeld after.views t) → IsHome leads k.serving k.history after ⊎ IsOut k.serving k.history after → Kept leads callers after
  views_keep after words draws parts each apart held place =
      record { tickets = k.tickets; serving = k.serving; history = k.history; few = k.few; order = k.order; words = words ∙ k.words; draws = draws; parts = parts; legal = k.legal; each = each; apart = apart; held = held; place = place }

module _ {D C : Type 0} (leads : Leading D C) (callers : ℕ) (s : TableState D C) (k : Kept leads callers s) (id : ℕ) (v : View C) where
  -- what a caller has seen and heard of begins the history
  pub learned : get_elem? s.views id ≡ some v → Learns leads v k.history
  learned at = let f = k.each id v at in record { legal = k.legal; seen = f.seen; heard = f.heard; own = f.own }

  -- the pass with the ticket that is served is the one that holds the slot
  holder_is : (a : IsOut k.serving k.history s) → get_elem? s.views id ≡ some v → ticket_of v.stage ≡ Some k.serving → a.holder ≡ id
  holder_is a at is = dite (ℕ_discrete a.holder id) (λ e. e) (λ ne.
      let x = (k.apart a.holder id a.view v ne a.here at).1 in
      let y : TicketsApart (Some k.serving) (Some k.serving) = subst (λ (z : Option ℕ × Option ℕ). TicketsApart z.0 z.1) (λ i. (ap ticket_of a.stage i, is i)) x in
      absurd (y refl))

  -- the caller whose ticket is served is the one that has the slot out
  pub holder_view : (a : IsOut k.serving k.history s) → get_elem? s.views id ≡ some v → ticket_of v.stage ≡ Some k.serving → a.view ≡ v
  holder_view a at is = some-injective _ _ (sym a.here ∙ (ap (get_elem? s.views) (holder_is a at is) ∙ at))

  -- what is so while a pass holds the slot: its ticket is served, and the history has its call or not yet
  pub holding : (t : ℕ) (raised : Bool) → v.stage ≡ Holding t raised → get_elem? s.views id ≡ some v → IsOut k.serving k.history s
      → StageFits k.tickets k.serving k.history v (Holding t raised) × (ticket_of v.stage ≡ Some k.serving) × (length k.history ≡ k.serving + raises raised)
  holding t raised is at a =
      let holds = subst (StageFits k.tickets k.serving k.history v) is (k.each id v at).stage in
      let mine : ticket_of v.stage ≡ Some k.serving = ap ticket_of is ∙ ap (λ (x : ℕ). Some x) holds.0 in
      let stages : Holding t raised ≡ Holding k.serving a.raised = sym is ∙ (ap (λ (u : View C). u.stage) (sym (holder_view a at mine)) ∙ a.stage) in
      let same : a.raised ≡ raised = cc stages in
      (holds, mine, a.long ∙ ap (λ b. k.serving + raises b) same)

  -- then the others have other tickets
  pub others_apart : ticket_of v.stage ≡ Some k.serving → get_elem? s.views id ≡ some v → (j : ℕ) (u : View C) → j ≢ id → get_elem? s.views j ≡ some u → TicketsApart (ticket_of u.stage) (Some k.serving)
  others_apart mine at j u ne there = subst (TicketsApart (ticket_of u.stage)) mine (k.apart j id u v ne there at).1

  -- at another stage with the same ticket the view is apart from the others as before
  pub stays_apart : (stage : Stage) → ticket_of stage ≡ ticket_of v.stage → get_elem? s.views id ≡ some v → (j : ℕ) (u : View C) → j ≢ id → get_elem? s.views j ≡ some u
      → Apart (record v { stage = stage }) u × Apart u (record v { stage = stage })
  stays_apart stage same at j u ne there =
      let l = k.apart id j v u (λ e. ne (sym e)) at there in
      let r = k.apart j id u v ne there at in
      ((l.0, subst (λ z. TicketsApart z (ticket_of u.stage)) (sym same) l.1), (r.0, subst (TicketsApart (ticket_of u.stage)) (sym same) r.1))

  -- a change that leaves the view its draws and its parts changes neither sum
  pub draws_stay : (w : View C) → w.draws ≡ v.draws → get_elem? s.views id ≡ some v → k.tickets + sum_by (λ (u : View C). u.draws) (set s.views id w) ≡ all_draws callers
  draws_stay w same at = let all : k.tickets + sum_by (λ (u : View C). u.draws) s.views ≡ all_draws callers = k.draws in omega (arith, total_set (λ (u : View C). u.draws) s.views id v w at, same)

  -- a view that keeps its parts leaves their sum
  pub parts_stay : (w : View C) → w.parts ≡ v.parts → get_elem? s.views id ≡ some v → sum_by (λ (u : View C). u.parts) (set s.views id w) ≡ callers
  parts_stay w same at = let all = k.parts in omega (arith, total_set (λ (u : View C). u.parts) s.views id v w at, same)

  -- whoever holds the slot has it out
  pub is_out : HoldsSlot v.stage → get_elem? s.views id ≡ some v → IsHome leads k.serving k.history s ⊎ IsOut k.serving k.history s → IsOut k.serving k.history s
  is_out holds at (inl h) = absurd (h.nobody id v at holds)
  is_out holds at (inr a) = a
