use Rattle.std.proofs.Common.{◌≡◌, ℕ, ◌+◌, ◌-◌, ◌*◌, ◌<◌, ◌≤◌, [], length, ap, ◌∙◌, arith}
use Rattle.ticket_turns.specs.declared.limits.TheConstants.{MAX_CALLERS, MAX_CALLS}
use Rattle.ticket_turns.specs.declared.view.View.{View}
use Rattle.ticket_turns.specs.Rules.{all_draws}
use Rattle.ticket_turns.specs.Steps.{Knowing, made, next_role, maker_after, new_caller}
use Rattle.ticket_turns.specs.Passes.{Pass, IsMaker, IsNewCaller}

-- How the maker makes callers.

module _ {D C : Type 0} (callers number : ℕ) (old : Pass D C) (m : IsMaker callers number old) (few : number < callers) (most : callers ≤ MAX_CALLERS) where
  -- the maker has a part to give away
  pub has_part : 0 < old.me.0.parts
  has_part = let parts = m.parts in omega arith

  -- the maker has draws enough for one caller more
  pub has_draws : MAX_CALLS ≤ old.me.0.draws
  has_draws = let draws : old.me.0.draws + number * MAX_CALLS ≡ all_draws callers = m.draws in omega arith

  -- it is the maker of one caller more
  pub made_one : (new : Pass D C) → new.me ≡ (maker_after old.me.0, old.me.1) → IsMaker callers (number + 1) new
  made_one new is =
      let v : new.me.0 ≡ maker_after old.me.0 = ap (λ (x : Knowing D C). x.0) is in
      let some_part = has_part in
      let enough = has_draws in
      let parts = m.parts in
      let draws : old.me.0.draws + number * MAX_CALLS ≡ all_draws callers = m.draws in
      let p : new.me.0.parts ≡ old.me.0.parts - 1 = ap (λ (x : View C). x.parts) v in
      let d : new.me.0.draws ≡ old.me.0.draws - MAX_CALLS = ap (λ (x : View C). x.draws) v in record {
        idle = (ap (λ (x : View C). x.stage) v ∙ m.idle.0, ap (λ (x : Knowing D C). x.1) is ∙ m.idle.1);
        role = ap (λ (x : View C). x.role) v ∙ ap made m.role;
        parts = omega arith;
        draws = omega arith;
        seen = ap (λ (x : View C). x.seen) v ∙ m.seen;
      }

  -- the new caller has the next number
  pub new_one : (new : Pass D C) → new.me ≡ (new_caller old.me.0, []) → IsNewCaller number new
  new_one new is =
      let v : new.me.0 ≡ new_caller old.me.0 = ap (λ (x : Knowing D C). x.0) is in
      let d : new.me.0.draws ≡ MAX_CALLS = ap (λ (x : View C). x.draws) v in (
        (
          (ap (λ (x : View C). x.stage) v, ap (λ (x : Knowing D C). x.1) is),
          ap (λ (x : View C). x.role) v ∙ ap next_role m.role,
          ap (λ (x : View C). length x.mine) v,
          omega arith,
          ap (λ (x : View C). x.parts) v,
        ),
        ap (λ (x : View C). x.seen) v ∙ m.seen,
        ap (λ (x : View C). x.mine) v,
      )
