-- What a worker is given of the round that others price too.
use Rattle.std.proofs.Common.{◌≡◌, ℕ, ◌<◌, true, false, length, get_or, Option, Some, None, slice_get, sym, ap, subst, ◌∙◌}
use Rattle.std.specs.Prelude.{is_some, option_and_then}
use Rattle.std.proofs.lemmas.Option.{slice_get-get_or}
use Rattle.plan_base.specs.declared.ids.BranchId.{BranchId}
use Rattle.plan_base.specs.declared.ids.DemandId.{DemandId}
use Rattle.plan_base.specs.Faults.{demand_id}
use Rattle.search_machine.specs.declared.tree.Found.{Found}
use Rattle.search_machine.specs.State.{Round, State, round_of}
use Rattle.search_machine.specs.Offering.{is_priced}
use Rattle.search_machine.specs.Soundness.{IsSound}
use Rattle.search_machine.specs.Tasks.{IsToPrice}
use Rattle.search_view.proofs.TaskLaws.{HasRound, round_of-has}
use Rattle.search_view.proofs.Reading.{sound-round}

unpriced : (o : Option (Option Found)) (x : Option Found) → o ≡ Some x → is_some (option_and_then (λ found. found) o) ≡ false → o ≡ Some None
unpriced o None is h = is
unpriced o (Some found) is h = absurd (let bad : true ≡ false = sym (ap (λ (o : Option (Option Found)). is_some (option_and_then (λ found. found) o)) is) ∙ h in cc)

-- a demand of the instance that a round has not priced is a gap
gap-within : (round : Round) (n : ℕ) → n < length round.found → is_priced (Some round) n ≡ false → slice_get round.found n ≡ Some None
gap-within round n within h = unpriced (slice_get round.found n) (get_or round.found n None) (slice_get-get_or round.found n None within) h

-- where one demand of a round is to be priced, each other one is that it has not priced
pub gap-beside : (s : State) (id : BranchId) (slot version : ℕ) (k : DemandId) (round : Round) (n : ℕ) → IsSound s → IsToPrice s id slot version k → Some round ≡ round_of s id
    → n < length s.problem.demands → is_priced (Some round) n ≡ false → IsToPrice s id slot version (demand_id n)
gap-beside s id slot version k round n sound h is within not_priced =
    let has : HasRound s id = record { node = h.node; round = h.round; is_node = h.active.is_node; is_round = h.active.is_round } in
    let read : Some h.round ≡ Some round = sym (round_of-has s id has) ∙ sym is in
    let same : round ≡ h.round = cc in
    let count : length h.round.found ≡ length s.problem.demands = (sound-round s id sound has).count in
    record {
      not_spent = h.not_spent;
      node = h.node;
      round = h.round;
      active = h.active;
      not_priced = gap-within h.round n (subst (λ (m : ℕ). n < m) (sym count) within) (sym (ap (λ (r : Round). is_priced (Some r) n) same) ∙ not_priced);
      no_cut = h.no_cut;
    }
