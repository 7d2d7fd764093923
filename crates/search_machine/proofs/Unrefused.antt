-- Where a gathering, a settling or a publishing may come, no refusal applies.
use Rattle.std.proofs.Common.{◌≡◌, ℕ, zero, suc, ◌+◌, ◌<◌, true, false, List, [], ◌∷◌, length, Option, Some, None, slice_get, refl, ap, ◌∙◌, arith, sum_by}
use Rattle.std.specs.Prelude.{option_map, option_and_then, nat_le}
use Rattle.std.proofs.lemmas.Bool.{eq-eqb}
use Rattle.std.proofs.lemmas.Bool.Decides.{nat_tests}
use Rattle.std.proofs.lemmas.List.Sums.{sum_by-cons}
use Rattle.plan_base.specs.declared.ids.BranchId.{BranchId}
use Rattle.plan_base.specs.declared.ids.DemandId.{DemandId}
use Rattle.plan_base.specs.First.{first_in}
use Rattle.plan_base.specs.Places.{places}
use Rattle.plan_base.proofs.Bools.{not-true}
use Rattle.plan_base.proofs.FirstFault.{none-or_else, none-when, none-first_in}
use Rattle.search_machine.specs.declared.limits.TheConstants.{MAX_VERSIONS}
use Rattle.search_machine.specs.declared.answers.Gather.TheVariants as gather
use Rattle.search_machine.specs.declared.answers.Publish.TheVariants as publish
use Rattle.search_machine.specs.declared.answers.Settle.TheVariants as settle
use Rattle.search_machine.specs.State.{Found, Round, Node, State, gap_of, left_of, round_of}
use Rattle.search_machine.specs.Changes.{is_spent, version_in, is_version, stale_fault, gap_at, first_gap}
use Rattle.search_machine.specs.Readiness.{completed_in, settled_in}
use Rattle.search_machine.specs.Gathering.{first_ungathered, gather_fault, IsCompleteRound, IsGathered}
use Rattle.search_machine.specs.Settling.{settle_fault}
use Rattle.search_machine.specs.Publishing.{publish_fault, MayFollow}
use Rattle.search_machine.specs.Tasks.{IsToAdvance}
use Rattle.search_machine.proofs.RefusedNumbers.{none-over_price, lawful-unfaulted}

unspent : (s : State) → s.examined < s.budget → is_spent s ≡ false
unspent s h = grind (arith, nat_tests)

not_reached : (limit count : ℕ) → count < limit → nat_le limit count ≡ false
not_reached limit count h = grind (arith, nat_tests)

-- the round of a state at a number is that of the node that is there
pub round_of-at : (s : State) (id : BranchId) (node : Node) (round : Round) → slice_get s.nodes id.0 ≡ Some node → node.round ≡ Some round → round_of s id ≡ Some round
round_of-at s id node round is_node is_round = ap (option_and_then (λ (x : Node). x.round)) is_node ∙ is_round

-- a sum that is 0 has parts that are
parts-zero : (a b c : ℕ) → c ≡ a + b → c ≡ 0 → (a ≡ 0) × (b ≡ 0)
parts-zero a b c sum none = (omega arith, omega arith)

one-not_zero : (n : ℕ) → n ≡ 0 → n ≡ 1 → ⊥
one-not_zero n none one = omega arith

gap-not_complete : (found : List (Option Found)) → sum_by gap_of found ≡ 0 → (k : ℕ) → slice_get found k ≡ Some None → ⊥
gap-not_complete [] none k is = let bad : ◌≡◌ {A = Option (Option Found)} None (Some None) = is in cc
gap-not_complete (None ∷ found) none zero is = one-not_zero (gap_of None) (parts-zero (gap_of None) (sum_by gap_of found) _ (sum_by-cons gap_of None found) none).0 refl
gap-not_complete (Some one ∷ found) none zero is = let bad : ◌≡◌ {A = Option (Option Found)} (Some (Some one)) (Some None) = is in cc
gap-not_complete (o ∷ found) none (suc k) is = gap-not_complete found (parts-zero (gap_of o) (sum_by gap_of found) _ (sum_by-cons gap_of o found) none).1 k is

-- a complete round has no demand that is not priced
pub complete-no_gap : (round : Round) → left_of round ≡ 0 → first_in gap_at round.found ≡ None
complete-no_gap round complete = none-first_in gap_at round.found by
  where
    by : (k : ℕ) (o : Option Found) → slice_get round.found k ≡ Some o → gap_at k o ≡ None
    by k None is = absurd (gap-not_complete round.found complete k is)
    by k (Some one) is = refl

module _ (s : State) (id : BranchId) (version : ℕ) (node : Node) (round : Round) where
  -- at a complete round of the version, a call is refused neither as spent nor as stale
  pub stale-unrefused : {F : Type 0} (spent : ℕ → F) (stale : Option ℕ → F) → IsCompleteRound s id version node round → stale_fault spent stale s id version ≡ None
  stale-unrefused spent stale h =
      let at : round_of s id ≡ Some round = round_of-at s id node round h.is_node h.is_round in
      let current : is_version (version_in (round_of s id)) version ≡ true = ap (λ (o : Option Round). is_version (version_in o) version) at ∙ eq-eqb _ _ h.is_version in
      none-or_else _ _ (none-when _ (spent s.examined) (unspent s h.not_spent)) (none-when _ (stale (version_in (round_of s id))) (not-true _ current))

  no_gap : IsCompleteRound s id version node round → first_gap (round_of s id) ≡ None
  no_gap h = ap first_gap (round_of-at s id node round h.is_node h.is_round) ∙ complete-no_gap round h.complete

  -- at a complete round of the version, no gathering is refused
  pub gather-unrefused : IsCompleteRound s id version node round → gather_fault s id version ≡ None
  unfolding gather_fault
  gather-unrefused h = none-or_else _ _ (stale-unrefused gather.Spent gather.Stale h) (ap (λ (o : Option DemandId). option_map gather.Incomplete o) (no_gap h))

  none_ungathered : IsGathered s id version node round → first_ungathered s.columns (round_of s id) ≡ None
  none_ungathered h =
      let is = h.complete_round in
      ap (first_ungathered s.columns) (round_of-at s id node round is.is_node is.is_round) ∙ h.gathered_all

  -- at a gathered round, no settling is refused before prices are valued
  pub settle-unrefused : IsGathered s id version node round → settle_fault s id version ≡ None
  unfolding settle_fault
  settle-unrefused h =
      none-or_else _ _ (stale-unrefused settle.Spent settle.Stale h.complete_round)
      (none-or_else _ _ (ap (λ (o : Option DemandId). option_map settle.Incomplete o) (no_gap h.complete_round))
      (ap (λ (o : Option DemandId). option_map settle.Ungathered o) (none_ungathered h)))

  -- where the prices may follow the round, no publishing is refused before prices are valued
  pub publish-unrefused : (prices : List ℕ) → MayFollow s id version prices node round → publish_fault s id version prices ≡ None
  unfolding publish_fault
  publish-unrefused prices h =
      let is = h.is_gathered.complete_round in
      none-or_else _ _ (stale-unrefused publish.Spent publish.Stale is)
      (none-or_else _ _ (none-when _ publish.Settled (ap settled_in is.is_node ∙ h.not_settled))
      (none-or_else _ _ (ap (λ (o : Option DemandId). option_map publish.Incomplete o) (no_gap is))
      (none-or_else _ _ (none-when _ (publish.Rounds (completed_in (slice_get s.nodes id.0))) (ap (λ (o : Option Node). nat_le MAX_VERSIONS (completed_in o)) is.is_node ∙ not_reached MAX_VERSIONS node.completed h.room))
      (none-or_else _ _ (none-when _ (publish.PriceCount (places s.problem + length s.cuts)) (not-true _ (eq-eqb _ _ h.are_numbers.count)))
      (none-or_else _ _ (none-over_price s.problem s.cuts prices h.are_numbers.lawful.prices_within)
      (none-or_else _ _ (lawful-unfaulted s.problem s.cuts prices h.are_numbers.lawful)
      (ap (λ (o : Option DemandId). option_map publish.Ungathered o) (none_ungathered h.is_gathered))))))))

-- a task to go on with a complete version names one that may be gathered
pub master-gathers : (s : State) (id : BranchId) (version : ℕ) → IsToAdvance s id version → gather_fault s id version ≡ None
master-gathers s id version h =
    gather-unrefused s id version h.node h.round
    (record { not_spent = h.not_spent; is_node = h.active.is_node; is_round = h.active.is_round; is_version = h.active.version_is; complete = h.complete })
