-- An offer that is taken keeps a state sound.
use Rattle.std.proofs.Common.{◌≡◌, ℕ, zero, suc, ◌+◌, ◌<◌, inl, inr, List, set, Some, None, slice_get, refl, sym, ap, subst, ◌∙◌, arith, length-set}
use Rattle.plan_base.specs.declared.parts.Parts.{Parts}
use Rattle.arc_restrict.specs.Restrictions.{Forbidden}
use Rattle.proof_tree.specs.declared.cuts.Cut.{Cut}
use Rattle.path_pricing.specs.declared.priced.Priced.{Priced}
use Rattle.search_machine.specs.declared.answers.Offer.{Offer}
use Rattle.path_pricing.specs.declared.priced.Priced.TheVariants as priced
use Rattle.path_pricing.specs.Priced.{IsLeastPath}
use Rattle.path_pricing.specs.Faults.{priced_fault}
use Rattle.path_pricing.proofs.FaultLaws.{IsPriced-priced_fault}
use Rattle.search_machine.proofs.LowerFacts.{ClosedByCut-priced_fault, length-priced_fault}
use Rattle.search_machine.specs.State.{Found, Round, HeldCut, Fate, Undone, Node, State, restriction_of, cutoff_of, gap_of, left_of, left_in_round, left_in, examined_by, divided_by_fate}
use Rattle.search_machine.specs.Offering.{TakesCut, Accepts, with_found}
use Rattle.search_machine.specs.Nodes.{IsSoundRound, IsSoundNode}
use Rattle.search_machine.specs.Soundness.{IsSound}
use Rattle.search_machine.specs.Family.{badge_of}
use Rattle.search_machine.specs.Counts.{versions_of, versions_in_round}
use Rattle.search_machine.proofs.Lists.{slice_get-set_cases, sum_by-set_at}
use Rattle.search_machine.proofs.Frames.{AreApart-set, no_children}
use Rattle.search_machine.proofs.Taking.{HasTaken, TakesRound-sound}
use Rattle.search_machine.proofs.Replacing.{replaced-sound, undone_fate, node_at}

-- one more demand is priced
left_of-with_found : (round : Round) (k : ℕ) (found : Found) → slice_get round.found k ≡ Some None → left_of (with_found round k found) + 1 ≡ left_of round
left_of-with_found round k found is =
    let e : left_of (with_found round k found) + 1 ≡ left_of round + 0 = sum_by-set_at gap_of round.found k None (Some found) is in omega arith

-- a round stays sound when a least permitted path of a demand is put into it
pub with_found-sound : (p : Parts) (cuts : List Cut) (r : Forbidden) (round : Round) (k : ℕ) (found : Found) → IsSoundRound p cuts r round → IsLeastPath p round.prices k r found.path found.price → IsSoundRound p cuts r (with_found round k found)
with_found-sound p cuts r round k found h least = record {
  slot = h.slot;
  count = length-set round.found k (Some found) ∙ h.count;
  prices = h.prices;
  least = λ j other is. elim (slice_get-set_cases round.found k j (Some found) (Some other) is) [
    | inl w ↦
        let same : other ≡ found = (let e = w.1 in cc) in
        subst (λ (i : ℕ). IsLeastPath p round.prices i r other.path other.price) (sym w.0) (subst (λ (x : Found). IsLeastPath p round.prices k r x.path x.price) (sym same) least)
    | inr w ↦ h.least j other w.1
  ];
}

-- the versions that a node has had while its round is not complete
versions_of-active : (node : Node) (round : Round) → node.fate ≡ Undone → node.round ≡ Some round → 0 < left_of round → versions_of node ≡ suc node.completed
versions_of-active node round undone is left = rw (undone, is) (in_round node.completed (left_of round) left)
  where
    in_round : (completed left : ℕ) → 0 < left → versions_in_round completed left ≡ suc completed
    in_round completed zero h = absurd (omega arith)
    in_round completed (suc left) h = refl

module _ (s : State) (offer : Offer) (h : IsSound s) where
  -- a state stays sound when a node keeps an offered set of nodes as its cut
  pub TakesCut-sound : (t : State) → TakesCut s offer t → IsSound t
  TakesCut-sound t e =
      let node = e.node in
      let fits = e.fits_round in
      let cut : HeldCut = record { demand = offer.demand; reached = e.reached } in
      let new : Node = record node { cut = Some cut } in
      let k = node_at s offer.node.0 node h fits.is_node in
      let in_round = rw fits.is_round at (k.round) in
      let undone : node.fate ≡ Undone = in_round.0 in
      let shows : priced_fault s.problem e.round.prices offer.demand.0 (restriction_of node) (priced.NoPath e.reached) ≡ None =
      subst (λ (x : Priced). priced_fault s.problem e.round.prices offer.demand.0 (restriction_of node) x ≡ None) e.is_set fits.fits in
      let closed = ClosedByCut-priced_fault s.problem e.round.prices offer.demand (restriction_of node) e.reached fits.is_demand shows in
      let count = length-priced_fault s.problem e.round.prices offer.demand.0 (restriction_of node) e.reached shows in
      let sound : IsSoundNode s.problem s.cuts new = assumption (k, closed, count) in
      subst IsSound (sym e.becomes)
      (replaced-sound s offer.node.0 node new s.examined s.next_version s.accepted fits.is_node h (record { limits = refl; first_prices = refl })
      (no_children (set s.nodes offer.node.0 new) offer.node.0 new node.fate undone) sound (undone_fate s.problem s.cuts (cutoff_of s) new undone) refl
      (AreApart-set s.next_version s.nodes offer.node.0 node new fits.is_node (inl refl) h.apart)
      (record { examined_is = refl; within_budget = h.counts.within_budget; versions = omega arith; accepted_within = omega arith }))

  -- a state stays sound when an offered path goes into the round of its node
  pub Accepts-sound : (left : ℕ) (t : State) → Accepts s offer left t → IsSound t
  Accepts-sound left t e =
      let node = e.node in
      let round = e.round in
      let fits = e.fits_round in
      let r = restriction_of node in
      let k = node_at s offer.node.0 node h fits.is_node in
      let in_round = rw fits.is_round at (k.round) in
      let undone : node.fate ≡ Undone = in_round.0 in
      let versions = rw fits.is_round at (k.versions) in
      let more = with_found round offer.demand.0 e.found in
      let one_more = left_of-with_found round offer.demand.0 e.found fits.not_priced in
      let some_left : 0 < left_of round = omega arith in
      let least : IsLeastPath s.problem round.prices offer.demand.0 r e.found.path e.found.price =
      IsPriced-priced_fault s.problem round.prices offer.demand.0 r (priced.Path e.found.path e.found.price e.potentials)
      (subst (λ (x : Priced). priced_fault s.problem round.prices offer.demand.0 r x ≡ None) e.is_path fits.fits) in
      let new_round : IsSoundRound s.problem s.cuts r more = with_found-sound s.problem s.cuts r round offer.demand.0 e.found in_round.1 least in
      let taken : HasTaken s.problem s.cuts node more e.after = TakesRound-sound s.problem s.cuts node more undone k new_round versions.first_round (versions.room some_left) e.after e.takes in
      let undone' : e.after.fate ≡ Undone = taken.fate ∙ undone in
      subst IsSound (sym e.becomes)
      (replaced-sound s offer.node.0 node e.after s.examined s.next_version (suc s.accepted) fits.is_node h taken.base
      (no_children (set s.nodes offer.node.0 e.after) offer.node.0 e.after e.after.fate undone') taken.sound (undone_fate s.problem s.cuts (cutoff_of s) e.after undone') (ap divided_by_fate taken.fate)
      (AreApart-set s.next_version s.nodes offer.node.0 node e.after fits.is_node (inl (ap badge_of taken.is_round ∙ sym (ap badge_of fits.is_round))) h.apart)
      (record {
        examined_is = ap (λ (f : Fate). s.examined + examined_by f) (sym taken.fate);
        within_budget = h.counts.within_budget;
        versions = (let old = versions_of-active node round undone fits.is_round some_left in let now = taken.versions in omega arith);
        accepted_within = (
            let old : left_in node ≡ left_of round = ap left_in_round fits.is_round in
            let now : left_in e.after ≡ left_of more = ap left_in_round taken.is_round in
            omega arith
            );
      }))
