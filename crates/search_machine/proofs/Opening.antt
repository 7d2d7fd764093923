-- An opening keeps a state sound.
use Rattle.std.proofs.Common.{◌≡◌, ℕ, zero, suc, ◌+◌, ◌*◌, length, set, replicate, Option, Some, None, slice_get, refl, sym, ap, subst, ◌∙◌, arith}
use Rattle.std.specs.Prelude.{IsSomeAnd, option_and_then}
use Rattle.std.proofs.lemmas.List.{length-replicate}
use Rattle.std.proofs.lemmas.List.Folds.{sum_by-replicate}
use Rattle.plan_base.specs.declared.ids.BranchId.{BranchId}
use Rattle.search_machine.specs.declared.answers.Opened.{Opened}
use Rattle.search_machine.specs.State.{Found, Round, Fate, Undone, Node, State, restriction_of, cutoff_of, gap_of, left_of, left_in_round, left_in, examined_by, divided_by_fate}
use Rattle.search_machine.specs.Opening.{HasSlot, empty_round, Opens}
use Rattle.search_machine.specs.Nodes.{IsSoundRound}
use Rattle.search_machine.specs.Soundness.{IsSound}
use Rattle.search_machine.specs.Family.{badge_of}
use Rattle.search_machine.specs.Counts.{versions_of}
use Rattle.search_machine.proofs.Frames.{AreApart-new, no_children}
use Rattle.search_machine.proofs.Taking.{HasTaken, TakesRound-sound}
use Rattle.search_machine.proofs.Replacing.{replaced-sound, undone_fate, node_at}

-- a round in which no demand is priced has no path at any place
pub none_found : (n k : ℕ) (found : Found) → slice_get (replicate n None) k ≡ Some (Some found) → ⊥
none_found zero k found is = cc
none_found (suc n) zero found is = cc
none_found (suc n) (suc k) found is = none_found n k found is

-- a badge with the slot belongs to a round that has it
badge_of-slot : (round : Option Round) (slot version : ℕ) → badge_of round ≡ Some (slot, version) → IsSomeAnd round (λ r. r.slot ≡ slot)
badge_of-slot None slot version is = let bad : ◌≡◌ {A = Option (ℕ × ℕ)} None (Some (slot, version)) = is in absurd (cc)
badge_of-slot (Some round) slot version is =
    let same : Some (round.slot, round.version) ≡ Some (slot, version) = is in
    let pair : (round.slot, round.version) ≡ (slot, version) = cc in
    ap (λ (w : ℕ × ℕ). w.0) pair

taken_by : (o : Option Node) (slot version : ℕ) → option_and_then (λ node. badge_of node.round) o ≡ Some (slot, version) → (node : Node) × (o ≡ Some node) × HasSlot slot node
taken_by None slot version is = let bad : ◌≡◌ {A = Option (ℕ × ℕ)} None (Some (slot, version)) = is in absurd (cc)
taken_by (Some node) slot version is = (node, refl, badge_of-slot node.round slot version is)

module _ (s : State) (id : BranchId) (h : IsSound s) where
  -- a state stays sound when a node that waits gets a round of its first prices
  pub Opens-sound : (opened : Opened) (t : State) → Opens s id opened t → IsSound t
  Opens-sound opened t e =
      let may = e.may in
      let node = may.node in
      let k = node_at s id.0 node h may.is_node in
      let none : node.completed ≡ 0 = k.waiting may.undone may.no_round in
      let demands = length s.problem.demands in
      let round : Round = empty_round s opened.slot node.first_prices in
      let all_left : left_of round ≡ demands = (let x : left_of round ≡ demands * 1 = sum_by-replicate gap_of demands None in omega arith) in
      let is_sound : IsSoundRound s.problem s.cuts (restriction_of node) round = record {
        slot = e.slot.within;
        count = length-replicate demands None;
        prices = k.first_prices;
        least = λ j found is. absurd (none_found demands j found is);
      } in
      let taken : HasTaken s.problem s.cuts node round e.after = TakesRound-sound s.problem s.cuts node round may.undone k is_sound (λ zero_. refl) (omega arith) e.after e.takes in
      let undone' : e.after.fate ≡ Undone = taken.fate ∙ may.undone in
      subst IsSound (sym e.becomes)
      (replaced-sound s id.0 node e.after s.examined (suc s.next_version) s.accepted may.is_node h taken.base
      (no_children (set s.nodes id.0 e.after) id.0 e.after e.after.fate undone') taken.sound (undone_fate s.problem s.cuts (cutoff_of s) e.after undone') (ap divided_by_fate taken.fate)
      (AreApart-new s.next_version opened.slot s.nodes id.0 node e.after may.is_node (ap badge_of taken.is_round)
      (λ n version ne x. let w = taken_by (slice_get s.nodes n) opened.slot version x in e.slot.free (n, w.0, w.1, w.2)) h.apart)
      (record {
        examined_is = ap (λ (f : Fate). s.examined + examined_by f) (sym taken.fate);
        within_budget = h.counts.within_budget;
        versions = (
            let old : versions_of node ≡ 0 = rw (may.undone, may.no_round) refl in
            let now = taken.versions in omega arith
            );
        accepted_within = (
            let old : left_in node ≡ 0 = ap left_in_round may.no_round in
            let now : left_in e.after ≡ left_of round = ap left_in_round taken.is_round in
            omega arith
            );
      }))
