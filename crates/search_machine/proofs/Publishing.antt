-- A publishing keeps a state sound: the round is emptied and gets its next version.
use Rattle.std.proofs.Common.{◌≡◌, ℕ, suc, ◌+◌, ◌*◌, ◌<◌, List, length, set, Some, None, sym, ap, subst, ◌∙◌, arith}
use Rattle.std.proofs.lemmas.List.{length-replicate}
use Rattle.std.proofs.lemmas.List.Folds.{sum_by-replicate}
use Rattle.plan_base.specs.declared.ids.BranchId.{BranchId}
use Rattle.search_machine.specs.State.{Round, Fate, Undone, Node, State, restriction_of, cutoff_of, gap_of, left_of, left_in_round, left_in, examined_by, divided_by_fate}
use Rattle.search_machine.specs.Opening.{empty_round}
use Rattle.search_machine.specs.Publishing.{Publishes}
use Rattle.search_machine.specs.Nodes.{IsSoundNode, IsSoundRound}
use Rattle.search_machine.specs.Soundness.{IsSound}
use Rattle.search_machine.specs.Family.{badge_of, badge_at}
use Rattle.search_machine.specs.Counts.{versions_of, versions_in_round}
use Rattle.search_machine.proofs.Frames.{SameBase, AreApart-new, badge_at-at, no_children}
use Rattle.search_machine.proofs.Taking.{HasTaken, TakesRound-sound}
use Rattle.search_machine.proofs.Opening.{none_found}
use Rattle.search_machine.proofs.Replacing.{replaced-sound, undone_fate, node_at}

-- a state stays sound when further prices are published and the emptied round gets the next version
pub Publishes-sound : (s t : State) (id : BranchId) (seen : ℕ) (prices : List ℕ) (slot version : ℕ) → IsSound s → Publishes s id seen prices slot version t → IsSound t
Publishes-sound s t id seen prices slot version h e =
    let node = e.node in
    let old = e.round in
    let is = e.may.is_gathered.complete_round in
    let k = node_at s id.0 node h is.is_node in
    let in_round = rw is.is_round at (k.round) in
    let undone : node.fate ≡ Undone = in_round.0 in
    let some : 0 < node.completed = (rw is.is_round at (k.versions)).some_complete is.complete in
    let marked : Node = record node { crowd_tried = e.mark } in
    let k' : IsSoundNode s.problem s.cuts marked = assumption k in
    let demands = length s.problem.demands in
    let round : Round = empty_round s old.slot prices in
    let all_left : left_of round ≡ demands = (let x : left_of round ≡ demands * 1 = sum_by-replicate gap_of demands None in omega arith) in
    let is_sound : IsSoundRound s.problem s.cuts (restriction_of node) round = record {
      slot = in_round.1.slot;
      count = length-replicate demands None;
      prices = e.may.are_numbers;
      least = λ j found x. absurd (none_found demands j found x);
    } in
    let taken : HasTaken s.problem s.cuts marked round e.after = TakesRound-sound s.problem s.cuts marked round undone k' is_sound (λ none. absurd (omega arith)) e.may.room e.after e.takes in
    let undone' : e.after.fate ≡ Undone = taken.fate ∙ undone in
    let base : SameBase node e.after = record { limits = taken.base.limits; first_prices = taken.base.first_prices } in
    let badge : badge_at s.nodes id.0 ≡ Some (old.slot, old.version) = badge_at-at s.nodes id.0 node is.is_node ∙ ap badge_of is.is_round in
    subst IsSound (sym e.becomes)
    (replaced-sound s id.0 node e.after s.examined (suc s.next_version) s.accepted is.is_node h base
    (no_children (set s.nodes id.0 e.after) id.0 e.after e.after.fate undone') taken.sound (undone_fate s.problem s.cuts (cutoff_of s) e.after undone') (ap divided_by_fate taken.fate)
    (AreApart-new s.next_version old.slot s.nodes id.0 node e.after is.is_node (ap badge_of taken.is_round)
    (λ n v ne x. ne (h.apart.slots n id.0 old.slot v old.version x badge)) h.apart)
    (record {
      examined_is = ap (λ (f : Fate). s.examined + examined_by f) (sym taken.fate);
      within_budget = h.counts.within_budget;
      versions = (
          let had : versions_of node ≡ node.completed = rw (undone, is.is_round) (ap (versions_in_round node.completed) is.complete) in
          let now = taken.versions in omega arith
          );
      accepted_within = (
          let had : left_in node ≡ left_of old = ap left_in_round is.is_round in
          let now : left_in e.after ≡ left_of round = ap left_in_round taken.is_round in
          let none = is.complete in
          omega arith
          );
    }))
