-- A sound node that takes a sound round is sound, whether the round is complete or not.
use Rattle.std.proofs.Common.{◌≡◌, ℕ, zero, suc, ◌+◌, ◌<◌, ◌≤◌, inl, inr, Bool, true, false, List, length, Option, Some, None, refl, sym, ap, subst, arith, ℤ, ◌≤ℤ◌}
use Rattle.std.specs.Prelude.{IfSome, int_lt}
use Rattle.std.proofs.lemmas.Int.{ints}
use Rattle.plan_base.specs.declared.parts.Parts.{Parts}
use Rattle.plan_base.specs.Places.{places}
use Rattle.proof_tree.specs.declared.cuts.Cut.{Cut}
use Rattle.proof_tree.specs.Regions.{Region}
use Rattle.proof_tree.specs.Evidence.{ClosedByCrowd}
use Rattle.proof_tree.specs.RatedEvidence.{rates_in, IsBoundAt}
use Rattle.cut_values.specs.Numbers.{AreNumbers}
use Rattle.search_machine.specs.declared.limits.TheConstants.{MAX_VERSIONS}
use Rattle.proof_tree.proofs.RatedUniqueness.{rated_bound-unique}
use Rattle.search_machine.specs.State.{Round, Best, Fate, Undone, Node, restriction_of, region_of, left_of}
use Rattle.search_machine.specs.Changes.{better_of, KeepsCrowd, Completes, GoesOn, TakesRound}
use Rattle.search_machine.specs.Nodes.{IsSoundRound, IsSoundBest, HasSoundVersions, IsSoundNode}
use Rattle.search_machine.specs.Counts.{versions_of, versions_by, versions_in_round}
use Rattle.search_machine.proofs.Frames.{SameBase}

-- the better of a sound record and of a bound is sound, and at least that bound
record IsBetter (p : Parts) (cuts : List Cut) (g : Region) (first_prices : List ℕ) (completed : ℕ) (bound : ℤ) (best : Best) : Type 0 where
  sound : IsSoundBest p cuts g first_prices (suc completed) best
  above : bound ≤ℤ best.bound

same_bound : (one other : ℤ) → one ≡ other → one ≤ℤ other
same_bound one other e = omega (arith, ints)

better_of-sound : (p : Parts) (cuts : List Cut) (g : Region) (first_prices prices : List ℕ) (completed : ℕ) (best : Option Best) (bound : ℤ)
    → IfSome best (λ b. IsSoundBest p cuts g first_prices completed b) → AreNumbers p cuts prices → IsBoundAt p cuts g prices bound
    → (best ≡ None → IsBoundAt p cuts g first_prices bound)
    → IsBetter p cuts g first_prices completed bound (better_of best bound prices)
better_of-sound p cuts g first_prices prices completed None bound h fits is first = record {
  sound = record { prices = fits; is_bound = is; some_complete = omega arith; first = bound; is_first = first refl; above_first = same_bound bound bound refl };
  above = same_bound bound bound refl;
}
better_of-sound p cuts g first_prices prices completed (Some best) bound h fits is first = by_cases (int_lt best.bound bound) refl
  where
    by_cases : (b : Bool) → int_lt best.bound bound ≡ b → IsBetter p cuts g first_prices completed bound (better_of (Some best) bound prices)
    by_cases true less =
        rw less (record {
          sound = record { prices = fits; is_bound = is; some_complete = omega arith; first = h.first; is_first = h.is_first; above_first = (let low = h.above_first in grind (arith, ints)) };
          above = same_bound bound bound refl;
        })
    by_cases false more =
        rw more (record {
          sound = record { prices = h.prices; is_bound = h.is_bound; some_complete = omega arith; first = h.first; is_first = h.is_first; above_first = h.above_first };
          above = grind (arith, ints);
        })

-- what a node is when it has taken a round
pub record HasTaken (p : Parts) (cuts : List Cut) (old : Node) (round : Round) (new : Node) : Type 0 where
  pub sound : IsSoundNode p cuts new
  pub base : SameBase old new
  pub fate : new.fate ≡ old.fate
  pub is_round : new.round ≡ Some round
  pub cut : new.cut ≡ old.cut
  pub versions : versions_of new ≡ suc old.completed

versions-undone : (completed : ℕ) (fate : Fate) (round : Round) (n : ℕ) → fate ≡ Undone → versions_in_round completed (left_of round) ≡ n → versions_by fate (Some round) completed ≡ n
versions-undone completed fate round n undone is = rw undone is

versions_in_round-some : (completed left : ℕ) → 0 < left → versions_in_round completed left ≡ suc completed
versions_in_round-some completed zero h = absurd (omega arith)
versions_in_round-some completed (suc left) h = refl

-- a crowd proof with one price for each place and one rate for each cut
abbrev IsSizedCrowd : Parts → List Cut → Node → List ℕ → Type 0
IsSizedCrowd p cuts node prices = ClosedByCrowd p (region_of p node) prices × (length prices ≡ places p + length cuts)

KeepsCrowd-sound : (p : Parts) (cuts : List Cut) (old : Node) (prices : List ℕ) (crowd : Option (List ℕ)) → length prices ≡ places p + length cuts → KeepsCrowd p old prices crowd
    → IfSome old.crowd (IsSizedCrowd p cuts old) → IfSome crowd (IsSizedCrowd p cuts old)
KeepsCrowd-sound p cuts old prices crowd fits keeps h = elim keeps [
  | inl w ↦ subst (λ (o : Option (List ℕ)). IfSome o (IsSizedCrowd p cuts old)) (sym w.1) (w.0, fits)
  | inr w ↦ subst (λ (o : Option (List ℕ)). IfSome o (IsSizedCrowd p cuts old)) (sym w.1) h
]

module _ (p : Parts) (cuts : List Cut) (old : Node) (round : Round) (undone : old.fate ≡ Undone) (k : IsSoundNode p cuts old)
    (is_sound : IsSoundRound p cuts (restriction_of old) round) (first : old.completed ≡ 0 → round.prices ≡ old.first_prices) (room : old.completed < MAX_VERSIONS) where
  -- the node has taken the round where what it then has of complete versions, and its crowd proof, are sound
  with_round : (best : Option Best) (completed : ℕ) (crowd : Option (List ℕ)) → IfSome best (λ b. IsSoundBest p cuts (region_of p old) old.first_prices completed b) → (best ≡ None → completed ≡ 0)
      → HasSoundVersions p cuts (region_of p old) old.first_prices completed best round → completed ≤ MAX_VERSIONS → IfSome crowd (IsSizedCrowd p cuts old)
      → versions_in_round completed (left_of round) ≡ suc old.completed → HasTaken p cuts old round (record old { best = best; completed = completed; crowd = crowd; round = Some round })
  with_round best completed crowd is_best no_best versions within is_crowd count = record {
    sound = record {
      first_prices = k.first_prices;
      open_enough = k.open_enough;
      ranges = k.ranges;
      round = (undone, is_sound);
      best = is_best;
      no_best = no_best;
      versions = versions;
      version_count = within;
      waiting = λ u none. cc;
      cut = k.cut;
      crowd = is_crowd;
    };
    base = record { limits = refl; first_prices = refl };
    fate = refl;
    is_round = refl;
    cut = refl;
    versions = versions-undone completed old.fate round (suc old.completed) undone count;
  }

  Completes-sound : (new : Node) → Completes p cuts old round new → HasTaken p cuts old round new
  Completes-sound new e =
      let g = region_of p old in
      let better = better_of-sound p cuts g old.first_prices round.prices old.completed old.best e.bound k.best is_sound.prices e.is_bound
      (λ none. subst (λ (ps : List ℕ). IsBoundAt p cuts g ps e.bound) (first (k.no_best none)) e.is_bound) in
      let versions : HasSoundVersions p cuts g old.first_prices (suc old.completed) (Some (better_of old.best e.bound round.prices)) round = record {
        complete_within = λ done b x. let same : b ≡ e.bound = rated_bound-unique p cuts g round.prices (rates_in p round.prices) b e.bound x e.is_bound in subst (λ (z : ℤ). z ≤ℤ (better_of old.best e.bound round.prices).bound) (sym same) better.above;
        some_complete = λ done. omega arith;
        first_round = λ none. absurd (omega arith);
        room = λ left. absurd (let c = e.complete in omega arith);
      } in
      subst (HasTaken p cuts old round) (sym e.becomes) (with_round (Some (better_of old.best e.bound round.prices)) (suc old.completed) e.crowd better.sound (λ none. cc) versions (omega arith)
      (KeepsCrowd-sound p cuts old round.prices e.crowd is_sound.prices.count e.is_crowd k.crowd) (ap (versions_in_round (suc old.completed)) e.complete))

  GoesOn-sound : (new : Node) → GoesOn old round new → HasTaken p cuts old round new
  GoesOn-sound new e =
      let left : 0 < left_of round = e.incomplete in
      let versions : HasSoundVersions p cuts (region_of p old) old.first_prices old.completed old.best round = record {
        complete_within = λ done. absurd (omega arith);
        some_complete = λ done. absurd (omega arith);
        first_round = first;
        room = λ l. room;
      } in
      subst (HasTaken p cuts old round) (sym e.becomes)
      (with_round old.best old.completed old.crowd k.best k.no_best versions k.version_count k.crowd (versions_in_round-some old.completed (left_of round) left))

  -- an open sound node with room that takes a sound round is sound, and keeps its base, its fate and its cut
  pub TakesRound-sound : (new : Node) → TakesRound p cuts old round new → HasTaken p cuts old round new
  TakesRound-sound new takes = elim takes [ inl e ↦ Completes-sound new e | inr e ↦ GoesOn-sound new e ]
