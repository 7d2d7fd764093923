-- Publishings: the round of a node is emptied, and gets further prices, each list with the rates of the cuts behind them.
use Rattle.std.specs.Prelude.{ℕ, suc, ◌≡◌, ◌<◌, ◌⊎◌, Bool, true, false, not, ◌==◌, List, length, Option, Some, option_map, slice_get, slice_set, nat_lt, nat_le, ◌+◌, ◌*◌, ◌&&◌, ◌||◌, take, ℤ, ◌≤ℤ◌, ◌<ℤ◌}
use Rattle.plan_base.specs.declared.ids.BranchId.{BranchId}
use Rattle.plan_base.specs.declared.parts.Parts.{Parts}
use Rattle.plan_base.specs.First.{◌or_else◌, when, first_in}
use Rattle.plan_base.specs.Facts.{price_limit}
use Rattle.plan_base.specs.Arcs.{link_at}
use Rattle.plan_base.specs.Places.{places, link_of_place}
use Rattle.proof_tree.specs.declared.cuts.Cut.{Cut}
use Rattle.proof_tree.specs.RatedBounds.{crossing_rates}
use Rattle.proof_tree.specs.RatedEvidence.{rates_in}
use Rattle.cut_values.specs.Numbers.{AreNumbers}
use Rattle.master_step.specs.Restricted.{IsRestrictedValue}
use Rattle.master_step.specs.Outcomes.{HasStalled, AreCrowdPrices}
use Rattle.search_machine.specs.declared.answers.Publish.{Publish}
use Rattle.search_machine.specs.declared.answers.Publish.TheVariants as publish
use Rattle.search_machine.specs.declared.limits.TheConstants.{MAX_VERSIONS}
use Rattle.search_machine.specs.State.{Round, Node, State, ranges_of, round_of}
use Rattle.search_machine.specs.Changes.{TakesRound, stale_fault, first_gap}
use Rattle.search_machine.specs.Opening.{empty_round}
use Rattle.search_machine.specs.Readiness.{completed_in, settled_in}
use Rattle.search_machine.specs.Gathering.{columns_for, first_ungathered, IsGathered}

-- the link of the place of this number, where the place's price is above the limit
abbrev pub price_fault : Parts → ℕ → ℕ → Option Publish
price_fault p q price = when (nat_lt (price_limit p) price) (publish.OverPrice (record { 0 = link_of_place p q }))

-- unlawful, where a rate is above the limit
abbrev pub rate_fault : Parts → ℕ → ℕ → Option Publish
rate_fault p i rate = when (nat_lt (price_limit p) rate) publish.Unlawful

-- the price of the place and these rates of the cuts that it crosses are together within the limit, and where they are above
-- 0, the price is at least a thousand routing costs
abbrev pub is_rated : Parts → ℕ → ℕ → ℕ → Bool
is_rated p q price rate = nat_le (price + rate) (price_limit p) && (rate == 0 || nat_le (1000 * (link_at p (link_of_place p q)).routing) price)

-- unlawful, where the place may not have its price with these rates
abbrev pub rated_fault : Parts → List Cut → List ℕ → ℕ → ℕ → Option Publish
rated_fault p cuts rates q price = when (not (is_rated p q price (crossing_rates p cuts rates q))) publish.Unlawful

-- unlawful, where no price is above the limit, and yet the numbers are not as they have to be; never where there are no cuts
abbrev pub unlawful_fault : Parts → List Cut → List ℕ → Option Publish
unlawful_fault p cuts numbers = first_in (rate_fault p) (rates_in p numbers) or_else first_in (rated_fault p cuts (rates_in p numbers)) (take (places p) numbers)

-- why a publishing is refused before prices are valued, the first cause first: spent, stale, settled, a demand not priced,
-- no version left, not one price for each place and one rate for each cut, a price above the limit, unlawful numbers, a path
-- that is no column
unfoldable pub publish_fault : State → BranchId → ℕ → List ℕ → Option Publish
publish_fault s id seen prices =
    stale_fault publish.Spent publish.Stale s id seen
    or_else when (settled_in (slice_get s.nodes id.0)) publish.Settled
    or_else option_map publish.Incomplete (first_gap (round_of s id))
    or_else when (nat_le MAX_VERSIONS (completed_in (slice_get s.nodes id.0))) (publish.Rounds (completed_in (slice_get s.nodes id.0)))
    or_else when (not (length prices == places s.problem + length s.cuts)) (publish.PriceCount (places s.problem + length s.cuts))
    or_else first_in (price_fault s.problem) (take (places s.problem) prices)
    or_else unlawful_fault s.problem s.cuts prices
    or_else option_map publish.Ungathered (first_ungathered s.columns (round_of s id))

-- the prices may follow those of the node's gathered round
pub record MayFollow (s : State) (id : BranchId) (seen : ℕ) (prices : List ℕ) (node : Node) (round : Round) : Type 0 where
  pub is_gathered : IsGathered s id seen node round
  pub not_settled : node.settled ≡ false
  pub room : node.completed < MAX_VERSIONS
  pub are_numbers : AreNumbers s.problem s.cuts prices

-- the prices have a greater restricted value than those of the round
pub record IsBetterStep (s : State) (node : Node) (round : Round) (prices : List ℕ) : Type 0 where
  pub before : ℤ
  pub after : ℤ
  pub is_before : IsRestrictedValue s.problem s.cuts (ranges_of s.problem node) (columns_for s node) round.prices before
  pub is_after : IsRestrictedValue s.problem s.cuts (ranges_of s.problem node) (columns_for s node) prices after
  pub greater : before <ℤ after

-- the round is stalled, and the prices are its crowd prices
pub record IsCrowding (s : State) (node : Node) (round : Round) (prices : List ℕ) : Type 0 where
  pub stalled : HasStalled s.problem s.cuts (ranges_of s.problem node) (columns_for s node) round.prices
  pub are_crowd : AreCrowdPrices s.problem round.prices prices

-- they are, and the node's crowd prices were not tried
pub record IsCrowdStep (s : State) (node : Node) (round : Round) (prices : List ℕ) : Type 0 where
  pub not_tried : node.crowd_tried ≡ false
  pub crowding : IsCrowding s node round prices

-- the mark that crowd prices were tried is set where they are tried now, and else stays
pub record IsMark (s : State) (node : Node) (round : Round) (prices : List ℕ) (mark : Bool) : Type 0 where
  pub set : IsCrowding s node round prices → mark ≡ true
  pub kept : (IsCrowding s node round prices → ⊥) → mark ≡ node.crowd_tried

-- the prices are better or the crowd step; the emptied round has them, and the next version
pub record Publishes (old : State) (id : BranchId) (seen : ℕ) (prices : List ℕ) (slot version : ℕ) (new : State) : Type 0 where
  pub node : Node
  pub round : Round
  pub may : MayFollow old id seen prices node round
  pub gains : IsBetterStep old node round prices ⊎ IsCrowdStep old node round prices
  pub slot_is : slot ≡ round.slot
  pub version_is : version ≡ old.next_version
  pub mark : Bool
  pub is_mark : IsMark old node round prices mark
  pub after : Node
  pub takes : TakesRound old.problem old.cuts (record node { crowd_tried = mark }) (empty_round old round.slot prices) after
  pub becomes : new ≡ record old { nodes = slice_set old.nodes id.0 after; next_version = suc old.next_version }

-- the prices are neither: the restricted values of the round's prices and of these
pub record IsNoGain (old : State) (id : BranchId) (seen : ℕ) (prices : List ℕ) (before after : ℤ) (new : State) : Type 0 where
  pub node : Node
  pub round : Round
  pub may : MayFollow old id seen prices node round
  pub is_before : IsRestrictedValue old.problem old.cuts (ranges_of old.problem node) (columns_for old node) round.prices before
  pub is_after : IsRestrictedValue old.problem old.cuts (ranges_of old.problem node) (columns_for old node) prices after
  pub not_greater : after ≤ℤ before
  pub no_crowd_step : IsCrowdStep old node round prices → ⊥
  pub unchanged : new ≡ old

-- a publishing is answered so and leads from old to new; a refused one changes nothing
abbrev pub PublishStep : State → BranchId → ℕ → List ℕ → Publish → State → Type 0
PublishStep old id seen prices (publish.Published slot version) new = Publishes old id seen prices slot version new
PublishStep old id seen prices (publish.NoGain before after) new = IsNoGain old id seen prices before after new
PublishStep old id seen prices refusal new = (publish_fault old id seen prices ≡ Some refusal) × (new ≡ old)
