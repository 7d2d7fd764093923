-- Offers: what was found for a demand goes into the round of a node, or becomes the node's cut.
use Rattle.std.specs.Prelude.{ℕ, suc, ◌≡◌, ◌<◌, Bool, false, ◌||◌, List, length, Option, Some, None, is_some, option_map, option_and_then, slice_get, slice_set, nat_le}
use Rattle.plan_base.specs.declared.parts.Parts.{Parts}
use Rattle.plan_base.specs.First.{◌or_else◌, when}
use Rattle.search_machine.specs.declared.answers.Offer.{Offer}
use Rattle.search_machine.specs.declared.answers.Offered.{Offered}
use Rattle.search_machine.specs.declared.answers.Offered.TheVariants as offered
use Rattle.path_pricing.specs.declared.priced.Priced.{Priced}
use Rattle.path_pricing.specs.declared.priced.Priced.TheVariants as priced
use Rattle.path_pricing.specs.Faults.{priced_fault}
use Rattle.search_machine.specs.State.{Round, Node, State, restriction_of, left_of, round_of, Found}
use Rattle.search_machine.specs.Changes.{with_node, TakesRound, has_cut, stale_fault}

-- the round has a path for the demand
abbrev pub is_priced : Option Round → ℕ → Bool
is_priced None k = false
is_priced (Some round) k = is_some (option_and_then (λ found. found) (slice_get round.found k))

-- what check_priced answers under the round's own prices and the node's restriction
abbrev pub unfit_in : Parts → Option Node → ℕ → Priced → Option Offered
unfit_in p None k found = None
unfit_in p (Some node) k found =
    option_and_then (λ round. option_map offered.Unfit (priced_fault p round.prices k (restriction_of node) found)) node.round

-- why an offer is refused, the first cause first: spent, stale, no such demand, known already, unfit
unfoldable pub offer_fault : State → Offer → Option Offered
offer_fault s offer =
    stale_fault offered.Spent offered.Stale s offer.node offer.version
    or_else when (nat_le (length s.problem.demands) offer.demand.0) (offered.NoDemand (length s.problem.demands))
    or_else when (is_priced (round_of s offer.node) offer.demand.0 || has_cut (slice_get s.nodes offer.node.0)) offered.Already
    or_else unfit_in s.problem (slice_get s.nodes offer.node.0) offer.demand.0 offer.found

-- the offer fits the node's round, where its demand is not priced yet
pub record FitsRound (s : State) (offer : Offer) (node : Node) (round : Round) : Type 0 where
  pub not_spent : s.examined < s.budget
  pub is_node : slice_get s.nodes offer.node.0 ≡ Some node
  pub is_round : node.round ≡ Some round
  pub version : round.version ≡ offer.version
  pub is_demand : offer.demand.0 < length s.problem.demands
  pub not_priced : slice_get round.found offer.demand.0 ≡ Some None
  pub no_cut : node.cut ≡ None
  pub fits : priced_fault s.problem round.prices offer.demand.0 (restriction_of node) offer.found ≡ None

-- the offer is a set, and the node keeps it
pub record TakesCut (old : State) (offer : Offer) (new : State) : Type 0 where
  pub node : Node
  pub round : Round
  pub fits_round : FitsRound old offer node round
  pub reached : List Bool
  pub is_set : offer.found ≡ priced.NoPath reached
  pub becomes : new ≡ with_node old offer.node (record node { cut = Some (record { demand = offer.demand; reached = reached }) })

-- the round in which the demand has this path
abbrev pub with_found : Round → ℕ → Found → Round
with_found round k found = record round { found = slice_set round.found k (Some found) }

-- the offer is a path, and the round keeps it
pub record Accepts (old : State) (offer : Offer) (left : ℕ) (new : State) : Type 0 where
  pub node : Node
  pub round : Round
  pub fits_round : FitsRound old offer node round
  pub found : Found
  pub potentials : List ℕ
  pub is_path : offer.found ≡ priced.Path found.path found.price potentials
  pub left_is : left ≡ left_of (with_found round offer.demand.0 found)
  pub after : Node
  pub takes : TakesRound old.problem old.cuts node (with_found round offer.demand.0 found) after
  pub becomes : new ≡ record old { nodes = slice_set old.nodes offer.node.0 after; accepted = suc old.accepted }

-- an offer is answered so and leads from old to new; a refused one changes nothing
abbrev pub OfferStep : State → Offer → Offered → State → Type 0
OfferStep old offer offered.CutTaken new = TakesCut old offer new
OfferStep old offer (offered.Accepted left) new = Accepts old offer left new
OfferStep old offer refusal new = (offer_fault old offer ≡ Some refusal) × (new ≡ old)

-- 1 for an offer that is accepted: what each worker books
abbrev pub accepted_by : Offered → ℕ
accepted_by (offered.Accepted left) = 1
accepted_by _ = 0
