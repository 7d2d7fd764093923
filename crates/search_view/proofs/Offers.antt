-- What an offer is tested by at an open leaf.
use Rattle.std.proofs.Common.{◌≡◌, ℕ, true, List, Option, Some, None, slice_get, refl, sym, ap, subst, ◌∙◌}
use Rattle.std.specs.Prelude.{IfSome, option_map, option_and_then}
use Rattle.plan_base.specs.declared.ids.BranchId.{BranchId}
use Rattle.plan_base.specs.declared.parts.Parts.{Parts}
use Rattle.arc_restrict.specs.Restrictions.{Forbidden}
use Rattle.path_pricing.specs.declared.priced.Priced.{Priced}
use Rattle.path_pricing.specs.Priced.{ArePrices}
use Rattle.path_pricing.specs.Faults.{priced_fault}
use Rattle.search_machine.specs.declared.answers.Offered.TheVariants as offered
use Rattle.branch_tree.specs.declared.node.Fate.{Fate}
use Rattle.branch_tree.specs.declared.node.Fate.TheVariants.{Undone}
use Rattle.search_machine.specs.State.{Round, Node, State, restriction_of, state_by, state_in, state_of, round_of}
use Rattle.search_machine.specs.Changes.{is_open_state}
use Rattle.search_machine.specs.Offering.{unfit_in}
use Rattle.search_machine.specs.Machine.{IsReachable}
use Rattle.search_machine.specs.Nodes.{IsSoundRound}
use Rattle.search_machine.specs.Soundness.{IsSound}
use Rattle.search_machine.proofs.Replacing.{node_at}
use Rattle.search_machine.proofs.Runs.{IsReachable-sound}
use Rattle.search_view.proofs.Reading.{numbers-prices}

-- a sound round of a node
pub round_at : (s : State) (n : ℕ) (node : Node) (round : Round) → IsSound s → slice_get s.nodes n ≡ Some node → node.round ≡ Some round
    → (node.fate ≡ Undone) × IsSoundRound s.problem s.cuts (restriction_of node) round
round_at s n node round h at is =
    subst (λ (o : Option Round). IfSome o (λ r. (node.fate ≡ Undone) × IsSoundRound s.problem s.cuts (restriction_of node) r)) is (node_at s n node h at).round

-- What is asked before a check of what was found

-- a node with a round is an open leaf
open_by : (fate : Fate) (round : Option Round) → fate ≡ Undone → is_open_state (state_by fate round) ≡ true
open_by fate None undone = rw undone refl
open_by fate (Some round) undone = rw undone refl

-- a node with a round is an open leaf
pub open_at : (s : State) (id : BranchId) (node : Node) (round : Round) → IsSound s → slice_get s.nodes id.0 ≡ Some node → node.round ≡ Some round → is_open_state (state_of s id) ≡ true
open_at s id node round h at is =
    ap (λ (o : Option Node). is_open_state (state_in o)) at ∙ open_by node.fate node.round (round_at s id.0 node round h at is).0

-- the prices of a node's round have one for each place at least, and none above the limit
pub prices_at : (s : State) (id : BranchId) (node : Node) (round : Round) → IsSound s → slice_get s.nodes id.0 ≡ Some node → node.round ≡ Some round → ArePrices s.problem round.prices
prices_at s id node round h at is = numbers-prices s.problem s.cuts round.prices (round_at s id.0 node round h at is).1.prices

node_in : (o : Option Node) (round : Round) → option_and_then (λ (node : Node). node.round) o ≡ Some round → (node : Node) × (o ≡ Some node) × (node.round ≡ Some round)
node_in None round is = absurd (let bad : ◌≡◌ {A = Option Round} None (Some round) = is in cc)
node_in (Some node) round is = (node, refl, is)

module _ (s : State) (id : BranchId) (round : Round) (is : round_of s id ≡ Some round) where
  -- where a round is read of a number, the node there is an open leaf
  pub unfit-open : IsReachable s → is_open_state (state_of s id) ≡ true
  unfit-open h = let n = node_in (slice_get s.nodes id.0) round is in open_at s id n.0 round (IsReachable-sound s h) n.1 n.2

  -- prices that are read of a round have one for each place at least, and none above the limit
  pub unfit-prices : (p : Parts) (prices : List ℕ) → IsReachable s → p ≡ s.problem → prices ≡ round.prices → ArePrices p prices
  unfit-prices p prices h same same_prices =
      let n = node_in (slice_get s.nodes id.0) round is in
      let fit : ArePrices s.problem round.prices = prices_at s id n.0 round (IsReachable-sound s h) n.1 n.2 in
      subst (λ (q : Parts). ArePrices q prices) (sym same) (subst (ArePrices s.problem) (sym same_prices) fit)

  -- what a check of what was found answers
  pub unfit-is : (r : Forbidden) (k : ℕ) (found : Priced) → IfSome (slice_get s.nodes id.0) (λ x. r ≡ restriction_of x)
      → option_map offered.Unfit (priced_fault s.problem round.prices k r found) ≡ unfit_in s.problem (slice_get s.nodes id.0) k found
  unfit-is r k found ground =
      let n = node_in (slice_get s.nodes id.0) round is in
      let same : r ≡ restriction_of n.0 = subst (λ (o : Option Node). IfSome o (λ x. r ≡ restriction_of x)) n.1 ground in
      ap (λ (q : Forbidden). option_map offered.Unfit (priced_fault s.problem round.prices k q found)) same
      ∙ sym (ap (λ (x : Option Node). unfit_in s.problem x k found) n.1
      ∙ ap (λ (x : Option Round). option_and_then (λ y. option_map offered.Unfit (priced_fault s.problem y.prices k (restriction_of n.0) found)) x) n.2)
