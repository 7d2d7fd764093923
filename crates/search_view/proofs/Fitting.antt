-- What a demand finds under the prices of a round fits the round.
use Rattle.std.proofs.Common.{◌≡◌, ℕ, List, Option, Some, None, slice_get, sym, ap, subst, ◌∙◌}
use Rattle.std.specs.Prelude.{option_map, option_and_then, IsSome}
use Rattle.plan_base.specs.declared.ids.BranchId.{BranchId}
use Rattle.plan_base.specs.declared.parts.Parts.{Parts}
use Rattle.arc_restrict.specs.Restrictions.{Forbidden}
use Rattle.path_pricing.specs.declared.priced.Priced.{Priced}
use Rattle.path_pricing.specs.Priced.{ArePrices}
use Rattle.path_pricing.specs.Faults.{priced_fault}
use Rattle.search_machine.specs.declared.answers.Offered.TheVariants as offered
use Rattle.search_machine.specs.State.{Round, Node, State, restriction_of, round_of}
use Rattle.search_machine.specs.Offering.{unfit_in}
use Rattle.search_machine.specs.Machine.{IsReachable}
use Rattle.search_machine.proofs.Runs.{IsReachable-sound}
use Rattle.search_view.proofs.TaskLaws.{HasRound, has-round, round_of-has}
use Rattle.search_view.proofs.Reading.{round-prices}

-- what has no fault under the prices of the node's round and its restriction is not refused as unfit
pub fits-unfit : (s : State) (id : BranchId) (h : HasRound s id) (k : ℕ) (found : Priced) → priced_fault s.problem h.round.prices k (restriction_of h.node) found ≡ None
    → unfit_in s.problem (slice_get s.nodes id.0) k found ≡ None
fits-unfit s id h k found none =
    ap (λ (o : Option Node). unfit_in s.problem o k found) h.is_node
    ∙ ap (λ (o : Option Round). option_and_then (λ (round : Round). option_map offered.Unfit (priced_fault s.problem round.prices k (restriction_of h.node) found)) o) h.is_round
    ∙ ap (option_map offered.Unfit) none

-- what fits what was read fits the node
pub priced-fits : (s : State) (id : BranchId) (k : ℕ) (found : Priced) (p : Parts) (prices : List ℕ) (r : Forbidden) (round : Round) → (h : HasRound s id)
    → p ≡ s.problem → Some round ≡ round_of s id → prices ≡ round.prices → r ≡ restriction_of h.node → priced_fault p prices k r found ≡ None
    → unfit_in s.problem (slice_get s.nodes id.0) k found ≡ None
priced-fits s id k found p prices r round h same_p is same_prices same_r none =
    let both : Some round ≡ Some h.round = is ∙ round_of-has s id h in
    let same : round ≡ h.round = cc in
    let same_here : prices ≡ h.round.prices = same_prices ∙ ap (λ (x : Round). x.prices) same in
    fits-unfit s id h k found
    (subst (λ (q : Parts). priced_fault q h.round.prices k (restriction_of h.node) found ≡ None) same_p
    (subst (λ (ps : List ℕ). priced_fault p ps k (restriction_of h.node) found ≡ None) same_here
    (subst (λ (x : Forbidden). priced_fault p prices k x found ≡ None) same_r none)))

-- prices read of a node's round have one for each place at least, and none above the limit
pub prices-fit : (s : State) (id : BranchId) (p : Parts) (prices : List ℕ) (round : Round) → IsReachable s → IsSome (round_of s id) → p ≡ s.problem → Some round ≡ round_of s id → prices ≡ round.prices
    → ArePrices p prices
prices-fit s id p prices round reachable some same_p is same_prices =
    let h = has-round s id some in
    let both : Some round ≡ Some h.round = is ∙ round_of-has s id h in
    let same : round ≡ h.round = cc in
    let same_here : prices ≡ h.round.prices = same_prices ∙ ap (λ (x : Round). x.prices) same in
    subst (λ (q : Parts). ArePrices q prices) (sym same_p) (subst (ArePrices s.problem) (sym same_here) (round-prices s id (IsReachable-sound s reachable) h))
