-- Without cuts no numbers are refused as unlawful.
use Rattle.std.proofs.Common.{◌≡◌, ℕ, ◌+◌, Bool, List, [], length, take, Option, Some, None, refl, sym, subst, arith}
use Rattle.std.specs.Prelude.{option_map, not}
use Rattle.std.proofs.lemmas.Bool.{eqb-true}
use Rattle.std.proofs.lemmas.List.{take_all}
use Rattle.plan_base.specs.declared.ids.BranchId.{BranchId}
use Rattle.plan_base.specs.declared.ids.DemandId.{DemandId}
use Rattle.plan_base.specs.declared.parts.Parts.{Parts}
use Rattle.plan_base.specs.First.{◌or_else◌, when, first_in}
use Rattle.plan_base.specs.Places.{places, link_of_place}
use Rattle.plan_base.proofs.Bools.{not-false}
use Rattle.plan_base.proofs.FirstFault.{when-none}
use Rattle.arc_restrict.specs.Prices.{AreWithinLimit}
use Rattle.proof_tree.specs.declared.cuts.Cut.{Cut}
use Rattle.search_machine.specs.declared.answers.Publish.{Publish}
use Rattle.search_machine.specs.declared.answers.Publish.TheVariants as publish
use Rattle.search_machine.specs.State.{State, round_of}
use Rattle.search_machine.specs.Changes.{is_spent, version_in, is_version, stale_fault, first_gap}
use Rattle.search_machine.specs.Gathering.{first_ungathered}
use Rattle.search_machine.specs.Publishing.{price_fault, unlawful_fault, publish_fault}
use Rattle.search_machine.proofs.RefusedNumbers.{first_in-at, when-only, over_price-none, unlawful-without}

-- it is another refusal, or none
abbrev IsOther : Option Publish → Type 0
IsOther fault = fault ≡ Some publish.Unlawful → ⊥

-- behind another refusal stands this one, where both together are it
behind : (a b : Option Publish) → IsOther a → (a or_else b) ≡ Some publish.Unlawful → (a ≡ None) × (b ≡ Some publish.Unlawful)
behind None b other h = (refl, h)
behind (Some x) b other h = absurd (other h)

when-other : (test : Bool) (e : Publish) → (publish.Unlawful ≡ e → ⊥) → IsOther (when test e)
when-other test e other h = other (when-only test e publish.Unlawful h)

incomplete-other : (o : Option DemandId) → IsOther (option_map publish.Incomplete o)
incomplete-other None h = let bad : ◌≡◌ {A = Option Publish} None (Some publish.Unlawful) = h in cc
incomplete-other (Some demand) h = let bad : ◌≡◌ {A = Option Publish} (Some (publish.Incomplete demand)) (Some publish.Unlawful) = h in cc

ungathered-other : (o : Option DemandId) → IsOther (option_map publish.Ungathered o)
ungathered-other None h = let bad : ◌≡◌ {A = Option Publish} None (Some publish.Unlawful) = h in cc
ungathered-other (Some demand) h = let bad : ◌≡◌ {A = Option Publish} (Some (publish.Ungathered demand)) (Some publish.Unlawful) = h in cc

-- one price for each place, none above the limit, and no cuts
unlawful-none : (p : Parts) (cuts : List Cut) (numbers : List ℕ) → cuts ≡ [] → length numbers ≡ places p + length cuts → first_in (price_fault p) (take (places p) numbers) ≡ None → unlawful_fault p cuts numbers ≡ None
unlawful-none p cuts numbers none count over =
    let plain : length numbers ≡ places p + 0 = subst (λ (xs : List Cut). length numbers ≡ places p + length xs) none count in
    let within : AreWithinLimit p numbers = subst (AreWithinLimit p) (take_all (places p) numbers (omega arith)) (over_price-none p [] numbers over) in
    subst (λ (xs : List Cut). unlawful_fault p xs numbers ≡ None) (sym none) (unlawful-without p numbers within)

over_price-other : (p : Parts) (prices : List ℕ) → IsOther (first_in (price_fault p) prices)
over_price-other p prices h =
    let first = first_in-at (price_fault p) prices publish.Unlawful h in
    when-other _ (publish.OverPrice (record { 0 = link_of_place p first.0 })) (λ e. cc) first.2

both-other : (a b : Option Publish) → IsOther a → IsOther b → IsOther (a or_else b)
both-other a b one other h = other (behind a b one h).1

stale-other : (s : State) (id : BranchId) (seen : ℕ) → IsOther (stale_fault publish.Spent publish.Stale s id seen)
stale-other s id seen =
    both-other _ _ (when-other (is_spent s) (publish.Spent s.examined) (λ e. cc))
    (when-other (not (is_version (version_in (round_of s id)) seen)) (publish.Stale (version_in (round_of s id))) (λ e. cc))

settled-other : (test : Bool) → IsOther (when test publish.Settled)
settled-other test = when-other test publish.Settled (λ e. cc)

rounds-other : (test : Bool) (done : ℕ) → IsOther (when test (publish.Rounds done))
rounds-other test done = when-other test (publish.Rounds done) (λ e. cc)

count-other : (test : Bool) (needed : ℕ) → IsOther (when test (publish.PriceCount needed))
count-other test needed = when-other test (publish.PriceCount needed) (λ e. cc)

-- without cuts this is never the first refusal
pub never-unlawful : (s : State) (id : BranchId) (seen : ℕ) (prices : List ℕ) → s.cuts ≡ [] → publish_fault s id seen prices ≡ Some publish.Unlawful → ⊥
unfolding publish_fault
never-unlawful s id seen prices none h =
    let settled = behind _ _ (stale-other s id seen) h in
    let incomplete = behind _ _ (settled-other _) settled.1 in
    let rounds = behind _ _ (incomplete-other (first_gap (round_of s id))) incomplete.1 in
    let counted = behind _ _ (rounds-other _ _) rounds.1 in
    let count = behind _ _ (count-other _ _) counted.1 in
    let over = behind _ _ (over_price-other s.problem (take (places s.problem) prices)) count.1 in
    let lawful = unlawful-none s.problem s.cuts prices none (eqb-true _ _ (not-false _ (when-none _ _ count.0))) over.0 in
    let ungathered = first_ungathered s.columns (round_of s id) in
    ungathered-other ungathered (subst (λ (o : Option Publish). (o or_else option_map publish.Ungathered ungathered) ≡ Some publish.Unlawful) lawful over.1)
