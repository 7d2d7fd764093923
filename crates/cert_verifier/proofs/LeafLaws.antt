-- A leaf breaks no rule exactly where it has its evidence.
use Rattle.std.proofs.Common.{None, Some, inl, inr, refl, subst}
use Rattle.std.specs.Prelude.{ℕ, List, Option, IsSome, IsSomeAnd}
use Rattle.plan_base.specs.declared.parts.Parts.{Parts}
use Rattle.plan_base.specs.declared.path.Design.{Design}
use Rattle.link_steps.specs.Costs.{Carries}
use Rattle.arc_restrict.specs.Restrictions.{Forbidden}
use Rattle.proof_tree.specs.declared.cuts.Cut.{Cut as LoadCut}
use Rattle.proof_tree.specs.declared.tree.Evidence.{Evidence}
use Rattle.proof_tree.specs.declared.tree.Evidence.TheVariants.{Bound, Routed, Overfull, Cut, Far, Crowd, Open}
use Rattle.proof_tree.specs.Regions.{Region}
use Rattle.proof_tree.specs.Bounds.{AreLeastPrices}
use Rattle.proof_tree.specs.Evidence.{AreOnlyPaths}
use Rattle.proof_tree.specs.RatedEvidence.{HasRatedEvidence}
use Rattle.verifier_paths.specs.OnlyPaths.{HavePaths}
use Rattle.cert_verifier.specs.LeafRules.{LeafFinds, CanCarryAll}
use Rattle.cert_verifier.specs.Bounds.{IsOpenLawful}
use Rattle.cert_verifier.proofs.FirstRules.{unless-none}
use Rattle.cert_verifier.proofs.OnlyLoads.{only_need}
use Rattle.cert_verifier.proofs.RuleLaws.{then_by-none, FindsOne, unless-one, then_by-one}

-- where no rule is broken the leaf has its evidence
pub leaf_found_none : (p : Parts) (cuts : List LoadCut) (cost : Option ℕ) (g : Region) (index : ℕ) (evidence : Evidence) → LeafFinds p cuts cost g index evidence None → HasRatedEvidence p cuts cost g evidence
unfolding LeafFinds
leaf_found_none p cuts cost g index (Bound prices) h = unless-none _ _ (then_by-none (then_by-none h).1).1
leaf_found_none p cuts cost g index Routed h = unless-none _ _ (then_by-none (then_by-none (then_by-none (then_by-none h).1).1).1).1
leaf_found_none p cuts cost g index (Overfull link) h = unless-none _ _ (then_by-none (then_by-none (then_by-none h).1).1).1
leaf_found_none p cuts cost g index (Cut demand reached) h = unless-none _ _ (then_by-none (then_by-none (then_by-none h).1).1).1
leaf_found_none p cuts cost g index (Far demand) h = unless-none _ _ (then_by-none h).1
leaf_found_none p cuts cost g index (Crowd prices) h = unless-none _ _ (then_by-none (then_by-none (then_by-none h).1).1).1
leaf_found_none p cuts cost g index (Open prices) h = unless-none _ _ h

-- and the numbers of an open leaf are as they have to be
pub leaf_found_none-open : (p : Parts) (cuts : List LoadCut) (cost : Option ℕ) (g : Region) (index : ℕ) (evidence : Evidence) → LeafFinds p cuts cost g index evidence None → IsOpenLawful p cuts evidence
unfolding LeafFinds
leaf_found_none-open p cuts cost g index (Bound prices) h = tt
leaf_found_none-open p cuts cost g index Routed h = tt
leaf_found_none-open p cuts cost g index (Overfull link) h = tt
leaf_found_none-open p cuts cost g index (Cut demand reached) h = tt
leaf_found_none-open p cuts cost g index (Far demand) h = tt
leaf_found_none-open p cuts cost g index (Crowd prices) h = tt
leaf_found_none-open p cuts cost g index (Open prices) h = unless-none _ _ h

least_prices-paths : (p : Parts) (r : Forbidden) (prices : List ℕ) (least_prices : ℕ → ℕ) → AreLeastPrices p r prices least_prices → HavePaths p r
least_prices-paths p r prices least_prices h k within = ((h k within).path, (h k within).permitted)

only-paths : (p : Parts) (r : Forbidden) (d : Design) → AreOnlyPaths p r d → HavePaths p r
only-paths p r d h k within = (_, (h k within).permitted)

-- a leaf of a cost that has its evidence breaks no rule
bound_rules : (p : Parts) (cuts : List LoadCut) (cost : Option ℕ) (g : Region) (index : ℕ) (prices : List ℕ) → HasRatedEvidence p cuts cost g (Bound prices) → LeafFinds p cuts cost g index (Bound prices) None
unfolding LeafFinds
bound_rules p cuts None g index prices h = absurd h
bound_rules p cuts (Some c) g index prices h =
    inr (inl (h.lawful, refl), inr (inl (least_prices-paths p g.forbidden prices _ h.is_bound.are_least, refl), inl (h, refl)))

routed_rules : (p : Parts) (cuts : List LoadCut) (cost : Option ℕ) (g : Region) (index : ℕ) → HasRatedEvidence p cuts cost g Routed → LeafFinds p cuts cost g index Routed None
unfolding LeafFinds
routed_rules p cuts None g index h = absurd h
routed_rules p cuts (Some c) g index h =
    let carries : CanCarryAll p g.forbidden = λ d only e within.
    let least = (h.costs.are_costs e within).is_least in
    (least.counts, subst (λ (load : ℕ). Carries p e load least.counts) (only_need p g.forbidden h.costs.routing d e within h.costs.only only) least.carries) in
    inr (inl (only-paths p g.forbidden h.costs.routing h.costs.only, refl), inr (inl ((h.costs.routing, h.costs.only), refl), inr (inl (carries, refl), inr (inl (h.costs, refl), inl (h, refl)))))

-- a demand of which each path is too long has a limit
has_limit : (hops : Option ℕ) (Q : ℕ → Type 0) → IsSomeAnd hops Q → IsSome hops
has_limit None Q h = absurd h
has_limit (Some limit) Q h = refl

-- a leaf that has its evidence breaks no rule
pub leaf_finds_none : (p : Parts) (cuts : List LoadCut) (cost : Option ℕ) (g : Region) (index : ℕ) (evidence : Evidence) → HasRatedEvidence p cuts cost g evidence → LeafFinds p cuts cost g index evidence None
unfolding LeafFinds
leaf_finds_none p cuts cost g index (Bound prices) h = bound_rules p cuts cost g index prices h
leaf_finds_none p cuts cost g index Routed h = routed_rules p cuts cost g index h
leaf_finds_none p cuts cost g index (Overfull link) h =
    inr (inl (h.is_link, refl), inr (inl (only-paths p g.forbidden h.routing h.only, refl), inr (inl ((h.routing, h.only), refl), inl (h, refl))))
leaf_finds_none p cuts cost g index (Cut demand reached) h = inr (inl (h.demand, refl), inr (inl (h.source, refl), inr (inl (h.target, refl), inl (h, refl))))
leaf_finds_none p cuts cost g index (Far demand) h = inr (inl (record { demand = h.demand; limit = has_limit _ _ h.far }, refl), inl (h, refl))
leaf_finds_none p cuts cost g index (Crowd prices) h =
    inr (inl (h.within_limit, refl), inr (inl (h.free, refl), inr (inl (least_prices-paths p g.forbidden prices _ h.are_least, refl), inl (h, refl))))
leaf_finds_none p cuts cost g index (Open prices) h = inl (h, refl)

-- of a leaf there is at most one first broken rule
pub leaf_finds_one : (p : Parts) (cuts : List LoadCut) (cost : Option ℕ) (g : Region) (index : ℕ) (evidence : Evidence) → FindsOne (LeafFinds p cuts cost g index evidence)
unfolding LeafFinds
leaf_finds_one p cuts cost g index (Bound prices) = then_by-one _ _ (unless-one _ _) (then_by-one _ _ (unless-one _ _) (unless-one _ _))
leaf_finds_one p cuts cost g index Routed = then_by-one _ _ (unless-one _ _) (then_by-one _ _ (unless-one _ _) (then_by-one _ _ (unless-one _ _) (then_by-one _ _ (unless-one _ _) (unless-one _ _))))
leaf_finds_one p cuts cost g index (Overfull link) = then_by-one _ _ (unless-one _ _) (then_by-one _ _ (unless-one _ _) (then_by-one _ _ (unless-one _ _) (unless-one _ _)))
leaf_finds_one p cuts cost g index (Cut demand reached) = then_by-one _ _ (unless-one _ _) (then_by-one _ _ (unless-one _ _) (then_by-one _ _ (unless-one _ _) (unless-one _ _)))
leaf_finds_one p cuts cost g index (Far demand) = then_by-one _ _ (unless-one _ _) (unless-one _ _)
leaf_finds_one p cuts cost g index (Crowd prices) = then_by-one _ _ (unless-one _ _) (then_by-one _ _ (unless-one _ _) (then_by-one _ _ (unless-one _ _) (unless-one _ _)))
leaf_finds_one p cuts cost g index (Open prices) = unless-one _ _
