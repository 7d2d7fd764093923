-- Least bounds of open leaves.
use Rattle.std.specs.Prelude.{ℕ, ◌≡◌, List, Option, Some, None, MatchOption, Any, ⊤, ◌⊎◌, ℤ, ◌≤ℤ◌}
use Rattle.plan_base.specs.declared.parts.Parts.{Parts}
use Rattle.link_steps.specs.declared.range.LoadRange.{LoadRange}
use Rattle.link_steps.specs.Ranges.{AreRanges}
use Rattle.proof_tree.specs.declared.cuts.Cut.{Cut as LoadCut}
use Rattle.proof_tree.specs.declared.tree.Evidence.{Evidence}
use Rattle.proof_tree.specs.declared.tree.Evidence.TheVariants.{Bound, Routed, Overfull, Cut, Far, Crowd, Open}
use Rattle.proof_tree.specs.Cuts.{IsCutList, AreRests}
use Rattle.proof_tree.specs.RatedEvidence.{AreLawfulNumbers}
use Rattle.proof_tree.specs.Trees.{LeafAt}
use Rattle.proof_tree.specs.Plans.{IsOpenBound}

-- a list of cuts, and what crosses each of them beyond what it leaves out
pub record HasRests (p : Parts) (cuts : List LoadCut) (rests : List ℕ) : Type 0 where
  pub is_list : IsCutList p cuts
  pub are_rests : AreRests p cuts rests

-- the table is that of the instance, the ranges are ranges of its places, and the rests are those of the cuts
abbrev pub AreForInstance : Parts → Parts → List LoadRange → List LoadCut → List ℕ → Type 0
AreForInstance p table ranges cuts rests = (table ≡ p) × AreRanges p ranges × HasRests p cuts rests

-- the numbers of an open leaf are as they have to be
abbrev pub IsOpenLawful : Parts → List LoadCut → Evidence → Type 0
IsOpenLawful p cuts (Open numbers) = AreLawfulNumbers p cuts numbers
IsOpenLawful p cuts (Bound prices) = ⊤
IsOpenLawful p cuts Routed = ⊤
IsOpenLawful p cuts (Overfull link) = ⊤
IsOpenLawful p cuts (Cut demand reached) = ⊤
IsOpenLawful p cuts (Far demand) = ⊤
IsOpenLawful p cuts (Crowd prices) = ⊤

-- the bound of an open leaf among these
abbrev pub IsBoundIn : Parts → List LoadCut → List LeafAt → ℤ → Type 0
IsBoundIn p cuts leaves bound = Any (λ leaf. IsOpenBound p cuts leaf.region leaf.evidence bound) leaves

-- the least bound of the open leaves among these, or none where none has a bound
abbrev pub IsLeastBoundIn : Parts → List LoadCut → List LeafAt → Option ℤ → Type 0
IsLeastBoundIn p cuts leaves bound = MatchOption bound
    ((bound : ℤ) → IsBoundIn p cuts leaves bound → ⊥)
    (λ bound. IsBoundIn p cuts leaves bound × ((other : ℤ) → IsBoundIn p cuts leaves other → bound ≤ℤ other))

-- the lower of two bounds, where there are any
pub record IsLowerOf (one other result : Option ℤ) : Type 0 where
  pub none : result ≡ None → (one ≡ None) × (other ≡ None)
  pub from : (b : ℤ) → result ≡ Some b → ((one ≡ Some b) ⊎ (other ≡ Some b))
  pub least : (b c : ℤ) → result ≡ Some b → ((one ≡ Some c) ⊎ (other ≡ Some c)) → b ≤ℤ c
