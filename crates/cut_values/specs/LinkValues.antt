-- The value of a link at numbers over ranges of its places, and its first loads.
use Rattle.std.specs.Prelude.{ℕ, List, slice_index, ℤ}
use Rattle.plan_base.specs.declared.parts.Parts.{Parts}
use Rattle.plan_base.specs.Places.{there_of, back_of}
use Rattle.link_steps.specs.declared.range.LinkRanges.{LinkRanges}
use Rattle.link_steps.specs.WorthValues.{IsWorthValue, AreFirstWorthLoads}
use Rattle.proof_tree.specs.declared.cuts.Cut.{Cut}
use Rattle.proof_tree.specs.RatedBounds.{rated_there, rated_back}
use Rattle.proof_tree.specs.RatedEvidence.{rates_in}

-- the least that these prices and rates leave of a thousand step costs of a link
abbrev pub IsNumbersValue : Parts → List Cut → ℕ → LinkRanges → List ℕ → ℤ → Type 0
IsNumbersValue p cuts e ranges numbers value =
    IsWorthValue p e ranges (there_of p (slice_index numbers) e) (rated_there p cuts (rates_in p numbers) e) (back_of p (slice_index numbers) e) (rated_back p cuts (rates_in p numbers) e) value

-- its first loads: those whose larger one is smallest, and then each as small as possible
abbrev pub AreFirstNumbersLoads : Parts → List Cut → ℕ → LinkRanges → List ℕ → ℤ → ℕ → ℕ → Type 0
AreFirstNumbersLoads p cuts e ranges numbers value load back =
    AreFirstWorthLoads p e ranges (there_of p (slice_index numbers) e) (rated_there p cuts (rates_in p numbers) e) (back_of p (slice_index numbers) e) (rated_back p cuts (rates_in p numbers) e) value load back
