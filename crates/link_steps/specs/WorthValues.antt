-- What the worths of loads leave of the step costs of a link.
use Rattle.std.specs.Prelude.{ℕ, ◌≡◌, ◌≤◌, ◌+◌, ◌*◌, max, List, ℤ, pos, ◌-ℤ◌, ◌≤ℤ◌}
use Rattle.plan_base.specs.declared.parts.Parts.{Parts}
use Rattle.link_steps.specs.declared.range.LinkRanges.{LinkRanges}
use Rattle.link_steps.specs.declared.rated.Rated.{Rated}
use Rattle.link_steps.specs.Costs.{IsStepCost}
use Rattle.link_steps.specs.Ranges.{IsIn}
use Rattle.link_steps.specs.Tallies.{worth}

-- a thousand step costs less what the loads are worth, in thousandths of a cost grain; it may be negative
abbrev pub net_value : (ℕ → ℕ) → (ℕ → ℕ) → ℕ → ℕ → ℕ → ℤ
net_value there_worth back_worth load back cost = pos (1000 * cost) -ℤ pos (there_worth load + back_worth back)

-- the loads of a link's places, each in its range, give this value
pub record GiveNetValue (p : Parts) (e : ℕ) (ranges : LinkRanges) (there_worth back_worth : ℕ → ℕ) (value : ℤ) (load back : ℕ) : Type 0 where
  pub in_range : IsIn ranges.there load
  pub back_in_range : IsIn ranges.back back
  pub cost : ℕ
  pub is_cost : IsStepCost p e load back cost
  pub attained : net_value there_worth back_worth load back cost ≡ value

-- the least such value over the loads in the ranges of the link's places
pub record IsLeastNetValue (p : Parts) (e : ℕ) (ranges : LinkRanges) (there_worth back_worth : ℕ → ℕ) (value : ℤ) : Type 0 where
  pub load : ℕ
  pub back : ℕ
  pub give : GiveNetValue p e ranges there_worth back_worth value load back
  pub least : (other other_back c : ℕ) → IsIn ranges.there other → IsIn ranges.back other_back → IsStepCost p e other other_back c → value ≤ℤ net_value there_worth back_worth other other_back c

-- of the loads that give the value those whose larger one is smallest, and then each as small as possible
pub record AreFirstNetLoads (p : Parts) (e : ℕ) (ranges : LinkRanges) (there_worth back_worth : ℕ → ℕ) (value : ℤ) (load back : ℕ) : Type 0 where
  pub give : GiveNetValue p e ranges there_worth back_worth value load back
  pub larger : (other other_back : ℕ) → GiveNetValue p e ranges there_worth back_worth value other other_back → max load back ≤ max other other_back
  pub each : (other other_back : ℕ) → GiveNetValue p e ranges there_worth back_worth value other other_back → max other other_back ≡ max load back → (load ≤ other) × (back ≤ other_back)

-- the link value at prices and rates: the least that the worths of loads leave of a thousand step costs
abbrev pub IsWorthValue : Parts → ℕ → LinkRanges → ℕ → List Rated → ℕ → List Rated → ℤ → Type 0
IsWorthValue p e ranges price there_rated back_price back_rated value = IsLeastNetValue p e ranges (worth price there_rated) (worth back_price back_rated) value

-- its first loads: those whose larger one is smallest, and then each as small as possible
abbrev pub AreFirstWorthLoads : Parts → ℕ → LinkRanges → ℕ → List Rated → ℕ → List Rated → ℤ → ℕ → ℕ → Type 0
AreFirstWorthLoads p e ranges price there_rated back_price back_rated value load back = AreFirstNetLoads p e ranges (worth price there_rated) (worth back_price back_rated) value load back
