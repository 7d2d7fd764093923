-- Surcharges: what single demands pay on places besides prices, in thousandths of a cost grain per load grain.
use Rattle.std.specs.Prelude.{ℕ, ◌≤◌, ◌+◌, ◌==◌, ◌&&◌, ◌||◌, nat_lt, max, Bool, IsTrue, List, [], ◌∷◌, length, slice_index, slice_index_or, filter, fold, if◌then◌else◌}
use Rattle.std.specs.List.{All, AllPairs}
use Rattle.demand_worth.specs.declared.limits.TheConstants.{MAX_SURCHARGES}
use Rattle.demand_worth.specs.declared.surcharges.Surcharge.{Surcharge}

-- what is read past the end of a list
abbrev pub no_surcharge : Surcharge
no_surcharge = record { place = 0; demand = record { 0 = 0 }; number = 0 }

-- the surcharge at a place of a list
abbrev pub surcharge_at : List Surcharge → ℕ → Surcharge
surcharge_at list i = slice_index_or list i no_surcharge

-- one surcharge stands before another: its place does, or at the same place its demand
abbrev pub comes_before : Surcharge → Surcharge → Bool
comes_before a b = nat_lt a.place b.place || (a.place == b.place && nat_lt a.demand.0 b.demand.0)

-- at most MAX_SURCHARGES, each above 0, ascending by place and then by demand
pub record AreSurcharges (list : List Surcharge) : Type 0 where
  pub few : length list ≤ MAX_SURCHARGES
  pub positive : All (λ s. 1 ≤ s.number) list
  pub in_order : AllPairs (λ a b. IsTrue (comes_before a b)) list

-- the surcharges on a place, in the order of their demands
abbrev pub on_place : List Surcharge → ℕ → List Surcharge
on_place list q = filter (λ s. s.place == q) list

-- the surcharge of a demand among those on a place, 0 where it has none
abbrev pub number_of : List Surcharge → ℕ → ℕ
number_of [] k = 0
number_of (s ∷ here) k = if s.demand.0 == k then s.number else number_of here k

-- the surcharge of a demand on a place, 0 where it has none
abbrev pub surcharge_on : List Surcharge → ℕ → ℕ → ℕ
surcharge_on list q k = number_of (on_place list q) k

-- the greatest surcharge of some, 0 where there is none
abbrev pub greatest_of : List Surcharge → ℕ
greatest_of here = fold (λ most s. max most s.number) 0 here

-- the own price of a place for a demand: its price and the demand's surcharge there
abbrev pub own_price : List ℕ → List Surcharge → ℕ → ℕ → ℕ
own_price prices list k q = slice_index prices q + surcharge_on list q k
