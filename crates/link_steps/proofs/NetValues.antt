-- Where loads are worth their prices alone, the net values of a link are its values.
use Rattle.std.proofs.Common.{◌≡◌, ℕ, ◌*◌, List, [], ◌∷◌, length, refl, sym, subst, ◌∙◌, arith}
use Rattle.std.specs.Prelude.{ℤ, ◌≤ℤ◌}
use Rattle.plan_base.specs.declared.parts.Parts.{Parts}
use Rattle.link_steps.specs.declared.range.LinkRanges.{LinkRanges}
use Rattle.link_steps.specs.declared.rated.Rated.{Rated}
use Rattle.link_steps.specs.Tallies.{worth}
use Rattle.link_steps.specs.Values.{value_at, GiveValue, IsLinkValue, AreFirstLoads}
use Rattle.link_steps.specs.WorthValues.{net_value, GiveNetValue, IsLeastNetValue, AreFirstNetLoads}

-- without rates a load is worth its price
pub worth-none : (price x : ℕ) → worth price [] x ≡ price * x
worth-none price x = omega arith

-- where the list of rates has length 0, a load is worth its price
pub worth-empty : (price : ℕ) (rated : List Rated) → length rated ≡ 0 → (x : ℕ) → worth price rated x ≡ price * x
worth-empty price [] none x = worth-none price x
worth-empty price (r ∷ rated) none x = absurd (omega arith)

module _ (p : Parts) (e : ℕ) (ranges : LinkRanges) (price back_price : ℕ) (there_worth back_worth : ℕ → ℕ) (there_same : (x : ℕ) → there_worth x ≡ price * x) (back_same : (x : ℕ) → back_worth x ≡ back_price * x) where
  value-same : (x y cost : ℕ) → net_value there_worth back_worth x y cost ≡ value_at price back_price x y cost
  value-same x y cost = rw (there_same x, back_same y) refl

  give-price : (value : ℤ) (x y : ℕ) → GiveNetValue p e ranges there_worth back_worth value x y → GiveValue p e ranges price back_price value x y
  give-price value x y give = record {
    in_range = give.in_range;
    back_in_range = give.back_in_range;
    cost = give.cost;
    is_cost = give.is_cost;
    attained = sym (value-same x y give.cost) ∙ give.attained;
  }

  give-net : (value : ℤ) (x y : ℕ) → GiveValue p e ranges price back_price value x y → GiveNetValue p e ranges there_worth back_worth value x y
  give-net value x y give = record {
    in_range = give.in_range;
    back_in_range = give.back_in_range;
    cost = give.cost;
    is_cost = give.is_cost;
    attained = value-same x y give.cost ∙ give.attained;
  }

  -- where loads are worth their prices, the least net value is the link value
  pub value-price : (value : ℤ) → IsLeastNetValue p e ranges there_worth back_worth value → IsLinkValue p e ranges price back_price value
  value-price value is = record {
    load = is.load;
    back = is.back;
    give = give-price value is.load is.back is.give;
    least = λ x y c in_x in_y is_cost. subst (λ (v : ℤ). value ≤ℤ v) (value-same x y c) (is.least x y c in_x in_y is_cost);
  }

  -- where loads are worth their prices, the link value is the least net value
  pub value-net : (value : ℤ) → IsLinkValue p e ranges price back_price value → IsLeastNetValue p e ranges there_worth back_worth value
  value-net value is = record {
    load = is.load;
    back = is.back;
    give = give-net value is.load is.back is.give;
    least = λ x y c in_x in_y is_cost. subst (λ (v : ℤ). value ≤ℤ v) (sym (value-same x y c)) (is.least x y c in_x in_y is_cost);
  }

  -- where loads are worth their prices, the first loads of a net value are its first loads at the prices
  pub loads-price : (value : ℤ) (load back : ℕ) → AreFirstNetLoads p e ranges there_worth back_worth value load back → AreFirstLoads p e ranges price back_price value load back
  loads-price value load back are = record {
    give = give-price value load back are.give;
    larger = λ x y other. are.larger x y (give-net value x y other);
    each = λ x y other same. are.each x y (give-net value x y other) same;
  }

  -- where loads are worth their prices, the first loads at the prices are the first loads of the net value
  pub loads-net : (value : ℤ) (load back : ℕ) → AreFirstLoads p e ranges price back_price value load back → AreFirstNetLoads p e ranges there_worth back_worth value load back
  loads-net value load back are = record {
    give = give-net value load back are.give;
    larger = λ x y other. are.larger x y (give-price value x y other);
    each = λ x y other same. are.each x y (give-price value x y other) same;
  }
