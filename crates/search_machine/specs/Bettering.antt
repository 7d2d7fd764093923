-- Better designs: one that is cheaper than the held one replaces it.
use Rattle.std.specs.Prelude.{ℕ, ◌≡◌, Bool, true, false, Option, Some, None, nat_lt, Result, Ok, Err}
use Rattle.plan_base.specs.declared.path.Design.{Design}
use Rattle.plan_base.specs.declared.design_fault.DesignFault.{DesignFault}
use Rattle.plan_base.specs.Designs.{cost_of, IsGoodDesign}
use Rattle.plan_base.specs.DesignFaults.{design_fault}
use Rattle.search_machine.specs.declared.answers.Better.{Better}
use Rattle.search_machine.specs.declared.answers.Better.TheVariants as better
use Rattle.search_machine.specs.State.{State, cutoff_of, Incumbent}

-- the cost is below that of the held design, or none is held
abbrev pub is_cheaper : Option Incumbent → ℕ → Bool
is_cheaper None cost = true
is_cheaper (Some held) cost = nat_lt cost held.cost

-- the design is good and cheaper than the held one, and replaces it
pub record TakesBetter (old : State) (design : Design) (cost : ℕ) (new : State) : Type 0 where
  pub good : IsGoodDesign old.problem design
  pub is_cost : cost_of old.problem design ≡ cost
  pub cheaper : is_cheaper old.incumbent cost ≡ true
  pub becomes : new ≡ record old { incumbent = Some (record { cost = cost; design = design }) }

-- the design is good and not cheaper than the held one, which stays
pub record IsNotLess (old : State) (design : Design) (cost held : ℕ) (new : State) : Type 0 where
  pub good : IsGoodDesign old.problem design
  pub is_cost : cost_of old.problem design ≡ cost
  pub not_cheaper : is_cheaper old.incumbent cost ≡ false
  pub held_is : cutoff_of old ≡ Some held
  pub unchanged : new ≡ old

-- a design that is handed in is answered so and leads from old to new
abbrev pub BetterStep : State → Design → Result Better DesignFault → State → Type 0
BetterStep old design (Ok (better.Taken cost)) new = TakesBetter old design cost new
BetterStep old design (Ok (better.NotLess cost held)) new = IsNotLess old design cost held new
BetterStep old design (Err fault) new = (design_fault old.problem design ≡ Some fault) × (new ≡ old)
