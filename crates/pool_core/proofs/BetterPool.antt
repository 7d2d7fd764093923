-- A design that is handed in: each answer is the event, and the pool stays one.
use Rattle.search_nodes.specs.declared.slot.Slot.{Slot}
use Rattle.std.proofs.Common.{◌≡◌, ℕ, true, List, Some, refl}
use Rattle.std.specs.Prelude.{Ok}
use Rattle.plan_base.specs.declared.path.Design.{Design}
use Rattle.plan_base.specs.Designs.{cost_of, IsGoodDesign}
use Rattle.search_machine.specs.declared.answers.Better.TheVariants as better
use Rattle.search_machine.specs.State.{State}
use Rattle.search_machine.specs.Bettering.{is_cheaper, TakesBetter}
use Rattle.search_machine.specs.Machine.{Bettering, to_bettering}
use Rattle.search_view.specs.Views.{HasPlaces, IsPool}
use Rattle.search_machine.proofs.Runs.{IsReachable-step}

-- the state with this design held
abbrev pub holding : State → ℕ → Design → State
holding s cost design = record s { incumbent = Some (record { cost = cost; design = design }) }

-- to hold a good design that is cheaper than the incumbent is the event
pub takes_better : (s : State) (design : Design) (cost : ℕ) → IsGoodDesign s.problem design → cost_of s.problem design ≡ cost → is_cheaper s.incumbent cost ≡ true
    → TakesBetter s design cost (holding s cost design)
takes_better s design cost good is cheaper = record { good = good; is_cost = is; cheaper = cheaper; becomes = refl }

-- the slots fit the state as before when another design is held
pub HasPlaces-holding : (s : State) (places : List Slot) (cost : ℕ) (design : Design) → HasPlaces s places → HasPlaces (holding s cost design) places
HasPlaces-holding s places cost design h =
    record { count = h.count; total = h.total; taken = h.taken; free = h.free; slot_is = h.slot_is; demands = h.demands; prices = h.prices }

-- the pool stays one when a better design is taken
pub IsPool-holding : (s : State) (places : List Slot) (cost : ℕ) (design : Design) → IsPool s places → TakesBetter s design cost (holding s cost design)
    → IsPool (holding s cost design) places
IsPool-holding s places cost design h takes = record {
  some_budget = h.some_budget;
  budget = h.budget;
  reachable = IsReachable-step s (holding s cost design) (Bettering design) (to_bettering (Ok (better.Taken cost))) h.reachable takes;
  has_places = HasPlaces-holding s places cost design h.has_places;
}
