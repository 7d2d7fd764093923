-- A cheaper incumbent leaves a state sound: what closes a leaf against a cost closes it against a lower one.
use Rattle.std.proofs.Common.{◌≡◌, ℕ, ◌≤◌, Bool, true, false, List, Option, Some, None, refl, sym, subst, arith}
use Rattle.std.specs.Prelude.{IsSomeAnd, IfSome, option_map, nat_lt}
use Rattle.std.proofs.lemmas.Int.{ints}
use Rattle.std.proofs.lemmas.Bool.{ltb-true, ltb-false}
use Rattle.std.proofs.lemmas.List.Elements.{All-weaker}
use Rattle.plan_base.specs.declared.ids.BranchId.{BranchId}
use Rattle.plan_base.specs.declared.parts.Parts.{Parts}
use Rattle.plan_base.specs.declared.path.Design.{Design}
use Rattle.proof_tree.specs.Regions.{Region}
use Rattle.proof_tree.specs.declared.cuts.Cut.{Cut as LoadCut}
use Rattle.proof_tree.specs.Evidence.{ClosedByRouting}
use Rattle.proof_tree.specs.RatedEvidence.{HasRatedEvidence, ClosedByRatedBound}
use Rattle.proof_tree.specs.Plans.{IsStatedDesign}
use Rattle.proof_tree.specs.declared.tree.Evidence.{Evidence}
use Rattle.proof_tree.specs.declared.tree.Evidence.TheVariants.{Bound, Routed, Overfull, Cut, Far, Crowd, Open}
use Rattle.search_machine.specs.State.{Fate, Undone, ClosedBy, DividedBy, Node, Incumbent, State, region_of, cutoff_of}
use Rattle.search_machine.specs.Examining.{cheaper_of, ClosesRouted}
use Rattle.search_machine.specs.Bettering.{is_cheaper, TakesBetter}
use Rattle.search_machine.specs.Nodes.{IsSoundFate, HasSoundFate}
use Rattle.search_machine.specs.Soundness.{IsSound}
use Rattle.search_machine.proofs.ClosedNodes.{closed-sound}

module _ (p : Parts) (cuts : List LoadCut) (old : Option ℕ) (cost : ℕ) (below : IfSome old (λ c. cost ≤ c)) where
  HasEvidence-cheaper : (g : Region) (found : Evidence) → HasRatedEvidence p cuts old g found → HasRatedEvidence p cuts (Some cost) g found
  HasEvidence-cheaper g (Bound prices) h = bound old below h
    where
      bound : (o : Option ℕ) → IfSome o (λ c. cost ≤ c) → IsSomeAnd o (λ c. ClosedByRatedBound p cuts g prices c) → ClosedByRatedBound p cuts g prices cost
      bound None less b = absurd b
      bound (Some c) less b = record { lawful = b.lawful; bound = b.bound; is_bound = b.is_bound; unit = b.unit; is_unit = b.is_unit; enough = (let e = b.enough in let l : cost ≤ c = less in omega (arith, ints)) }
  HasEvidence-cheaper g Routed h = routed old below h
    where
      routed : (o : Option ℕ) → IfSome o (λ c. cost ≤ c) → IsSomeAnd o (λ c. ClosedByRouting p g.forbidden c) → ClosedByRouting p g.forbidden cost
      routed None less b = absurd b
      routed (Some c) less b =
          let costs = b.costs in
          record {
            costs = record { routing = costs.routing; only = costs.only; step_costs = costs.step_costs; are_costs = costs.are_costs; enough = (let e = costs.enough in let l : cost ≤ c = less in omega arith) };
            within = b.within;
          }
  HasEvidence-cheaper g (Overfull link) h = h
  HasEvidence-cheaper g (Cut demand reached) h = h
  HasEvidence-cheaper g (Far demand) h = h
  HasEvidence-cheaper g (Crowd prices) h = h
  HasEvidence-cheaper g (Open prices) h = h

  IsSoundFate-cheaper : (g : Region) (fate : Fate) → IsSoundFate p cuts old g fate → IsSoundFate p cuts (Some cost) g fate
  IsSoundFate-cheaper g Undone h = h
  IsSoundFate-cheaper g (ClosedBy found) h = (h.0, HasEvidence-cheaper g found h.1, h.2)
  IsSoundFate-cheaper g (DividedBy d) h = h

  -- a node's sound fate stays sound against a cost that is no greater, or where there was no cost
  pub HasSoundFate-cheaper : (node : Node) → HasSoundFate p cuts old node → HasSoundFate p cuts (Some cost) node
  HasSoundFate-cheaper node h = IsSoundFate-cheaper (region_of p node) node.fate h

-- the state with this incumbent
abbrev with_incumbent : State → Incumbent → State
with_incumbent s held = record s { incumbent = Some held }

cheaper-sound : (s : State) (held : Incumbent) → IsSound s → IsStatedDesign s.problem held.cost held.design → IfSome (cutoff_of s) (λ c. held.cost ≤ c) → IsSound (with_incumbent s held)
cheaper-sound s held h stated below = record {
  lawful = h.lawful;
  cuts = h.cuts;
  unit = h.unit;
  nodes = h.nodes;
  fates = All-weaker (HasSoundFate s.problem s.cuts (cutoff_of s)) (HasSoundFate s.problem s.cuts (Some held.cost)) (HasSoundFate-cheaper s.problem s.cuts (cutoff_of s) held.cost below) s.nodes h.fates;
  apart = h.apart;
  family = h.family;
  columns = h.columns;
  incumbent = stated;
  counts = record { examined = h.counts.examined; within_budget = h.counts.within_budget; versions = h.counts.versions; accepted = h.counts.accepted };
  size = h.size;
  depths = h.depths;
  weights = h.weights;
}

-- what is held is at most as dear as what was
record IsHeldBelow (p : Parts) (old : Option Incumbent) (held : Incumbent) (cost : ℕ) : Type 0 where
  stated : IsStatedDesign p held.cost held.design
  below : IfSome (option_map (λ x. x.cost) old) (λ c. held.cost ≤ c)
  within : held.cost ≤ cost

is_cheaper-below : (old : Option Incumbent) (cost : ℕ) → is_cheaper old cost ≡ true → IfSome (option_map (λ x. x.cost) old) (λ c. cost ≤ c)
is_cheaper-below None cost h = tt
is_cheaper-below (Some held) cost h = let less = ltb-true cost held.cost h in omega arith

cheaper_of-held : (p : Parts) (old : Option Incumbent) (cost : ℕ) (design : Design) → IfSome old (λ x. IsStatedDesign p x.cost x.design) → IsStatedDesign p cost design
    → IsHeldBelow p old (cheaper_of old cost design) cost
cheaper_of-held p None cost design h stated = record { stated = stated; below = tt; within = omega arith }
cheaper_of-held p (Some held) cost design h stated = by_cases (nat_lt cost held.cost) refl
  where
    by_cases : (b : Bool) → nat_lt cost held.cost ≡ b → IsHeldBelow p (Some held) (cheaper_of (Some held) cost design) cost
    by_cases true less = let l = ltb-true cost held.cost less in rw less (record { stated = stated; below = omega arith; within = omega arith })
    by_cases false more = let l = ltb-false cost held.cost more in rw more (record { stated = h; below = omega arith; within = omega arith })

module _ (s : State) (h : IsSound s) where
  -- a state stays sound when a good design that is cheaper becomes the incumbent
  pub TakesBetter-sound : (design : Design) (cost : ℕ) (t : State) → TakesBetter s design cost t → IsSound t
  TakesBetter-sound design cost t e =
      subst IsSound (sym e.becomes)
      (cheaper-sound s (record { cost = cost; design = design }) h (record { good = e.good; cost_is = e.is_cost }) (is_cheaper-below s.incumbent cost e.cheaper))

  -- a state stays sound when a node is closed whose demands have one path each, with loads in range
  pub ClosesRouted-sound : (id : BranchId) (t : State) → ClosesRouted s id t → IsSound t
  ClosesRouted-sound id t e =
      let node = e.node in
      let routed = e.routed in
      let held = cheaper_of s.incumbent e.cost e.design in
      let below : IsHeldBelow s.problem s.incumbent held e.cost = cheaper_of-held s.problem s.incumbent e.cost e.design h.incumbent (record { good = routed.good; cost_is = routed.is_cost }) in
      let s' = with_incumbent s held in
      let h' : IsSound s' = cheaper-sound s held h below.stated below.below in
      let is = e.ready.open_node in
      subst IsSound (sym e.becomes)
      (closed-sound s' id node Routed h' (record { not_spent = is.not_spent; is_node = is.is_node; undone = is.undone }) refl
      (record {
        costs = record { routing = e.design; only = routed.only; step_costs = routed.step_costs; are_costs = routed.are_costs; enough = (let w = below.within in let l = routed.is_least in omega arith) };
        within = routed.good.feasible.limits;
      }) tt)
