-- What a division is made of: the two sides where paths part, and the children.
use Rattle.std.proofs.Common.{◌≡◌, ℕ, suc, ◌+◌, ◌<◌, ◌≤◌, ◌↔◌, ◌==◌, inl, inr, Bool, true, false, List, length, Option, slice_get, sym, ap, ap₂, subst, ◌∙◌, arith}
use Rattle.std.specs.Prelude.{IsTrue, IfSome}
use Rattle.std.proofs.lemmas.Bool.{or_left, or_right, eqb-true, eq-eqb}
use Rattle.plan_base.specs.declared.ids.ArcId.{ArcId}
use Rattle.plan_base.specs.declared.ids.BranchId.{BranchId}
use Rattle.plan_base.specs.declared.ids.DemandId.{DemandId}
use Rattle.plan_base.specs.declared.parts.Parts.{Parts}
use Rattle.plan_base.specs.Arcs.{link_at}
use Rattle.plan_base.specs.Facts.{total_load}
use Rattle.plan_base.specs.Places.{places, link_of_place}
use Rattle.plan_base.proofs.TopLoads.{top-le}
use Rattle.link_steps.specs.declared.range.LoadRange.{LoadRange}
use Rattle.link_steps.specs.Ranges.{range_at, AreRanges}
use Rattle.link_steps.specs.Costs.{IsStepEnd, IsStepEndBelow, EndsNoStep}
use Rattle.arc_restrict.specs.Restrictions.{Forbidden, is_among}
use Rattle.arc_restrict.specs.Partings.{AreOfOneDemand, PartAt}
use Rattle.branch_tree.specs.Dealing.{AreDealt}
use Rattle.branch_tree.proofs.DealingLaws.{dealt-branching, dealt-parted}
use Rattle.second_path.specs.Others.{IsFirstTwo}
use Rattle.proof_tree.specs.Regions.{IsLoadSplit}
use Rattle.branch_tree.specs.Branches.{forbidden_with, ranges_with}
use Rattle.search_nodes.specs.Grounds.{Kept, IsKeptRegion, IsGroundBelow}
use Rattle.search_machine.specs.State.{Limit, ArcSplit, LoadSplit, Division, Node, State, ranges_of, region_of}
use Rattle.search_machine.specs.Dividing.{PartsAt, HasChoice, PartsSteps, PartsBy, child_of}
use Rattle.search_machine.specs.Machine.{IsReachable}
use Rattle.search_view.specs.Examining.{IsReadyAt, HasTwoPaths, HasGroundBelow, IsNodeBelow, IsChildAt, IsDivisionAt}
use Rattle.search_machine.proofs.Frames.{one_at}
use Rattle.search_machine.proofs.Runs.{IsReachable-sound}
use Rattle.search_machine.proofs.Small.{IsSound-nodes}

-- both paths are of the demand
pub of_one_demand : (p : Parts) (r : Forbidden) (k : ℕ) (first second : List ArcId) → IsFirstTwo p r k first second → AreOfOneDemand p first second
of_one_demand p r k first second two = record { demand = k; first_is = two.permitted.simple; second_is = two.other.permitted.simple }

-- what is dealt where two permitted paths part is a division there
pub parts-at : (p : Parts) (r : Forbidden) (d : ArcSplit) (one other : ArcId) (first second : List ArcId) → d.at.0 < p.nodes → IsFirstTwo p r d.demand.0 first second
    → PartAt p first second d.at one other → AreDealt p r d.demand d.at one other d.left d.right → PartsAt p r d
parts-at p r d one other first second node two part dealt =
    let branching = dealt-branching p r d.demand d.at one other first second d.left d.right two.is_demand node two.permitted two.other.permitted part dealt in
    let parted = dealt-parted p r d.demand d.at one other first second d.left d.right two.permitted two.other.permitted part dealt in
    record {
      is_split = branching.is_split;
      first = first;
      second = second;
      first_path = two.permitted;
      second_path = two.other.permitted;
      place = part.place;
      in_first = part.in_first;
      in_second = part.in_second;
      together = part.same;
      on_left = ap (is_among d.left) part.one_is ∙ parted.0;
      on_right = ap (is_among d.right) part.other_is ∙ parted.1;
      shared = λ a exists from allowed. elim (branching.shares_out a exists from allowed) [ inl goes ↦ or_left _ _ goes | inr goes ↦ or_right _ _ goes ];
      left_ascends = branching.left_ascends;
      right_ascends = branching.right_ascends;
    }

-- node numbers are small
pub numbers-small : (s : State) → IsReachable s → s.budget ≤ 4096 → length s.nodes ≤ 8193
numbers-small s h budget = let most = IsSound-nodes s (IsReachable-sound s h) in omega arith

-- the region that is made is that of the child
pub ground-made : (s : State) (id : BranchId) (at : IsReadyAt s id) (last : Limit) (above : Kept) (ground : Option Kept) → IsKeptRegion s.problem (region_of s.problem at.node) above → IsGroundBelow above last ground
    → HasGroundBelow s id last ground
ground-made s id at last above ground is made = record {
  node = at.node;
  is_node = at.ready.open_node.is_node;
  kept = made.kept;
  is_ground = made.is_ground;
  below = record {
    forbidden = made.forbidden ∙ ap (λ (r : Forbidden). forbidden_with r last) is.forbidden;
    size = record { demands = made.demands ∙ is.size.demands; arcs = made.arcs ∙ is.size.arcs };
    ranges = made.ranges ∙ ap (λ (ranges : List LoadRange). ranges_with ranges last) is.ranges;
  };
}

-- what is made is a child of the node
pub node-made : (s : State) (id : BranchId) (at : IsReadyAt s id) (last given : Limit) (item child : Node) → item ≡ at.node → child ≡ child_of item given → given ≡ last → IsNodeBelow s id last child
node-made s id at last given item child is_item made same = record {
  node = at.node;
  is_node = at.ready.open_node.is_node;
  is_child = made ∙ ap₂ (λ (x : Node) (l : Limit). child_of x l) is_item same;
}

-- a node made below with one limit more, and the region made for it, are the child with that limit and its region
pub child-made : (s : State) (id : BranchId) (last : Limit) (child : Node) (ground : Option Kept) → HasGroundBelow s id last ground → IsNodeBelow s id last child → IsChildAt s id last child ground
child-made s id last child ground g n = record {
  node = g.node;
  is_node = g.is_node;
  is_child = n.is_child ∙ ap (λ (x : Node). child_of x last) (one_at s.nodes id.0 n.node g.node n.is_node g.is_node);
  kept = g.kept;
  is_ground = g.is_ground;
  below = g.below;
}

-- a node that leaves a demand two paths may be examined
abbrev pub two-ready : (s : State) (id : BranchId) (demand : DemandId) (first second : List ArcId) → HasTwoPaths s id demand first second → IsReadyAt s id
two-ready s id demand first second h = record { node = h.node; ready = h.ready }

-- the demand has a choice there
pub two-choice : (p : Parts) (r : Forbidden) (k : ℕ) (first second : List ArcId) → IsFirstTwo p r k first second → HasChoice p r
two-choice p r k first second two = record {
  demand = k;
  within = two.is_demand;
  first = first;
  second = second;
  first_path = two.permitted;
  second_path = two.other.permitted;
  differ = λ same. two.other.different (sym same);
}

-- A division is made of what parts the region, and the numbers that come next

-- what parts the region of a node with two paths, with the next two numbers for children, is a division there
pub division-made : (s : State) (id : BranchId) (demand : DemandId) (first second : List ArcId) (two : HasTwoPaths s id demand first second) (d : Division) → PartsBy s.problem (region_of s.problem two.node) d.by
    → d.left_child.0 ≡ length s.nodes → d.right_child.0 ≡ suc (length s.nodes) → IsDivisionAt s id d
division-made s id demand first second two d parts left right = record {
  at = record { node = two.node; ready = two.ready; none_far = two.none_far };
  parts = parts;
  left_next = left;
  right_next = right;
}

-- Splits of loads

-- a load below the most of a range is less than the total load
pub load-within : (p : Parts) (ranges : List LoadRange) (q load : ℕ) → AreRanges p ranges → IsLoadSplit p ranges q load → load < total_load p
load-within p ranges q load are split =
    let had = are.each q split.is_place in
    let top = top-le p (link_at p (link_of_place p q)) in
    omega (arith, had.carried, top, split.some_right)

-- the step that ends below the next load tells whether one ends at the load
pub step-ends : (p : Parts) (e load end : ℕ) → IsStepEndBelow p e (load + 1) end → IsTrue (end == load) ↔ IsStepEnd p e load
step-ends p e load end ends = (
  (λ same. subst (IsStepEnd p e) (eqb-true end load same) ends.is_end),
  λ is. eq-eqb end load (let most = ends.greatest load is (omega arith) in let below = ends.below in omega arith),
)

-- where no step of the link ends up to the load, none ends at it
pub no_step-ends : (p : Parts) (e load : ℕ) → EndsNoStep p e 0 (load + 1) → IsTrue false ↔ IsStepEnd p e load
no_step-ends p e load none = ((λ bad. absurd (let wrong : false ≡ true = bad in cc)), λ is. absurd (none load (omega arith) (omega arith) is))

-- the range of a place tells whether its loads may be split
pub sides-split : (p : Parts) (ranges : List LoadRange) (q load : ℕ) (range : LoadRange) (told : Bool) → q < places p → range ≡ range_at ranges q → (IsTrue told ↔ ((range.least ≤ load) × (load < range.most)))
    → IsTrue told ↔ IsLoadSplit p ranges q load
sides-split p ranges q load range told place same h =
    let here : IsTrue told ↔ (((range_at ranges q).least ≤ load) × (load < (range_at ranges q).most)) = subst (λ (r : LoadRange). IsTrue told ↔ ((r.least ≤ load) × (load < r.most))) same h in (
      (λ so. record { is_place = place; some_left = (here.0 so).0; some_right = (here.0 so).1 }),
      λ is. here.1 (is.some_left, is.some_right),
    )

-- a number that is no place of the instance has no split of its loads
pub no_place-split : (p : Parts) (ranges : List LoadRange) (q load : ℕ) → (IsTrue false ↔ (q < places p)) → IsTrue false ↔ IsLoadSplit p ranges q load
no_place-split p ranges q load told = ((λ bad. absurd (let wrong : false ≡ true = bad in cc)), λ is. told.1 is.is_place)

-- and the end of a step whether it parts two
pub end-parts : (p : Parts) (ranges : List LoadRange) (d : LoadSplit) (told : Bool) → IsLoadSplit p ranges d.place d.load → (IsTrue told ↔ IsStepEnd p (link_of_place p d.place) d.load) → IsTrue told ↔ PartsSteps p ranges d
end-parts p ranges d told split h = ((λ so. record { is_split = split; is_end = h.0 so }), λ parts. h.1 parts.is_end)

-- what is no split of a place's loads parts no two steps
pub no_split-parts : (p : Parts) (ranges : List LoadRange) (d : LoadSplit) → (IsTrue false ↔ IsLoadSplit p ranges d.place d.load) → IsTrue false ↔ PartsSteps p ranges d
no_split-parts p ranges d told = ((λ bad. absurd (let wrong : false ≡ true = bad in cc)), λ parts. told.1 parts.is_split)

-- what is not so at the ranges that were read is not so at the node's own
pub no_parts-at : (s : State) (id : BranchId) (at : IsReadyAt s id) (d : LoadSplit) (ranges : List LoadRange) → ranges ≡ ranges_of s.problem at.node → (IsTrue false ↔ PartsSteps s.problem ranges d)
    → IfSome (slice_get s.nodes id.0) (λ x. PartsSteps s.problem (ranges_of s.problem x) d → ⊥)
no_parts-at s id at d ranges same told =
    subst (λ (o : Option Node). IfSome o (λ x. PartsSteps s.problem (ranges_of s.problem x) d → ⊥)) (sym at.ready.open_node.is_node)
    (λ parts. let bad : false ≡ true = told.1 (subst (λ (xs : List LoadRange). PartsSteps s.problem xs d) (sym same) parts) in cc)
