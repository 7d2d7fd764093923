-- An examination of a node that leaves each demand one path is one event, whichever way it closes the node.
use Rattle.std.proofs.Common.{◌≡◌, ℕ, ◌<◌, true, List, length, slice_get, sym, ap, subst, ◌∙◌}
use Rattle.std.specs.Prelude.{Ok, Result}
use Rattle.plan_base.specs.declared.ids.ArcId.{ArcId}
use Rattle.plan_base.specs.declared.ids.BranchId.{BranchId}
use Rattle.plan_base.specs.declared.ids.LinkId.{LinkId}
use Rattle.plan_base.specs.declared.path.Design.{Design}
use Rattle.plan_base.specs.declared.design_fault.DesignFault.{DesignFault}
use Rattle.plan_base.specs.Designs.{need, counts_at}
use Rattle.link_steps.specs.Costs.{AreLeastCounts}
use Rattle.plan_base.specs.Places.{places}
use Rattle.completions.specs.Completions.{ArePaths, IsCompletion, CarryLoads, IsFirstOverfull, HasOutside, AreInside}
use Rattle.proof_tree.specs.Evidence.{ClosedByOverfull}
use Rattle.proof_tree.specs.declared.tree.Evidence.TheVariants as evidence
use Rattle.search_machine.specs.declared.answers.Better.{Better}
use Rattle.search_machine.specs.declared.answers.Examined.TheVariants as examined
use Rattle.search_nodes.specs.declared.reason.Reason.TheVariants as reason
use Rattle.search_machine.specs.State.{Node, State, ranges_of, region_of, state_of}
use Rattle.search_machine.specs.Changes.{is_open_state}
use Rattle.search_machine.specs.Examining.{ClosesOverfull, ClosesRouted}
use Rattle.search_machine.specs.Bettering.{BetterStep}
use Rattle.search_machine.specs.Machine.{Examining, to_examining, IsReachable}
use Rattle.search_view.specs.Views.{closed_at}
use Rattle.search_view.specs.Examining.{HasOnlyPaths}
use Rattle.pool_core.proofs.Examining.{open-at, shown-closed}
use Rattle.pool_core.proofs.Routings.{are-paths, overfull-closed, outside-closed, inside-in_range, completion-routed, with_cheaper, better-holds}
use Rattle.pool_core.specs.Routes.{IsOverfullAt, AreCarriedAt}
use Rattle.search_machine.proofs.Frames.{one_at}
use Rattle.search_machine.proofs.Runs.{IsReachable-step}

module _ (s : State) (id : BranchId) (paths : List (List ArcId)) (at : HasOnlyPaths s id paths) where
  -- the only paths at a node are a simple path for each demand
  pub paths-are : ArePaths s.problem paths
  paths-are = are-paths s.problem (region_of s.problem at.node) paths at.only

  -- a node that may be examined and leaves each demand one path is in an open state
  pub paths-open : is_open_state (state_of s id) ≡ true
  paths-open = open-at s id at.node at.ready.open_node

  -- the budget is not spent where a node that leaves each demand one path may be examined
  pub paths-not_spent : s.examined < s.budget
  paths-not_spent = at.ready.open_node.not_spent

  -- to close the node by a link that its only paths overfill, or load outside a range, is the event
  pub overfull-closes : (link : LinkId) → IsOverfullAt s id link
      → ClosesOverfull s id (closed_at s id (reason.Shown (evidence.Overfull link)) (slice_get s.nodes id.0))
  overfull-closes link over = record {
    node = at.node;
    ready = at.ready;
    none_far = at.none_far;
    link = link;
    overfull = subst (λ (x : Node). ClosedByOverfull s.problem (region_of s.problem x) link) (one_at s.nodes id.0 over.node at.node over.is_node at.ready.open_node.is_node) over.overfull;
    becomes = shown-closed s id at.node (evidence.Overfull link) at.ready.open_node.is_node;
  }

  -- the state with the node closed by a link that its only paths overfill is reachable
  pub overfull-reachable : (link : LinkId) → IsOverfullAt s id link → IsReachable s
      → IsReachable (closed_at s id (reason.Shown (evidence.Overfull link)) (slice_get s.nodes id.0))
  overfull-reachable link over h =
      IsReachable-step s (closed_at s id (reason.Shown (evidence.Overfull link)) (slice_get s.nodes id.0)) (Examining id) (to_examining (Ok examined.Overfull)) h (overfull-closes link over)

  -- what is found of the paths

  -- where the only paths put a load outside the range of a place, its link closes the node
  pub outside-found : (link : LinkId) → HasOutside s.problem (ranges_of s.problem at.node) paths link.0 → IsOverfullAt s id link
  outside-found link out = record { node = at.node; is_node = at.ready.open_node.is_node; overfull = outside-closed s.problem (region_of s.problem at.node) paths at.only link out }

  -- the first link that the only paths overfill closes the node
  pub overfull-found : (link : LinkId) → IsFirstOverfull s.problem paths link.0 → IsOverfullAt s id link
  overfull-found link first = record { node = at.node; is_node = at.ready.open_node.is_node; overfull = overfull-closed s.problem (region_of s.problem at.node) paths at.only link first }

  -- where each link can carry the only paths and each place has a load in its range, the node carries them
  pub carried-found : CarryLoads s.problem paths (length s.problem.links) → AreInside s.problem (ranges_of s.problem at.node) paths (places s.problem) → AreCarriedAt s id paths
  carried-found carry inside = record { node = at.node; is_node = at.ready.open_node.is_node; carry = carry; inside = inside }

  -- the design of the paths is handed in first
  module _ (carried : AreCarriedAt s id paths) (cost : ℕ) (design : Design) (done : IsCompletion s.problem paths cost design)
      (counts : (e : ℕ) → e < length s.problem.links → AreLeastCounts s.problem e (need s.problem design e) (counts_at design e))
      (t : State) (answer : Result Better DesignFault) (step : BetterStep s design answer t) where
    inside : AreInside s.problem (ranges_of s.problem at.node) paths (places s.problem)
    inside = subst (λ (x : Node). AreInside s.problem (ranges_of s.problem x) paths (places s.problem)) (one_at s.nodes id.0 carried.node at.node carried.is_node at.ready.open_node.is_node) carried.inside

    held : t ≡ with_cheaper s cost design
    held = better-holds s t cost design answer step (completion-routed s.problem (region_of s.problem at.node) paths at.only at.none_far cost design done counts).good (sym done.is_cost)

    -- once the design of the only paths is handed in, the node is still in an open state
    pub routed-open : is_open_state (state_of t id) ≡ true
    routed-open = subst (λ (x : State). is_open_state (state_of x id) ≡ true) (sym held) paths-open

    -- once the design of the only paths is handed in, the budget is still not spent
    pub routed-not_spent : t.examined < t.budget
    routed-not_spent = subst (λ (x : State). x.examined < x.budget) (sym held) paths-not_spent

    -- to close the node as routed, once the design of its only paths is handed in, is the event
    pub routed-closes : ClosesRouted s id (closed_at t id (reason.Shown evidence.Routed) (slice_get t.nodes id.0))
    routed-closes = record {
      node = at.node;
      ready = at.ready;
      none_far = at.none_far;
      cost = cost;
      design = design;
      routed = completion-routed s.problem (region_of s.problem at.node) paths at.only at.none_far cost design done counts;
      in_range = λ e within. inside-in_range s.problem (ranges_of s.problem at.node) paths design e within done.same_paths inside;
      becomes = ap (λ (x : State). closed_at x id (reason.Shown evidence.Routed) (slice_get x.nodes id.0)) held
          ∙ ap (closed_at (with_cheaper s cost design) id (reason.Shown evidence.Routed)) at.ready.open_node.is_node;
    }

    -- the state with the node closed as routed, and the cheaper design held, is reachable
    pub routed-reachable : IsReachable s → IsReachable (closed_at t id (reason.Shown evidence.Routed) (slice_get t.nodes id.0))
    routed-reachable h =
        IsReachable-step s (closed_at t id (reason.Shown evidence.Routed) (slice_get t.nodes id.0)) (Examining id) (to_examining (Ok examined.Routed)) h routed-closes
