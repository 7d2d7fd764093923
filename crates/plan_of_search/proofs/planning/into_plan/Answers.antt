use Rattle.std.proofs.Common.{length, refl, ap, ◌∙◌}
use Rattle.plan_base.specs.declared.parts.Parts.{Parts}
use Rattle.plan_base.specs.Places.{is_two_way}
use Rattle.cut_values.specs.Numbers.{CutProblem}
use Rattle.proof_tree.specs.declared.plan.Plan.{Plan}
use Rattle.search_machine.specs.State.{State}
use Rattle.search_machine.specs.Machine.{IsReachable}
use Rattle.search_machine.specs.PlanOf.{IsPlanOf}
use Rattle.search_machine.proofs.Runs.{IsReachable-sound}
use Rattle.search_nodes.specs.SearchStates.{machine_state}
use Rattle.plan_of_search.proofs.PlanOnce.{IsReachable-order}
use Rattle.plan_of_search.proofs.PlanBounds.{plan_spellable, plan_opening}
use Rattle.plan_of_search.proofs.DonePlans.{tree-some, tree-few, tree-whole, made_plan, plan_valid, plan_parts}
use Rattle.plan_of_search.proofs.planning.into_plan.Goals as goal

pub tree_of-requires-clause-some : goal.tree_of-requires-clause-some
tree_of-requires-clause-some c = tree-some (machine_state c.args.state) (IsReachable-sound _ c.requires.assembled.reachable)

pub tree_of-requires-clause-few : goal.tree_of-requires-clause-few
tree_of-requires-clause-few c = tree-few (machine_state c.args.state) (IsReachable-sound _ c.requires.assembled.reachable) c.requires.assembled.budget

pub tree_of-requires-clause-children : goal.tree_of-requires-clause-children
tree_of-requires-clause-children c = (IsReachable-sound _ c.requires.assembled.reachable).family.children

pub tree_of-requires-clause-order : goal.tree_of-requires-clause-order
tree_of-requires-clause-order c = IsReachable-order (machine_state c.args.state) c.requires.assembled.reachable

pub tree_of-requires-clause-whole : goal.tree_of-requires-clause-whole
tree_of-requires-clause-whole c = tree-whole (machine_state c.args.state) (IsReachable-sound _ c.requires.assembled.reachable)

pub returns : goal.returns
returns c =
    let s : State = machine_state c.args.state in
    let reach : IsReachable s = c.requires.assembled.reachable in
    let plan : Plan = record {
      nodes = c.nodes.result;
      links = c.links.result;
      demands = c.demands.result;
      both = c.is_two_way.result;
      status = c.status-status.result;
      budget = c.args.state.budget;
      examined = c.args.state.examined;
      design = c.design_of.result;
      bound = c.in_ok-bound.bound;
      cuts = c.in_ok-cuts.cuts;
      tree = c.in_ok-tree.tree;
    } in
    let is : IsPlanOf s plan =
    made_plan s plan reach
    (c.nodes.ensures.value ∙ ap (λ (p : Parts). p.nodes) c.deref-2.ensures)
    (c.links.ensures.value ∙ ap (λ (p : Parts). length p.links) c.deref-3.ensures)
    (c.demands.ensures.value ∙ ap (λ (p : Parts). length p.demands) c.deref-4.ensures)
    (c.is_two_way.ensures ∙ ap is_two_way (c.orient.ensures ∙ ap (λ (p : Parts). p.orient) c.deref-5.ensures))
    c.status-status.ensures
    refl refl c.design_of.ensures (c.in_ok-cuts.ensures ∙ (c.cuts.ensures.value ∙ ap (λ (t : CutProblem). t.cuts) c.deref.ensures)) c.in_ok-tree.ensures
    c.in_ok-bound.ensures in
    record {
      plan = is;
      valid = plan_valid s plan reach is c.requires.done;
      fits = plan_spellable s plan reach c.requires.assembled.some_budget c.requires.assembled.budget is;
      bound = plan_opening s plan reach is;
      splits = plan_parts s plan reach is;
    }
