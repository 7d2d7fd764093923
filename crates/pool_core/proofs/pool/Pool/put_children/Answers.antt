use Rattle.std.proofs.Common.{◌≡◌, ◌<◌, ◌+◌, ◌++◌, length, List, get_or, set, Option, rules, add-one, sym, ap, subst, ◌∙◌}
use Rattle.std.specs.Arc.{arc_value}
use Rattle.search_nodes.specs.Grounds.{Kept}
use Rattle.pool_core.specs.contracts.pool.Pool.{the_view}
use Rattle.search_machine.specs.State.{Node, State}
use Rattle.search_machine.specs.Dividing.{Divides}
use Rattle.search_nodes.specs.Slots.{given_back}
use Rattle.search_view.specs.Views.{IsKeptPool}
use Rattle.search_view.specs.Examining.{IsDivisionAt, AreChildrenAt}
use Rattle.pool_core.proofs.Dividings.{ground-within, item-within, item-undone, item-place, divided-step, divided-kept, examined-small}
use Rattle.pool_core.proofs.pool.Pool.put_children.Goals as goal

pub index_mut-divided-requires : goal.index_mut-divided-requires
index_mut-divided-requires c =
    let nodes : c.append_both.new.nodes.items ≡ c.self.inside.state.nodes.items ++ c.args.children.now.items = c.in_ok-append_both.ensures.nodes in
    let within : c.args.node.0 < length c.append_both.new.nodes.items =
    subst (λ (xs : List Node). c.args.node.0 < length xs) (sym nodes)
    (item-within (the_view c.self.inside) _ c.self.inside.state.grounds.items c.self.inside.places.items c.args.node c.args.division c.self.invariant.kept
    (subst (λ (s : State). IsDivisionAt s c.args.node c.args.division) (sym c.self.view_is) c.requires.division) c.args.children.now.items c.args.grounds.now.items
    (subst (λ (s : State). AreChildrenAt s c.args.node c.args.division c.args.children.now.items c.args.grounds.now.items) (sym c.self.view_is) c.requires.children)) in
    search rules

pub divide-round-requires : goal.divide-round-requires
divide-round-requires c =
    let nodes : c.append_both.new.nodes.items ≡ c.self.inside.state.nodes.items ++ c.args.children.now.items = c.in_ok-append_both.ensures.nodes in
    item-undone (the_view c.self.inside) _ c.self.inside.state.grounds.items c.self.inside.places.items c.args.node c.args.division c.self.invariant.kept
    (subst (λ (s : State). IsDivisionAt s c.args.node c.args.division) (sym c.self.view_is) c.requires.division) c.args.children.now.items c.args.grounds.now.items
    (subst (λ (s : State). AreChildrenAt s c.args.node c.args.division c.args.children.now.items c.args.grounds.now.items) (sym c.self.view_is) c.requires.children) c.index_mut-divided.result.now
    (c.index_mut-divided.ensures.value ∙ ap (λ (xs : List Node). get_or xs c.args.node.0 c.index_mut-divided.result.now) nodes)

pub give_back-requires : goal.give_back-requires
give_back-requires c =
    let nodes : c.append_both.new.nodes.items ≡ c.self.inside.state.nodes.items ++ c.args.children.now.items = c.in_ok-append_both.ensures.nodes in
    item-place (the_view c.self.inside) _ c.self.inside.state.grounds.items c.self.inside.places.items c.args.node c.args.division c.self.invariant.kept
    (subst (λ (s : State). IsDivisionAt s c.args.node c.args.division) (sym c.self.view_is) c.requires.division) c.args.children.now.items c.args.grounds.now.items
    (subst (λ (s : State). AreChildrenAt s c.args.node c.args.division c.args.children.now.items c.args.grounds.now.items) (sym c.self.view_is) c.requires.children) c.index_mut-divided.result.now
    (c.index_mut-divided.ensures.value ∙ ap (λ (xs : List Node). get_or xs c.args.node.0 c.index_mut-divided.result.now) nodes) c.divide-round.result c.divide-round.ensures.round

pub index_mut-ground-requires : goal.index_mut-ground-requires
index_mut-ground-requires c =
    let grounds : c.append_both.new.grounds.items ≡ c.self.inside.state.grounds.items ++ c.args.grounds.now.items = c.in_ok-append_both.ensures.grounds in
    let within : c.args.node.0 < length c.append_both.new.grounds.items =
    subst (λ (xs : List (Option Kept)). c.args.node.0 < length xs) (sym grounds)
    (ground-within (the_view c.self.inside) _ c.self.inside.state.grounds.items c.self.inside.places.items c.args.node c.args.division c.self.invariant.kept
    (subst (λ (s : State). IsDivisionAt s c.args.node c.args.division) (sym c.self.view_is) c.requires.division) c.args.children.now.items c.args.grounds.now.items
    (subst (λ (s : State). AreChildrenAt s c.args.node c.args.division c.args.children.now.items c.args.grounds.now.items) (sym c.self.view_is) c.requires.children)) in
    search rules

pub overflow_add-self : goal.overflow_add-self
overflow_add-self c =
    let small : c.self.inside.state.examined < 4096 = examined-small (the_view c.self.inside) _ c.self.inside.state.grounds.items c.self.inside.places.items c.args.node c.args.division c.self.invariant.kept
    (subst (λ (s : State). IsDivisionAt s c.args.node c.args.division) (sym c.self.view_is) c.requires.division) in
    search rules

pub invariant_of-self-2 : goal.invariant_of-self-2
invariant_of-self-2 c = record {
  kept = (
      let nodes : c.append_both.new.nodes.items ≡ c.self.inside.state.nodes.items ++ c.args.children.now.items = c.in_ok-append_both.ensures.nodes in
      let grounds : c.append_both.new.grounds.items ≡ c.self.inside.state.grounds.items ++ c.args.grounds.now.items = c.in_ok-append_both.ensures.grounds in
      let after : List Node → State = λ xs. record (the_view c.self.inside) { nodes = set xs c.args.node.0 c.divide-round.new.self; examined = c.self.inside.state.examined + 1 } in
      subst (λ (xs : List Node). IsKeptPool (after xs) (arc_value c.self.inside.state.table) (set c.append_both.new.grounds.items c.args.node.0 c.clear.new.self) c.give_back.new.places.items) (sym nodes)
      (subst (λ (gs : List (Option Kept)). IsKeptPool (after (c.self.inside.state.nodes.items ++ c.args.children.now.items)) (arc_value c.self.inside.state.table) (set gs c.args.node.0 c.clear.new.self) c.give_back.new.places.items) (sym grounds)
      (divided-kept (the_view c.self.inside) _ c.self.inside.state.grounds.items c.self.inside.places.items c.args.node c.args.division c.self.invariant.kept
      (subst (λ (s : State). IsDivisionAt s c.args.node c.args.division) (sym c.self.view_is) c.requires.division) c.args.children.now.items c.args.grounds.now.items
      (subst (λ (s : State). AreChildrenAt s c.args.node c.args.division c.args.children.now.items c.args.grounds.now.items) (sym c.self.view_is) c.requires.children) c.index_mut-divided.result.now
      (c.index_mut-divided.ensures.value ∙ ap (λ (xs : List Node). get_or xs c.args.node.0 c.index_mut-divided.result.now) nodes) c.divide-round.new.self (c.self.inside.state.examined + 1) c.clear.new.self c.give_back.new.places.items
      c.divide-round.ensures.node (add-one c.self.inside.state.examined) c.clear.ensures
      (c.give_back.ensures ∙ ap (given_back c.self.inside.places.items) c.divide-round.ensures.round)))
      );
  room_is = c.self.invariant.room_is;
}

pub returns-clause-event : goal.returns-clause-event
returns-clause-event c =
    let nodes : c.append_both.new.nodes.items ≡ c.self.inside.state.nodes.items ++ c.args.children.now.items = c.in_ok-append_both.ensures.nodes in
    let after : List Node → State = λ xs. record (the_view c.self.inside) { nodes = set xs c.args.node.0 c.divide-round.new.self; examined = c.self.inside.state.examined + 1 } in
    subst (λ (s : State). Divides s c.args.node c.args.division.left_child c.args.division.right_child (after c.append_both.new.nodes.items)) c.self.view_is
    (subst (λ (xs : List Node). Divides (the_view c.self.inside) c.args.node c.args.division.left_child c.args.division.right_child (after xs)) (sym nodes)
    (divided-step (the_view c.self.inside) _ c.self.inside.state.grounds.items c.self.inside.places.items c.args.node c.args.division c.self.invariant.kept
    (subst (λ (s : State). IsDivisionAt s c.args.node c.args.division) (sym c.self.view_is) c.requires.division) c.args.children.now.items c.args.grounds.now.items
    (subst (λ (s : State). AreChildrenAt s c.args.node c.args.division c.args.children.now.items c.args.grounds.now.items) (sym c.self.view_is) c.requires.children) c.index_mut-divided.result.now
    (c.index_mut-divided.ensures.value ∙ ap (λ (xs : List Node). get_or xs c.args.node.0 c.index_mut-divided.result.now) nodes) c.divide-round.new.self (c.self.inside.state.examined + 1) c.divide-round.ensures.node (add-one c.self.inside.state.examined)))

pub returns-clause-kept : goal.returns-clause-kept
returns-clause-kept c = tt
