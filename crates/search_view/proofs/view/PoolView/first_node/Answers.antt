use Rattle.std.proofs.Common.{◌≤◌, length, subst, rules, arith}
use Rattle.search_nodes.specs.SearchStates.{machine_state}
use Rattle.search_machine.specs.State.{State}
use Rattle.search_machine.specs.Machine.{IsReachable}
use Rattle.search_view.proofs.Reading.{nodes-few}
use Rattle.search_view.proofs.Leaves.{none-more, never-none}
use Rattle.search_view.proofs.view.PoolView.first_node.Goals as goal

pub loop-place-init : goal.loop-place-init
loop-place-init c = record { found = tt; none = λ e n below. absurd (omega arith) }

pub overflow_cast-place : goal.overflow_cast-place
overflow_cast-place c =
    let s = machine_state c.self.inside.state.now in
    let few : length c.self.inside.state.now.nodes.items ≤ 8193 = nodes-few s c.self.inside.places.now c.self.invariant.pool in
    search rules

pub loop-place-preserved : goal.loop-place-preserved
loop-place-preserved c = record {
  found = c.first_of-first.ensures.next;
  none = λ e n below. none-more c.args.self.now c.loop-place.place (c.loop-place.invariant.none (c.first_of-first.ensures.none e).0) (c.first_of-first.ensures.none e).1 n below;
}

pub returns : goal.returns
returns c =
    let s = machine_state c.self.inside.state.now in
    record {
      some = c.loop-place.invariant.found;
      none = λ e.
          let all : length s.nodes ≤ c.loop-place.place = search rules in
          let all_places : length c.args.self.now.nodes ≤ c.loop-place.place = subst (λ (s : State). length s.nodes ≤ c.loop-place.place) c.self.view_is all in
          never-none c.args.self.now (subst IsReachable c.self.view_is c.self.invariant.pool.reachable) c.requires.not_done
          (λ n below. c.loop-place.invariant.none e n (omega (arith, all_places, below)));
    }
