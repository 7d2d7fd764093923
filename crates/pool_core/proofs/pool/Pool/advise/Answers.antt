use Rattle.std.proofs.Common.{◌≡◌, List, set, sym, ap, subst, ◌∙◌}
use Rattle.std.specs.Arc.{arc_value}
use Rattle.search_machine.specs.State.{Node, State}
use Rattle.search_view.specs.Views.{IsKeptPool}
use Rattle.pool_core.specs.contracts.pool.Pool.{the_view}
use Rattle.pool_core.proofs.Dividings.{written-same}
use Rattle.pool_core.proofs.pool.Pool.advise.Goals as goal

pub invariant_of-self : goal.invariant_of-self
invariant_of-self c =
    let same : set c.self.inside.state.nodes.items c.args.node.0 c.advise.new.self ≡ c.self.inside.state.nodes.items =
    written-same c.self.inside.state.nodes.items c.args.node.0 c.index_mut-advised.result.now c.advise.new.self c.index_mut-advised.ensures.value c.advise.ensures in
    record {
      kept = subst (λ (xs : List Node). IsKeptPool (record (the_view c.self.inside) { nodes = xs }) (arc_value c.self.inside.state.table) c.self.inside.state.grounds.items c.self.inside.places.items) (sym same) c.self.invariant.kept;
      room_is = c.self.invariant.room_is;
    }

pub returns-then-place-len : goal.returns-then-place-len
returns-then-place-len c =
    let same : set c.self.inside.state.nodes.items c.args.node.0 c.advise.new.self ≡ c.self.inside.state.nodes.items =
    written-same c.self.inside.state.nodes.items c.args.node.0 c.index_mut-advised.result.now c.advise.new.self c.index_mut-advised.ensures.value c.advise.ensures in
    ap (λ (xs : List Node). let t : State = record (the_view c.self.inside) { nodes = xs } in t) same ∙ c.self.view_is
