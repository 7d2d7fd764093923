use Rattle.std.proofs.Common.{◌<◌, length, rules, sym, subst, ap}
use Rattle.pool_core.specs.contracts.pool.Pool.{the_view}
use Rattle.search_machine.specs.State.{State, Node}
use Rattle.search_machine.specs.Settling.{Settles}
use Rattle.search_machine.specs.Changes.{with_node}
use Rattle.pool_core.specs.Valuing.{IsToSettle}
use Rattle.pool_core.proofs.Answering.{to_settle-within, settles-written, settle-IsPool}
use Rattle.search_nodes.proofs.Grounds.{HasGrounds-set}
use Rattle.pool_core.proofs.pool.Pool.mark_settled.Goals as goal

pub index_mut-settled-requires : goal.index_mut-settled-requires
index_mut-settled-requires c =
    let to : IsToSettle (the_view c.self.inside) c.args.node c.args.version = subst (λ (s : State). IsToSettle s c.args.node c.args.version) (sym c.self.view_is) c.requires in
    let below : c.args.node.0 < length c.self.inside.state.nodes.items = to_settle-within (the_view c.self.inside) c.args.node c.args.version to in
    search rules

pub invariant_of-self : goal.invariant_of-self
invariant_of-self c =
    let to : IsToSettle (the_view c.self.inside) c.args.node c.args.version = subst (λ (s : State). IsToSettle s c.args.node c.args.version) (sym c.self.view_is) c.requires in
    record {
      kept = record {
        pool =
            settle-IsPool (the_view c.self.inside) _ c.self.inside.places.items c.args.node c.args.version c.self.invariant.kept.pool
            (settles-written (the_view c.self.inside) c.args.node c.args.version c.index_mut-settled.result.now c.settle.new.self to c.index_mut-settled.ensures.value c.settle.ensures);
        table_is = c.self.invariant.kept.table_is;
        cuts_are = c.self.invariant.kept.cuts_are;
        has_grounds = HasGrounds-set _ c.self.inside.state.nodes.items c.self.inside.state.grounds.items c.args.node.0 c.index_mut-settled.result.now c.settle.new.self
            (to_settle-within (the_view c.self.inside) c.args.node c.args.version to)
            c.index_mut-settled.ensures.value (ap (λ (x : Node). x.limits) c.settle.ensures) (ap (λ (x : Node). x.fate) c.settle.ensures) c.self.invariant.kept.has_grounds;
      };
      room_is = c.self.invariant.room_is;
    }

pub returns : goal.returns
returns c =
    let to : IsToSettle (the_view c.self.inside) c.args.node c.args.version = subst (λ (s : State). IsToSettle s c.args.node c.args.version) (sym c.self.view_is) c.requires in
    subst (λ (s : State). Settles s c.args.node c.args.version (with_node (the_view c.self.inside) c.args.node c.settle.new.self)) c.self.view_is
    (settles-written (the_view c.self.inside) c.args.node c.args.version c.index_mut-settled.result.now c.settle.new.self to c.index_mut-settled.ensures.value c.settle.ensures)
