use Rattle.std.proofs.Common.{◌<◌, length, sym, subst, rules}
use Rattle.std.proofs.lemmas.Option.{slice_get_within}
use Rattle.search_machine.specs.State.{State}
use Rattle.pool_core.specs.contracts.pool.Pool.{the_view}
use Rattle.search_view.specs.Examining.{HasTwoPaths}
use Rattle.pool_core.proofs.pool.Pool.division_by.Goals as goal

pub index-requires : goal.index-requires
index-requires c =
    let s = the_view c.self.inside in
    let two : HasTwoPaths s c.args.node c.args.two.demand c.args.two.first.now c.args.two.second.now = subst (λ (x : State). HasTwoPaths x c.args.node c.args.two.demand c.args.two.first.now c.args.two.second.now) (sym c.self.view_is) c.requires in
    let within : c.args.node.0 < length c.self.inside.state.nodes.items = slice_get_within s.nodes c.args.node.0 two.node two.ready.open_node.is_node in
    search rules

pub load_division_at-requires : goal.load_division_at-requires
load_division_at-requires c = subst (λ (s : State). HasTwoPaths s c.args.node c.args.two.demand c.args.two.first.now c.args.two.second.now) (sym c.view-view.ensures) c.requires

pub division_at-requires : goal.division_at-requires
division_at-requires c = subst (λ (s : State). HasTwoPaths s c.args.node c.args.two.demand c.args.two.first.now c.args.two.second.now) (sym c.view-view.ensures) c.requires
