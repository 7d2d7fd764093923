use Rattle.std.proofs.Common.{◌≡◌, length, ap, ◌∙◌, arith}
use Rattle.search_machine.specs.State.{Round}
use Rattle.search_nodes.proofs.GatheredPaths.{gathered-length}
use Rattle.search_nodes.proofs.round.PoolRound.add_to.Goals as goal

pub add_found-requires : goal.add_found-requires
add_found-requires c =
    let same : length c.loop-place.columns ≡ length c.args.columns.now = ap length c.loop-place.invariant ∙ gathered-length c.args.columns.now c.args.self.now.found c.loop-place.place in
    let seen : length c.self.inside.found.items ≡ length c.args.self.now.found = ap (λ (r : Round). length r.found) c.self.view_is in
    let lists = c.requires.lists in
    let items = c.as_slice-entry-items.ensures.len in
    omega arith
