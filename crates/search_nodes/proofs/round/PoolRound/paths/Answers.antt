use Rattle.std.proofs.Common.{◌<◌, length, arith}
use Rattle.search_nodes.proofs.FoundPaths.{paths-more}
use Rattle.search_nodes.proofs.round.PoolRound.paths.Goals as goal

pub loop-entry-preserved : goal.loop-entry-preserved
loop-entry-preserved c =
    let within : c.loop-entry.entry-index < length c.as_slice-entry-items.result.now = omega arith in
    paths-more c.loop-entry.paths.items _ c.push_path.new.paths.items c.as_slice-entry-items.result.now c.loop-entry.entry-index c.entry-item.result within c.entry-item.is c.in_ok-push_path.ensures c.loop-entry.invariant
