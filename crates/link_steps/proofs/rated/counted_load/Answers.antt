use Rattle.link_steps.proofs.RatedLoads.{IsCountedLoad-next}
use Rattle.link_steps.proofs.rated.counted_load.Goals as goal

pub loop-item-preserved : goal.loop-item-preserved
loop-item-preserved c =
    rw c.max-load.ensures
    (IsCountedLoad-next c.args.rated.now c.args.least c.args.most c.loop-item.item-index c.loop-item.load c.least_rated.result c.requires.tallies c.loop-item-test.true c.least_rated.ensures.none c.least_rated.ensures.some c.loop-item.invariant)
