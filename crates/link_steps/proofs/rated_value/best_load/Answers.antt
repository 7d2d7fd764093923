use Rattle.std.proofs.Common.{◌<◌, ◌≤◌, ◌*◌, min, length, arith}
use Rattle.link_steps.specs.Candidates.{IsCountedLoad}
use Rattle.link_steps.proofs.RatedLoads.{best-greatest, best-counted}
use Rattle.link_steps.proofs.rated_value.best_load.Goals as goal

pub returns-then-from-price : goal.returns-then-from-price
returns-then-from-price c =
    let dear : 1000 * c.args.link.now.routing < c.args.price = omega (arith, c.if-from-price.true, c.from.ensures) in
    rw c.min-most.ensures (best-greatest c.args.link.now.routing c.args.price c.args.rated.now c.args.range c.args.reach c.requires.tallies c.requires.some c.requires.reached dear)

pub returns-else-from-price : goal.returns-else-from-price
returns-else-from-price c =
    let cheap : c.args.price ≤ 1000 * c.args.link.now.routing = omega (arith, c.if-from-price.false, c.from.ensures) in
    let counted : IsCountedLoad c.args.rated.now c.args.range.least (min c.args.reach c.args.range.most) (length c.args.rated.now) c.counted_load.result = rw c.min-most.ensures at c.counted_load.ensures in
    best-counted c.args.link.now.routing c.args.price c.args.rated.now c.args.range c.args.reach c.requires.tallies c.requires.some c.requires.reached c.counted_load.result cheap c.requires.covers counted
