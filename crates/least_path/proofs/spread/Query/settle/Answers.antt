use Rattle.std.proofs.Common.{arith}
use Rattle.least_path.proofs.SettleLaws.{spread-start, count-settled}
use Rattle.least_path.proofs.WaitLaws.{settled-wait}
use Rattle.least_path.proofs.spread.Query.settle.Goals as goal

pub relax-requires-clause-start : goal.relax-requires-clause-start
relax-requires-clause-start g c = spread-start c.args.self.now.inst.now (g.W.Weigher.weights c.args.self.now.weigher.now) c.args.self.now.limit c.args.self.now.source c.args.self.now.target c.args.labels.now.items c.args.here.now c.requires.search c.requires.nearest c.requires.other

pub returns-clause-fewer : goal.returns-clause-fewer
returns-clause-fewer g c = omega (arith, c.in_ok-relax.ensures.open, count-settled c.args.labels.now.items c.args.here.now c.requires.nearest)

pub relax-requires-clause-waits : goal.relax-requires-clause-waits
relax-requires-clause-waits g c = settled-wait c.args.labels.now.items c.args.queue.now c.args.here.now c.requires.nearest c.requires.wait
