use Rattle.std.proofs.Common.{arith}
use Rattle.least_path.proofs.SettleLaws.{spread-start, count-settled}
use Rattle.least_path.proofs.spread.Query.settle_slow.Goals as goal

pub relax_slow-requires-clause-start : goal.relax_slow-requires-clause-start
relax_slow-requires-clause-start g c = spread-start c.args.self.now.inst.now (g.W.Weigher.weights c.args.self.now.weigher.now) c.args.self.now.limit c.args.self.now.source c.args.self.now.target c.args.labels.now.items c.args.here.now c.requires.search c.requires.nearest c.requires.other

pub returns-clause-fewer : goal.returns-clause-fewer
returns-clause-fewer g c = omega (arith, c.relax_slow.ensures.open, count-settled c.args.labels.now.items c.args.here.now c.requires.nearest)
