use Rattle.std.proofs.Common.{rules}
use Rattle.dual_versions.proofs.Looks.{begins_refl, later_begins, sees_later}
use Rattle.dual_versions.proofs.reader.BoardReader.reach.Goals as goal

pub loop-init : goal.loop-init
loop-init g c = (search rules, search rules, begins_refl c.args.self.now)

pub loop-preserved : goal.loop-preserved
loop-preserved g c = (search rules, search rules, later_begins c.args.self.now c.loop.self c.shows.new.self c.loop.invariant.2 c.shows.ensures.later)

pub returns-in-Ok-true : goal.returns-in-Ok-true
returns-in-Ok-true g c = (sees_later c.args.self.now c.loop.self c.shows.new.self c.loop.invariant.2 c.in-Ok-true.ensures.entry.0, c.in-Ok-true.ensures.entry.1.0 c.in-Ok-true.field-0-test)
