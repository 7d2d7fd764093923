use Rattle.second_path.proofs.Visits.{spent_start}
use Rattle.second_path.proofs.search.Search.begin.Goals as goal

pub returns-clause-spent : goal.returns-clause-spent
returns-clause-spent c =
    spent_start c.args.ways.now.inst.now _ c.args.self.now.blocked.items c.args.start c.reset.new.self.met.items c.visit.new.self.met.items c.reset.new.self.arrivals.items c.visit.new.self.arrivals.items
    c.requires.start_blocked c.reset.ensures.met c.reset.ensures.arrivals c.in_ok-visit.ensures.visit
