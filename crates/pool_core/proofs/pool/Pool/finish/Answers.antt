use Rattle.std.proofs.Common.{sym, subst}
use Rattle.search_machine.specs.Tasks.{LeadsTo}
use Rattle.search_machine.proofs.Leads.{LeadsTo-base}
use Rattle.pool_core.proofs.pool.Pool.finish.Goals as goal

pub returns-clause-problem : goal.returns-clause-problem
returns-clause-problem c =
    (LeadsTo-base c.args.self.now c.remember.new.self (subst (LeadsTo c.args.self.now) (sym c.remember.ensures) c.work_all-worked.ensures.leads)).problem

pub returns-clause-budget : goal.returns-clause-budget
returns-clause-budget c =
    (LeadsTo-base c.args.self.now c.remember.new.self (subst (LeadsTo c.args.self.now) (sym c.remember.ensures) c.work_all-worked.ensures.leads)).budget

pub returns-clause-cuts : goal.returns-clause-cuts
returns-clause-cuts c =
    (LeadsTo-base c.args.self.now c.remember.new.self (subst (LeadsTo c.args.self.now) (sym c.remember.ensures) c.work_all-worked.ensures.leads)).cuts
