use Rattle.pool_core.proofs.pool.Pool.into_plan.Goals as goal

pub into_plan-requires-clause-assembled : goal.into_plan-requires-clause-assembled
into_plan-requires-clause-assembled c = record {
  reachable = c.self.invariant.kept.pool.reachable;
  some_budget = c.self.invariant.kept.pool.some_budget;
  budget = c.self.invariant.kept.pool.budget;
  table_is = c.self.invariant.kept.table_is;
  has_grounds = c.self.invariant.kept.has_grounds;
}
