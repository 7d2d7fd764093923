use Rattle.demand_routing.proofs.weights.Rises.added_cost.Goals as goal

pub returns-in_err-known-clause-value : goal.returns-in_err-known-clause-value
returns-in_err-known-clause-value c = rw c.from_residual.ensures (c.in_err-known.ensures.none c.args.self.now.load)

pub returns-clause-value : goal.returns-clause-value
returns-clause-value c = rw c.in_ok-known.ensures.place at c.rise_above.ensures.value
