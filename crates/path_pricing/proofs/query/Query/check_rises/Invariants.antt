use Rattle.std.proofs.Common.{◌≡◌, ◌*◌, None}
use Rattle.plan_base.specs.First.{first_fault}
use Rattle.arc_restrict.specs.Rows.{forbids}
use Rattle.path_pricing.specs.Faults.{arc_id, dearer_fault}
use Rattle.path_pricing.proofs.query.Query.check_rises.Given as goal

abbrev pub invariant-loop-number : goal.invariant-loop-number
invariant-loop-number l = first_fault (λ n. dearer_fault l.self.inst.now l.self.prices.now l.self.demand.0 (forbids l.self.restriction.now) l.potentials (arc_id n)) (2 * l.number) ≡ None
