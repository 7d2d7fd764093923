use Rattle.plan_of_search.proofs.PlanRecords.{IsPicking}
use Rattle.plan_of_search.proofs.records.records_by.Given as goal

abbrev pub invariant-loop-number : goal.invariant-loop-number
invariant-loop-number l = IsPicking l.fn.nodes.items l.order l.number-index l.loose.items l.records.items
