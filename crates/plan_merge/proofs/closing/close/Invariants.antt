use Rattle.std.proofs.Common.{◌≡◌, map, take}
use Rattle.plan_merge.specs.Closing.{closed_record}
use Rattle.plan_merge.proofs.closing.close.Given as goal

abbrev pub invariant-loop-record : goal.invariant-loop-record
invariant-loop-record l = l.all.items ≡ map (closed_record l.cost l.unit) (take l.record-index l.records)
