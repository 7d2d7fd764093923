use Rattle.std.proofs.Common.{◌≡◌, ◌++◌, take}
use Rattle.plan_merge.proofs.growing.push_records.Given as goal

abbrev pub invariant-loop-record : goal.invariant-loop-record
invariant-loop-record l = l.into.items ≡ l.fn.into.items ++ take l.record-index l.records
