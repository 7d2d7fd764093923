use Rattle.std.proofs.Common.{◌≡◌, ◌++◌, take}
use Rattle.plan_report.specs.Lines.{numbers}
use Rattle.plan_report.proofs.numbers.push_numbers.Given as goal

-- the numbers before this one are written
abbrev pub invariant-loop-number : goal.invariant-loop-number
invariant-loop-number l = l.text.items ≡ l.initial.text.items ++ numbers (take l.number-index l.all)
