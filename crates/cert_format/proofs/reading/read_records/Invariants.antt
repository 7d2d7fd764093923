use Rattle.std.proofs.Common.{◌≡◌, ◌≤◌, ◌+◌, length}
use Rattle.proof_tree.specs.declared.limits.TheConstants.{MAX_RECORDS}
use Rattle.plan_tokens.specs.Lines.{lines_of}
use Rattle.cert_format.specs.Lists.{named_from}
use Rattle.cert_format.specs.Reading.{records}
use Rattle.cert_format.proofs.Accepting.{in_front}
use Rattle.cert_format.proofs.reading.read_records.Given as goal

abbrev pub invariant-loop-left : goal.invariant-loop-left
invariant-loop-left l = record {
  reads : in_front l.records.items (records l.ground l.named l.left l.trees (lines_of l.rest)) ≡ records l.ground 0 l.count 1 (lines_of l.text);
  few : length l.records.items + l.left ≡ l.count;
  within : l.trees + l.left ≤ MAX_RECORDS + 1 + length l.records.items;
  named_is : l.named ≡ named_from l.ground.form l.ground.lists 0 l.records.items;
  named_few : l.named ≤ length l.records.items;
}

abbrev pub decreases-loop-left : goal.decreases-loop-left
decreases-loop-left l = l.left
