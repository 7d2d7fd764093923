use Rattle.std.proofs.Common.{◌≡◌, ◌++◌, take}
use Rattle.std.specs.List.{AllByRecursion}
use Rattle.cert_format.specs.Written.{lines_text, numbered_lines, HasShownFields}
use Rattle.cert_format.proofs.writing.push_records.Given as goal

abbrev pub invariant-loop-node : goal.invariant-loop-node
invariant-loop-node l = (l.out.items ≡ l.fn.out.items ++ lines_text (numbered_lines l.lists (take l.node-index l.nodes)))
    × AllByRecursion (HasShownFields l.lists) (take l.node-index l.nodes)
