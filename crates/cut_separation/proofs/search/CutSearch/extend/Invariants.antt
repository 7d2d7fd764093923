use Rattle.std.proofs.Common.{◌≡◌, ◌+◌, ◌≤◌, length, take}
use Rattle.proof_tree.specs.Cuts.{IsCutList}
use Rattle.cut_separation.proofs.search.CutSearch.extend.Given as goal

-- no more are found than are wanted; they stand behind what the list had, and a plan may have it
abbrev pub invariant-loop-violated : goal.invariant-loop-violated
invariant-loop-violated l = record {
  few : l.found ≤ l.most;
  list : IsCutList l.inst l.list.items;
  kept : take (length l.fn.list.items) l.list.items ≡ l.fn.list.items;
  count : length l.list.items ≡ length l.fn.list.items + l.found;
}
