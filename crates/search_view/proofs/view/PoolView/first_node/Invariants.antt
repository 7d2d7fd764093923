use Rattle.std.proofs.Common.{◌≡◌, ◌<◌, ℕ, true, false, None, IfSome}
use Rattle.search_view.specs.Work.{is_next}
use Rattle.search_view.proofs.TaskLaws.{branch_id}
use Rattle.search_view.proofs.view.PoolView.first_node.Given as goal

abbrev pub invariant-loop-place : goal.invariant-loop-place
invariant-loop-place l = record {
  found : IfSome l.first (λ node. is_next l.self node ≡ true);
  none : l.first ≡ None → (n : ℕ) → n < l.place → is_next l.self (branch_id n) ≡ false;
}
