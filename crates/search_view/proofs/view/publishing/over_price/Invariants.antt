use Rattle.std.proofs.Common.{◌≡◌, None}
use Rattle.plan_base.specs.First.{first_fault, fault_at}
use Rattle.search_machine.specs.Publishing.{price_fault}
use Rattle.search_view.proofs.view.publishing.over_price.Given as goal

abbrev pub invariant-loop-place : goal.invariant-loop-place
invariant-loop-place l = first_fault (fault_at (price_fault l.inst) l.prices) l.place ≡ None
