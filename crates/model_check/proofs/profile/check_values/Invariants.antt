use Rattle.std.proofs.Common.{◌≡◌, None}
use Rattle.plan_base.specs.First.{first_fault, fault_at}
use Rattle.model_check.specs.Telling.{outside_fault}
use Rattle.model_check.proofs.profile.check_values.Given as goal

-- the value of each key before this one is in the profile
abbrev pub invariant-loop-key : goal.invariant-loop-key
invariant-loop-key l = first_fault (fault_at (λ _ key. outside_fault l.model key) l.keys) l.key-index ≡ None
