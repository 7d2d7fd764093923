use Rattle.std.proofs.Common.{◌∷◌, List, IsPermutation, subst, sym}
use Rattle.least_path.specs.Labels.{Labels}
use Rattle.least_path.specs.Waits.{Waiter, waits, AllWait}
use Rattle.least_path.proofs.WaitLaws.{first-wait}
use Rattle.least_path.proofs.spread.begin.Goals as goal

pub returns-clause-waits : goal.returns-clause-waits
returns-clause-waits c =
    let queue = c.push.new.self in
    let joined = subst (λ (before : List Waiter). IsPermutation (waits c.args.source.0 0 ∷ before) queue) c.clear.ensures c.in_ok-push.ensures in
    subst (λ (ls : Labels). AllWait ls queue) (sym c.in_ok-set_first.ensures) (first-wait c.args.nodes c.args.source.0 queue c.requires joined)
