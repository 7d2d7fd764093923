use Rattle.std.proofs.Common.{◌∷◌, List, IsPermutation, subst, heap_items}
use Rattle.least_path.specs.Waits.{Waiter, waits}
use Rattle.least_path.proofs.queue.Queue.push.Goals as goal

pub returns : goal.returns
returns c = subst (λ (queue : List Waiter). IsPermutation (waits c.args.node.0 c.args.length ∷ queue) (heap_items c.push.new.self)) c.self.view_is c.in_ok-push.ensures.permutation
