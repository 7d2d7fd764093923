use Rattle.std.proofs.Common.{◌≡◌, length}
use Rattle.plan_picture.proofs.sites.sites_of.Given as goal

-- each node before this one has its site
abbrev pub invariant-loop-node : goal.invariant-loop-node
invariant-loop-node l = length l.sites.items ≡ l.node-index
