use Rattle.std.proofs.Common.{arith}
use Rattle.base_items.proofs.MetLaws.{zeros-none, zeros-low}
use Rattle.base_items.proofs.met_nodes.MetNodes.new.Goals as goal

pub returns : goal.returns
returns c = λ n. zeros-none 512 n

pub invariant_of-result : goal.invariant_of-result
invariant_of-result c = record { low = zeros-low 512; begun = omega arith }
