use Rattle.std.proofs.Common.{arith}
use Rattle.plan_base.proofs.walks.check_demand_path.Goals as goal

-- a simple path has fewer arcs than there are nodes
pub check_length-requires : goal.check_length-requires
check_length-requires c = omega (arith, c.in_ok-check_path.ensures.short, c.requires.lawful.nodes)
