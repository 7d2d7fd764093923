use Rattle.plan_base.proofs.SimplePaths.{leaves_node-once, uses_link-once}
use Rattle.arc_restrict.proofs.laws.simple_paths.Goals as goal

pub returns : goal.returns
returns c = record { nodes = leaves_node-once; links = uses_link-once }
