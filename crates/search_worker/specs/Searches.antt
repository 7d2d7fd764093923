-- Which search a pool is of.
use Rattle.std.specs.Prelude.{[]}
use Rattle.plan_base.specs.declared.parts.Parts.{Parts}
use Rattle.plan_base.specs.declared.parts.Orient.TheVariants as orient
use Rattle.plan_base.specs.declared.parts.CountLaw.TheVariants as law

-- an instance without nodes: what a name stands for that no search has picked
abbrev pub no_problem : Parts
no_problem = record { orient = orient.Directed; law = law.Any; nodes = 0; links = []; demands = [] }
