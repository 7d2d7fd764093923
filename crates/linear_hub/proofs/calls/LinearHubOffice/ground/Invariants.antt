use Rattle.std.specs.Arc.{arc_value}
use Rattle.linear_hub.specs.Calls.{Grounding, shared_rows}
use Rattle.linear_hub.proofs.calls.LinearHubOffice.ground.Given as goal

abbrev pub ghosts-leave : goal.ghosts-leave
ghosts-leave g a = record { call = Grounding a._asked.now (shared_rows arc_value a._answer.now) }
