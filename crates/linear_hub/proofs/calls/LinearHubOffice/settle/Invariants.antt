use Rattle.linear_hub.specs.Calls.{Settling}
use Rattle.linear_hub.proofs.calls.LinearHubOffice.settle.Given as goal

abbrev pub ghosts-leave : goal.ghosts-leave
ghosts-leave g a = record { call = Settling a._asked.now.0 a._asked.now.1 a._answer.now }
