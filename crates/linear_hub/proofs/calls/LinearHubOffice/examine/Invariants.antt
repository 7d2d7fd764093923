use Rattle.linear_hub.specs.Calls.{Examining}
use Rattle.linear_hub.proofs.calls.LinearHubOffice.examine.Given as goal

abbrev pub ghosts-leave : goal.ghosts-leave
ghosts-leave g a = record { call = Examining a._asked.now a._answer.now }
