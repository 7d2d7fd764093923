use Rattle.linear_hub.specs.Calls.{Closing_of}
use Rattle.linear_hub.proofs.calls.LinearHubOffice.close.Given as goal

abbrev pub ghosts-leave : goal.ghosts-leave
ghosts-leave g a = record { call = Closing_of a._asked.now a._answer.now }
