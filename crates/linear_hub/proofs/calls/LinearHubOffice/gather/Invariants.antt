use Rattle.linear_hub.specs.Calls.{Gathering}
use Rattle.linear_hub.proofs.calls.LinearHubOffice.gather.Given as goal

abbrev pub ghosts-leave : goal.ghosts-leave
ghosts-leave g a = record { call = Gathering a._asked.now.0 a._asked.now.1 a._answer.now }
