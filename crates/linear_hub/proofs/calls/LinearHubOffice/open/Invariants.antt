use Rattle.linear_hub.specs.Calls.{Opening}
use Rattle.linear_hub.proofs.calls.LinearHubOffice.open.Given as goal

abbrev pub ghosts-leave : goal.ghosts-leave
ghosts-leave g a = record { call = Opening a._asked.now a._answer.now }
