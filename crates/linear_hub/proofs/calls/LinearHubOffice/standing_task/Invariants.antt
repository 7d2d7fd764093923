use Rattle.linear_hub.specs.Calls.{Tasking}
use Rattle.linear_hub.proofs.calls.LinearHubOffice.standing_task.Given as goal

abbrev pub ghosts-leave : goal.ghosts-leave
ghosts-leave g a = record { call = Tasking a._answer.now }
