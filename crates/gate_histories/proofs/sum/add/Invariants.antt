use Rattle.gate_histories.specs.Sums.{added_of}
use Rattle.gate_histories.proofs.sum.add.Given as goal

abbrev pub ghosts-leave : goal.ghosts-leave
ghosts-leave g a = record { call = added_of a._asked.now a._answer.now }
