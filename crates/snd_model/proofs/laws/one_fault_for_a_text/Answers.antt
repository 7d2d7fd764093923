use Rattle.snd_model.proofs.Once.{one_fault}
use Rattle.snd_model.proofs.laws.one_fault_for_a_text.Goals as goal

pub returns : goal.returns
returns c = one_fault
