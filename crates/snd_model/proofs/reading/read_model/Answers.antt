use Rattle.snd_model.proofs.Once.{only_file, only_fault}
use Rattle.snd_model.proofs.reading.read_model.Goals as goal

pub returns-clause-value_only : goal.returns-clause-value_only
returns-clause-value_only c = only_file c.args.text.now c.told.result c.told.ensures.value c.told.ensures.fault

pub returns-clause-fault_only : goal.returns-clause-fault_only
returns-clause-fault_only c = only_fault c.args.text.now c.told.result c.told.ensures.value c.told.ensures.fault
