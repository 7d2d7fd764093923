use Rattle.search_machine.proofs.MasterEvents.{brief-fits}
use Rattle.search_machine.proofs.Unrefused.{master-gathers}
use Rattle.search_machine.proofs.laws.master_gathers.Goals as goal

pub returns : goal.returns
returns c = master-gathers
