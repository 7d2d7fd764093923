use Rattle.search_machine.proofs.Leads.{opening-leads}
use Rattle.search_machine.proofs.laws.every_search.Goals as goal

pub returns : goal.returns
returns c = opening-leads
