use Rattle.instance_maker.proofs.Formed.{formed}
use Rattle.instance_maker.proofs.laws.samples_are_well_formed.Goals as goal

pub returns : goal.returns
returns c = λ number nodes demands some few within. formed c.written_is_read_back.ensures number nodes demands some few within
