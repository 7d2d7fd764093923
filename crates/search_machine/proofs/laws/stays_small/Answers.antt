use Rattle.search_machine.proofs.Small.{IsSound-next_version, IsSound-accepted}
use Rattle.search_machine.proofs.laws.stays_small.Goals as goal

pub returns : goal.returns
returns c = record { versions = IsSound-next_version; accepted = IsSound-accepted }
