use Rattle.std.proofs.Common.{◌≡◌, map, take}
use Rattle.model_check.specs.Reading.{link_of_record}
use Rattle.model_check.proofs.valuing.links_of.Given as goal

-- the links before this one are valued
abbrev pub invariant-loop-link : goal.invariant-loop-link
invariant-loop-link l = l.found.items ≡ map link_of_record (take l.link-index l.links)
