-- What stops the bracket of a section stops the section.
use Rattle.std.proofs.Common.{List}
use Rattle.snd_reader.specs.declared.fault.TextFault.{TextFault}
use Rattle.snd_reader.specs.Readers.{Placed}
use Rattle.snd_reader.specs.Faults.{Fails}
use Rattle.snd_network.specs.declared.draft.Draft.{Draft}
use Rattle.snd_network.specs.declared.draft.Section.{Section}
use Rattle.snd_network.specs.declared.draft.Section.TheVariants.{Nodes, Links, Demands, Meta, Paths}
use Rattle.snd_network.specs.Reading.{opening, section}
use Rattle.snd_reader.proofs.Faults.{through}

-- a fault in reading the opening bracket of a section is a fault in reading the section
pub section_opens : (d : Draft) (k : Section) (ts : List Placed) (f : TextFault) → Fails f (opening ts) → Fails f (section d k ts)
unfolding section
section_opens d Nodes ts f b = through f (opening ts) _ b
section_opens d Links ts f b = through f (opening ts) _ b
section_opens d Demands ts f b = through f (opening ts) _ b
section_opens d Meta ts f b = through f (opening ts) _ b
section_opens d Paths ts f b = through f (opening ts) _ b
