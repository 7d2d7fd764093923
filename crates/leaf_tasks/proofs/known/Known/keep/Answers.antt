use Rattle.std.specs.Arc.{arc_value}
use Rattle.leaf_tasks.proofs.EntryLaws.{entry_kept}
use Rattle.leaf_tasks.proofs.known.Known.keep.Goals as goal

pub returns-clause-others : goal.returns-clause-others
returns-clause-others c k other = entry_kept arc_value c.self.inside.found.items c.put.new.entries.items _ k c.self.view_is (c.put.ensures.others k other)
