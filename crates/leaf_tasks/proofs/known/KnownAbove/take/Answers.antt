use Rattle.std.proofs.Common.{ap, sym, ◌∙◌, option_map}
use Rattle.std.specs.Arc.{arc_value}
use Rattle.leaf_tasks.specs.Entries.{entry_at}
use Rattle.leaf_tasks.proofs.EntryLaws.{entry_at_map, entry_kept}
use Rattle.leaf_tasks.proofs.known.KnownAbove.take.Goals as goal

pub returns-clause-others : goal.returns-clause-others
returns-clause-others c k other = entry_kept arc_value c.self.inside.nodes.items c.take_out.new.entries.items _ k c.self.view_is (c.take_out.ensures.others k other)

pub returns-clause-forgotten : goal.returns-clause-forgotten
returns-clause-forgotten c = entry_at_map arc_value c.take_out.new.entries.items c.args.node.0 ∙ ap (option_map arc_value) c.take_out.ensures.missing

pub returns-clause-taken : goal.returns-clause-taken
returns-clause-taken c =
    ap (option_map arc_value) c.take_out.ensures.taken
    ∙ sym (entry_at_map arc_value c.self.inside.nodes.items c.args.node.0)
    ∙ ap (λ xs. entry_at xs c.args.node.0) c.self.view_is
