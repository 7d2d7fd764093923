use Rattle.std.proofs.Common.{sym, ◌∙◌}
use Rattle.dual_versions.proofs.Looks.{if_ok, shown_there}
use Rattle.dual_versions.proofs.reader.BoardReader.look.Goals as goal

pub returns-in-Ok-clause-entry : goal.returns-in-Ok-clause-entry
returns-in-Ok-clause-entry c =
    let there = shown_there _ _ _ _ _ c.args.self c.args.slot c.in-Ok.ensures.1 c.leave-reader.ensures.1 c.get-table.ensures (sym c.self.view_is) in
    if_ok _ _ c.entry-entry.result c.entry-entry.ensures (λ entry is. (there.0, is ∙ sym there.1))
