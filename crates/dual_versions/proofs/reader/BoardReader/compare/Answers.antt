use Rattle.std.proofs.Common.{sym, ◌∙◌}
use Rattle.dual_versions.proofs.Looks.{shown_there}
use Rattle.dual_versions.proofs.reader.BoardReader.compare.Goals as goal

pub returns-in-Ok-clause-entry : goal.returns-in-Ok-clause-entry
returns-in-Ok-clause-entry c =
    let there = shown_there _ _ _ _ _ c.args.self c.args.slot c.in-Ok.ensures.1 c.leave-reader.ensures.1 c.get-table.ensures (sym c.self.view_is) in
    (there.0, ((λ yes. there.1 ∙ c.has-has.ensures.0 yes), (λ is. c.has-has.ensures.1 (sym there.1 ∙ is))))
