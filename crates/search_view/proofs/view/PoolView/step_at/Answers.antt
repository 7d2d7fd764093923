use Rattle.std.proofs.Common.{refl, ◌∙◌}
use Rattle.search_view.proofs.TaskLaws.{next-opens}
use Rattle.search_view.proofs.view.PoolView.step_at.Goals as goal

pub returns-in_default : goal.returns-in_default
returns-in_default c =
    (refl, next-opens c.args.self.now c.args.node c.requires.not_spent c.requires.next (λ e. c.in_default.not-Active (c.state.ensures ∙ e)))
