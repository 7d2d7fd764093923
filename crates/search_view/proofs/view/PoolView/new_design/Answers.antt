use Rattle.std.proofs.Common.{sym, subst, ◌∙◌}
use Rattle.plan_base.specs.declared.parts.Parts.{Parts}
use Rattle.completions.specs.Completions.{ArePaths}
use Rattle.search_view.proofs.view.PoolView.new_design.Goals as goal

pub new_design-requires : goal.new_design-requires
new_design-requires c = subst (λ (p : Parts). ArePaths p c.in_ok-paths.paths) (sym (c.steps.ensures ∙ c.table.ensures.problem)) c.in_ok-paths.ensures
