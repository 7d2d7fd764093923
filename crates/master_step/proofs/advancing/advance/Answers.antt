use Rattle.std.proofs.Common.{length, refl, sym, ap, subst, ◌∙◌}
use Rattle.std.specs.Prelude.{IfOk}
use Rattle.column_pool.specs.Columns.{Columns, columns_at}
use Rattle.column_pool.specs.Briefs.{AreAllPaths}
use Rattle.master_step.specs.Columns.{Choices, HasColumns}
use Rattle.master_step.specs.Outcomes.{IsStepOf}
use Rattle.master_step.proofs.Looking.{lists-allowed, lists-source}
use Rattle.master_step.proofs.advancing.advance.Goals as goal

pub raise-requires : goal.raise-requires
raise-requires c =
    let node = c.args.node.now in
    let p = node.table.now.problem in
    let lists = c.as_slice-lists.result in
    let has : HasColumns p (columns_at lists.now) = rw c.instance-inst.ensures.inst at c.in_default.ensures.none in
    rw c.instance-inst.ensures.inst (record {
      table = refl;
      are_numbers = node.brief_fits.are_numbers;
      are_ranges = node.brief_fits.are_ranges;
      source = lists-source p lists (c.as_slice-lists.ensures.len ∙ node.brief_fits.list_count)
          (subst (λ (columns : Columns). AreAllPaths p columns (length p.demands)) (sym c.as_slice-lists.ensures.value) node.brief_fits.paths);
      columns = subst (HasColumns p) (sym (lists-allowed lists)) has;
    })

pub returns : goal.returns
returns c =
    let p = c.args.node.now.table.now.problem in
    let raised = rw c.instance-inst.ensures.inst at c.raise.ensures in
    subst (λ (choices : Choices). IfOk c.raise.result (IsStepOf p c.args.node.now.table.now.cuts c.args.node.now.brief.now.ranges choices c.args.node.now.brief.now.prices))
    (lists-allowed c.as_slice-lists.result ∙ ap columns_at c.as_slice-lists.ensures.value) raised
