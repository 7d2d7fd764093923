use Rattle.std.proofs.Common.{rules, ◌≡◌, ◌<◌, length, get_or, ap, subst, ◌∙◌, ◌∷◌, ◌++◌, [], arith, List}
use Rattle.plan_base.specs.declared.ids.ArcId.{ArcId}
use Rattle.arc_restrict.specs.Rows.{forbids}
use Rattle.arc_restrict.specs.Restrictions.{IsPermitted}
use Rattle.column_pool.specs.Columns.{columns_at}
use Rattle.column_pool.proofs.AddedColumns.{kept_next, skipped_next}
use Rattle.column_pool.proofs.pool.ColumnPool.permitted.Goals as goal
use Rattle.column_pool.proofs.pool.ColumnPool.permitted.Goals.{then-permits+in_ok-copy+in_ok-push, else-permits}

pub loop-path-preserved : goal.loop-path-preserved
loop-path-preserved c =
    let columns : List (List ArcId) = columns_at c.args.self.now c.args.demand.0 in
    let within : c.loop-path.path-index < length columns = omega (arith, c.columns-path-items.ensures.len, ap length c.columns-path-items.ensures.value) in
    let read : c.path-item.result ≡ get_or columns c.loop-path.path-index c.path-item.result =
    subst (λ (xs : List (List ArcId)). c.path-item.result ≡ get_or xs c.loop-path.path-index c.path-item.result) c.columns-path-items.ensures.value c.path-item.is in
    elim c.if-permits.branch [
      | then-permits+in_ok-copy+in_ok-push w ↦
          (let permitted : IsPermitted (forbids c.args.restriction.now) c.args.demand.0 c.path-item.result = search rules in
          ap (λ v. v.items) w.paths-is ∙ w.in_ok-push.ensures.items
          ∙ ap (λ (x : List ArcId). c.loop-path.paths.items ++ x ∷ []) w.in_ok-copy.ensures
          ∙ kept_next (forbids c.args.restriction.now) c.args.demand.0 columns c.loop-path.paths.items c.loop-path.path-index c.path-item.result within read c.loop-path.invariant permitted)
      | else-permits w ↦
          ap (λ v. v.items) w.paths-is ∙ skipped_next (forbids c.args.restriction.now) c.args.demand.0 columns c.loop-path.paths.items c.loop-path.path-index c.path-item.result within read c.loop-path.invariant (λ permitted. let told = c.permits.ensures.1 permitted in absurd (cc))
    ]
