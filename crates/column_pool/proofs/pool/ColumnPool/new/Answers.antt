use Rattle.std.proofs.Common.{◌≡◌, ℕ, List, [], ◌∷◌, ◌++◌, length, replicate, ap, ◌∙◌, arith}
use Rattle.std.proofs.lemmas.List.{replicate_more}
use Rattle.plan_base.specs.declared.ids.ArcId.{ArcId}
use Rattle.column_pool.specs.Columns.{Columns}
use Rattle.column_pool.proofs.pool.ColumnPool.new.Goals as goal

pub loop-demand-preserved : goal.loop-demand-preserved
loop-demand-preserved c =
    c.in_ok-push.ensures.items ∙ ap (λ (rows : Columns). rows ++ c.new.result ∷ []) c.loop-demand.invariant
    ∙ ap (λ (row : List (List ArcId)). replicate c.loop-demand._demand [] ++ row ∷ []) c.new.ensures ∙ replicate_more c.loop-demand._demand []

pub returns : goal.returns
returns c =
    let all : c.loop-demand._demand ≡ length c.args.inst.now.demands = omega arith in
    c.loop-demand.invariant ∙ ap (λ (n : ℕ). replicate {A = List (List ArcId)} n []) all
