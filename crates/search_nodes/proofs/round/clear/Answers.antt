use Rattle.std.proofs.Common.{◌<◌, ◌++◌, [], ◌∷◌, ℕ, length, replicate, None, add-one, arith, ap, ◌∙◌}
use Rattle.std.proofs.Math.Seq.{take-suc-set}
use Rattle.std.proofs.lemmas.List.{replicate-append-replicate}
use Rattle.search_nodes.proofs.round.clear.Goals as goal

pub loop-entry-preserved : goal.loop-entry-preserved
loop-entry-preserved c =
    let i = c.loop-entry.entry-index in
    let within : i < length c.loop-entry.entry-items = omega arith in
    rw add-one (take-suc-set c.loop-entry.entry-items i None within ∙ (ap (λ xs. xs ++ (None ∷ [])) c.loop-entry.invariant ∙ (replicate-append-replicate i 1 None ∙ ap (λ (n : ℕ). replicate n None) (add-one i))))
