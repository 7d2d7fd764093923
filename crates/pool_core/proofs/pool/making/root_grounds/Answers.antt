use Rattle.std.proofs.Common.{◌∷◌, [], List, Option, Some, ap, ap₂, ◌∙◌}
use Rattle.link_steps.specs.declared.range.LoadRange.{LoadRange}
use Rattle.arc_restrict.specs.Rows.{Rows}
use Rattle.search_nodes.specs.Grounds.{Kept}
use Rattle.pool_core.proofs.pool.making.root_grounds.Goals as goal

pub returns : goal.returns
returns c =
    let keep : Rows → List LoadRange → Option Kept = λ rows ranges. Some (record { rows = rows; ranges = ranges }) in
    record {
      kept = record { rows = c.in_ok-none.none; ranges = c.in_ok-whole.whole };
      is_ground = c.in_ok-grounds.ensures.items ∙ ap (λ (o : Option Kept). o ∷ []) (c.of.ensures ∙ ap₂ keep c.in_ok-rows.ensures.ok c.in_ok-ranges.ensures.ok);
      is_whole = record { forbidden = c.in_ok-none.ensures.empty; size = c.in_ok-none.ensures.size; ranges = c.in_ok-whole.ensures.value };
    }
