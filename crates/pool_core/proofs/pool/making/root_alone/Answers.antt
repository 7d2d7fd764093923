use Rattle.std.proofs.Common.{◌≡◌, ◌∷◌, [], ap, ◌∙◌, rules}
use Rattle.search_machine.specs.State.{Node}
use Rattle.search_machine.specs.Machine.{root_with}
use Rattle.pool_core.proofs.pool.making.root_alone.Goals as goal

pub returns : goal.returns
returns c =
    let root : c.in_ok-root.root ≡ root_with c.args.prices = search rules in
    c.in_ok-nodes.ensures.items ∙ ap (λ (x : Node). x ∷ []) root
