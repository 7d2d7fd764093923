use Rattle.std.proofs.Common.{ap, sym, subst, ◌∙◌, length, Vec, Global, List, ◌+◌}
use Rattle.std.proofs.lemmas.Result.{IfOk-weaker}
use Rattle.block_deques.specs.declared.block.Block.{Block}
use Rattle.block_deques.specs.declared.reach.Reach.{Reach}
use Rattle.block_deques.specs.Making.{OwnerOf}
use Rattle.block_deques.specs.Gathers.{AreRowsOn, AreRuling, HaveGained, known_to, known_in_all}
use Rattle.block_deques.proofs.Totals.{rows_on, ruling, whole_again, together, each_once}
use Rattle.block_deques.proofs.gathering.gather_in_order.Goals as goal

pub absorb_rows-owners-requires-clause-rows : goal.absorb_rows-owners-requires-clause-rows
absorb_rows-owners-requires-clause-rows c =
    let parts = c.in_ok-owners.ensures in
    subst (λ (z : List OwnerOf × List (Vec Reach Global)). AreRowsOn z.0 z.1) (λ i. (sym parts.0 i, sym parts.1 i)) (rows_on c.args.decks.items c.requires)

pub absorb_rows-owners-requires-clause-ruling : goal.absorb_rows-owners-requires-clause-ruling
absorb_rows-owners-requires-clause-ruling c = subst AreRuling (sym c.in_ok-owners.ensures.0) (ruling c.args.decks.items)

pub drain_all-requires : goal.drain_all-requires
drain_all-requires c =
    let parts = c.in_ok-owners.ensures in
    let all = c.absorb_rows-owners.ensures in
    whole_again c.args.decks.items c.absorb_rows-owners.result.items c.requires (all.count ∙ ap length parts.0)
    (subst (λ (z : List OwnerOf × List (Vec Reach Global)). HaveGained (length z.1) z.0 c.absorb_rows-owners.result.items) (λ i. (parts.0 i, parts.1 i)) all.gained)

pub returns-clause-whole : goal.returns-clause-whole
returns-clause-whole c =
    let parts = c.in_ok-owners.ensures in
    let all = c.absorb_rows-owners.ensures in
    IfOk-weaker {X = Vec Block Global} _ _ _
    (λ left rest. together c.args.decks.items c.absorb_rows-owners.result.items left.items (all.count ∙ ap length parts.0)
    (subst (λ (z : List OwnerOf × List (Vec Reach Global)). HaveGained (length z.1) z.0 c.absorb_rows-owners.result.items) (λ i. (parts.0 i, parts.1 i)) all.gained)
    (λ h. all.known h ∙ ap (λ (z : List OwnerOf × List (Vec Reach Global)). known_to h z.0 + known_in_all h z.1) (λ i. (parts.0 i, parts.1 i)))
    rest)
    c.drain_all.ensures

pub returns-clause-once : goal.returns-clause-once
returns-clause-once c = each_once c.args.decks.items c.requires

pub returns-in_err-owners-clause-once : goal.returns-in_err-owners-clause-once
returns-in_err-owners-clause-once c = each_once c.args.decks.items c.requires
