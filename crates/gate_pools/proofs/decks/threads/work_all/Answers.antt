use Rattle.std.proofs.Common.{◌≡◌, ◌∙◌, ap, sym, length, Vec, Global, rules}
use Rattle.std.proofs.lemmas.Option.{get_or_from_slice_get, slice_get_within}
use Rattle.block_deques.specs.declared.block.Block.{Block}
use Rattle.block_deques.specs.declared.deck.Deck.{Deck}
use Rattle.block_deques.specs.Decks.{deck_id}
use Rattle.gate_pools.proofs.Makings.{ids_alike, if_both}
use Rattle.gate_pools.proofs.decks.threads.work_all.Goals as goal

pub returns : goal.returns
returns g c = if_both {X = Vec (Deck × Vec Block Global) Global} c.map_vec.result _ _ _ c.map_vec.ensures.len c.map_vec.ensures.each
    (λ v long each.
    let same : length v.items ≡ length c.args.all.items = search rules in
    ids_alike v.items c.args.all.items same (λ k w d aw ad.
    let job = (each k w (slice_get_within c.args.all.items k d ad)).1 in
    ap (λ (z : Deck × Vec Block Global). deck_id z.0) (sym (get_or_from_slice_get v.items k w w aw))
    ∙ job.call.met
    ∙ ap deck_id (sym (job.job_is d) ∙ get_or_from_slice_get c.args.all.items k d d ad)))
