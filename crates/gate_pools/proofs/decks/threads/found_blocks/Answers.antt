use Rattle.std.proofs.Common.{ap, ◌∙◌, map}
use Rattle.block_deques.specs.Decks.{deck_id}
use Rattle.gate_pools.proofs.Makings.{in_turn, stay_one_making}
use Rattle.gate_pools.proofs.decks.threads.found_blocks.Goals as goal

pub gather_decks-requires : goal.gather_decks-requires
gather_decks-requires g c = in_turn _ (stay_one_making c.in_ok-all.all.items c.in_ok-all-2.all.items (ap (map deck_id) c.in_ok-all-2.ensures ∙ c.in_ok-worked.ensures) c.in_ok-all.ensures.making)
