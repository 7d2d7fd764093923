use Rattle.std.proofs.Common.{[], ◌∷◌, subst, sym}
use Rattle.std.proofs.lemmas.List.Sorted.{IsPermutation-append_comm}
use Rattle.block_deques.specs.Wholes.{AreAllDecks}
use Rattle.gate_pools.proofs.decks.turns.gather_two.Goals as goal

pub gather_decks-requires : goal.gather_decks-requires
gather_decks-requires c =
    let zero = c.args.zero ∷ [] in
    let one = c.args.one ∷ [] in
    subst AreAllDecks (sym c.in_ok-all.ensures.items) (record { ordered = c.args.zero ∷ c.args.one ∷ []; same = IsPermutation-append_comm zero one; making = c.requires })
