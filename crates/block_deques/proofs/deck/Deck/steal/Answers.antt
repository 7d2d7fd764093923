use Rattle.std.proofs.Common.{rules, subst, sym, ap, List}
use Rattle.block_deques.specs.Hands.{IsRising}
use Rattle.block_deques.specs.Decks.{DeckId, DequeId, FoundEmpty}
use Rattle.crossbeam_deque.specs.Handles.{worker_deque}
use Rattle.block_deques.proofs.Steals.{moved, same_deques, taken_now, others_stay, one_stolen, none_stolen, if_some, if_none}
use Rattle.block_deques.proofs.deck.Deck.steal.Goals as goal

pub returns-clause-same : goal.returns-clause-same
returns-clause-same g c =
    let m = moved c.args.self.now.reaches.items c.args.victim c.index_mut.result.now c.steal.new.self c.requires.victim (search rules) c.steal.ensures.same in
    let deck : List DequeId → DeckId = λ all. record { number = c.args.self.now.number; own = worker_deque c.args.self.now.worker; all = all } in
    ap deck (same_deques _ _ _ _ m)

pub returns-clause-stolen : goal.returns-clause-stolen
returns-clause-stolen g c =
    let m = moved c.args.self.now.reaches.items c.args.victim c.index_mut.result.now c.steal.new.self c.requires.victim (search rules) c.steal.ensures.same in
    if_some _ _ _ _ c.steal.ensures.taken (λ x took. one_stolen _ _ _ _ x m took)

pub returns-clause-none : goal.returns-clause-none
returns-clause-none g c =
    let m = moved c.args.self.now.reaches.items c.args.victim c.index_mut.result.now c.steal.new.self c.requires.victim (search rules) c.steal.ensures.same in
    if_none _ _ _ _ c.steal.ensures.taken (λ is. none_stolen _ _ _ _ m is.0)

pub returns-clause-empty : goal.returns-clause-empty
returns-clause-empty g c =
    let m = moved c.args.self.now.reaches.items c.args.victim c.index_mut.result.now c.steal.new.self c.requires.victim (search rules) c.steal.ensures.same in
    if_none _ _ (FoundEmpty c.args.self.now c.args.victim) _ c.steal.ensures.taken (λ is. (c.index_mut.result.now, m.at, is.1))

pub returns-clause-rising : goal.returns-clause-rising
returns-clause-rising g c =
    let m = moved c.args.self.now.reaches.items c.args.victim c.index_mut.result.now c.steal.new.self c.requires.victim (search rules) c.steal.ensures.same in
    if_some _ _ _ _ c.steal.ensures.taken (λ x took. subst IsRising (sym (taken_now _ _ _ _ m)) took.1)

pub returns-clause-others : goal.returns-clause-others
returns-clause-others g c =
    let m = moved c.args.self.now.reaches.items c.args.victim c.index_mut.result.now c.steal.new.self c.requires.victim (search rules) c.steal.ensures.same in
    others_stay _ _ _ _ m
