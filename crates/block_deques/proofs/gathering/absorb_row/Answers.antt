use Rattle.std.proofs.Common.{◌≡◌, length, set, subst, sym, rules, []}
use Rattle.std.proofs.lemmas.List.{nil_from_length}
use Rattle.block_deques.proofs.Moves.{merges}
use Rattle.block_deques.proofs.Gains.{Absorbed, none_absorbed, one_absorbed, all_absorbed, sums_absorbed, next_rules, next_there, next_pass}
use Rattle.block_deques.proofs.gathering.absorb_row.Goals as goal

pub loop-reach-init : goal.loop-reach-init
loop-reach-init c = none_absorbed _ _ c.requires.row

pub absorb-requires-clause-table : goal.absorb-requires-clause-table
absorb-requires-clause-table c =
    let here : c.len-place.result ≡ length c.pop.new.self.items = search rules in
    let at = next_there _ _ _ _ _ c.in-Some.reach c.len-place.result c.index_mut.result.now c.in-Some.ensures.items here c.index_mut.ensures.value c.loop-reach.invariant in
    next_pass _ _ _ _ _ c.in-Some.reach _ c.in-Some.ensures.items at c.loop-reach.invariant

pub absorb-requires-clause-rule : goal.absorb-requires-clause-rule
absorb-requires-clause-rule c =
    let here : c.len-place.result ≡ length c.pop.new.self.items = search rules in
    let at = next_there _ _ _ _ _ c.in-Some.reach c.len-place.result c.index_mut.result.now c.in-Some.ensures.items here c.index_mut.ensures.value c.loop-reach.invariant in
    merges _ _ _ _ (next_rules _ _ _ _ _ c.in-Some.reach _ c.in-Some.ensures.items at c.requires.ruling c.loop-reach.invariant).2

pub loop-reach-preserved : goal.loop-reach-preserved
loop-reach-preserved c =
    let at = c.loop-reach in
    let here : c.len-place.result ≡ length c.pop.new.self.items = search rules in
    let there = next_there _ _ _ _ _ c.in-Some.reach c.len-place.result c.index_mut.result.now c.in-Some.ensures.items here c.index_mut.ensures.value at.invariant in
    subst (λ k. Absorbed c.args.owners.now.items (set at.owners.items k c.absorb.new.self) c.args.row.items c.pop.new.self.items) (sym here)
    (one_absorbed _ at.owners.items _ at.row.items c.pop.new.self.items c.in-Some.reach c.index_mut.result.now c.absorb.new.self c.in-Some.ensures.items there
    c.absorb.ensures.same.0.0 c.absorb.ensures.same.0.1 c.absorb.ensures.rule at.invariant)

pub returns-clause-gained : goal.returns-clause-gained
returns-clause-gained c =
    let none : c.loop-reach.row.items ≡ [] = nil_from_length _ (search rules) in
    all_absorbed _ _ _ (subst (λ rs. Absorbed c.args.owners.now.items c.loop-reach.owners.items c.args.row.items rs) none c.loop-reach.invariant)

pub returns-clause-known : goal.returns-clause-known
returns-clause-known c =
    let none : c.loop-reach.row.items ≡ [] = nil_from_length _ (search rules) in
    sums_absorbed _ _ _ (subst (λ rs. Absorbed c.args.owners.now.items c.loop-reach.owners.items c.args.row.items rs) none c.loop-reach.invariant)
