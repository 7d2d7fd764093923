use Rattle.std.proofs.Common.{◌≢◌, refl, sym}
use Rattle.std.proofs.lemmas.Bool.{not-true, eqb-false}
use Rattle.std.proofs.lemmas.Slice.Zip.{zip_turn, zip_end}
use Rattle.plan_base.specs.Arcs.{no_arc}
use Rattle.arc_restrict.proofs.PartingLaws.{part_at, same_from_fronts}
use Rattle.arc_restrict.proofs.parting.divergence.Goals as goal

pub returns-then-ne-clause-parts : goal.returns-then-ne-clause-parts
returns-then-ne-clause-parts c =
    let turn = zip_turn c.args.first.now c.args.second.now c.loop-one.yielded c.into_iter-one-iterator.result c.loop-one.one-iterator c.next.new.self c.next.result (cc) (cc) c.loop-one.yielded_by (c.in-Some.one, c.in-Some.other) c.in-Some.is c.next.ensures.steps in
    let differ : c.in-Some.one.now.0 ≢ c.in-Some.other.now.0 = eqb-false _ _ (not-true _ (sym c.if-ne.ensures)) in
    part_at _ _ _ _ _ _ _ c.requires c.loop-one.invariant turn.0 turn.1 (turn.2 no_arc) (turn.3 no_arc) differ (cc)

pub returns-clause-none : goal.returns-clause-none
returns-clause-none c =
    let end = zip_end c.args.first.now c.args.second.now c.loop-one.yielded c.into_iter-one-iterator.result c.loop-one.one-iterator c.next.new.self c.next.result (cc) (cc) c.loop-one.yielded_by c.in-None.is c.next.ensures.steps in
    (λ _. same_from_fronts _ _ _ _ c.requires end c.loop-one.invariant, λ _. refl)
