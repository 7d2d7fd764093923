use Rattle.std.proofs.Common.{arith, length, ◌≡◌, subst}
use Rattle.explicit_steps.proofs.Farthest.{IsMostOf, all_seen, one_more}
use Rattle.explicit_steps.proofs.reaches.reach_of.Goals as goal

pub returns : goal.returns
returns c =
    let all : c.loop-choice.choice-index ≡ length c.args.choices.now = omega arith in
    all_seen _ _ _ (subst (λ n. IsMostOf c.args.choices.now n c.loop-choice.most) all c.loop-choice.invariant)

pub loop-choice-preserved : goal.loop-choice-preserved
loop-choice-preserved c = one_more _ _ _ _ c.max-most.ensures (c.requires.capacities c.loop-choice.choice-index _ c.loop-choice-test.true) c.loop-choice.invariant
