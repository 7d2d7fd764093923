use Rattle.explicit_steps.proofs.Farthest.{IsMostOf}
use Rattle.explicit_steps.proofs.reaches.reach_of.Given as goal

-- the greatest capacity so far
abbrev pub invariant-loop-choice : goal.invariant-loop-choice
invariant-loop-choice l = IsMostOf l.choices l.choice-index l.most
