use Rattle.std.proofs.Common.{subst}
use Rattle.plan_base.specs.Facts.{IsInstance}
use Rattle.proof_tree.proofs.UnitLaws.{unit-positive}
use Rattle.plan_table.proofs.Stated.{cost_small, bound_below}
use Rattle.plan_table.proofs.claims.push_plan.Goals as goal

pub push_row-requires-clause-unit : goal.push_row-requires-clause-unit
push_row-requires-clause-unit c = unit-positive c.args.named.now.parts c.args.unit c.requires

pub push_row-requires-clause-small : goal.push_row-requires-clause-small
push_row-requires-clause-small c =
    rw c.plan-plan.ensures.value
    (cost_small c.args.named.now.parts c.args.named.now.plan (subst IsInstance c.inst.ensures.value c.lawful.ensures) c.plan-plan.ensures.valid)

pub push_row-requires-clause-below : goal.push_row-requires-clause-below
push_row-requires-clause-below c =
    rw c.plan-plan.ensures.value (bound_below c.args.named.now.parts c.args.named.now.plan c.args.unit c.plan-plan.ensures.valid c.requires)
