use Rattle.link_steps.proofs.Prices.{IsLinkValue-bounded, IsLinkValue-not_above}
use Rattle.link_steps.proofs.HullValue.{best-within}
use Rattle.link_steps.proofs.table.StepTable.link_value.Goals as goal

pub returns-then-are_within : goal.returns-then-are_within
returns-then-are_within c =
    let p = c.args.self.now in
    let e = c.args.link.0 in
    let found = c.whole_value-whole.result in
    let best = best-within p e c.args.ranges c.args.price c.args.back c.requires.ranges found (c.are_within.ensures.there c.if-are_within.true) (c.are_within.ensures.back c.if-are_within.true)
    (record { value = c.whole_value-whole.ensures.value; loads = c.whole_value-whole.ensures.loads }) in
    record {
      value = best.value;
      loads = best.loads;
      not_above = IsLinkValue-not_above p e c.args.ranges c.args.price c.args.back c.steps_of_link-steps.result.now found.value (rw c.self.view_is at c.lawful.ensures) c.requires.link c.steps_of_link-steps.ensures c.requires.ranges best.value;
      bounded = IsLinkValue-bounded p e c.args.ranges c.args.price c.args.back found.value c.requires.ranges c.requires.price c.requires.back best.value;
    }

pub returns-else-are_within-clause-not_above : goal.returns-else-are_within-clause-not_above
returns-else-are_within-clause-not_above c =
    IsLinkValue-not_above c.args.self.now c.args.link.0 c.args.ranges c.args.price c.args.back c.steps_of_link-steps.result.now c.ranged_value.result.value (rw c.self.view_is at c.lawful.ensures) c.requires.link
    c.steps_of_link-steps.ensures c.requires.ranges c.ranged_value.ensures.value

pub returns-else-are_within-clause-bounded : goal.returns-else-are_within-clause-bounded
returns-else-are_within-clause-bounded c =
    IsLinkValue-bounded c.args.self.now c.args.link.0 c.args.ranges c.args.price c.args.back c.ranged_value.result.value c.requires.ranges c.requires.price c.requires.back c.ranged_value.ensures.value
