use Rattle.std.proofs.Common.{sym, ◌∙◌}
use Rattle.std.proofs.lemmas.Bool.{eqb-true}
use Rattle.link_steps.specs.Tallies.{worth}
use Rattle.link_steps.proofs.NetValues.{worth-empty, value-net, loads-net}
use Rattle.link_steps.proofs.RatedPrices.{IsWorthValue-bounded, IsWorthValue-not_above}
use Rattle.link_steps.proofs.table.StepTable.rated_value.Goals as goal

pub returns-then-is_empty-2-clause-value : goal.returns-then-is_empty-2-clause-value
returns-then-is_empty-2-clause-value c =
    value-net c.args.self.now c.args.link.0 c.args.ranges c.args.price c.args.back_price (worth c.args.price c.args.there.now) (worth c.args.back_price c.args.back.now)
    (worth-empty c.args.price c.args.there.now (eqb-true _ _ (sym c.is_empty.ensures ∙ c.if-is_empty.true))) (worth-empty c.args.back_price c.args.back.now (eqb-true _ _ (sym c.is_empty-then-is_empty.ensures ∙ c.if-is_empty-2.true)))
    c.link_value.result.value c.link_value.ensures.value

pub returns-then-is_empty-2-clause-loads : goal.returns-then-is_empty-2-clause-loads
returns-then-is_empty-2-clause-loads c =
    loads-net c.args.self.now c.args.link.0 c.args.ranges c.args.price c.args.back_price (worth c.args.price c.args.there.now) (worth c.args.back_price c.args.back.now)
    (worth-empty c.args.price c.args.there.now (eqb-true _ _ (sym c.is_empty.ensures ∙ c.if-is_empty.true))) (worth-empty c.args.back_price c.args.back.now (eqb-true _ _ (sym c.is_empty-then-is_empty.ensures ∙ c.if-is_empty-2.true)))
    c.link_value.result.value c.link_value.result.load c.link_value.result.back c.link_value.ensures.loads

pub returns-else-is_empty-clause-not_above : goal.returns-else-is_empty-clause-not_above
returns-else-is_empty-clause-not_above c =
    IsWorthValue-not_above c.args.self.now c.args.link.0 c.args.ranges c.args.price c.args.there.now c.args.back_price c.args.back.now c.ranged_rated_value.result.value c.requires.ranges c.ranged_rated_value.ensures.value
    c.steps_of_link-steps.result.now (rw c.self.view_is at c.lawful.ensures) c.requires.link c.steps_of_link-steps.ensures

pub returns-else-is_empty-clause-bounded : goal.returns-else-is_empty-clause-bounded
returns-else-is_empty-clause-bounded c =
    IsWorthValue-bounded c.args.self.now c.args.link.0 c.args.ranges c.args.price c.args.there.now c.args.back_price c.args.back.now c.ranged_rated_value.result.value c.requires.ranges c.ranged_rated_value.ensures.value
    c.requires.there c.requires.back
