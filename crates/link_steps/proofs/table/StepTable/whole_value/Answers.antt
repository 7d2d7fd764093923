use Rattle.std.proofs.Common.{◌≡◌, ◌-◌, ◌*◌, ap, ◌∙◌, arith, rules}
use Rattle.std.proofs.lemmas.Int.{to_z-of_z}
use mir.Syntax.{w128}
use mir.Val.{SFits}
use Rattle.plan_base.specs.declared.parts.Link.{Link}
use Rattle.plan_base.specs.Arcs.{link_at}
use Rattle.link_steps.proofs.BestEnds.{IsBestEnd-ends}
use Rattle.link_steps.proofs.Prices.{slopes-within, AreEndsOf-some, AreEndsOf-cheap, AreEndsOf-low}
use Rattle.link_steps.proofs.HullValue.{IsLoadAt, best_end-value, nothing-value}
use Rattle.link_steps.proofs.table.StepTable.whole_value.Goals as goal

pub best_end-end-requires-clause-some : goal.best_end-end-requires-clause-some
best_end-end-requires-clause-some c = AreEndsOf-some c.args.self.now (link_at c.args.self.now c.args.link.0) c.ends_of_link-ends.result.now c.ends_of_link-ends.ensures

pub best_end-end-requires-clause-corners : goal.best_end-end-requires-clause-corners
best_end-end-requires-clause-corners c = c.ends_of_link-ends.ensures.are_best.corners

pub value_of-requires-clause-cost : goal.value_of-requires-clause-cost
value_of-requires-clause-cost c =
    let is_end = c.best_end-end.ensures.is_end in
    rw is_end (AreEndsOf-cheap c.args.self.now (link_at c.args.self.now c.args.link.0) c.ends_of_link-ends.result.now c.best_end-end.ensures.place c.ends_of_link-ends.ensures c.best_end-end.ensures.within)

pub value_of-requires-clause-slope : goal.value_of-requires-clause-slope
value_of-requires-clause-slope c =
    let is_end = c.best_end-end.ensures.is_end in
    slopes-within c.args.self.now (link_at c.args.self.now c.args.link.0) c.args.price c.args.back c.saturating_sub-slope.result c.saturating_sub-back_slope.result c.best_end-end.result.load c.requires.price c.requires.back (omega arith) (omega arith)
    (rw is_end (AreEndsOf-low c.args.self.now (link_at c.args.self.now c.args.link.0) c.ends_of_link-ends.result.now c.best_end-end.ensures.place c.ends_of_link-ends.ensures c.best_end-end.ensures.within))

pub returns-then-whole-eq0 : goal.returns-then-whole-eq0
returns-then-whole-eq0 c =
    let p = c.args.self.now in
    let l = link_at p c.args.link.0 in
    let routing : c.from-routing.result ≡ l.routing = c.from-routing.ensures ∙ ap (λ (x : Link). x.routing) (rw c.self.view_is at c.link.ensures.value) in
    let is_slope : c.saturating_sub-slope.result ≡ c.args.price - 1000 * l.routing = omega (arith, c.saturating_sub-slope.ensures, routing) in
    let is_back : c.saturating_sub-back_slope.result ≡ c.args.back - 1000 * l.routing = omega (arith, c.saturating_sub-back_slope.ensures, routing) in
    let best = nothing-value p c.args.link.0 c.args.price c.args.back c.ends_of_link-ends.ensures.steps c.ends_of_link-ends.ensures.are_all c.requires.one_way (omega (arith, is_slope, is_back)) in
    record { value = best.value; loads = best.loads }

pub returns : goal.returns
returns c =
    let p = c.args.self.now in
    let l = link_at p c.args.link.0 in
    let routing : c.from-routing.result ≡ l.routing = c.from-routing.ensures ∙ ap (λ (x : Link). x.routing) (rw c.self.view_is at c.link.ensures.value) in
    let is_slope : c.saturating_sub-slope.result ≡ c.args.price - 1000 * l.routing = omega (arith, c.saturating_sub-slope.ensures, routing) in
    let is_back : c.saturating_sub-back_slope.result ≡ c.args.back - 1000 * l.routing = omega (arith, c.saturating_sub-back_slope.ensures, routing) in
    let at : IsLoadAt c.saturating_sub-slope.result c.best_end-end.result.load c.load_at_slope.result = record { sloping = c.load_at_slope.ensures.sloping; level = c.load_at_slope.ensures.level } in
    let at_back : IsLoadAt c.saturating_sub-back_slope.result c.best_end-end.result.load c.load_at_slope-2.result = record { sloping = c.load_at_slope-2.ensures.sloping; level = c.load_at_slope-2.ensures.level } in
    let fits : SFits w128 c.value_of.result = search rules in
    let best = best_end-value p c.args.link.0 c.args.price c.args.back c.ends_of_link-ends.ensures.steps c.ends_of_link-ends.ensures.are_all c.requires.one_way
    c.best_end-end.result c.load_at_slope.result c.load_at_slope-2.result
    (rw (is_slope, is_back) at (IsBestEnd-ends _ _ _ c.ends_of_link-ends.result.now c.best_end-end.result c.ends_of_link-ends.ensures.are_best c.best_end-end.ensures)) (rw is_slope at at) (rw is_back at at_back) in
    rw (to_z-of_z w128 c.value_of.result fits, c.value_of.ensures, is_slope, is_back) (record { value = best.value; loads = best.loads })
