use Rattle.std.proofs.Common.{ℕ, max, Option, List, IfSome, IfNone, subst, arith}
use Rattle.plan_base.specs.Arcs.{link_at}
use Rattle.plan_base.specs.Designs.{AreCountsInShape}
use Rattle.link_steps.specs.Costs.{CannotCarry, AreLeastCounts}
use Rattle.completions.proofs.CompletionLaws.{link-completed}
use Rattle.completions.proofs.completing.complete_link.Goals as goal

pub returns-in_default-clause-none : goal.returns-in_default-clause-none
returns-in_default-clause-none c = rw c.need-need.ensures at c.in_default.ensures.none

pub returns-clause-some : goal.returns-clause-some
returns-clause-some c =
    let e = c.args.link.0 in
    let there = c.args.loads.there in
    let back = c.args.loads.back in
    let counts = c.in-Some-2.counts in
    let p = c.args.table.now in
    let counted = subst (λ (found : Option (List ℕ)). IfSome found (AreLeastCounts p e (max there back))) c.in-Some-2.is (rw c.need-need.ensures at c.in_ok-counts.ensures.least) in
    let in_shape = subst (λ (found : Option (List ℕ)). IfSome found (AreCountsInShape (link_at p e))) c.in-Some-2.is c.in_ok-counts.ensures.in_shape in
    link-completed p e there back c.routing_cost.result c.in-Some.modules counts (rw c.instance-inst.ensures.inst at c.routing_cost.ensures.value)
    (rw c.need-need.ensures at c.in-Some.ensures.least) counted in_shape

pub returns-clause-within : goal.returns-clause-within
returns-clause-within c = omega (arith, c.routing_cost.ensures.within, c.in-Some.ensures.within)

pub at-requires-clause-load : goal.at-requires-clause-load
at-requires-clause-load c = rw c.need-need.ensures c.requires.need

pub counts-requires-clause-load : goal.counts-requires-clause-load
counts-requires-clause-load c = rw c.need-need.ensures c.requires.need

pub returns-in_default-2-clause-none : goal.returns-in_default-2-clause-none
returns-in_default-2-clause-none c =
    subst (λ (found : Option (List ℕ)). IfNone found (CannotCarry c.args.table.now c.args.link.0 (max c.args.loads.there c.args.loads.back))) c.in_default-2.is (rw c.need-need.ensures at c.in_ok-counts.ensures.none)
