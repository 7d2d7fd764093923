use Rattle.std.proofs.Common.{ℕ, List, rules, sym, subst, ◌∙◌}
use Rattle.std.proofs.lemmas.Int.{to_z-of_z}
use mir.Syntax.{w128}
use mir.Val.{SFits}
use Rattle.plan_base.specs.declared.parts.Parts.{Parts}
use Rattle.cut_values.specs.Numbers.{CutProblem, AreNumbers}
use Rattle.link_steps.specs.Ranges.{AreRanges}
use Rattle.search_nodes.specs.Grounds.{Kept}
use Rattle.search_nodes.specs.SearchStates.{machine_state}
use Rattle.plan_of_search.specs.PlanParts.{region_in, IsBoundOrNone, IsLeafBound, IsLeafBoundOrNone}
use Rattle.plan_of_search.proofs.LeafBounds.{kept-is, read-ground, read-first, read-ranges, read-recorded, read-priced, if_ok-more}
use Rattle.plan_of_search.proofs.bounds.leaf_bound.Goals as goal

pub returns-in-Some-bound : goal.returns-in-Some-bound
returns-in-Some-bound c =
    let s = machine_state c.args.state.now in
    let fits : SFits w128 c.in-Some-bound.bound = search rules in
    subst (IsLeafBound s c.args.number) (sym (to_z-of_z w128 c.in-Some-bound.bound fits))
    (read-recorded s c.requires.assembled.reachable c.args.state.now.grounds.items c.requires.assembled.has_grounds c.args.number c.requires.number
    c.index.result.now c.index.ensures c.index-leaf.result.now c.index-leaf.ensures
    c.in-Some.plot.now (read-ground _ c.plot.result c.in-Some.plot c.index.result.now c.plot.ensures c.in-Some.is)
    c.in-Some-bound.bound (sym c.bound.ensures ∙ c.in-Some-bound.is))

pub bound_at-requires-clause-numbers : goal.bound_at-requires-clause-numbers
bound_at-requires-clause-numbers c =
    let s = machine_state c.args.state.now in
    subst (λ (p : Parts). AreNumbers p c.deref-2.result.now.cuts c.first_prices.result.now) (sym c.deref.ensures)
    (subst (λ (t : CutProblem). AreNumbers s.problem t.cuts c.first_prices.result.now) (sym c.deref-2.ensures)
    (subst (λ (ps : List ℕ). AreNumbers s.problem s.cuts ps) (sym c.first_prices.ensures)
    (read-first s c.requires.assembled.reachable c.args.state.now.grounds.items c.requires.assembled.has_grounds c.args.number c.requires.number
    c.index.result.now c.index.ensures c.index-leaf.result.now c.index-leaf.ensures)))

pub bound_at-requires-clause-ranges : goal.bound_at-requires-clause-ranges
bound_at-requires-clause-ranges c =
    let s = machine_state c.args.state.now in
    subst (λ (p : Parts). AreRanges p c.deref-4.result.now) (sym c.deref.ensures)
    (subst (AreRanges s.problem) (sym (c.deref-4.ensures ∙ c.ranges-2.ensures))
    (read-ranges s c.requires.assembled.reachable c.args.state.now.grounds.items c.requires.assembled.has_grounds c.args.number c.requires.number
    c.index.result.now c.index.ensures c.index-leaf.result.now c.index-leaf.ensures
    c.in-Some.plot.now (read-ground _ c.plot.result c.in-Some.plot c.index.result.now c.plot.ensures c.in-Some.is)))

pub returns : goal.returns
returns c =
    let s = machine_state c.args.state.now in
    let kept : Kept = record { rows = c.deref-3.result.now; ranges = c.deref-4.result.now } in
    if_ok-more (IsBoundOrNone c.deref.result.now c.deref-2.result.now.cuts (region_in kept) c.first_prices.result.now) (IsLeafBoundOrNone s c.args.number) c.bound_at.result
    (λ found is.
    read-priced s c.requires.assembled.reachable c.args.state.now.grounds.items c.requires.assembled.has_grounds c.args.number c.requires.number
    c.index.result.now c.index.ensures c.index-leaf.result.now c.index-leaf.ensures
    c.in-Some.plot.now (read-ground _ c.plot.result c.in-Some.plot c.index.result.now c.plot.ensures c.in-Some.is)
    found (sym c.bound.ensures ∙ c.in_default-bound.is)
    (subst (λ (p : Parts). IsBoundOrNone p s.cuts (region_in c.in-Some.plot.now) c.index-leaf.result.now.first_prices found) c.deref.ensures
    (subst (λ (t : CutProblem). IsBoundOrNone c.deref.result.now t.cuts (region_in c.in-Some.plot.now) c.index-leaf.result.now.first_prices found) c.deref-2.ensures
    (subst (λ (k : Kept). IsBoundOrNone c.deref.result.now c.deref-2.result.now.cuts (region_in k) c.index-leaf.result.now.first_prices found)
    (kept-is c.in-Some.plot.now kept (c.deref-3.ensures ∙ c.rows.ensures) (c.deref-4.ensures ∙ c.ranges-2.ensures))
    (subst (λ (ps : List ℕ). IsBoundOrNone c.deref.result.now c.deref-2.result.now.cuts (region_in kept) ps found) c.first_prices.ensures is)))))
    c.bound_at.ensures
