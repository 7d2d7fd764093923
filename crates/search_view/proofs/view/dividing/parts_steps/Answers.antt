use Rattle.std.proofs.Common.{ℕ, ◌<◌, ◌↔◌, length, refl, sym, subst}
use Rattle.std.specs.Prelude.{IsTrue}
use Rattle.plan_base.specs.declared.parts.Parts.{Parts}
use Rattle.plan_base.specs.Facts.{IsInstance, total_load}
use Rattle.plan_base.specs.Places.{link_of_place}
use Rattle.link_steps.specs.Costs.{IsStepEnd}
use Rattle.search_view.proofs.Dividings.{load-within, end-parts, no_split-parts}
use Rattle.search_view.proofs.view.dividing.parts_steps.Goals as goal

pub is_step_end-requires-clause-lawful : goal.is_step_end-requires-clause-lawful
is_step_end-requires-clause-lawful c = subst IsInstance (sym c.requires.table) c.lawful.ensures

pub is_step_end-requires-clause-link : goal.is_step_end-requires-clause-link
is_step_end-requires-clause-link c = subst (λ (p : Parts). c.link_of_place.result.0 < length p.links) (sym c.requires.table) c.link_of_place.ensures.within

pub is_step_end-requires-clause-load : goal.is_step_end-requires-clause-load
is_step_end-requires-clause-load c =
    subst (λ (p : Parts). c.args.split.load < total_load p) (sym c.requires.table)
    (load-within c.args.inst.now c.args.ranges.now c.args.split.place c.args.split.load c.requires.ranges (c.if-is_load_split.ensures.0 refl))

pub returns-then-is_load_split : goal.returns-then-is_load_split
returns-then-is_load_split c =
    let ends : IsTrue c.is_step_end.result ↔ IsStepEnd c.args.inst.now (link_of_place c.args.inst.now c.args.split.place) c.args.split.load =
    subst (λ (p : Parts). IsTrue c.is_step_end.result ↔ IsStepEnd p (link_of_place c.args.inst.now c.args.split.place) c.args.split.load) c.requires.table
    (subst (λ (e : ℕ). IsTrue c.is_step_end.result ↔ IsStepEnd c.args.table.now e c.args.split.load) c.link_of_place.ensures.value c.is_step_end.ensures) in
    end-parts c.args.inst.now c.args.ranges.now c.args.split c.is_step_end.result (c.if-is_load_split.ensures.0 refl) ends

pub returns : goal.returns
returns c = no_split-parts c.args.inst.now c.args.ranges.now c.args.split c.if-is_load_split.ensures
