use Rattle.std.proofs.Common.{◌*◌, ◌+◌, ◌≤◌, length, List, Bool, refl, subst, sym}
use Rattle.verifier_paths.specs.Kept.{Marks, AreClear}
use Rattle.verifier_paths.proofs.MarkLaws.{past_demands, row_within, unrestricted_row, clear_row}
use Rattle.verifier_paths.proofs.marks.Forbidden.is_unrestricted.Goals as goal

pub returns-then-demand-self : goal.returns-then-demand-self
returns-then-demand-self c =
    let rows : Marks = record { demands = c.self.inside.demands; arcs = c.self.inside.arcs; marks = c.self.inside.marks.items } in
    rw (← c.self.view_is) ((λ _ a. past_demands rows c.args.demand.0 a c.if-demand-self.true), (λ _. refl))

pub are_clear-requires : goal.are_clear-requires
are_clear-requires c =
    let within = row_within c.self.inside.demands c.self.inside.arcs c.args.demand.0 c.self.inside.marks.items c.self.invariant c.if-demand-self.false in
    subst (λ (marks : List Bool). c.args.demand.0 * c.self.inside.arcs + c.self.inside.arcs ≤ length marks) (sym c.deref.ensures.value) within

pub returns : goal.returns
returns c =
    let rows : Marks = record { demands = c.self.inside.demands; arcs = c.self.inside.arcs; marks = c.self.inside.marks.items } in
    let k = c.args.demand.0 in
    let tells = c.are_clear.ensures in
    rw (← c.self.view_is) (
      (λ yes. unrestricted_row rows k c.if-demand-self.false (subst (λ (marks : List Bool). AreClear marks (k * rows.arcs) rows.arcs) c.deref.ensures.value (tells.0 yes))),
      (λ free. tells.1 (subst (λ (marks : List Bool). AreClear marks (k * rows.arcs) rows.arcs) (sym c.deref.ensures.value) (clear_row rows k c.if-demand-self.false free))),
    )
