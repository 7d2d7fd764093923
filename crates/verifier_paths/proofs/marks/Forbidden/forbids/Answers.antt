use Rattle.std.proofs.Common.{◌≡◌, ◌*◌, ◌+◌, false, sym, ◌∙◌, arith}
use Rattle.std.proofs.lemmas.List.{get_or_read}
use Rattle.verifier_paths.specs.Kept.{Marks}
use Rattle.verifier_paths.proofs.MarkLaws.{past_demands, past_arcs, within_rows, mark_within}
use Rattle.verifier_paths.proofs.marks.Forbidden.forbids.Goals as goal

pub returns-then-demand-self : goal.returns-then-demand-self
returns-then-demand-self c = grind (arith, past_demands, past_arcs)

pub returns : goal.returns
returns c =
    let rows : Marks = record { demands = c.self.inside.demands; arcs = c.self.inside.arcs; marks = c.self.inside.marks.items } in
    let place : c.place_of.result ≡ c.args.demand.0 * c.self.inside.arcs + c.args.arc.0 = rw (← c.self.view_is) at c.place_of.ensures.value in
    let mark = get_or_read c.self.inside.marks.items _ _ (rw place (mark_within _ _ _ _ _ c.self.invariant c.if-demand-self.false c.if-arc-self.false)) c.index.ensures false in
    record { value = rw (← c.self.view_is) ((rw place at mark) ∙ sym (within_rows rows c.args.demand.0 c.args.arc c.if-demand-self.false c.if-arc-self.false)) }
