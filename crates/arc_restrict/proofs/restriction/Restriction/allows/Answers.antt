use Rattle.std.proofs.Common.{◌≡◌, ◌==◌, ◌%◌, ◌<◌, ◌-◌, not, false, ℕ, length, slice_index, ap, sym, ◌∙◌, arith}
use Rattle.std.specs.Int.{bit_at}
use Rattle.std.proofs.lemmas.List.{get_or_read}
use Rattle.arc_restrict.specs.Rows.{Rows, place_of, forbids}
use Rattle.arc_restrict.specs.contracts.restriction.Restriction.{the_view}
use Rattle.arc_restrict.proofs.RowLaws.{forbids-past_arcs, forbids-without_row, without_row-past, forbids-within, word_of, word_within}
use Rattle.arc_restrict.proofs.restriction.Restriction.allows.Goals as goal
use Rattle.arc_restrict.proofs.restriction.Restriction.allows.Goals.{then-demand-self-via-then-demand-self, then-demand-self-via-else-demand-self+then-arc-self}

pub returns-then-demand-self : goal.returns-then-demand-self
returns-then-demand-self c =
    let rows : Rows = the_view c.self.inside in
    let free : forbids rows c.args.demand.0 c.args.arc ≡ false = elim c.then-demand-self.branch [
      | then-demand-self-via-then-demand-self w ↦ forbids-without_row rows _ _ (without_row-past rows _ _ _ c.self.invariant w.if-demand-self.true)
      | then-demand-self-via-else-demand-self+then-arc-self w ↦ forbids-past_arcs rows _ _ w.if-arc-self.true
    ] in
    rw (← c.self.view_is) (sym (ap not free))

pub returns-in-0 : goal.returns-in-0
returns-in-0 c =
    let none : slice_index (the_view c.self.inside).row_of c.args.demand.0 ≡ 0 = ap (λ (rows : Rows). slice_index rows.row_of c.args.demand.0) c.self.view_is ∙ sym c.row_of.ensures.number ∙ c.in-0.is in
    rw (← c.self.view_is) (sym (ap not (forbids-without_row (the_view c.self.inside) c.args.demand.0 c.args.arc none)))

pub returns-in_default : goal.returns-in_default
returns-in_default c =
    let rows : Rows = the_view c.self.inside in
    let number : c.row_of.result ≡ slice_index rows.row_of c.args.demand.0 = c.row_of.ensures.number ∙ ap (λ (rows : Rows). slice_index rows.row_of c.args.demand.0) (sym c.self.view_is) in
    let has : 0 < slice_index rows.row_of c.args.demand.0 = omega (arith, number, c.in_default) in
    let place : c.place_of.result ≡ word_of rows c.args.demand.0 c.args.arc = c.place_of.ensures ∙ ap (λ (n : ℕ). place_of rows.arcs (n - 1) c.args.arc) number in
    let within : c.place_of.result < length rows.words = rw place (word_within rows _ _ c.self.invariant c.args.demand.0 c.args.arc has c.if-arc-self.false) in
    let word : c.index.result.now ≡ slice_index rows.words (word_of rows c.args.demand.0 c.args.arc) = get_or_read rows.words _ _ within c.index.ensures 0 ∙ ap (slice_index rows.words) place in
    let bit : c.has_bit.result ≡ forbids rows c.args.demand.0 c.args.arc =
    c.has_bit.ensures ∙ ap (λ (w : ℕ). bit_at w (c.args.arc.0 % 64) == 1) word ∙ sym (forbids-within rows c.args.demand.0 c.args.arc has c.if-arc-self.false) in
    rw (← c.self.view_is) (ap not bit)
