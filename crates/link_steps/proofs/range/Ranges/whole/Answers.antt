use Rattle.std.proofs.Common.{◌≡◌, ℕ, List, sym, subst, arith}
use Rattle.plan_base.specs.Places.{places}
use Rattle.link_steps.specs.declared.range.LoadRange.{LoadRange}
use Rattle.link_steps.specs.Ranges.{whole_before, whole_ranges, AreRanges}
use Rattle.link_steps.proofs.WholeRanges.{AreRanges-whole}
use Rattle.link_steps.proofs.range.Ranges.whole.Goals as goal

pub returns-clause-ranges : goal.returns-clause-ranges
returns-clause-ranges c =
    let all : c.loop-place.place ≡ places c.args.inst.now = omega (arith, c.loop-place-test.false, c.loop-place.auto.place-end, c.places-place-end.ensures.value) in
    let whole : c.loop-place.rows.items ≡ whole_ranges c.args.inst.now = subst (λ (n : ℕ). c.loop-place.rows.items ≡ whole_before c.args.inst.now n) all c.loop-place.invariant in
    subst (λ (rows : List LoadRange). AreRanges c.args.inst.now rows) (sym whole) (AreRanges-whole c.args.inst.now)
