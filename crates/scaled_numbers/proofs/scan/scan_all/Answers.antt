use Rattle.std.proofs.Common.{refl, sym, ◌∙◌, arith}
use Rattle.scaled_numbers.specs.Scanning.{run, nothing}
use Rattle.scaled_numbers.proofs.Keeping.{misfits, goes_on, ends_early, ends_well}
use Rattle.scaled_numbers.proofs.scan.scan_all.Goals as goal

pub returns-in_default-clause-misfit : goal.returns-in_default-clause-misfit
returns-in_default-clause-misfit c = misfits c.args.text.now c.loop-i.i c.loop-i.scan _ c.loop-i-test.true c.loop-i.invariant.at c.of-glyph.ensures (sym c.after.ensures ∙ c.in_default.is)

pub loop-i-init : goal.loop-i-init
unfolding run
loop-i-init c = record {
  at = (nothing, refl, record { digits = c.none.ensures.holds; places = refl; power = refl; negative = refl });
  zeros = omega arith;
  places = omega arith;
  power = omega arith;
}

pub loop-i-preserved : goal.loop-i-preserved
loop-i-preserved c = record {
  at = goes_on c.args.text.now c.loop-i.i c.loop-i.scan _ c.in-Some.stage c.keep-scan.result c.loop-i-test.true c.loop-i.invariant.at c.of-glyph.ensures (sym c.after.ensures ∙ c.in-Some.is) c.keep-scan.ensures.stage c.keep-scan.ensures.sees;
  zeros = omega arith;
  places = omega arith;
  power = omega arith;
}

pub returns-then-not-may_end-clause-misfit : goal.returns-then-not-may_end-clause-misfit
returns-then-not-may_end-clause-misfit c = ends_early c.args.text.now c.loop-i.i c.loop-i.scan c.loop-i-test.false c.loop-i.invariant.at (sym c.may_end.ensures ∙ c.if-not-may_end.true)

pub returns-clause-spells : goal.returns-clause-spells
returns-clause-spells c = ends_well c.args.text.now c.loop-i.i c.loop-i.scan c.loop-i-test.false c.loop-i.invariant.at (sym c.may_end.ensures ∙ c.if-not-may_end.false)
