use Rattle.std.proofs.Common.{◌≡◌, ◌<◌, ℕ, Vec, Global, slice_index, sym, subst, ◌∙◌, arith, rules}
use Rattle.std.proofs.lemmas.Int.{to_z-of_z}
use mir.Syntax.{w128}
use mir.Val.{SFits}
use Rattle.master_step.specs.declared.limits.TheConstants.{MAX_TRIALS}
use Rattle.master_step.specs.Trials.{widest_gap}
use Rattle.master_step.specs.Choosing.{allowed_of}
use Rattle.master_step.specs.Climbing.{IsBestOf}
use Rattle.master_step.proofs.Moves.{no_gap-no_trial, loads-same, moved-trial, positive-times}
use Rattle.master_step.proofs.Trying.{best-raise}
use Rattle.master_step.proofs.climbing.Master.climb.Goals as goal

pub returns-then-widest-eq0-clause-stalled : goal.returns-then-widest-eq0-clause-stalled
returns-then-widest-eq0-clause-stalled c =
    let p = c.args.self.now.inst.now in
    let cuts = c.args.self.now.table.now.cuts in
    let ranges = c.args.self.now.ranges.now in
    let choices = allowed_of c.args.self.now.source in
    let prices = c.args.self.now.prices.now in
    let fits : SFits w128 c.value_of-old.result = search rules in
    let none : widest_gap p (slice_index c.fill_loads.new.rows.column_loads.items) (slice_index c.fill_loads.new.rows.value_loads.items) ≡ 0 = sym c.widest_gap-widest.ensures.value ∙ c.if-widest-eq0.true in
    rw (to_z-of_z w128 c.value_of-old.result fits) (record {
      is_old = c.value_of-old.ensures;
      none_greater = λ j trial value within is_trial is. absurd (no_gap-no_trial p cuts ranges choices prices c.fill_loads.new.rows c.fill_loads.ensures.loads j trial none is_trial);
    })

pub set_trial-requires-clause-divisor : goal.set_trial-requires-clause-divisor
set_trial-requires-clause-divisor c =
    let some : 0 < c.widest_gap-widest.result = omega (arith, c.if-widest-eq0.false) in
    subst (λ (d : ℕ). 0 < d) (sym c.in-Some.ensures.best.divisor) (positive-times c.widest_gap-widest.result c.in-Some.ensures.best.j some)

pub returns-in-Some-clause-raised : goal.returns-in-Some-clause-raised
returns-in-Some-clause-raised c =
    let p = c.args.self.now.inst.now in
    let cuts = c.args.self.now.table.now.cuts in
    let ranges = c.args.self.now.ranges.now in
    let choices = allowed_of c.args.self.now.source in
    let prices = c.args.self.now.prices.now in
    let rows = c.best_trial.new.rows in
    let best = c.in-Some.ensures in
    let fits : SFits w128 c.value_of-old.result = search rules in
    let value_fits : SFits w128 c.in-Some.best.value = search rules in
    let some : 0 < c.widest_gap-widest.result = omega (arith, c.if-widest-eq0.false) in
    let loads = loads-same p cuts ranges choices prices c.fill_loads.new.rows rows best.columns best.values c.fill_loads.ensures.loads in
    let widest : c.widest_gap-widest.result ≡ widest_gap p (slice_index rows.column_loads.items) (slice_index rows.value_loads.items) =
    subst (λ (v : Vec ℕ Global). c.widest_gap-widest.result ≡ widest_gap p (slice_index rows.column_loads.items) (slice_index v.items)) (sym best.values)
    (subst (λ (v : Vec ℕ Global). c.widest_gap-widest.result ≡ widest_gap p (slice_index v.items) (slice_index c.fill_loads.new.rows.value_loads.items)) (sym best.columns) c.widest_gap-widest.ensures.value) in
    let is_best : IsBestOf p cuts ranges choices prices c.value_of-old.result c.widest_gap-widest.result MAX_TRIALS c.in-Some.best = rw (to_z-of_z w128 c.value_of-old.result fits) at best.best in
    let is_trial = moved-trial p cuts ranges choices prices rows loads c.greatest_price-greatest.result c.widest_gap-widest.result c.in-Some.best.divisor is_best.j c.set_trial.new.rows.trial c.greatest_price-greatest.ensures.value widest some is_best.divisor c.set_trial.ensures.trial in
    rw (to_z-of_z w128 c.value_of-old.result fits, to_z-of_z w128 c.in-Some.best.value value_fits)
    (best-raise p cuts ranges choices prices c.value_of-old.result c.widest_gap-widest.result c.in-Some.best c.set_trial.new.rows.trial c.value_of-old.ensures is_best is_trial)
