use Rattle.std.proofs.Common.{◌≡◌, ◌*◌, ◌+◌, ◌^◌, ℕ, Vec, Global, length, slice_index, sym, ap, subst, ◌∙◌, arith, rules}
use Rattle.std.specs.Prelude.{ℤ}
use Rattle.std.proofs.lemmas.Int.{to_z-of_z}
use mir.Syntax.{w128}
use mir.Val.{SFits, to_z, of_z}
use Rattle.master_step.specs.declared.limits.TheConstants.{MAX_TRIALS}
use Rattle.plan_base.specs.Places.{places}
use Rattle.master_step.specs.Trials.{widest_gap}
use Rattle.master_step.specs.Choosing.{allowed_of}
use Rattle.master_step.specs.Climbing.{better_of, AreTried}
use Rattle.master_step.proofs.Moves.{doubled-fits, doubled, loads-same, room-same, moved-trial}
use Rattle.master_step.proofs.Trying.{tried-next}
use Rattle.master_step.proofs.climbing.Master.best_trial.Goals as goal

pub overflow_mul-divisor : goal.overflow_mul-divisor
overflow_mul-divisor c = rw c.loop-trial.invariant.divisor (omega (arith, doubled-fits c.args.widest c.loop-trial._trial c.requires.narrow c.loop-trial-test.true))

pub loop-trial-preserved : goal.loop-trial-preserved
loop-trial-preserved c =
    let p = c.args.self.now.inst.now in
    let cuts = c.args.self.now.table.now.cuts in
    let ranges = c.args.self.now.ranges.now in
    let choices = allowed_of c.args.self.now.source in
    let prices = c.args.self.now.prices.now in
    let rows = c.loop-trial.rows in
    let j = c.loop-trial._trial in
    let before = c.loop-trial.invariant in
    let step = c.try_one-value in
    let fits : SFits w128 c.args.old = c.ranges.old in
    let value_fits : SFits w128 step.result = search rules in
    let loads = loads-same p cuts ranges choices prices c.args.rows.now rows before.columns before.values c.requires.loads in
    let widest : c.args.widest ≡ widest_gap p (slice_index rows.column_loads.items) (slice_index rows.value_loads.items) =
    subst (λ (v : Vec ℕ Global). c.args.widest ≡ widest_gap p (slice_index rows.column_loads.items) (slice_index v.items)) (sym before.values)
    (subst (λ (v : Vec ℕ Global). c.args.widest ≡ widest_gap p (slice_index v.items) (slice_index c.args.rows.now.value_loads.items)) (sym before.columns) c.requires.widest) in
    let trial = moved-trial p cuts ranges choices prices rows loads c.args.greatest c.args.widest c.loop-trial.divisor j step.new.rows.trial c.requires.greatest widest c.requires.some_gap before.divisor step.ensures.trial in
    let held : AreTried p cuts ranges choices prices c.args.old c.args.widest j c.loop-trial.best = rw (to_z-of_z w128 c.args.old fits) at before.tried in
    let tried = tried-next p cuts ranges choices prices c.args.old c.args.widest j step.new.rows.trial step.result trial step.ensures.value c.loop-trial.best held in
    let better : c.better-best.result ≡ better_of c.args.old c.loop-trial.best (record { divisor = c.args.widest * 2 ^ j; value = step.result }) =
    c.better-best.ensures
    ∙ ap (λ (x : ℤ). better_of x c.loop-trial.best (record { divisor = c.loop-trial.divisor; value = to_z w128 (of_z w128 step.result) })) (to_z-of_z w128 c.args.old fits)
    ∙ ap (λ (x : ℤ). better_of c.args.old c.loop-trial.best (record { divisor = c.loop-trial.divisor; value = x })) (to_z-of_z w128 step.result value_fits)
    ∙ ap (λ (d : ℕ). better_of c.args.old c.loop-trial.best (record { divisor = d; value = step.result })) before.divisor in
    record {
      tried = rw (to_z-of_z w128 c.args.old fits) (subst (AreTried p cuts ranges choices prices c.args.old c.args.widest (j + 1)) (sym better) tried);
      divisor = ap (λ (d : ℕ). d * 2) before.divisor ∙ doubled c.args.widest j;
      columns = step.ensures.columns ∙ before.columns;
      values = step.ensures.values ∙ before.values;
      room = room-same (places p + length cuts) rows step.new.rows step.ensures.columns step.ensures.values step.ensures.trial.are_numbers.count before.room;
    }

pub returns-clause-best : goal.returns-clause-best
returns-clause-best c =
    let fits : SFits w128 c.args.old = c.ranges.old in
    let all : c.loop-trial._trial ≡ MAX_TRIALS = omega (arith, c.loop-trial.auto._trial-end, c.loop-trial-test.false) in
    subst (λ (n : ℕ). AreTried c.args.self.now.inst.now c.args.self.now.table.now.cuts c.args.self.now.ranges.now (allowed_of c.args.self.now.source) c.args.self.now.prices.now c.args.old c.args.widest n c.loop-trial.best) all
    (rw (to_z-of_z w128 c.args.old fits) at c.loop-trial.invariant.tried)
