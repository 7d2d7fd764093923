use Rattle.std.proofs.Common.{◌≡◌, ◌∙◌, length, take, ap, arith}
use Rattle.std.proofs.lemmas.List.{length-take-le}
use Rattle.link_steps.specs.Tallies.{no_rated}
use Rattle.cut_values.proofs.UsedRates.{used-few, used-more, used-less}
use Rattle.cut_values.proofs.rated_rows.put_used.Goals.{then-rate-gt0, else-rate-gt0}
use Rattle.cut_values.proofs.rated_rows.put_used.Goals as goal

pub add-requires : goal.add-requires
add-requires c =
    let few = used-few c.args.rates.now (take c.loop-crossing.crossing-index c.args.row.now) in
    let taken : length (take c.loop-crossing.crossing-index c.args.row.now) ≡ c.loop-crossing.crossing-index = length-take-le c.loop-crossing.crossing-index c.args.row.now (omega (arith, c.loop-crossing-test.true)) in
    omega (arith, ap length c.loop-crossing.invariant, few, taken, c.requires.few, c.loop-crossing-test.true)

pub loop-crossing-preserved : goal.loop-crossing-preserved
loop-crossing-preserved c = elim c.if-rate-gt0.branch [
  | then-rate-gt0 w ↦
      w.list-is
      ∙ (w.add.ensures ∙ used-more c.args.rates.now c.args.row.now c.loop-crossing.crossing-index (record { number = 0; batch = no_rated.batch }) c.loop-crossing.list c.loop-crossing-test.true w.if-rate-gt0.true c.loop-crossing.invariant)
  | else-rate-gt0 w ↦
      w.list-is ∙ used-less c.args.rates.now c.args.row.now c.loop-crossing.crossing-index (record { number = 0; batch = no_rated.batch }) c.loop-crossing.list c.loop-crossing-test.true w.if-rate-gt0.false c.loop-crossing.invariant
]
