use Rattle.std.proofs.Common.{◌≡◌, inl, inr, length, slice_index, arith}
use Rattle.link_steps.proofs.Order.{before_or_last}
use Rattle.master_step.specs.Trials.{HasValueLoads, AreValueLoads}
use Rattle.master_step.proofs.PlaceLaws.{values-low}
use Rattle.master_step.proofs.loads.fill_value_loads.Goals as goal

pub loop-number-preserved : goal.loop-number-preserved
loop-number-preserved c =
    let p = c.args.inst.now in
    let cuts = c.args.table.now.cuts in
    let n = c.loop-number.number in
    let numbers = c.args.prices.now in
    let ranges = c.args.ranges.now in
    let value = rw (c.requires.table, c.of_link-ranged.ensures.value) at c.link_value-found.ensures.value in
    let loads = rw (c.requires.table, c.of_link-ranged.ensures.value) at c.link_value-found.ensures.loads in
    let here : HasValueLoads p cuts ranges numbers n c.link_value-found.result.load c.link_value-found.result.back =
    record { value = c.link_value-found.result.value; is_value = value; are_first = loads } in
    record {
      size = c.put_loads.ensures.size;
      value = λ e below. elim (before_or_last e n below) [
        | inl old ↦ rw (c.put_loads.ensures.there_before e old, c.put_loads.ensures.back_before e old) (c.loop-number.invariant.value e old)
        | inr new ↦ rw (new, c.put_loads.ensures.there, c.put_loads.ensures.back, c.from.ensures, c.from-in-loop-number.ensures) here
      ];
    }

pub returns-clause-within : goal.returns-clause-within
returns-clause-within c =
    let p = c.args.inst.now in
    let all : c.loop-number.number ≡ length p.links = omega arith in
    let loads : AreValueLoads p c.args.table.now.cuts c.args.ranges.now c.args.prices.now (slice_index c.loop-number.loads) =
    rw all at c.loop-number.invariant.value in
    values-low p c.args.table.now.cuts c.args.ranges.now c.args.prices.now (slice_index c.loop-number.loads) c.requires.are_ranges loads
