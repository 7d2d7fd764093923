use Rattle.std.proofs.Common.{◌≡◌, ◌+◌, ◌-◌, ◌≤◌, ◌<◌, ℕ, List, Vec, Global, length, slice_index, set, get_or, sym, ap, subst, ◌∙◌, arith}
use Rattle.std.proofs.lemmas.List.{get_or_read, get_or-set_other, length-set}
use Rattle.plan_base.specs.Places.{places}
use Rattle.cut_values.specs.Numbers.{least_price_at, most_price_at, AreMovedWithin, IsPriceWithin}
use Rattle.cut_values.proofs.MovedPrices.{here-within, moved-numbers}
use Rattle.master_step.specs.Trials.{moved}
use Rattle.master_step.proofs.MovedNumbers.{moved-within}
use Rattle.master_step.proofs.PlaceLoads.{row-next}
use Rattle.master_step.proofs.gaps.set_trial.Goals as goal

pub loop-place-preserved : goal.loop-place-preserved
loop-place-preserved c =
    let p = c.args.inst.now in
    let cuts = c.args.table.now.cuts in
    let place = c.loop-place.place in
    let here : place < places p = omega (arith, c.loop-place-test.true, c.places-place-end.ensures.value) in
    let columns : c.index-columns.result.now ≡ slice_index c.args.rows.now.column_loads.items place =
    get_or_read c.args.rows.now.column_loads.items place c.index-columns.result.now (omega (arith, here, c.requires.room.columns, c.places-place-end.ensures.within))
    (subst (λ (v : Vec ℕ Global). c.index-columns.result.now ≡ get_or v.items place c.index-columns.result.now) c.loop-place.invariant.columns c.index-columns.ensures) 0 in
    let values : c.index-value.result.now ≡ slice_index c.args.rows.now.value_loads.items place =
    get_or_read c.args.rows.now.value_loads.items place c.index-value.result.now (omega (arith, here, c.requires.room.values, c.places-place-end.ensures.within))
    (subst (λ (v : Vec ℕ Global). c.index-value.result.now ≡ get_or v.items place c.index-value.result.now) c.loop-place.invariant.values c.index-value.ensures) 0 in
    let within : place < length c.loop-place.rows.trial = omega (arith, here, c.loop-place.invariant.count) in
    let price = c.trial_price-price.result in
    let low = least_price_at p cuts c.args.prices.now in
    let high = most_price_at p cuts c.args.prices.now in
    let value : price ≡ moved (low place) (high place) c.args.greatest c.args.divisor (slice_index c.args.rows.now.column_loads.items place) (slice_index c.args.rows.now.value_loads.items place) (slice_index c.args.prices.now place) =
    c.trial_price-price.ensures
    ∙ ap (λ (x : ℕ). moved (low place) (high place) c.args.greatest c.args.divisor x c.index-value.result.now (slice_index c.args.prices.now place)) columns
    ∙ ap (λ (x : ℕ). moved (low place) (high place) c.args.greatest c.args.divisor (slice_index c.args.rows.now.column_loads.items place) x (slice_index c.args.prices.now place)) values in
    record {
      columns = c.loop-place.invariant.columns;
      values = c.loop-place.invariant.values;
      count = ap length c.put.ensures ∙ length-set c.loop-place.rows.trial place price ∙ c.loop-place.invariant.count;
      each = λ q below. subst (λ (xs : List ℕ). slice_index xs q ≡ moved (low q) (high q) c.args.greatest c.args.divisor (slice_index c.args.rows.now.column_loads.items q) (slice_index c.args.rows.now.value_loads.items q) (slice_index c.args.prices.now q)) (sym c.put.ensures)
          (row-next (λ i x. x ≡ moved (low i) (high i) c.args.greatest c.args.divisor (slice_index c.args.rows.now.column_loads.items i) (slice_index c.args.rows.now.value_loads.items i) (slice_index c.args.prices.now i))
          c.loop-place.rows.trial place price within c.loop-place.invariant.each value q below);
      rest = λ i behind. subst (λ (xs : List ℕ). slice_index xs i ≡ slice_index c.args.prices.now i) (sym c.put.ensures)
          (get_or-set_other c.loop-place.rows.trial place i price 0 (λ same. absurd (omega (arith, same, behind))) ∙ c.loop-place.invariant.rest i (omega (arith, behind)));
    }

pub returns-clause-trial : goal.returns-clause-trial
returns-clause-trial c =
    let p = c.args.inst.now in
    let cuts = c.args.table.now.cuts in
    let numbers = c.args.prices.now in
    let all : places p ≤ c.loop-place.place = omega (arith, c.loop-place-test.false, c.places-place-end.ensures.value) in
    let rates : (i : ℕ) → i < length cuts → slice_index c.loop-place.rows.trial (places p + i) ≡ slice_index numbers (places p + i) = λ i few. c.loop-place.invariant.rest (places p + i) (omega (arith, c.loop-place.auto.place-end, c.places-place-end.ensures.value)) in
    let moves : AreMovedWithin p cuts numbers c.loop-place.rows.trial = record {
      count = c.loop-place.invariant.count ∙ sym c.requires.numbers.count;
      prices = λ q below. subst (IsPriceWithin p cuts numbers q) (sym (c.loop-place.invariant.each q (omega (arith, below, all)))) (moved-within p cuts numbers q _ _ _ _ (here-within p cuts numbers q c.requires.numbers below));
      rates = rates;
    } in
    record {
      are_numbers = moved-numbers p cuts numbers c.loop-place.rows.trial c.requires.numbers moves;
      each = λ q below. c.loop-place.invariant.each q (omega (arith, below, all));
      rates = rates;
    }
