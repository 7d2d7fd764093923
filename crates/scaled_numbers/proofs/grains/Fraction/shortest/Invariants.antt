use Rattle.std.proofs.Common.{◌≡◌, ◌<◌, ◌≤◌, ◌^◌}
use Rattle.scaled_numbers.specs.Canonical.{fraction_digits}
use Rattle.scaled_numbers.proofs.grains.Fraction.shortest.Given as goal

abbrev pub invariant-loop-places : goal.invariant-loop-places
invariant-loop-places l = record {
  same : fraction_digits l.initial.places l.initial.digits ≡ fraction_digits l.places l.digits;
  within : l.places ≤ 12;
  fits : l.digits < 10 ^ l.places;
}

abbrev pub decreases-loop-places : goal.decreases-loop-places
decreases-loop-places l = l.places
