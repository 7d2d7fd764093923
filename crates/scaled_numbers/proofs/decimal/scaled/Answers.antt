use Rattle.std.proofs.Common.{◌+◌, ◌≤◌, sym, ◌∙◌, arith}
use Rattle.std.proofs.Math.Nat.{pow-le-pow_right}
use Rattle.scaled_numbers.proofs.Powers.{one-le-ten, unshift, lowers, raises}
use Rattle.scaled_numbers.proofs.decimal.scaled.Goals as goal

pub shift-requires-clause-limit : goal.shift-requires-clause-limit
shift-requires-clause-limit c = let small : 12 + c.args.scale ≤ 18 = omega arith in rw c.pow-limit.ensures (pow-le-pow_right (omega arith) small)

pub shift-requires-clause-some : goal.shift-requires-clause-some
shift-requires-clause-some c = rw c.pow-limit.ensures (one-le-ten (12 + c.args.scale))

pub shift-requires-else-scan-clause-limit : goal.shift-requires-else-scan-clause-limit
shift-requires-else-scan-clause-limit c = let small : 12 + c.args.scale ≤ 18 = omega arith in rw c.pow-limit.ensures (pow-le-pow_right (omega arith) small)

pub shift-requires-else-scan-clause-some : goal.shift-requires-else-scan-clause-some
shift-requires-else-scan-clause-some c = rw c.pow-limit.ensures (one-le-ten (12 + c.args.scale))

pub returns-then-scan : goal.returns-then-scan
returns-then-scan c = λ n r.
    rw (← c.pow-limit.ensures) (unshift _ r.digits.exact c.args.scan.digits.zeros _ _ _ _ r.digits.value
    (c.shift.ensures r.digits.exact _ _ r.digits.kept r.digits.last
    (rw c.from.ensures (lowers n.power c.args.scan.digits.zeros c.args.scale c.args.scan.places _ c.args.scan.power r.places c.requires.zeros c.requires.scale (sym r.negative ∙ c.if-scan.true) r.power))))

pub returns-else-scan : goal.returns-else-scan
returns-else-scan c = λ n r.
    rw (← c.pow-limit.ensures) (unshift _ r.digits.exact c.args.scan.digits.zeros _ _ _ _ r.digits.value
    (c.shift-else-scan.ensures r.digits.exact _ _ r.digits.kept r.digits.last
    (rw c.from.ensures (raises n.power c.args.scan.digits.zeros c.args.scale c.args.scan.places _ c.args.scan.power r.places c.requires.places (sym r.negative ∙ c.if-scan.false) r.power))))
