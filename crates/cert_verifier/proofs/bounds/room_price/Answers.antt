use Rattle.std.proofs.Common.{◌≡◌, ℕ, ◌*◌, slice_index, ap, ◌∙◌, arith}
use Rattle.proof_tree.specs.Evidence.{room_at}
use Rattle.cert_verifier.proofs.Rooms.{first-le-room_price}
use Rattle.cert_verifier.proofs.bounds.room_price.Goals as goal

pub returns-in_err-checked_mul-clause-large : goal.returns-in_err-checked_mul-clause-large
returns-in_err-checked_mul-clause-large c =
    let price : ℕ = slice_index c.args.prices.now c.loop-place.place in
    let le = first-le-room_price c.args.inst.now c.args.ranges.now c.args.prices.now c.loop-place.place (omega arith) in
    let same : price * c.from-room.result ≡ price * room_at c.args.inst.now c.args.ranges.now c.loop-place.place = ap (λ (x : ℕ). price * x) (c.from-room.ensures ∙ c.room_at.ensures) in
    rw c.from_residual.ensures (omega (arith, le, same, c.in_err-checked_mul.ensures))

pub returns-in_err-total-clause-large : goal.returns-in_err-total-clause-large
returns-in_err-total-clause-large c =
    let price : ℕ = slice_index c.args.prices.now c.loop-place.place in
    let le = first-le-room_price c.args.inst.now c.args.ranges.now c.args.prices.now c.loop-place.place (omega arith) in
    let same : price * c.from-room.result ≡ price * room_at c.args.inst.now c.args.ranges.now c.loop-place.place = ap (λ (x : ℕ). price * x) (c.from-room.ensures ∙ c.room_at.ensures) in
    rw c.from_residual-in_err-total.ensures (omega (arith, le, same, c.in_ok-checked_mul.ensures, c.in_err-total.ensures, c.loop-place.invariant))
