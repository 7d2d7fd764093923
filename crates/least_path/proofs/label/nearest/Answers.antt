use Rattle.std.proofs.Common.{arith, refl, ◌≡◌, length, subst, ℕ}
use Rattle.least_path.proofs.NearestLaws.{found-more, found-all, IsFoundBelow}
use Rattle.least_path.proofs.label.nearest.Goals as goal

pub loop-place-preserved : goal.loop-place-preserved
loop-place-preserved c = rw c.nearer-found.ensures (found-more c.args.labels.now c.loop-place.place c.loop-place.found (record { 0 = c.loop-place.place }) _ refl refl c.loop-place.invariant)

pub returns : goal.returns
returns c =
    let end : c.loop-place.place ≡ length c.args.labels.now = omega arith in
    found-all c.args.labels.now c.loop-place.found (subst (λ (n : ℕ). IsFoundBelow c.args.labels.now n c.loop-place.found) end c.loop-place.invariant)
