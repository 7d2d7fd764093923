use Rattle.std.proofs.Common.{◌<◌, ◌≤◌, length, arith}
use Rattle.demand_worth.specs.declared.limits.TheConstants.{MAX_SURCHARGES}
use Rattle.demand_worth.proofs.Orders.{AreSurcharges-push, AreSurcharges-pushed}
use Rattle.demand_worth.proofs.surcharges.Surcharges.can_take.Goals as goal

pub returns-then-items-ge-MAX_SURCHARGES : goal.returns-then-items-ge-MAX_SURCHARGES
returns-then-items-ge-MAX_SURCHARGES c =
    (λ is. absurd (cc), λ are. absurd (omega (arith, (AreSurcharges-pushed c.args.self.now c.args.next.now are).0, c.as_slice-items.ensures.len, c.if-items-ge-MAX_SURCHARGES.true)))

pub returns-then-next-eq0 : goal.returns-then-next-eq0
returns-then-next-eq0 c =
    (λ is. absurd (cc), λ are. absurd (omega (arith, (AreSurcharges-pushed c.args.self.now c.args.next.now are).1, c.if-next-eq0.true)))

pub returns : goal.returns
returns c =
    let follows = rw c.as_slice-items.ensures.value at c.follows.ensures in
    let short : length c.args.self.now < MAX_SURCHARGES = omega (arith, c.as_slice-items.ensures.len, c.if-items-ge-MAX_SURCHARGES.false) in
    let positive : 1 ≤ c.args.next.now.number = omega (arith, c.if-next-eq0.false) in (
      λ is. AreSurcharges-push c.args.self.now c.args.next.now c.as_slice-items.ensures.lawful short positive (follows.0 is),
      λ are. follows.1 (AreSurcharges-pushed c.args.self.now c.args.next.now are).2,
    )
