use Rattle.std.proofs.Common.{◌-◌, ◌≡◌, ◌<◌, length, arith}
use Rattle.std.proofs.lemmas.Bool.Decides.{nat_tests}
use Rattle.demand_worth.specs.Surcharges.{surcharge_at, comes_before}
use Rattle.demand_worth.proofs.Orders.{follows-last}
use Rattle.demand_worth.proofs.surcharges.follows.Goals as goal

pub returns-else-is_empty : goal.returns-else-is_empty
returns-else-is_empty c =
    let is : c.comes_before.result ≡ comes_before (surcharge_at c.args.list.now (length c.args.list.now - 1)) c.args.next.now = c.comes_before.ensures in
    let some : 0 < length c.args.list.now = grind (arith, nat_tests) in (
      λ true_. follows-last c.args.list.now c.args.next.now c.requires (rw is at true_),
      λ all. rw is (all (length c.args.list.now - 1) (omega (arith, some))),
    )
