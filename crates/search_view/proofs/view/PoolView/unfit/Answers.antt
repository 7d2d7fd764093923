use Rattle.std.proofs.Common.{◌≡◌, false, true, Some, refl, sym, subst, ◌∙◌}
use Rattle.std.specs.Prelude.{IsSome, IfSome, slice_get}
use Rattle.arc_restrict.specs.Rows.{Rows, forbids}
use Rattle.search_machine.specs.State.{round_of, restriction_of}
use Rattle.search_machine.specs.Machine.{IsReachable}
use Rattle.search_view.proofs.Offers.{unfit-open, unfit-prices, unfit-is}
use Rattle.search_view.proofs.view.PoolView.unfit.Goals as goal

pub returns-in_default-restriction : goal.returns-in_default-restriction
returns-in_default-restriction c =
    let s = c.args.self.now in
    let id = c.args.offer.now.node in
    let is : round_of s id ≡ Some c.in-Some.round.now = sym c.in-Some.ensures in
    let reachable : IsReachable s = subst IsReachable c.self.view_is c.self.invariant.pool.reachable in
    let has : IsSome c.restriction.result = c.restriction.ensures.leaf.1 (unfit-open s id c.in-Some.round.now is reachable) in
    let bad : false ≡ true = rw c.in_default-restriction.is at has in
    absurd (cc)

pub fault_of-requires-clause-prices : goal.fault_of-requires-clause-prices
fault_of-requires-clause-prices c =
    let s = c.args.self.now in
    let id = c.args.offer.now.node in
    let is : round_of s id ≡ Some c.in-Some.round.now = sym c.in-Some.ensures in
    let reachable : IsReachable s = subst IsReachable c.self.view_is c.self.invariant.pool.reachable in
    unfit-prices s id c.in-Some.round.now is s.problem c.in-Some.round.now.prices reachable refl refl

pub returns : goal.returns
returns c =
    let s = c.args.self.now in
    let id = c.args.offer.now.node in
    let is : round_of s id ≡ Some c.in-Some.round.now = sym c.in-Some.ensures in
    let ground : IfSome (slice_get s.nodes id.0) (λ x. forbids c.deref.result.now ≡ restriction_of x) =
    subst (λ (rows : Rows). IfSome (slice_get s.nodes id.0) (λ x. forbids rows ≡ restriction_of x)) (sym c.deref.ensures) c.in-Some-restriction.ensures.value in
    c.fault_of.ensures ∙ unfit-is s id c.in-Some.round.now is (forbids c.deref.result.now) c.args.offer.now.demand.0 c.args.offer.now.found ground
