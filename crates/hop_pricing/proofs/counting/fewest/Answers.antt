use Rattle.std.proofs.Common.{sym, subst, arith}
use Rattle.arc_restrict.specs.Rows.{forbids}
use Rattle.path_pricing.specs.Priced.{IsPriced, IsLeastPath}
use Rattle.arc_restrict.specs.Restrictions.{IsFewest}
use Rattle.hop_pricing.proofs.CountLaws.{few-arcs, IsFewest-ones}
use Rattle.hop_pricing.proofs.counting.fewest.Goals as goal

pub overflow_cast-result : goal.overflow_cast-result
overflow_cast-result c =
    let p = c.args.inst.now in
    let r = forbids c.args.restriction.now in
    let least : IsLeastPath p c.in_ok-ones.ones c.args.demand.0 r c.in-Path.path c.in-Path.length = subst (IsPriced p c.in_ok-ones.ones c.args.demand.0 r) c.in-Path.is c.in_ok-path.ensures.least in
    let few = few-arcs p c.args.demand.0 r c.in-Path.path c.lawful.ensures c.requires.demand least.permitted in
    omega (arith, few, c.as_slice.ensures.len)

pub returns-in-Path-clause-fewest : goal.returns-in-Path-clause-fewest
returns-in-Path-clause-fewest c =
    let p = c.args.inst.now in
    let r = forbids c.args.restriction.now in
    let least : IsLeastPath p c.in_ok-ones.ones c.args.demand.0 r c.in-Path.path c.in-Path.length = subst (IsPriced p c.in_ok-ones.ones c.args.demand.0 r) c.in-Path.is c.in_ok-path.ensures.least in
    subst (IsFewest p r c.args.demand.0) (sym c.as_slice.ensures.len)
    (IsFewest-ones p c.in_ok-ones.ones c.args.demand.0 r c.in-Path.path c.in-Path.length c.in_ok-ones.ensures.ones least)
