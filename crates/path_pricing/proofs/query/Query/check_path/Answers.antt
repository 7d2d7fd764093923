use Rattle.std.proofs.Common.{◌≡◌, length, refl, arith}
use Rattle.std.proofs.lemmas.Result.{err_from_is_err_and}
use Rattle.arc_restrict.specs.Rows.{forbids}
use Rattle.path_pricing.proofs.WalkEnds.{walk-short, walk-places, prices-small, path_fault-walk, path_fault-rest}
use Rattle.path_pricing.proofs.query.Query.check_path.Goals as goal

pub check_walk-requires-clause-source : goal.check_walk-requires-clause-source
check_walk-requires-clause-source c = c.demand-demand.ensures.lawful.source

pub returns-in_err-check_walk : goal.returns-in_err-check_walk
returns-in_err-check_walk c =
    let failed = err_from_is_err_and c.from_residual.result c.from_residual.ensures.1 in
    rw (failed.1, failed.2) (path_fault-walk c.args.self.now.inst.now c.args.self.now.prices.now c.args.self.now.demand.0 (forbids c.args.self.now.restriction.now)
    c.args.arcs.now c.args.price c.args.potentials.now c.demand-demand.result.now c.in_err-check_walk.field-0.0 c.demand-demand.ensures.value c.in_err-check_walk.ensures)

pub check_length-requires-clause-short : goal.check_length-requires-clause-short
check_length-requires-clause-short c =
    walk-short c.args.self.now.inst.now c.demand-demand.result.now (forbids c.args.self.now.restriction.now c.args.self.now.demand.0) c.args.arcs.now c.requires.lawful c.demand-demand.ensures.lawful.source c.in_ok-check_walk.ensures

pub check_length-requires-clause-places : goal.check_length-requires-clause-places
check_length-requires-clause-places c =
    walk-places c.args.self.now.inst.now c.demand-demand.result.now (forbids c.args.self.now.restriction.now c.args.self.now.demand.0) c.args.arcs.now c.args.self.now.prices.now c.requires.prices c.in_ok-check_walk.ensures

pub check_length-requires-clause-small : goal.check_length-requires-clause-small
check_length-requires-clause-small c = prices-small c.args.self.now.inst.now c.args.self.now.prices.now c.requires.prices

pub returns-in_err-check_rises : goal.returns-in_err-check_rises
returns-in_err-check_rises c =
    let failed = err_from_is_err_and c.from_residual-in_err-check_rises.result c.from_residual-in_err-check_rises.ensures.1 in
    let count : length c.args.potentials.now ≡ c.args.self.now.inst.now.nodes = omega arith in
    rw (
      failed.1,
      failed.2,
      path_fault-rest c.args.self.now.inst.now c.args.self.now.prices.now c.args.self.now.demand.0 (forbids c.args.self.now.restriction.now)
          c.args.arcs.now c.args.price c.args.potentials.now c.demand-demand.result.now c.demand-demand.ensures.value c.in_ok-check_walk.ensures count,
      ← c.in_err-check_rises.ensures,
    )
    refl

pub returns : goal.returns
returns c =
    let count : length c.args.potentials.now ≡ c.args.self.now.inst.now.nodes = omega arith in
    rw (
      path_fault-rest c.args.self.now.inst.now c.args.self.now.prices.now c.args.self.now.demand.0 (forbids c.args.self.now.restriction.now)
          c.args.arcs.now c.args.price c.args.potentials.now c.demand-demand.result.now c.demand-demand.ensures.value c.in_ok-check_walk.ensures count,
      ← c.in_ok-check_rises.ensures,
    )
    c.check_length.ensures
