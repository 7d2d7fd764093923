use Rattle.std.proofs.Common.{◌≡◌, ◌*◌, length, sym, ap, ◌∙◌, arith}
use Rattle.std.proofs.lemmas.Result.{err_from_is_err_and}
use Rattle.plan_base.specs.First.{first_fault}
use Rattle.plan_base.proofs.FirstFault.{first_fault-next}
use Rattle.arc_restrict.specs.Rows.{forbids}
use Rattle.path_pricing.specs.Faults.{arc_id, leaving_fault}
use Rattle.path_pricing.proofs.FaultSteps.{leaving-here}
use Rattle.path_pricing.proofs.query.Query.check_closed.Goals as goal

pub returns-in_err-check_leaving : goal.returns-in_err-check_leaving
returns-in_err-check_leaving c =
    let failed = err_from_is_err_and c.from_residual.result c.from_residual.ensures.1 in
    rw (failed.1, failed.2) (sym (leaving-here c.args.self.now.inst.now c.args.self.now.demand.0 (forbids c.args.self.now.restriction.now) c.args.reached.now c.loop-number.number c.in_err-check_leaving.field-0.0 c.loop-number.invariant (sym c.in_err-check_leaving.ensures) (omega arith)))

pub loop-number-preserved : goal.loop-number-preserved
loop-number-preserved c =
    first_fault-next (λ n. leaving_fault c.args.self.now.inst.now c.args.self.now.demand.0 (forbids c.args.self.now.restriction.now) c.args.reached.now (arc_id n)) c.loop-number.number c.loop-number.invariant (sym c.in_ok-check_leaving.ensures)

pub returns : goal.returns
returns c =
    let all : c.loop-number.number ≡ 2 * length c.args.self.now.inst.now.links = omega arith in
    sym (ap (first_fault (λ n. leaving_fault c.args.self.now.inst.now c.args.self.now.demand.0 (forbids c.args.self.now.restriction.now) c.args.reached.now (arc_id n))) (sym all) ∙ c.loop-number.invariant)
