use Rattle.std.proofs.Common.{◌≡◌, ◌*◌, length, sym, ap, ◌∙◌, arith}
use Rattle.std.proofs.lemmas.Result.{err_from_is_err_and}
use Rattle.plan_base.specs.First.{first_fault}
use Rattle.arc_restrict.specs.Rows.{forbids}
use Rattle.path_pricing.specs.Faults.{arc_id, dearer_fault}
use Rattle.path_pricing.proofs.FaultSteps.{first_fault-here_two, first_fault-next_two}
use Rattle.path_pricing.proofs.query.Query.check_rises.Goals as goal

pub returns-in_err-check_link : goal.returns-in_err-check_link
returns-in_err-check_link c =
    let failed = err_from_is_err_and c.from_residual.result c.from_residual.ensures.1 in
    rw (failed.1, failed.2)
    (sym (first_fault-here_two (λ n. dearer_fault c.args.self.now.inst.now c.args.self.now.prices.now c.args.self.now.demand.0 (forbids c.args.self.now.restriction.now) c.args.potentials.now (arc_id n))
    c.in_err-check_link.field-0.0 c.loop-number.number (length c.args.self.now.inst.now.links) c.loop-number.invariant (sym c.in_err-check_link.ensures) (omega arith)))

pub loop-number-preserved : goal.loop-number-preserved
loop-number-preserved c =
    first_fault-next_two (λ n. dearer_fault c.args.self.now.inst.now c.args.self.now.prices.now c.args.self.now.demand.0 (forbids c.args.self.now.restriction.now) c.args.potentials.now (arc_id n))
    c.loop-number.number c.loop-number.invariant (sym c.in_ok-check_link.ensures)

pub returns : goal.returns
returns c =
    let all : c.loop-number.number ≡ length c.args.self.now.inst.now.links = omega arith in
    sym (ap (λ (n : _). first_fault (λ i. dearer_fault c.args.self.now.inst.now c.args.self.now.prices.now c.args.self.now.demand.0 (forbids c.args.self.now.restriction.now) c.args.potentials.now (arc_id i)) (2 * n)) (sym all) ∙ c.loop-number.invariant)
