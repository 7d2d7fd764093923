use Rattle.std.proofs.Common.{◌≡◌, ℕ, subst, ap, ◌∙◌, arith, length}
use Rattle.plan_base.specs.declared.parts.Link.{Link}
use Rattle.plan_base.specs.Arcs.{link_at}
use Rattle.link_steps.specs.Divisors.{IsCommonDivisor, IsDivisorBefore}
use Rattle.link_steps.proofs.DivisorLaws.{IsDivisorBefore-none, IsDivisorBefore-next}
use Rattle.link_steps.proofs.unit.routing_divisor.Goals as goal

pub loop-place-init : goal.loop-place-init
loop-place-init c = record { divisor = IsDivisorBefore-none (λ e. (link_at c.args.inst.now e).routing); within = omega arith }

pub loop-place-preserved : goal.loop-place-preserved
loop-place-preserved c =
    let routing : c.from.result ≡ (link_at c.args.inst.now c.loop-place.place).routing = c.from.ensures ∙ ap (λ (l : Link). l.routing) c.link.ensures.value in
    record {
      divisor = IsDivisorBefore-next (λ e. (link_at c.args.inst.now e).routing) c.loop-place.place c.loop-place.divisor c.common_divisor-divisor.result c.loop-place.invariant.divisor
          (subst (λ (n : ℕ). IsCommonDivisor c.loop-place.divisor n c.common_divisor-divisor.result) routing c.common_divisor-divisor.ensures.divisor);
      within = omega (arith, c.common_divisor-divisor.ensures.within, c.loop-place.invariant.within, c.from.ensures, c.link.ensures.lawful.routing);
    }

pub returns-clause-divisor : goal.returns-clause-divisor
returns-clause-divisor c =
    let all : c.loop-place.place ≡ length c.args.inst.now.links = omega (arith, c.loop-place-test.false, c.loop-place.auto.place-end, c.links-place-end.ensures.value) in
    subst (λ (n : ℕ). IsDivisorBefore (λ e. (link_at c.args.inst.now e).routing) n c.loop-place.divisor) all c.loop-place.invariant.divisor
