use Rattle.std.proofs.Common.{◌≡◌, ◌<◌, ◌+◌, ◌-◌, length, sym, subst, arith}
use Rattle.std.proofs.lemmas.List.{get_or_default}
use Rattle.plan_base.specs.Arcs.{no_arc}
use Rattle.second_path.specs.Searching.{IsBackTo}
use Rattle.second_path.proofs.Routes.{back_start, back_more, back_whole}
use Rattle.second_path.proofs.route.route_to.Goals as goal

pub loop-place-init : goal.loop-place-init
loop-place-init c = (
  omega arith,
  λ takes first start are_arcs tree before. rw c.new-picked.ensures.items (back_start c.args.inst.now takes first start c.args.target c.args.arrivals.now (length c.args.arrivals.now) before),
)

pub loop-place-preserved : goal.loop-place-preserved
loop-place-preserved c =
    let arcs = c.args.arrivals.now in
    let i = c.loop-place.place - 1 in
    let back : i + 1 ≡ c.loop-place.place = omega (arith, c.loop-place-test.true) in
    let within : i < length arcs = omega (arith, c.loop-place-test.true, c.loop-place.invariant.0) in (
      omega (arith, within),
      λ takes first start are_arcs tree before.
          back_more c.args.inst.now takes first start c.args.target arcs i _ c.loop-place.want _ c.loop-place.picked.items _ are_arcs tree within (get_or_default arcs i _ no_arc within)
          (subst (λ n. IsBackTo c.args.inst.now takes first start c.args.target arcs n c.loop-place.want c.loop-place.picked.items) (sym back) (c.loop-place.invariant.1 takes first start are_arcs tree before))
          c.in_ok-want.ensures,
    )

pub returns : goal.returns
returns c = λ takes first start are_arcs tree before.
    let none : c.loop-place.place ≡ 0 = omega (arith, c.loop-place-test.false) in
    let back = c.loop-place.invariant.1 takes first start are_arcs tree before in
    rw c.reverse.ensures.items (back_whole c.args.inst.now takes first start c.args.target c.args.arrivals.now c.loop-place.want c.loop-place.picked.items
    (subst (λ n. IsBackTo c.args.inst.now takes first start c.args.target c.args.arrivals.now n c.loop-place.want c.loop-place.picked.items) none back))
