use Rattle.std.proofs.Common.{◌≡◌, ◌-◌, ℕ, suc, Some, ap, subst, ◌∙◌, arith}
use Rattle.plan_base.specs.Arcs.{demand_at}
use Rattle.verifier_paths.specs.Labels.{open_arcs}
use Rattle.verifier_paths.proofs.LeastPrices.{open_are_arcs}
use Rattle.verifier_paths.proofs.StepsBack.{IsBack, has_step, back-end}
use Rattle.verifier_paths.proofs.uniqueness.arcs_back.Goals as goal

pub returns-in-None : goal.returns-in-None
returns-in-None c =
    let p = c.args.ways.now.inst.now in
    let takes = open_arcs c.args.ways.now in
    let k = c.args.ways.now.demand.0 in
    let left = c.loop-left.left in
    let next : left ≡ suc (left - 1) = omega (arith, c.loop-left-test.true) in
    let back = has_step p takes (demand_at p k).source.0 c.loop-left.here.0 (left - 1) c.args.labels.now c.requires.lawful (open_are_arcs c.args.ways.now) c.loop-left.invariant.inside c.requires.labels
    (c.loop-left.invariant.steps ∙ ap (λ n. Some n) next) in
    let none = rw c.in-None.is at c.step_back.ensures in
    absurd (none back.arc back.is)

pub returns : goal.returns
returns c =
    let p = c.args.ways.now.inst.now in
    let k = c.args.ways.now.demand.0 in
    let takes = open_arcs c.args.ways.now in
    let end : c.loop-left.left ≡ 0 = omega (arith, c.loop-left-test.false) in
    back-end p takes c.args.labels.now k c.args.target c.loop-left.here.0 c.loop-left.arcs.items (open_are_arcs c.args.ways.now) c.requires.labels c.requires.target
    (subst (λ (n : ℕ). IsBack p takes c.args.labels.now c.args.target.0 n c.loop-left.here.0 c.loop-left.arcs.items) end c.loop-left.invariant)
