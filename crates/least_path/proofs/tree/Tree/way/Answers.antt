use Rattle.std.proofs.Common.{◌≡◌, ◌<◌, ◌+◌, ◌∙◌, sym, subst, arith, List}
use Rattle.std.specs.Option.{unwrap_or}
use Rattle.plan_base.specs.declared.ids.ArcId.{ArcId}
use Rattle.least_path.specs.declared.label.Label.{Label}
use Rattle.least_path.specs.Paths.{IsLeastPath}
use Rattle.least_path.specs.Labels.{label_at}
use Rattle.least_path.specs.Trees.{length_at}
use Rattle.least_path.proofs.NearestLaws.{some_same}
use Rattle.least_path.proofs.TreeLaws.{IsReadTo, tree_none, read_start, read_more, read_none, read_least}
use Rattle.least_path.proofs.tree.Tree.way.Goals as goal

pub returns-in_default-clause-none : goal.returns-in_default-clause-none
returns-in_default-clause-none c = λ ws s h. tree_none c.args.inst.now ws s c.args.node c.args.self.now h (sym c.label.ensures ∙ c.in_default.is)

pub loop-init : goal.loop-init
loop-init c = λ ws s last h is.
    let p = c.args.inst.now in
    let ls = c.args.self.now in
    let at = sym c.label.ensures ∙ c.in-Some.is in
    let same : last ≡ c.in-Some.last = some_same (label_at ls c.args.node.0) last c.in-Some.last is at in
    subst (λ (x : Label). IsReadTo p ls x c.in-Some.last c.in_ok-arcs.arcs.items 0) (sym same)
    (subst (λ (xs : List ArcId). IsReadTo p ls c.in-Some.last c.in-Some.last xs 0) (sym c.in_ok-arcs.ensures.items) (read_start p ls c.args.node.0 c.in-Some.last at))

pub returns-in_default-before-clause-none : goal.returns-in_default-before-clause-none
returns-in_default-before-clause-none c = λ ws s h arcs path.
    let read = c.loop.invariant ws s c.in-Some.last h (sym c.label.ensures ∙ c.in-Some.is) in
    read_none c.args.inst.now ws s c.args.self.now c.in-Some.last c.loop.here c.loop.arcs.items c.loop.counter h (omega arith) read (sym c.before-in-loop.ensures ∙ c.in_default-before.is)

pub loop-preserved : goal.loop-preserved
loop-preserved c = λ ws s last h is.
    let p = c.args.inst.now in
    let ls = c.args.self.now in
    let same : last ≡ c.in-Some.last = some_same (label_at ls c.args.node.0) last c.in-Some.last is (sym c.label.ensures ∙ c.in-Some.is) in
    let within : c.loop.counter < last.steps = subst (λ (x : Label). c.loop.counter < x.steps) (sym same) (omega arith) in
    subst (λ (xs : List ArcId). IsReadTo p ls last c.in-Some-before.before xs (c.loop.counter + 1)) (sym c.in_ok-push.ensures.items)
    (read_more p ws s ls last c.loop.here c.in-Some-before.before c.loop.arcs.items c.loop.counter h within (c.loop.invariant ws s last h is) (sym c.before-in-loop.ensures ∙ c.in-Some-before.is))

pub returns-clause-least : goal.returns-clause-least
returns-clause-least c = λ ws s h.
    let p = c.args.inst.now in
    let ls = c.args.self.now in
    let at = sym c.label.ensures ∙ c.in-Some.is in
    subst (λ (xs : List ArcId). IsLeastPath p ws s c.args.node xs (unwrap_or (length_at ls c.args.node.0) 0)) (sym (c.from_vec.ensures ∙ c.reverse.ensures.items))
    (read_least p ws s c.args.node ls c.in-Some.last c.loop.here c.loop.arcs.items c.loop.counter c.lawful.ensures h at (omega arith) (c.loop.invariant ws s c.in-Some.last h at))
