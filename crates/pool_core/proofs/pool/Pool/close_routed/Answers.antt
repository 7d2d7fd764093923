use Rattle.std.proofs.Common.{◌≡◌, ℕ, Option, sym, subst}
use Rattle.std.specs.Prelude.{IfNone}
use Rattle.plan_base.specs.declared.parts.Parts.{Parts}
use Rattle.plan_base.specs.declared.path.Design.{Design}
use Rattle.completions.specs.Completions.{ArePaths, HasOverfull}
use Rattle.search_machine.specs.Examining.{ClosesOverfull, ClosesRouted}
use Rattle.search_machine.specs.Machine.{IsReachable}
use Rattle.pool_core.proofs.Routings.{carry-overfull}
use Rattle.pool_core.proofs.ReadTables.{steps-problem}
use Rattle.pool_core.proofs.RoutedPool.{paths-are, overfull-closes, overfull-reachable, routed-closes, routed-reachable}
use Rattle.pool_core.proofs.pool.Pool.close_routed.Goals as goal

pub close-requires-clause-event : goal.close-requires-clause-event
close-requires-clause-event c =
    overfull-reachable c.args.self.now c.args.node c.args.paths c.requires c.in-Some.link c.in-Some.ensures.some (subst IsReachable c.self.view_is c.self.invariant.kept.pool.reachable)

pub returns-in-Some-clause-event : goal.returns-in-Some-clause-event
returns-in-Some-clause-event c =
    subst (ClosesOverfull c.args.self.now c.args.node) (sym c.close.ensures) (overfull-closes c.args.self.now c.args.node c.args.paths c.requires c.in-Some.link c.in-Some.ensures.some)

pub complete-requires : goal.complete-requires
complete-requires c =
    let s = c.args.self.now in
    let same : c.steps.result.now ≡ s.problem = steps-problem _ _ _ _ _ c.self.view_is c.deref.ensures c.self.invariant.kept.table_is c.steps.ensures in
    record { paths = subst (λ (p : Parts). ArePaths p c.args.paths) (sym same) (paths-are s c.args.node c.args.paths c.requires) }

pub unreachable-requires : goal.unreachable-requires
unreachable-requires c =
    let s = c.args.self.now in
    let same : c.steps.result.now ≡ s.problem = steps-problem _ _ _ _ _ c.self.view_is c.deref.ensures c.self.invariant.kept.table_is c.steps.ensures in
    let none : IfNone c.in_ok-done.done (HasOverfull s.problem c.args.paths) = subst (λ (p : Parts). IfNone c.in_ok-done.done (HasOverfull p c.args.paths)) same c.in_ok-done.ensures.none in
    carry-overfull s.problem c.args.paths c.in_default.ensures.none.carry (subst (λ (o : Option (ℕ × Design)). IfNone o (HasOverfull s.problem c.args.paths)) c.in_default-done.is none)

pub close-requires-2-clause-event : goal.close-requires-2-clause-event
close-requires-2-clause-event c =
    let s = c.args.self.now in
    let same : c.steps.result.now ≡ s.problem = steps-problem _ _ _ _ _ c.self.view_is c.deref.ensures c.self.invariant.kept.table_is c.steps.ensures in
    routed-reachable s c.args.node c.args.paths c.requires c.in_default.ensures.none c.in-Some-done._cost c.in-Some-done.design (rw (same, c.in-Some-done.is) at c.in_ok-done.ensures.some) (rw (same, c.in-Some-done.is) at c.in_ok-done.ensures.counts)
    c.better-held.new.self c.better-held.result c.better-held.ensures.event (subst IsReachable c.self.view_is c.self.invariant.kept.pool.reachable)

pub returns-clause-event : goal.returns-clause-event
returns-clause-event c =
    let s = c.args.self.now in
    let same : c.steps.result.now ≡ s.problem = steps-problem _ _ _ _ _ c.self.view_is c.deref.ensures c.self.invariant.kept.table_is c.steps.ensures in
    subst (ClosesRouted s c.args.node) (sym c.close-2.ensures)
    (routed-closes s c.args.node c.args.paths c.requires c.in_default.ensures.none c.in-Some-done._cost c.in-Some-done.design (rw (same, c.in-Some-done.is) at c.in_ok-done.ensures.some) (rw (same, c.in-Some-done.is) at c.in_ok-done.ensures.counts)
    c.better-held.new.self c.better-held.result c.better-held.ensures.event)
