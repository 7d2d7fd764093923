use Rattle.std.proofs.Common.{◌<◌, rules, refl, subst}
use Rattle.std.specs.Prelude.{Ok}
use Rattle.pool_core.specs.contracts.pool.Pool.{the_view}
use Rattle.search_machine.specs.State.{State}
use Rattle.search_machine.specs.Opening.{MayOpen}
use Rattle.pool_core.specs.Foretold.{IsOpenAnswer}
use Rattle.pool_core.proofs.OpenPool.{unrefused, may-open, opening-told, some_free, slot-within, lowest-free}
use Rattle.pool_core.proofs.OnlyAnswers.{only-opening, may_open-waits}
use Rattle.pool_core.proofs.pool.Pool.open_answer.Goals as goal

pub first_free-slot-requires : goal.first_free-slot-requires
first_free-slot-requires c =
    let may = may-open _ _ _ _ _ c.self.view_is c.view.ensures c.open_refusal.ensures c.in_default.is in
    rw c.as_slice.ensures.value (some_free (the_view c.self.inside) c.self.inside.places.items c.args.node c.self.invariant.kept.pool may)

pub overflow_cast-result : goal.overflow_cast-result
overflow_cast-result c =
    let o = opening-told _ _ _ _ _ _ _ _ c.self.view_is c.view.ensures c.open_refusal.ensures c.in_default.is c.as_slice.ensures.value c.first_free-slot.ensures in
    let small : c.first_free-slot.result < 64 = slot-within (the_view c.self.inside) c.self.inside.places.items c.args.node c.first_free-slot.result c.self.invariant.kept.pool o in
    search rules

pub returns : goal.returns
returns c =
    let s = the_view c.self.inside in
    let none = unrefused _ _ _ _ _ c.self.view_is c.view.ensures c.open_refusal.ensures c.in_default.is in
    let o = opening-told _ _ _ _ _ _ _ _ c.self.view_is c.view.ensures c.open_refusal.ensures c.in_default.is c.as_slice.ensures.value c.first_free-slot.ensures in
    let lowest = lowest-free s c.self.inside.places.items c.args.node c.first_free-slot.result c.self.invariant.kept.pool o in
    let answer = subst (λ (t : State). IsOpenAnswer t c.args.node (Ok (record { slot = c.first_free-slot.result; version = c.self.inside.state.next_version }))) c.self.view_is (none, lowest, refl) in
    record {
      answer = answer;
      only = only-opening c.args.self.now c.args.node (record { slot = c.first_free-slot.result; version = c.self.inside.state.next_version }) answer;
      slot = slot-within s c.self.inside.places.items c.args.node c.first_free-slot.result c.self.invariant.kept.pool o;
      waits = may_open-waits c.args.self.now c.args.node (subst (λ (t : State). MayOpen t c.args.node) c.self.view_is o.may);
    }
