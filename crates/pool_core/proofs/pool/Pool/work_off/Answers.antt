use Rattle.std.proofs.Common.{◌≡◌, ◌+◌, ℕ, true, false, refl, ap, ◌∙◌, arith, rules, tests, subst}
use Rattle.search_machine.proofs.Leads.{LeadsTo-stays, LeadsTo-trans, LeadsTo-base, LeadsTo-reachable}
use Rattle.search_view.proofs.Leaves.{reachable-unspent}
use Rattle.search_machine.specs.State.{State}
use Rattle.search_view.specs.Work.{is_next}
use Rattle.pool_core.proofs.pool.Pool.work_off.Goals as goal

pub unreachable-requires : goal.unreachable-requires
unreachable-requires c = c.next_leaf.ensures.none c.in_default.is

pub steps-init : goal.steps-init
steps-init c = record {
  reachable = c.requires.reachable;
  leads = LeadsTo-stays c.args.self.now c.args.self.now refl;
  ended = λ bad. absurd (let no : false ≡ true = bad in cc);
  goes_on = λ still. (refl, subst (λ (s : State). is_next s c.in-Some.node ≡ true) c.view.ensures c.in-Some.ensures.some);
}

pub take_step-requires-clause-not_spent : goal.take_step-requires-clause-not_spent
take_step-requires-clause-not_spent c =
    let still : c.steps.ended ≡ false = search (rules, tests) in
    let unspent = reachable-unspent c.args.self.now c.requires.reachable c.requires.not_done in
    let base = (LeadsTo-base c.args.self.now c.steps.self c.steps.invariant.leads).budget in
    let same = (c.steps.invariant.goes_on still).0 in
    omega (arith, unspent, base, same)

pub take_step-requires-clause-next : goal.take_step-requires-clause-next
take_step-requires-clause-next c = let still : c.steps.ended ≡ false = search (rules, tests) in (c.steps.invariant.goes_on still).1

pub returns-in_err-ended-clause-leads : goal.returns-in_err-ended-clause-leads
returns-in_err-ended-clause-leads c = LeadsTo-trans c.args.self.now c.steps.self c.take_step.new.self c.steps.invariant.leads c.take_step.ensures.leads

pub steps-preserved : goal.steps-preserved
steps-preserved c =
    let still : c.steps.ended ≡ false = search (rules, tests) in
    let same : c.steps.self.examined ≡ c.args.self.now.examined = (c.steps.invariant.goes_on still).0 in
    record {
      reachable = LeadsTo-reachable c.steps.self c.take_step.new.self c.steps.invariant.reachable c.take_step.ensures.leads;
      leads = LeadsTo-trans c.args.self.now c.steps.self c.take_step.new.self c.steps.invariant.leads c.take_step.ensures.leads;
      ended = λ now. c.in_ok-ended.ensures.ended now ∙ ap (λ (n : ℕ). n + 1) same;
      goes_on = λ on. let closer = c.in_ok-ended.ensures.closer on in (closer.examined ∙ same, closer.next);
    }

pub returns : goal.returns
returns c =
    let over : c.steps.ended ≡ true = search (rules, tests) in
    record { leads = c.steps.invariant.leads; one = c.steps.invariant.ended over }
