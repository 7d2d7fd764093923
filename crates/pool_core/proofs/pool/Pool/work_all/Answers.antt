use Rattle.std.proofs.Common.{◌≡◌, false, true, refl, rules, tests}
use Rattle.search_machine.specs.PlanOf.{is_done}
use Rattle.search_machine.proofs.Leads.{LeadsTo-stays, LeadsTo-trans, LeadsTo-reachable}
use Rattle.pool_core.proofs.Leaves.{less-left}
use Rattle.pool_core.proofs.pool.Pool.work_all.Goals as goal

pub leaves-init : goal.leaves-init
leaves-init c = record {
  reachable = c.requires.reachable;
  leads = LeadsTo-stays c.args.self.now c.args.self.now refl;
}

pub work_off-requires-clause-not_done : goal.work_off-requires-clause-not_done
work_off-requires-clause-not_done c = search (rules, tests)

pub leaves-smaller : goal.leaves-smaller
leaves-smaller c =
    let not_done : is_done c.leaves.self ≡ false = search (rules, tests) in
    less-left c.leaves.self c.work_off.new.self c.leaves.invariant.reachable not_done c.in_ok-work_off.ensures.leads c.in_ok-work_off.ensures.one

pub leaves-preserved : goal.leaves-preserved
leaves-preserved c = record {
  reachable = LeadsTo-reachable c.leaves.self c.work_off.new.self c.leaves.invariant.reachable c.in_ok-work_off.ensures.leads;
  leads = LeadsTo-trans c.args.self.now c.leaves.self c.work_off.new.self c.leaves.invariant.leads c.in_ok-work_off.ensures.leads;
}

pub returns-in_err-work_off-clause-leads : goal.returns-in_err-work_off-clause-leads
returns-in_err-work_off-clause-leads c =
    LeadsTo-trans c.args.self.now c.leaves.self c.work_off.new.self c.leaves.invariant.leads c.in_err-work_off.ensures.leads

pub returns : goal.returns
returns c =
    let done : is_done c.leaves.self ≡ true = search (rules, tests) in
    record { done = done; leads = c.leaves.invariant.leads }
