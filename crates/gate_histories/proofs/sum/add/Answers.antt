use Rattle.std.proofs.Common.{rules}
use Rattle.ticket_turns.proofs.Calling.{is_caller, ready, is_adding}
use Rattle.gate_histories.specs.Sums.{IsSumOf}
use Rattle.gate_histories.proofs.Running.{sums_on}
use Rattle.gate_histories.proofs.sum.add.Goals as goal

pub enter-found-requires-clause-ready : goal.enter-found-requires-clause-ready
enter-found-requires-clause-ready g c = ready _ _ c.args.me.now.pass c.args.me.now.resting c.requires.calls

pub leave-requires-clause-leads : goal.leave-requires-clause-leads
leave-requires-clause-leads g c = sums_on _ _ _ _ _ c.enter-found.ensures.entered (search rules)

pub returns-clause-added : goal.returns-clause-added
returns-clause-added g c =
    let caller = is_caller _ _ c.args.me.now.pass c.args.me.now.resting in
    (c.enter-found.result, search rules, is_adding IsSumOf _ _ _ _ _ caller c.enter-found.ensures.entered c.leave.ensures.left)
