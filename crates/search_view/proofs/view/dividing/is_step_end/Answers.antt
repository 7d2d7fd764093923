use Rattle.std.proofs.Common.{◌+◌, ◌^◌, ◌<◌, arith, rules}
use Rattle.search_view.proofs.Dividings.{step-ends, no_step-ends}
use Rattle.search_view.proofs.view.dividing.is_step_end.Goals as goal

pub overflow_add-load : goal.overflow_add-load
overflow_add-load c =
    let small : c.args.load + 1 < 2 ^ 64 = (let most = c.requires.lawful.total in let below = c.requires.load in omega arith) in
    search rules

pub returns-in-Some : goal.returns-in-Some
returns-in-Some c = step-ends c.args.table.now c.args.link.0 c.args.load c.in-Some.end c.in-Some.ensures.end

pub returns-in-None : goal.returns-in-None
returns-in-None c = no_step-ends c.args.table.now c.args.link.0 c.args.load c.in-None.ensures.none
