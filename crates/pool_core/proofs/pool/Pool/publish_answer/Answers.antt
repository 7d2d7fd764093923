use Rattle.search_machine.proofs.OneAnswer.{publishing-one}
use Rattle.pool_core.proofs.OnlyAnswers.{only-publishing, refusal-answer, no_success-if}
use Rattle.pool_core.proofs.pool.Pool.publish_answer.Goals as goal

pub returns-in-Ok-clause-answer : goal.returns-in-Ok-clause-answer
returns-in-Ok-clause-answer c = (c.in-Ok.next.crowd_tried, c.in-Ok.ensures.follows)

pub returns-in-Ok-clause-only : goal.returns-in-Ok-clause-only
returns-in-Ok-clause-only c = only-publishing c.args.self.now c.args.node c.args.seen c.args.prices.now c.in-Ok.next c.in-Ok.ensures.follows

pub returns-in-Err-clause-answer : goal.returns-in-Err-clause-answer
returns-in-Err-clause-answer c = refusal-answer c.args.self.now c.args.node c.args.seen c.args.prices.now c.in-Err.refusal c.in-Err.ensures.no_success c.in-Err.ensures.refused

pub returns-in-Err-clause-only : goal.returns-in-Err-clause-only
returns-in-Err-clause-only c = λ given new step. publishing-one c.args.self.now new c.args.self.now c.args.node c.args.seen c.args.prices.now given c.in-Err.refusal step c.in-Err.ensures.refused

pub returns-in-Err-clause-slot : goal.returns-in-Err-clause-slot
returns-in-Err-clause-slot c = no_success-if c.in-Err.refusal _ c.in-Err.ensures.no_success

pub returns-in-Err-clause-count : goal.returns-in-Err-clause-count
returns-in-Err-clause-count c = no_success-if c.in-Err.refusal _ c.in-Err.ensures.no_success
