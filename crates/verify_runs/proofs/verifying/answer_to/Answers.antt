use Rattle.std.specs.Prelude.{string_bytes}
use Rattle.command_texts.specs.Answers.{IsVerified}
use Rattle.verify_runs.specs.VerifyRuns.{verify_usage}
use Rattle.verify_runs.proofs.ThreeNames.{found_three}
use Rattle.verify_runs.proofs.verifying.answer_to.Goals as goal

pub returns-in-len3 : goal.returns-in-len3
returns-in-len3 g c =
    found_three g.S.Shelf verify_usage IsVerified string_bytes c.args.words.now _ _ _ _ _ _ _ _ c.verify_plan.result c.in-len3.len_at_least c.in-len3.len_below c.network-item.is c.model-item.is c.plan-item.is
    c.as_str.ensures.value c.as_str-in-len3.ensures.value c.as_str-in-len3-2.ensures.value c.verify_plan.ensures
