use Rattle.plan_tokens.proofs.Digits.{cut_scaled}
use Rattle.plan_tokens.proofs.words.decimal_value.Goals as goal

-- src/words.rt:140:1
pub returns : goal.returns
returns c = λ v small e. c.scaled.ensures v small (cut_scaled v c.args.bytes.now c.cut.result.0.now c.cut.result.1.now c.behind_first.result.now small e c.cut.ensures c.behind_first.ensures)
