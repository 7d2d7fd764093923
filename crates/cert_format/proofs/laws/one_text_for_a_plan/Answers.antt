use Rattle.std.proofs.Common.{sym, ap, ◌∙◌}
use Rattle.cert_format.specs.Grammar.{plan_text}
use Rattle.cert_format.proofs.laws.one_text_for_a_plan.Goals as goal

pub returns : goal.returns
returns c = λ one other plan s t same. s.is_text ∙ ap (λ form. plan_text form plan) same ∙ sym t.is_text
