use Rattle.std.proofs.Common.{refl}
use Rattle.cert_format.specs.declared.form.Form.TheVariants.{First, Second, Third}
use Rattle.cert_format.proofs.VersionLaws.{lines_of_third, without_thirds}
use Rattle.cert_format.proofs.laws.a_text_for_a_plan.Goals as goal

pub returns-clause-third : goal.returns-clause-third
returns-clause-third c = λ plan s f some. record { spellable = s; fields = f; form = Third; told = tt; cuts_told = tt; lines = lines_of_third plan.tree; asked = some; is_text = refl }

pub returns-clause-second : goal.returns-clause-second
returns-clause-second c = λ plan s f none. (let p = without_thirds plan.cuts plan.tree none in record { spellable = s; fields = f; form = Second; told = tt; cuts_told = p.0; lines = p.1; asked = refl; is_text = refl })

pub returns-clause-first : goal.returns-clause-first
returns-clause-first c = λ plan s f told cuts_told lines. record { spellable = s; fields = f; form = First; told = told; cuts_told = cuts_told; lines = lines; asked = refl; is_text = refl }
