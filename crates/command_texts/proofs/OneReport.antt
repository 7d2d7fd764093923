-- Three texts get one report, and exactly the valid plans are told; a plan has one text of its own.
use Rattle.std.proofs.Common.{◌≡◌, ℕ, List, Option, Some, sym, ap, subst, ◌∙◌}
use Rattle.std.specs.Prelude.{IsSomeAnd, None}
use Rattle.plan_base.specs.declared.parts.Parts.{Parts}
use Rattle.snd_network.specs.declared.file.NetworkFile.{NetworkFile}
use Rattle.proof_tree.specs.declared.plan.Plan.{Plan}
use Rattle.proof_tree.specs.Plans.{IsValidPlan}
use Rattle.cert_format.specs.Grammar.{written_text}
use Rattle.command_texts.specs.declared.status.Status.{Status}
use Rattle.command_texts.specs.declared.status.Status.TheVariants.{Good, Rejected}
use Rattle.command_texts.specs.Texts.{Texts, alone}
use Rattle.command_texts.specs.Refusals.{Reads, SpellsItsPlan, IsProblem}
use Rattle.command_texts.specs.Answers.{IsReport, reported, unreported, IsReported, IsUpgraded, IsGoodWhereValid, HasOneAnswer}
use Rattle.command_texts.specs.OneAnswer.{Below}
use Rattle.command_texts.proofs.OneRefusal.{one-network, same-parts, same-line}

-- a report on what the texts spell is one on their one network, their one instance and their one plan
of-plan : Below → (texts : Texts) (one_net other_net : NetworkFile) (one other : Parts) (found : Option Plan) (plan : Plan) (status : Status) (bytes : List ℕ) (text : Option (List ℕ)) → Reads texts one_net one
    → Reads texts other_net other → SpellsItsPlan text found → SpellsItsPlan text (Some plan) → IsSomeAnd found (λ made. IsReport one_net one made status bytes) → IsReport other_net other plan status bytes
of-plan below texts one_net other_net one other found plan status bytes None reads again spelt its report = absurd its
of-plan below texts one_net other_net one other None plan status bytes (Some text) reads again spelt its report = absurd report
of-plan below texts one_net other_net one other (Some made) plan status bytes (Some text) reads again spelt its report =
    let plans : made ≡ plan = below.one_plan text made plan spelt its in
    let instances : one ≡ other = same-parts below texts one_net other_net one other reads again in
    let nets : one_net ≡ other_net = one-network below texts.network one_net other_net reads.network_text again.network_text in
    subst (λ (n : NetworkFile). IsReport n other plan status bytes) nets
    (subst (λ (q : Plan). IsReport one_net other q status bytes) plans
    (subst (λ (p : Parts). IsReport one_net p made status bytes) instances report))

report-of : Below → (texts : Texts) (net : NetworkFile) (parts : Parts) (plan : Plan) (status : Status) (bytes : List ℕ) → Reads texts net parts → SpellsItsPlan texts.plan (Some plan) → IsReported texts status bytes → IsReport net parts plan status bytes
report-of below texts net parts plan status bytes reads its done = of-plan below texts done.net net done.parts parts done.plan plan status bytes texts.plan done.problem.reads reads done.problem.plan_text its done.holds

good-if : (net : NetworkFile) (parts : Parts) (plan : Plan) (status : Status) (bytes : List ℕ) → IsReport net parts plan status bytes → IsValidPlan parts plan → status ≡ Good
good-if net parts plan status bytes (reported good is) valid = good
good-if net parts plan status bytes (unreported bad is) valid = absurd (is.invalid valid)

valid-if : (net : NetworkFile) (parts : Parts) (plan : Plan) (status : Status) (bytes : List ℕ) → IsReport net parts plan status bytes → status ≡ Good → IsValidPlan parts plan
valid-if net parts plan status bytes (reported good is) same = is.valid
valid-if net parts plan status bytes (unreported bad is) same = let no : ◌≡◌ {A = Status} Good Rejected = sym same ∙ bad in absurd cc

-- the report on texts has the good status exactly where their plan is valid
pub told_where_valid : Below → IsGoodWhereValid IsReported
told_where_valid below texts net parts plan status bytes reads its done =
    let report : IsReport net parts plan status bytes = report-of below texts net parts plan status bytes reads its done in
    (valid-if net parts plan status bytes report, good-if net parts plan status bytes report)

same-report : Below → (net : NetworkFile) (parts : Parts) (plan : Plan) (status other : Status) (bytes more : List ℕ) → IsReport net parts plan status bytes → IsReport net parts plan other more → (status ≡ other) × (bytes ≡ more)
same-report below net parts plan status other bytes more (reported good is) (reported fine has) = (good ∙ sym fine, is.text ∙ sym has.text)
same-report below net parts plan status other bytes more (reported good is) (unreported bad has) = absurd (has.invalid is.valid)
same-report below net parts plan status other bytes more (unreported bad is) (reported fine has) = absurd (is.invalid has.valid)
same-report below net parts plan status other bytes more (unreported bad is) (unreported worse has) = (bad ∙ sym worse, same-line below parts plan bytes more is has)

reports-of : Below → (texts : Texts) (net : NetworkFile) (parts : Parts) (plan : Option Plan) (status other : Status) (bytes more : List ℕ)
    → IsProblem texts net parts plan → IsSomeAnd plan (λ made. IsReport net parts made status bytes) → IsReported texts other more → (status ≡ other) × (bytes ≡ more)
reports-of below texts net parts None status other bytes more problem report done = absurd report
reports-of below texts net parts (Some plan) status other bytes more problem report done =
    same-report below net parts plan status other bytes more report (report-of below texts net parts plan other more problem.reads problem.plan_text done)

-- two reports on the same texts have the same status and the same text
pub one_report : Below → HasOneAnswer IsReported
one_report below texts status other bytes more one two = reports-of below texts one.net one.parts one.plan status other bytes more one.problem one.holds two

-- ---- a plan by itself

alone-plan : Below → (text : Option (List ℕ)) (one other : Plan) → SpellsItsPlan text (Some one) → SpellsItsPlan text (Some other) → one ≡ other
alone-plan below None one other spelt its = absurd spelt
alone-plan below (Some text) one other spelt its = below.one_plan text one other spelt its

-- two texts that are written anew of the same plan text are the same, and so are their statuses
pub one_upgrade : Below → HasOneAnswer IsUpgraded
one_upgrade below texts status other bytes more one two =
    let same : one.plan ≡ two.plan = alone-plan below texts.plan one.plan two.plan one.read.plan_text two.read.plan_text in
    (one.written.good ∙ sym two.written.good, one.written.text ∙ ap written_text same ∙ sym two.written.text)

-- the text that is written anew of a plan is written anew as itself
pub upgraded_again : Below → (texts : Texts) (status other : Status) (bytes more : List ℕ) → IsUpgraded texts status bytes → IsUpgraded (alone bytes) other more → bytes ≡ more
upgraded_again below texts status other bytes more one two =
    let same : one.plan ≡ two.plan = below.one_plan bytes one.plan two.plan one.written.spelt two.read.plan_text in
    one.written.text ∙ ap written_text same ∙ sym two.written.text
