-- Texts are refused in one way at most, and not where they spell what a command works on.
use Rattle.std.proofs.Common.{◌≡◌, ◌≢◌, ◌⊎◌, ◌<◌, ℕ, List, Option, Some, refl, sym, ap, subst, ◌∙◌, inl, inr}
use Rattle.std.specs.Prelude.{IsSomeAnd, None}
use Rattle.std.proofs.lemmas.Bool.{cases_order}
use Rattle.plan_base.specs.declared.parts.Parts.{Parts}
use Rattle.plan_base.specs.declared.build_fault.BuildFault.TheVariants as build
use Rattle.plan_base.specs.Facts.{total_load}
use Rattle.plan_base.specs.Arcs.{link_at}
use Rattle.snd_reader.specs.declared.fault.TextFault.{TextFault}
use Rattle.snd_reader.specs.declared.fault.TextFault.TheVariants as text_faults
use Rattle.snd_network.specs.declared.file.NetworkFile.{NetworkFile}
use Rattle.snd_network.specs.Spelling.{SpellsNetwork}
use Rattle.snd_network.specs.Spelling.{IsFault as IsNetworkFault}
use Rattle.snd_model.specs.declared.file.ModelFile.{ModelFile}
use Rattle.snd_model.specs.Spelling.{IsFault as IsModelFault}
use Rattle.model_check.specs.declared.fault.CheckFault.{CheckFault}
use Rattle.model_check.specs.declared.fault.CheckFault.TheVariants as check_faults
use Rattle.model_check.specs.Reading.{ReadsAs}
use Rattle.model_check.specs.Refusals.{IsCheckFault}
use Rattle.link_steps.specs.declared.limits.TheConstants.{MAX_STEPS}
use Rattle.link_steps.specs.Costs.{IsFirstPastSteps}
use Rattle.proof_tree.specs.declared.plan.Plan.{Plan}
use Rattle.proof_tree.specs.Plans.{IsValidPlan}
use Rattle.cert_format.specs.declared.fault.PlanFault.{PlanFault}
use Rattle.cert_format.specs.declared.fault.PlanFault.TheVariants as plan_faults
use Rattle.cert_format.specs.Faults.{IsFault as IsPlanTextFault}
use Rattle.cert_verifier.specs.declared.rejected.Rejected.{Rejected as Rejection}
use Rattle.plan_report.specs.Verdicts.{rejected_line}
use Rattle.plan_report.specs.declared.run_fault.FileKind.TheVariants as files
use Rattle.plan_report.specs.declared.run_fault.RunFault.{RunFault}
use Rattle.plan_report.specs.declared.run_fault.RunFault.TheVariants as faults
use Rattle.command_texts.specs.declared.status.Status.{Status}
use Rattle.command_texts.specs.declared.status.Status.TheVariants.{Good, Rejected}
use Rattle.command_texts.specs.Texts.{Texts, empty_texts}
use Rattle.command_texts.specs.Refusals.{
  SpellsItsNetwork,
  SpellsItsModel,
  Reads,
  SpellsItsPlan,
  HasItsNetwork,
  HasItsModel,
  HasItsPlan,
  HasFewSteps,
  IsPlanFault,
  misplaced,
  ended,
  IsNetworkRefused,
  IsModelRefused,
  IsPlanRefused,
  IsMisfit,
  IsPastSteps,
  AreRefused,
  IsProblem,
  IsPlanAlone,
  AreGood,
  a_problem,
  a_plan,
  no_texts,
}
use Rattle.command_texts.specs.Answers.{IsRejection, IsVerdict, accepted, rejected, IsVerified, IsGoodWhereValid, HasOneAnswer}
use Rattle.command_texts.specs.OneAnswer.{Below}

-- of two faults that are not want of memory, they are one
only-one : {F : Type 0} (memory f g : F) → f ≢ memory → g ≢ memory → (f ≡ memory) ⊎ ((g ≡ memory) ⊎ (f ≡ g)) → f ≡ g
only-one memory f g some other (inl bad) = absurd (some bad)
only-one memory f g some other (inr (inl bad)) = absurd (other bad)
only-one memory f g some other (inr (inr same)) = same

-- the refusal of a run for what is wrong with two files
abbrev told_of : CheckFault → RunFault
told_of (check_faults.Unsupported key value) = faults.Unsupported key value
told_of (check_faults.Build (build.LoopLink link)) = faults.LoopLink link
told_of (check_faults.Build (build.LoopDemand demand)) = faults.LoopDemand demand
told_of (check_faults.Build (build.OverLimit limit at)) = faults.OverLimit limit at
told_of (check_faults.Build fault) = faults.Usage
told_of check_faults.OutOfMemory = faults.Usage

-- the two files are refused so
record IsOfFiles (texts : Texts) (fault : RunFault) : Type 0 where
  cause : CheckFault
  misfit : IsMisfit texts cause
  real : cause ≢ check_faults.OutOfMemory
  told : fault ≡ told_of cause

-- why texts are refused, by what is spelt of them
data Cause (texts : Texts) (fault : RunFault) : Type 0 where
  of_network : (f : TextFault) → IsNetworkRefused texts.network f → fault ≡ faults.Text files.Network f → Cause texts fault
  of_model : (f : TextFault) → HasItsNetwork texts.network → IsModelRefused texts.model f → fault ≡ faults.Text files.Model f → Cause texts fault
  of_plan : (rule at : ℕ) → HasItsNetwork texts.network → HasItsModel texts.model → IsPlanRefused texts.plan rule at → fault ≡ faults.PlanText rule at → Cause texts fault
  of_files : IsOfFiles texts fault → Cause texts fault
  of_steps : (limit at : ℕ) → IsPastSteps texts limit at → fault ≡ faults.OverLimit limit at → Cause texts fault

of-limit : (texts : Texts) (limit at : ℕ) → IsMisfit texts (check_faults.Build (build.OverLimit limit at)) ⊎ IsPastSteps texts limit at → Cause texts (faults.OverLimit limit at)
of-limit texts limit at (inl misfit) = of_files record { cause = check_faults.Build (build.OverLimit limit at); misfit = misfit; real = λ same. cc; told = refl }
of-limit texts limit at (inr past) = of_steps limit at past refl

cause-of : (texts : Texts) (fault : RunFault) → AreRefused texts fault → Cause texts fault
cause-of texts (faults.Text files.Network f) is = of_network f is refl
cause-of texts (faults.Text files.Model f) is = of_model f is.0 is.1 refl
cause-of texts (faults.Text files.Plan f) is = absurd is
cause-of texts (faults.LoopLink link) is = of_files record { cause = check_faults.Build (build.LoopLink link); misfit = is; real = λ same. cc; told = refl }
cause-of texts (faults.LoopDemand demand) is = of_files record { cause = check_faults.Build (build.LoopDemand demand); misfit = is; real = λ same. cc; told = refl }
cause-of texts (faults.Unsupported key value) is = of_files record { cause = check_faults.Unsupported key value; misfit = is; real = λ same. cc; told = refl }
cause-of texts (faults.OverLimit limit at) is = of-limit texts limit at is
cause-of texts faults.Usage is = absurd is
cause-of texts (faults.PlanText rule at) is = of_plan rule at is.0 is.1 is.2 refl
cause-of texts (faults.TooLong file) is = absurd is
cause-of texts (faults.Read file) is = absurd is

-- ---- what a text that is there spells

-- the network text, where there is one, spells one network at most
pub one-network : Below → (text : Option (List ℕ)) (a b : NetworkFile) → SpellsItsNetwork text a → SpellsItsNetwork text b → a ≡ b
one-network below None a b one two = absurd one
one-network below (Some text) a b one two = below.one_network text a b one two

one-model : Below → (text : Option (List ℕ)) (a b : ModelFile) → SpellsItsModel text a → SpellsItsModel text b → a ≡ b
one-model below None a b one two = absurd one
one-model below (Some text) a b one two = below.one_model text a b one two

has-network : (text : Option (List ℕ)) (net : NetworkFile) → SpellsItsNetwork text net → HasItsNetwork text
has-network None net spelt = absurd spelt
has-network (Some text) net spelt = (net, spelt)

has-model : (text : Option (List ℕ)) (options : ModelFile) → SpellsItsModel text options → HasItsModel text
has-model None options spelt = absurd spelt
has-model (Some text) options spelt = (options, spelt)

has-plan : (text : Option (List ℕ)) (plan : Option Plan) → SpellsItsPlan text plan → HasItsPlan text
has-plan None plan spelt = tt
has-plan (Some text) None spelt = absurd spelt
has-plan (Some text) (Some plan) spelt = (plan, spelt)

-- ---- what excludes what

no-network : Below → (text : Option (List ℕ)) (f : TextFault) → IsNetworkRefused text f → HasItsNetwork text → ⊥
no-network below None f refused has = refused.0
no-network below (Some text) f refused has = refused.1 (below.spelt_network text has.0 f has.1 refused.0)

no-model : Below → (text : Option (List ℕ)) (f : TextFault) → IsModelRefused text f → HasItsModel text → ⊥
no-model below None f refused has = refused.0
no-model below (Some text) f refused has = refused.1 (below.spelt_model text has.0 f has.1 refused.0)

no-plan : Below → (text : Option (List ℕ)) (rule at : ℕ) → IsPlanRefused text rule at → HasItsPlan text → ⊥
no-plan below None rule at refused has = refused
no-plan below (Some text) rule at (misplaced first is) (plan, spelt) =
    let none : plan_faults.Line at ≡ plan_faults.OutOfMemory = below.spelt_plan text plan (plan_faults.Line at) spelt is in cc
no-plan below (Some text) rule at (ended second is) (plan, spelt) =
    let none : plan_faults.Ended at ≡ plan_faults.OutOfMemory = below.spelt_plan text plan (plan_faults.Ended at) spelt is in cc

same-network : Below → (text : Option (List ℕ)) (f g : TextFault) → IsNetworkRefused text f → IsNetworkRefused text g → f ≡ g
same-network below None f g one two = absurd one.0
same-network below (Some text) f g one two = only-one text_faults.OutOfMemory f g one.1 two.1 (below.one_network_fault text f g one.0 two.0)

same-model : Below → (text : Option (List ℕ)) (f g : TextFault) → IsModelRefused text f → IsModelRefused text g → f ≡ g
same-model below None f g one two = absurd one.0
same-model below (Some text) f g one two = only-one text_faults.OutOfMemory f g one.1 two.1 (below.one_model_fault text f g one.0 two.0)

-- two faults of a plan text that are not want of memory are one
one-fault : Below → (text : List ℕ) (f g : PlanFault) → IsPlanTextFault text f → IsPlanTextFault text g → f ≢ plan_faults.OutOfMemory → g ≢ plan_faults.OutOfMemory → f ≡ g
one-fault below text f g is has some other = only-one plan_faults.OutOfMemory f g some other (below.one_plan_fault text f g is has)

same-plan : Below → (text : Option (List ℕ)) (rule at number place : ℕ) → IsPlanRefused text rule at → IsPlanRefused text number place → faults.PlanText rule at ≡ faults.PlanText number place
same-plan below None rule at number place one two = absurd one
same-plan below (Some text) rule at number place (misplaced first is) (misplaced other has) =
    let both : plan_faults.Line at ≡ plan_faults.Line place = one-fault below text (plan_faults.Line at) (plan_faults.Line place) is has (λ same. cc) (λ same. cc) in
    let places : at ≡ place = cc in
    rw (first, other, places) refl
same-plan below (Some text) rule at number place (misplaced first is) (ended other has) =
    let both : plan_faults.Line at ≡ plan_faults.Ended place = one-fault below text (plan_faults.Line at) (plan_faults.Ended place) is has (λ same. cc) (λ same. cc) in absurd cc
same-plan below (Some text) rule at number place (ended first is) (misplaced other has) =
    let both : plan_faults.Ended at ≡ plan_faults.Line place = one-fault below text (plan_faults.Ended at) (plan_faults.Line place) is has (λ same. cc) (λ same. cc) in absurd cc
same-plan below (Some text) rule at number place (ended first is) (ended other has) =
    let both : plan_faults.Ended at ≡ plan_faults.Ended place = one-fault below text (plan_faults.Ended at) (plan_faults.Ended place) is has (λ same. cc) (λ same. cc) in
    let places : at ≡ place = cc in
    rw (first, other, places) refl

no-files : Below → (texts : Texts) (cause : CheckFault) (net : NetworkFile) (parts : Parts) → IsMisfit texts cause → cause ≢ check_faults.OutOfMemory → Reads texts net parts → ⊥
no-files below texts cause net parts misfit some reads =
    let nets : misfit.net ≡ net = one-network below texts.network misfit.net net misfit.network_text reads.network_text in
    let models : misfit.options ≡ reads.options = one-model below texts.model misfit.options reads.options misfit.model_text reads.model_text in
    let is : IsCheckFault net reads.options cause = subst (λ (o : ModelFile). IsCheckFault net o cause) models (subst (λ (n : NetworkFile). IsCheckFault n misfit.options cause) nets misfit.is) in
    some (below.no_refusal net reads.options parts cause reads.stands reads.lawful is)

-- texts stand for one instance at most
pub same-parts : Below → (texts : Texts) (one_net other_net : NetworkFile) (a b : Parts) → Reads texts one_net a → Reads texts other_net b → a ≡ b
same-parts below texts one_net other_net a b one other =
    let nets : one_net ≡ other_net = one-network below texts.network one_net other_net one.network_text other.network_text in
    let models : one.options ≡ other.options = one-model below texts.model one.options other.options one.model_text other.model_text in
    below.one_instance other_net other.options a b (subst (λ (o : ModelFile). ReadsAs other_net o a) models (subst (λ (n : NetworkFile). ReadsAs n one.options a) nets one.stands)) other.stands

no-steps : Below → (texts : Texts) (limit at : ℕ) (net : NetworkFile) (parts : Parts) → IsPastSteps texts limit at → Reads texts net parts → HasFewSteps parts → ⊥
no-steps below texts limit at net parts past reads few =
    let same : past.parts ≡ parts = same-parts below texts past.net net past.parts parts past.reads reads in
    let first : IsFirstPastSteps parts at = subst (λ (p : Parts). IsFirstPastSteps p at) same past.first in
    below.few_or_many parts.law (link_at parts at) (total_load parts) MAX_STEPS (few at first.within) first.more

same-link : Below → (p : Parts) (at other : ℕ) → IsFirstPastSteps p at → IsFirstPastSteps p other → (at ≡ other) ⊎ ((at < other) ⊎ (other < at)) → at ≡ other
same-link below p at other one two (inl same) = same
same-link below p at other one two (inr (inl before)) = absurd (below.few_or_many p.law (link_at p at) (total_load p) MAX_STEPS (two.before at before) one.more)
same-link below p at other one two (inr (inr after)) = absurd (below.few_or_many p.law (link_at p other) (total_load p) MAX_STEPS (one.before other after) two.more)

same-steps : Below → (texts : Texts) (limit at bound place : ℕ) → IsPastSteps texts limit at → IsPastSteps texts bound place → faults.OverLimit limit at ≡ faults.OverLimit bound place
same-steps below texts limit at bound place one two =
    let same : one.parts ≡ two.parts = same-parts below texts one.net two.net one.parts two.parts one.reads two.reads in
    let first : IsFirstPastSteps two.parts at = subst (λ (p : Parts). IsFirstPastSteps p at) same one.first in
    let places : at ≡ place = same-link below two.parts at place first two.first (cases_order at place) in
    let limits : limit ≡ bound = one.ninth ∙ sym two.ninth in
    rw (limits, places) refl

same-files : Below → (texts : Texts) (a b : RunFault) → IsOfFiles texts a → IsOfFiles texts b → a ≡ b
same-files below texts a b one two =
    let nets : one.misfit.net ≡ two.misfit.net = one-network below texts.network one.misfit.net two.misfit.net one.misfit.network_text two.misfit.network_text in
    let models : one.misfit.options ≡ two.misfit.options = one-model below texts.model one.misfit.options two.misfit.options one.misfit.model_text two.misfit.model_text in
    let is : IsCheckFault two.misfit.net two.misfit.options one.cause = subst (λ (o : ModelFile). IsCheckFault two.misfit.net o one.cause) models (subst (λ (n : NetworkFile). IsCheckFault n one.misfit.options one.cause) nets one.misfit.is) in
    let same : one.cause ≡ two.cause = only-one check_faults.OutOfMemory one.cause two.cause one.real two.real (below.one_check_fault two.misfit.net two.misfit.options one.cause two.cause is two.misfit.is) in
    one.told ∙ ap told_of same ∙ sym two.told

-- ---- one refusal

-- where network and model stand for no instance, they are spelt
files-network : (texts : Texts) (fault : RunFault) → IsOfFiles texts fault → HasItsNetwork texts.network
files-network texts fault of = has-network texts.network of.misfit.net of.misfit.network_text

files-model : (texts : Texts) (fault : RunFault) → IsOfFiles texts fault → HasItsModel texts.model
files-model texts fault of = has-model texts.model of.misfit.options of.misfit.model_text

-- where a link takes too many steps, they are spelt
steps-network : (texts : Texts) (limit at : ℕ) → IsPastSteps texts limit at → HasItsNetwork texts.network
steps-network texts limit at past = has-network texts.network past.net past.reads.network_text

steps-model : (texts : Texts) (limit at : ℕ) → IsPastSteps texts limit at → HasItsModel texts.model
steps-model texts limit at past = has-model texts.model past.reads.options past.reads.model_text

same-cause : Below → (texts : Texts) (a b : RunFault) → Cause texts a → Cause texts b → a ≡ b
same-cause below texts a b (of_network f is told) (of_network g has say) = told ∙ ap (λ (h : TextFault). faults.Text files.Network h) (same-network below texts.network f g is has) ∙ sym say
same-cause below texts a b (of_network f is told) (of_model g spelt has say) = absurd (no-network below texts.network f is spelt)
same-cause below texts a b (of_network f is told) (of_plan rule at spelt other bad say) = absurd (no-network below texts.network f is spelt)
same-cause below texts a b (of_network f is told) (of_files of) = absurd (no-network below texts.network f is (files-network texts b of))
same-cause below texts a b (of_network f is told) (of_steps limit at past say) = absurd (no-network below texts.network f is (steps-network texts limit at past))
same-cause below texts a b (of_model g spelt has say) (of_network f is told) = absurd (no-network below texts.network f is spelt)
same-cause below texts a b (of_model f spelt is told) (of_model g other has say) = told ∙ ap (λ (h : TextFault). faults.Text files.Model h) (same-model below texts.model f g is has) ∙ sym say
same-cause below texts a b (of_model f spelt is told) (of_plan rule at first second bad say) = absurd (no-model below texts.model f is second)
same-cause below texts a b (of_model f spelt is told) (of_files of) = absurd (no-model below texts.model f is (files-model texts b of))
same-cause below texts a b (of_model f spelt is told) (of_steps limit at past say) = absurd (no-model below texts.model f is (steps-model texts limit at past))
same-cause below texts a b (of_plan rule at spelt other bad say) (of_network f is told) = absurd (no-network below texts.network f is spelt)
same-cause below texts a b (of_plan rule at first second bad say) (of_model f spelt is told) = absurd (no-model below texts.model f is second)
same-cause below texts a b (of_plan rule at first second bad told) (of_plan number place spelt other worse say) = told ∙ same-plan below texts.plan rule at number place bad worse ∙ sym say
same-cause below texts a b (of_plan rule at first second bad told) (of_files of) = absurd (no-plan below texts.plan rule at bad of.misfit.plan_text)
same-cause below texts a b (of_plan rule at first second bad told) (of_steps limit link past say) = absurd (no-plan below texts.plan rule at bad past.plan_text)
same-cause below texts a b (of_files of) (of_network f is told) = absurd (no-network below texts.network f is (files-network texts a of))
same-cause below texts a b (of_files of) (of_model f spelt is told) = absurd (no-model below texts.model f is (files-model texts a of))
same-cause below texts a b (of_files of) (of_plan rule at first second bad told) = absurd (no-plan below texts.plan rule at bad of.misfit.plan_text)
same-cause below texts a b (of_files of) (of_files other) = same-files below texts a b of other
same-cause below texts a b (of_files of) (of_steps limit at past say) = absurd (no-files below texts of.cause past.net past.parts of.misfit of.real past.reads)
same-cause below texts a b (of_steps limit at past say) (of_network f is told) = absurd (no-network below texts.network f is (steps-network texts limit at past))
same-cause below texts a b (of_steps limit at past say) (of_model f spelt is told) = absurd (no-model below texts.model f is (steps-model texts limit at past))
same-cause below texts a b (of_steps limit link past say) (of_plan rule at first second bad told) = absurd (no-plan below texts.plan rule at bad past.plan_text)
same-cause below texts a b (of_steps limit at past say) (of_files of) = absurd (no-files below texts of.cause past.net past.parts of.misfit of.real past.reads)
same-cause below texts a b (of_steps limit at past say) (of_steps bound place other told) = say ∙ same-steps below texts limit at bound place past other ∙ sym told

-- texts are refused in one way at most
pub one_refusal : Below → (texts : Texts) (a b : RunFault) → AreRefused texts a → AreRefused texts b → a ≡ b
one_refusal below texts a b one other = same-cause below texts a b (cause-of texts a one) (cause-of texts b other)

-- ---- what reads is not refused

not-problem : Below → (texts : Texts) (net : NetworkFile) (parts : Parts) (plan : Option Plan) (fault : RunFault) → Cause texts fault → IsProblem texts net parts plan → ⊥
not-problem below texts net parts plan fault (of_network f is told) problem = no-network below texts.network f is (has-network texts.network net problem.reads.network_text)
not-problem below texts net parts plan fault (of_model f spelt is told) problem = no-model below texts.model f is (has-model texts.model problem.reads.options problem.reads.model_text)
not-problem below texts net parts plan fault (of_plan rule at first second bad told) problem = no-plan below texts.plan rule at bad (has-plan texts.plan plan problem.plan_text)
not-problem below texts net parts plan fault (of_files of) problem = no-files below texts of.cause net parts of.misfit of.real problem.reads
not-problem below texts net parts plan fault (of_steps limit at past told) problem = no-steps below texts limit at net parts past problem.reads problem.few_steps

-- of a text that is not there nothing holds
not-there : (Holds : List ℕ → Type 0) (text : Option (List ℕ)) → text ≡ None → IsSomeAnd text Holds → ⊥
not-there Holds text none holds = subst (λ (t : Option (List ℕ)). IsSomeAnd t Holds) none holds

-- texts without network and model are refused for a plan alone
only-plan : (texts : Texts) (fault : RunFault) → Cause texts fault → texts.network ≡ None → texts.model ≡ None → (rule : ℕ) × (at : ℕ) × IsPlanRefused texts.plan rule at
only-plan texts fault (of_network f is told) first second = absurd (not-there (λ text. IsNetworkFault text f) texts.network first is.0)
only-plan texts fault (of_model f spelt is told) first second = absurd (not-there (λ text. IsModelFault text f) texts.model second is.0)
only-plan texts fault (of_plan rule at spelt other bad told) first second = (rule, at, bad)
only-plan texts fault (of_files of) first second = absurd (not-there (λ text. SpellsNetwork text of.misfit.net) texts.network first of.misfit.network_text)
only-plan texts fault (of_steps limit at past told) first second = absurd (not-there (λ text. SpellsNetwork text past.net) texts.network first past.reads.network_text)

not-alone : Below → (texts : Texts) (plan : Plan) → IsPlanAlone texts plan → (rule : ℕ) × (at : ℕ) × IsPlanRefused texts.plan rule at → ⊥
not-alone below texts plan is (rule, at, bad) = no-plan below texts.plan rule at bad (has-plan texts.plan (Some plan) is.plan_text)

not-nothing : (texts : Texts) → texts ≡ empty_texts → (rule : ℕ) × (at : ℕ) × IsPlanRefused texts.plan rule at → ⊥
not-nothing texts none (rule, at, bad) = not-there (λ text. IsPlanFault text rule at) texts.plan (ap (λ (t : Texts). t.plan) none) bad

not-good : Below → (texts : Texts) (fault : RunFault) → Cause texts fault → AreGood texts → ⊥
not-good below texts fault cause (a_problem net parts plan problem) = not-problem below texts net parts plan fault cause problem
not-good below texts fault cause (a_plan plan is) = not-alone below texts plan is (only-plan texts fault cause is.no_network is.no_model)
not-good below texts fault cause (no_texts none) = not-nothing texts none (only-plan texts fault cause (ap (λ (t : Texts). t.network) none) (ap (λ (t : Texts). t.model) none))

-- texts that are refused do not spell what a command works on
pub refused_or_read : Below → (texts : Texts) (fault : RunFault) → AreRefused texts fault → AreGood texts → ⊥
refused_or_read below texts fault refused good = not-good below texts fault (cause-of texts fault refused) good

-- ---- one verdict

-- a verdict on what the texts spell is one on their one instance and their one plan
of-plan : Below → (texts : Texts) (one_net other_net : NetworkFile) (one other : Parts) (found : Option Plan) (plan : Plan) (status : Status) (bytes : List ℕ) → (text : Option (List ℕ))
    → Reads texts one_net one → Reads texts other_net other → SpellsItsPlan text found → SpellsItsPlan text (Some plan) → IsSomeAnd found (λ made. IsVerdict one made status bytes) → IsVerdict other plan status bytes
of-plan below texts one_net other_net one other found plan status bytes None reads again spelt its verdict = absurd its
of-plan below texts one_net other_net one other None plan status bytes (Some text) reads again spelt its verdict = absurd verdict
of-plan below texts one_net other_net one other (Some made) plan status bytes (Some text) reads again spelt its verdict =
    let plans : made ≡ plan = below.one_plan text made plan spelt its in
    let instances : one ≡ other = same-parts below texts one_net other_net one other reads again in
    subst (λ (q : Plan). IsVerdict other q status bytes) plans (subst (λ (p : Parts). IsVerdict p made status bytes) instances verdict)

-- the verdict on texts is one on the instance and the plan that they spell
pub verdict-of : Below → (texts : Texts) (net : NetworkFile) (parts : Parts) (plan : Plan) (status : Status) (bytes : List ℕ) → Reads texts net parts → SpellsItsPlan texts.plan (Some plan) → IsVerified texts status bytes → IsVerdict parts plan status bytes
verdict-of below texts net parts plan status bytes reads its done = of-plan below texts done.net net done.parts parts done.plan plan status bytes texts.plan done.problem.reads reads done.problem.plan_text its done.holds

-- a verdict on a valid plan has the good status
pub good-if : (parts : Parts) (plan : Plan) (status : Status) (bytes : List ℕ) → IsVerdict parts plan status bytes → IsValidPlan parts plan → status ≡ Good
good-if parts plan status bytes (accepted good is) valid = good
good-if parts plan status bytes (rejected bad is) valid = absurd (is.invalid valid)

valid-if : (parts : Parts) (plan : Plan) (status : Status) (bytes : List ℕ) → IsVerdict parts plan status bytes → status ≡ Good → IsValidPlan parts plan
valid-if parts plan status bytes (accepted good is) same = is.valid
valid-if parts plan status bytes (rejected bad is) same = let no : ◌≡◌ {A = Status} Good Rejected = sym same ∙ bad in absurd cc

-- the verdict on texts has the good status exactly where their plan is valid
pub good_where_valid : Below → IsGoodWhereValid IsVerified
good_where_valid below texts net parts plan status bytes reads its done =
    let verdict : IsVerdict parts plan status bytes = verdict-of below texts net parts plan status bytes reads its done in
    (valid-if parts plan status bytes verdict, good-if parts plan status bytes verdict)

-- two rejections of a plan have one line
pub same-line : Below → (parts : Parts) (plan : Plan) (bytes more : List ℕ) → IsRejection parts plan bytes → IsRejection parts plan more → bytes ≡ more
same-line below parts plan bytes more one two =
    let both : ◌≡◌ {A = Option Rejection} (Some one.fault) (Some two.fault) = below.one_rejection parts plan (Some one.fault) (Some two.fault) one.first two.first in
    let same : one.fault ≡ two.fault = cc in
    one.line ∙ ap rejected_line same ∙ sym two.line

same-verdict : Below → (parts : Parts) (plan : Plan) (status other : Status) (bytes more : List ℕ) → IsVerdict parts plan status bytes → IsVerdict parts plan other more → (status ≡ other) × (bytes ≡ more)
same-verdict below parts plan status other bytes more (accepted good is) (accepted fine has) = (good ∙ sym fine, is.line ∙ sym has.line)
same-verdict below parts plan status other bytes more (accepted good is) (rejected bad has) = absurd (has.invalid is.valid)
same-verdict below parts plan status other bytes more (rejected bad is) (accepted fine has) = absurd (is.invalid has.valid)
same-verdict below parts plan status other bytes more (rejected bad is) (rejected worse has) = (bad ∙ sym worse, same-line below parts plan bytes more is has)

verdicts-of : Below → (texts : Texts) (net : NetworkFile) (parts : Parts) (plan : Option Plan) (status other : Status) (bytes more : List ℕ) → IsProblem texts net parts plan → IsSomeAnd plan (λ made. IsVerdict parts made status bytes) → IsVerified texts other more → (status ≡ other) × (bytes ≡ more)
verdicts-of below texts net parts None status other bytes more problem verdict done = absurd verdict
verdicts-of below texts net parts (Some plan) status other bytes more problem verdict done =
    same-verdict below parts plan status other bytes more verdict (verdict-of below texts net parts plan other more problem.reads problem.plan_text done)

-- two verdicts on the same texts have the same status and the same line
pub one_verdict : Below → HasOneAnswer IsVerified
one_verdict below texts status other bytes more one two = verdicts-of below texts one.net one.parts one.plan status other bytes more one.problem one.holds two
