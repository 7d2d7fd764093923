use Rattle.std.proofs.Common.{◌≡◌, map, Vec, Global, sym, ap, subst, ◌∙◌}
use Rattle.std.proofs.lemmas.Result.{IfOk-weaker}
use Rattle.plan_base.specs.Designs.{no_module}
use Rattle.link_steps.specs.declared.step.Step.{Step}
use Rattle.plan_base.specs.declared.parts.CountLaw.TheVariants.{AtMostOne}
use Rattle.link_steps.specs.Choices.{choices_of, kept_step, AreChoiceSteps}
use Rattle.link_steps.specs.Steps.{AreAllSteps}
use Rattle.link_steps.proofs.Chosen.{choices-small, AreAllSteps-kept}
use Rattle.link_steps.proofs.choices.chosen_steps.Goals as goal

pub choice_steps-requires-clause-capacities : goal.choice_steps-requires-clause-capacities
choice_steps-requires-clause-capacities c = λ k d within.
    (let choices : c.deref.result.now ≡ choices_of c.args.link.now.modules = c.deref.ensures.value ∙ c.in_ok-choices.ensures ∙ ap choices_of c.as_slice.ensures.value in
    rw choices (choices-small c.args.link.now c.requires.modules k d (rw choices at within)))

pub returns : goal.returns
returns c =
    let choices : c.deref.result.now ≡ choices_of c.args.link.now.modules = c.deref.ensures.value ∙ c.in_ok-choices.ensures ∙ ap choices_of c.as_slice.ensures.value in
    let found = c.in_ok-found.ensures in
    let are : AreChoiceSteps c.args.link.now.pre c.deref.result.now c.args.total c.in_ok-found.found.items =
    record { reaches = found.reaches; costs = found.costs; least = found.least; choice = found.choice; none = found.none; needed = found.needed; few = found.few } in
    let all : AreAllSteps AtMostOne c.args.total c.args.link.now (map kept_step c.in_ok-found.found.items) =
    AreAllSteps-kept c.args.link.now c.args.total c.in_ok-found.found.items (rw choices at are) (λ m within. (c.requires.modules m no_module within).cost) c.requires.count in
    IfOk-weaker {X = Vec Step Global} _ _ _
    (λ v is. subst (AreAllSteps AtMostOne c.args.total c.args.link.now) (sym (is ∙ ap (map kept_step) c.deref-2.ensures.value)) all) c.kept_steps.ensures
