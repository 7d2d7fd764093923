use Rattle.std.proofs.Common.{◌≡◌, ◌<◌, ◌-◌, ℕ, List, [], ◌∷◌, ◌++◌, replicate, refl, ap, ◌∙◌, arith, rules}
use Rattle.plan_base.specs.Designs.{no_module}
use Rattle.link_steps.specs.declared.step.Step.{Step}
use Rattle.link_steps.specs.Steps.{last_of}
use Rattle.plan_base.proofs.CountSums.{none_of_each}
use Rattle.link_steps.proofs.Going.{push, length-push, last-item, AreOpenSteps-first, AreOpenSteps-push, AreStarts-none, AreStarts-push, whole-none}
use Rattle.link_steps.proofs.Counted.{HasMoreSteps-steps}
use Rattle.link_steps.proofs.making.grown_steps.Goals as goal

pub loop-made-init : goal.loop-made-init
loop-made-init c =
    let items : c.push.new.self.items ≡ c.first_step.result ∷ [] = c.in_ok-push.ensures.items ∙ ap (λ (s : List Step). s ++ c.first_step.result ∷ []) c.new-steps.ensures.items in
    let starts : c.in_ok-starts.starts.items ≡ none_of_each c.args.link.now = c.in_ok-starts.ensures.items_if_clones_equal (λ y is. search rules) ∙ ap (λ (n : ℕ). replicate {A = ℕ} n 0) c.len.ensures in
    record {
      are_open = rw items (AreOpenSteps-first c.args.total c.args.link.now c.first_step.result c.first_step.ensures.first c.first_step.ensures.no_free);
      count = rw items (omega arith);
      starts = rw (items, starts) (AreStarts-none c.args.link.now (c.first_step.result ∷ []));
    }

pub returns-in-None-clause-steps : goal.returns-in-None-clause-steps
returns-in-None-clause-steps c = record {
  are_steps = c.loop-made.invariant.are_open.are_steps;
  made = c.loop-made.invariant.are_open.grown;
  within = omega (arith, c.loop-made.invariant.count);
  whole = λ _. whole-none c.args.total c.args.link.now c.loop-made.steps.items c.loop-made.invariant.are_open.are_steps c.loop-made.invariant.are_open.grown (rw c.as_slice.ensures.value at c.in-None.ensures.best);
}

pub loop-made-preserved : goal.loop-made-preserved
loop-made-preserved c =
    let items : c.push-in-Some.new.self.items ≡ push c.loop-made.steps.items c.in-Some.step = c.in_ok-push-in-Some.ensures.items in
    let last = last-item c.loop-made.steps.items (c.len-in-loop-made.result - 1) c.index.result.now (omega arith) (omega arith) c.index.ensures in
    let low : (last_of c.loop-made.steps.items).reach < c.args.total = rw last (omega arith) in
    let next = rw c.as_slice.ensures.value at c.in-Some.ensures.next in
    let best = rw c.as_slice.ensures.value at c.in-Some.ensures.best in
    let starts = rw c.as_slice.ensures.value at c.in-Some.ensures.starts in
    record {
      are_open = rw items (AreOpenSteps-push c.args.total c.args.link.now c.loop-made.steps.items c.in-Some.step c.loop-made.invariant.are_open low next best (λ m within. (c.requires.modules m no_module within).cost));
      count = rw (items, length-push) (omega (arith, c.loop-made.invariant.count));
      starts = rw items (AreStarts-push c.args.link.now c.loop-made.steps.items c.in-Some.step c.next_step.new.starts.items next starts);
    }

pub returns-clause-fault : goal.returns-clause-fault
returns-clause-fault c = (refl, HasMoreSteps-steps c.args.total c.args.link.now c.loop-made.steps.items _ c.loop-made.invariant.are_open.are_steps (omega (arith, c.loop-made.invariant.count)))
