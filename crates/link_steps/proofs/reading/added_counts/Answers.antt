use Rattle.std.proofs.Common.{◌≡◌, ℕ, replicate, ap, ◌∙◌, arith, rules}
use Rattle.plan_base.proofs.CountSums.{none_of_each}
use Rattle.link_steps.proofs.Made.{IsMadeSoFar-none, IsMadeSoFar-item, IsMadeSoFar-next}
use Rattle.link_steps.proofs.reading.added_counts.Goals as goal

pub loop-here-init : goal.loop-here-init
loop-here-init c =
    let counts : c.in_ok-counts.counts.items ≡ none_of_each c.args.link.now = c.in_ok-counts.ensures.items_if_clones_equal (λ y is. search rules) ∙ ap (λ (n : ℕ). replicate {A = ℕ} n 0) c.len.ensures in
    rw counts (IsMadeSoFar-none c.args.link.now c.args.steps.now c.args.place)

pub overflow_add-index_mut : goal.overflow_add-index_mut
overflow_add-index_mut c =
    let adds = c.requires.steps.made.adds c.loop-here.here (omega arith) (omega (arith, c.loop-here.invariant.within)) in
    omega (arith, IsMadeSoFar-item c.args.link.now c.args.steps.now c.args.place c.loop-here.here c.index_mut.result.now c.loop-here.counts.items adds c.loop-here.invariant c.index_mut.ensures.value)

pub loop-here-preserved : goal.loop-here-preserved
loop-here-preserved c =
    let adds = c.requires.steps.made.adds c.loop-here.here (omega arith) (omega (arith, c.loop-here.invariant.within)) in
    IsMadeSoFar-next c.args.link.now c.args.steps.now c.args.place c.loop-here.here c.index_mut.result.now c.loop-here.counts.items adds c.loop-here.invariant c.index_mut.ensures.value
