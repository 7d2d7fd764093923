use Rattle.std.proofs.Common.{◌≡◌, ℕ, replicate, ap, ◌∙◌, arith, rules}
use Rattle.plan_base.proofs.CountSums.{none_of_each}
use Rattle.link_steps.proofs.Made.{IsMadeOf-none, IsMadeOf-free}
use Rattle.link_steps.proofs.reading.free_counts.Goals as goal
use Rattle.link_steps.proofs.reading.free_counts.Goals.{then-load-link, else-load-link}

pub returns : goal.returns
returns c =
    let counts : c.in_ok-counts.counts.items ≡ none_of_each c.args.link.now = c.in_ok-counts.ensures.items_if_clones_equal (λ y is. search rules) ∙ ap (λ (n : ℕ). replicate {A = ℕ} n 0) c.len.ensures in
    elim c.if-load-link.branch [
      | then-load-link w ↦
          (let ceil = rw w.as_slice.ensures.value at w.div_ceil.ensures in
          rw (w.counts-is, counts) (IsMadeOf-free c.args.link.now c.args.steps.now c.args.load w.div_ceil.result c.requires.steps w.if-load-link.true c.requires.load (omega (arith, c.requires.load, c.requires.steps.made.first.within)) ceil))
      | else-load-link w ↦ rw (w.counts-is, counts) (IsMadeOf-none c.args.link.now c.args.steps.now c.args.load c.requires.steps (omega (arith, w.if-load-link.false)))
    ]
