use Rattle.std.proofs.Common.{◌≡◌, ℕ, replicate, ap, ◌∙◌, arith, rules}
use Rattle.plan_base.proofs.CountSums.{none_of_each}
use Rattle.link_steps.proofs.Made.{IsMadeOf-pre, IsMadeOf-one}
use Rattle.link_steps.proofs.reading.chosen_counts.Goals as goal
use Rattle.link_steps.proofs.reading.chosen_counts.Goals.{then-load-link, else-load-link}

pub returns : goal.returns
returns c =
    let counts : c.in_ok-counts.counts.items ≡ none_of_each c.args.link.now = c.in_ok-counts.ensures.items_if_clones_equal (λ y is. search rules) ∙ ap (λ (n : ℕ). replicate {A = ℕ} n 0) c.len.ensures in
    elim c.if-load-link.branch [
      | then-load-link w ↦ rw (w.counts-is, counts) (IsMadeOf-one c.args.link.now c.args.step c.args.load c.requires.load (c.requires.one (omega (arith, w.if-load-link.true))))
      | else-load-link w ↦ rw (w.counts-is, counts) (IsMadeOf-pre c.args.link.now c.args.step c.args.load (omega (arith, w.if-load-link.false)) (c.requires.none (omega (arith, w.if-load-link.false))))
    ]
