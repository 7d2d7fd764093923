use Rattle.std.proofs.Common.{◌≡◌, ℕ, suc, ◌*◌, ap, ◌∙◌, length, add-one, arith}
use Rattle.link_steps.specs.Tallies.{rated_at}
use Rattle.link_steps.proofs.RatedLoads.{worth_of, worth-sum, worth-before-small}
use Rattle.link_steps.proofs.rated.worth.Goals as goal

pub overflow_add-total : goal.overflow_add-total
overflow_add-total c =
    let more : (rated_at c.args.rated.now c.loop-item.item-index).rate * c.from-in-loop-item.result ≡ worth_of c.args.rated.now c.args.load c.loop-item.item-index = ap (λ (n : ℕ). (rated_at c.args.rated.now c.loop-item.item-index).rate * n) (c.from-in-loop-item.ensures ∙ c.part.ensures.value) in
    omega (arith, more, c.loop-item.invariant, c.requires.small, worth-before-small c.args.price c.args.rated.now c.args.load (suc c.loop-item.item-index) c.requires.tallies (omega (arith, c.loop-item-test.true)))

pub loop-item-preserved : goal.loop-item-preserved
loop-item-preserved c =
    let more : (rated_at c.args.rated.now c.loop-item.item-index).rate * c.from-in-loop-item.result ≡ worth_of c.args.rated.now c.args.load c.loop-item.item-index = ap (λ (n : ℕ). (rated_at c.args.rated.now c.loop-item.item-index).rate * n) (c.from-in-loop-item.ensures ∙ c.part.ensures.value) in
    rw add-one (omega (arith, more, c.loop-item.invariant))

pub returns-clause-value : goal.returns-clause-value
returns-clause-value c =
    let all : c.loop-item.item-index ≡ length c.args.rated.now = omega (arith, c.loop-item-test.false, c.loop-item.auto.item-index-end) in
    omega (arith, rw all at c.loop-item.invariant, worth-sum c.args.price c.args.rated.now c.args.load)

pub returns-clause-within : goal.returns-clause-within
returns-clause-within c =
    omega (arith, c.loop-item.invariant, c.requires.small, worth-before-small c.args.price c.args.rated.now c.args.load c.loop-item.item-index c.requires.tallies (omega (arith, c.loop-item-test.false, c.loop-item.auto.item-index-end)))
