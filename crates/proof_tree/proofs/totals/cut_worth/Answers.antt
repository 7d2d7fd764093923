use Rattle.std.proofs.Common.{ℕ, ◌*◌, slice_index, ap, ◌∙◌, arith}
use Rattle.proof_tree.proofs.RatedSizes.{cut_worth-small}
use Rattle.proof_tree.proofs.totals.cut_worth.Goals as goal

pub overflow_mul-result : goal.overflow_mul-result
overflow_mul-result c =
    let small = cut_worth-small c.args.inst.now c.args.cuts.now c.args.rates.now c.args.number c.requires.cuts c.requires.limit c.requires.number in
    let same = ap (λ (n : ℕ). slice_index c.args.rates.now c.args.number * n) (c.from.ensures ∙ c.least_count.ensures) in
    omega (arith, small, same)

pub returns-clause-within : goal.returns-clause-within
returns-clause-within c =
    let small = cut_worth-small c.args.inst.now c.args.cuts.now c.args.rates.now c.args.number c.requires.cuts c.requires.limit c.requires.number in
    let same = ap (λ (n : ℕ). slice_index c.args.rates.now c.args.number * n) (c.from.ensures ∙ c.least_count.ensures) in
    omega (arith, small, same)
