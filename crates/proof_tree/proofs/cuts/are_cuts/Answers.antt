use Rattle.std.proofs.Common.{ℕ, ◌≡◌, inl, inr, refl, sym, subst, ◌∙◌}
use Rattle.std.proofs.lemmas.List.{get_or_default}
use Rattle.link_steps.proofs.Order.{before_or_last}
use Rattle.proof_tree.specs.Cuts.{cut_at, no_cut, IsCut}
use Rattle.proof_tree.proofs.cuts.are_cuts.Goals as goal

pub loop-number-preserved : goal.loop-number-preserved
loop-number-preserved c = λ i below.
    let cuts = c.args.cuts.now in
    let number = c.loop-number.number in
    let same : cut_at cuts number ≡ c.index-cuts-number.result = get_or_default cuts number no_cut c.index-cuts-number.result c.loop-number-test.true ∙ sym c.index-cuts-number.is in
    elim (before_or_last i number below) [
      | inl before ↦ c.loop-number.invariant i before
      | inr last ↦ subst (λ (n : ℕ). IsCut c.args.inst.now (cut_at cuts n)) (sym last) (subst (IsCut c.args.inst.now) (sym same) (c.if-not-fits.ensures.0 refl))
    ]
