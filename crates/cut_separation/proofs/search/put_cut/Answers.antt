use Rattle.std.proofs.Common.{refl, subst, ◌≢◌, ℕ, ◌<◌, List, arith}
use Rattle.proof_tree.specs.declared.cuts.Cut.{Cut}
use Rattle.proof_tree.specs.Cuts.{cut_at}
use Rattle.cut_separation.proofs.NextCuts.{grown_list, kept_before}
use Rattle.cut_separation.proofs.search.put_cut.Goals as goal

pub returns-then-is_new-clause-extended : goal.returns-then-is_new-clause-extended
returns-then-is_new-clause-extended c = record {
  list = grown_list c.args.inst.now c.args.list.now.items c.args.cut c.push.new.self.items c.len-number.result c.in_ok-push.ensures.items (omega (arith, c.len-number.ensures)) c.requires
      (omega (arith, c.if-len-ge-MAX_CUTS.false)) (c.if-not-fits.ensures.0 refl)
      (subst (λ (list : List Cut). (i : ℕ) → i < c.len-number.result → cut_at list i ≢ cut_at list c.len-number.result) c.deref.ensures.value (c.if-is_new.ensures.0 refl));
  kept = kept_before c.args.list.now.items c.push.new.self.items c.args.cut c.in_ok-push.ensures.items;
}
