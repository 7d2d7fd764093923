use Rattle.std.proofs.Common.{sym, ◌∙◌, rules}
use Rattle.std.proofs.lemmas.List.{get_or_default}
use Rattle.proof_tree.specs.Cuts.{no_cut}
use Rattle.proof_tree.proofs.RatedTotals.{rated-crossed, rated-passed}
use Rattle.proof_tree.proofs.rates.put_rated.Goals as goal
use Rattle.proof_tree.proofs.rates.put_rated.Goals.{then-crosses+in_ok-push, else-crosses}

pub loop-number-preserved : goal.loop-number-preserved
loop-number-preserved c =
    let n = c.args.numbers.now in
    let number = c.loop-number.number in
    let here = sym (get_or_default n.cuts.now number no_cut c.index-numbers-number.result c.loop-number-test.true) in
    let inst = c.instance-inst.result.now in
    elim c.if-crosses.branch [
      | then-crosses+in_ok-push w ↦ rw (w.list-is, w.in_ok-push.ensures.items, c.loop-number.invariant)
          (rated-crossed n.table.now inst n.cuts.now _ n.rates.now c.args.place number _ c.instance-inst.ensures.inst here (sym c.crosses.ensures ∙ w.if-crosses.true) (search rules))
      | else-crosses w ↦ rw (w.list-is, c.loop-number.invariant)
          (rated-passed n.table.now inst n.cuts.now _ n.rates.now c.args.place number c.instance-inst.ensures.inst here (sym c.crosses.ensures ∙ w.if-crosses.false))
    ]
