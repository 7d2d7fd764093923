use Rattle.std.proofs.Common.{◌≡◌, ℕ, List, refl, sym, ap, subst, ◌∙◌, rules}
use Rattle.std.proofs.lemmas.Int.{to_z-of_z}
use mir.Syntax.{w128}
use mir.Val.{SFits}
use Rattle.cut_values.specs.Numbers.{AreNumbers}
use Rattle.column_pool.specs.Columns.{Columns, columns_at}
use Rattle.master_step.specs.declared.source.Source.TheVariants.{Lists}
use Rattle.master_step.specs.Columns.{Choices, HasColumns}
use Rattle.master_step.specs.Restricted.{IsRestrictedValue}
use Rattle.master_step.specs.Choosing.{allowed_of}
use Rattle.master_step.proofs.Looking.{lists-allowed}
use Rattle.master_step.proofs.Trying.{same-le, int_lt-false}
use Rattle.master_step.proofs.ascending.ascend_from.Goals as goal

pub value_of-old-requires-clause-columns : goal.value_of-old-requires-clause-columns
value_of-old-requires-clause-columns c =
    rw c.instance-inst.ensures.inst
    (subst (HasColumns c.args.node.now.table.now.problem) (sym (lists-allowed c.as_slice-lists.result))
    (subst (λ (columns : Columns). HasColumns c.args.node.now.table.now.problem (columns_at columns)) (sym c.as_slice-lists.ensures.value) c.requires.columns))

pub returns-then-new-old : goal.returns-then-new-old
returns-then-new-old c =
    let node = c.args.node.now in
    let p = node.table.now.problem in
    let choices : allowed_of (Lists c.as_slice-lists.result) ≡ columns_at node.brief.now.columns = lists-allowed c.as_slice-lists.result ∙ ap columns_at c.as_slice-lists.ensures.value in
    let fits : SFits w128 c.value_of-old.result = search rules in
    let at_inst = rw c.instance-inst.ensures.inst at c.value_of-old.ensures in
    let old : IsRestrictedValue p node.table.now.cuts node.brief.now.ranges (columns_at node.brief.now.columns) c.args.from.now c.value_of-old.result =
    subst (λ (cs : Choices). IsRestrictedValue p node.table.now.cuts node.brief.now.ranges cs c.args.from.now c.value_of-old.result) choices at_inst in
    rw (to_z-of_z w128 c.value_of-old.result fits) (record {
      are_numbers = subst (AreNumbers p node.table.now.cuts) (sym c.in_ok-prices-2.ensures) (c.requires.from);
      is_old = old;
      is_new = subst (λ (xs : List ℕ). IsRestrictedValue p node.table.now.cuts node.brief.now.ranges (columns_at node.brief.now.columns) xs c.value_of-old.result) (sym c.in_ok-prices-2.ensures) old;
      not_less = same-le c.value_of-old.result c.value_of-old.result refl;
    })

pub returns : goal.returns
returns c =
    let node = c.args.node.now in
    let p = node.table.now.problem in
    let choices : allowed_of (Lists c.as_slice-lists.result) ≡ columns_at node.brief.now.columns = lists-allowed c.as_slice-lists.result ∙ ap columns_at c.as_slice-lists.ensures.value in
    let fits : SFits w128 c.value_of-old.result = search rules in
    let new_fits : SFits w128 c.value_of-new.result = search rules in
    let old_value = rw c.instance-inst.ensures.inst at c.value_of-old.ensures in
    let new_value = rw c.instance-inst.ensures.inst at c.value_of-new.ensures in
    rw (to_z-of_z w128 c.value_of-old.result fits, to_z-of_z w128 c.value_of-new.result new_fits) (record {
      are_numbers = c.in_ok-prices.ensures;
      is_old = subst (λ (cs : Choices). IsRestrictedValue p node.table.now.cuts node.brief.now.ranges cs c.args.from.now c.value_of-old.result) choices old_value;
      is_new = subst (λ (cs : Choices). IsRestrictedValue p node.table.now.cuts node.brief.now.ranges cs c.in_ok-prices.prices c.value_of-new.result) choices new_value;
      not_less =
          (let less = rw (to_z-of_z w128 c.value_of-new.result new_fits, to_z-of_z w128 c.value_of-old.result fits) at c.if-new-old.false in
          int_lt-false c.value_of-new.result c.value_of-old.result less);
    })
