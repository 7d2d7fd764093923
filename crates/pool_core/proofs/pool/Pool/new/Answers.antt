use Rattle.std.proofs.Common.{refl, ◌≡◌, ◌+◌, ◌≤◌, ℕ, length, ap, sym, subst, ◌∙◌, arith}
use Rattle.std.specs.Arc.{arc_value}
use Rattle.plan_base.specs.declared.parts.Parts.{Parts}
use Rattle.plan_base.specs.Facts.{IsInstance}
use Rattle.plan_base.specs.Places.{places}
use Rattle.link_steps.specs.Unit.{IsUnit}
use Rattle.proof_tree.specs.Cuts.{IsCutList}
use Rattle.cut_values.specs.Numbers.{CutProblem, AreNumbers, AreStartNumbers}
use Rattle.column_pool.specs.Columns.{no_columns}
use Rattle.search_view.specs.Views.{AreFreePlaces}
use Rattle.pool_core.specs.Roots.{HasFreeRoot}
use Rattle.pool_core.proofs.ReadTables.{of_equal}
use Rattle.pool_core.proofs.Making.{opening-kept-at, opening-state-at}
use Rattle.pool_core.proofs.pool.Pool.new.Goals as goal

pub new-requires : goal.new-requires
new-requires c = subst (λ (p : Parts). IsCutList p c.args.cuts) (sym c.requires.table) c.requires.cuts

pub opening_with-requires : goal.opening_with-requires
opening_with-requires c =
    let p = arc_value c.args.inst in
    let same : c.deref.result.now ≡ p = c.deref.ensures in
    let table : c.in_ok-made.made.problem ≡ p = ap (λ (t : CutProblem). t.problem) c.in_ok-made.ensures ∙ c.requires.table in
    let cuts : length c.in_ok-made.made.cuts ≡ length c.args.cuts = ap (λ (t : CutProblem). length t.cuts) c.in_ok-made.ensures in
    let width : length c.in_ok-prices.prices ≡ places c.in_ok-made.made.problem + length c.in_ok-made.made.cuts = c.in_ok-prices.ensures.start.count in
    let few = c.requires.cuts.few in
    let one : places c.in_ok-made.made.problem ≡ places p = ap places table in
    let most : places p ≤ 2048 = subst (λ (q : Parts). places q ≤ 2048) same (subst (λ (n : ℕ). n ≤ 2048) c.places-places.ensures.value c.places-places.ensures.within) in
    omega arith

pub invariant_of-result : goal.invariant_of-result
invariant_of-result c =
    let p = arc_value c.args.inst in
    let table = arc_value c.in_ok-table.table in
    let prices = c.in_ok-prices.prices in
    let lawful : IsInstance p = subst IsInstance c.deref.ensures c.places-places.ensures.lawful in
    let is_unit : IsUnit p c.cost_unit-unit.result = subst (λ (q : Parts). IsUnit q c.cost_unit-unit.result) c.deref-4.ensures c.cost_unit-unit.ensures in
    let is_p : c.in_ok-made.made.problem ≡ p = ap (λ (t : CutProblem). t.problem) c.in_ok-made.ensures ∙ c.requires.table in
    let same : c.in_ok-made.made ≡ table = sym c.in_ok-table.ensures.ok in
    let cuts : c.args.cuts ≡ table.cuts = sym (ap (λ (t : CutProblem). t.cuts) c.in_ok-made.ensures) ∙ ap (λ (t : CutProblem). t.cuts) same in
    let are_cuts : IsCutList p table.cuts = subst (IsCutList p) cuts c.requires.cuts in
    let start : AreStartNumbers p table.cuts prices = of_equal (λ q xs. AreStartNumbers q xs prices) _ _ _ _ is_p (ap (λ (t : CutProblem). t.cuts) same) c.in_ok-prices.ensures.start in
    let numbers : AreNumbers p table.cuts prices = of_equal (λ q xs. AreNumbers q xs prices) _ _ _ _ is_p (ap (λ (t : CutProblem). t.cuts) same) c.in_ok-prices.ensures.numbers in
    let columns : c.in_ok-opening.opening.columns ≡ no_columns p = subst (λ (q : Parts). c.in_ok-opening.opening.columns ≡ no_columns q) c.deref-2.ensures c.in_ok-opening.ensures.columns in
    record {
      kept =
          opening-kept-at p table.cuts c.cost_unit-unit.result c.args.budget prices lawful are_cuts is_unit start numbers table c.in_ok-opening.opening.nodes.items c.in_ok-opening.opening.columns c.in_ok-opening.opening.grounds.items c.in_ok-opening.opening.places.items
          c.requires.some_budget c.requires.budget (ap (λ (t : CutProblem). t.problem) (sym same) ∙ is_p) refl
          (subst (λ (n : ℕ). AreFreePlaces 64 (length p.demands) n c.in_ok-opening.opening.places.items) start.count
          (subst (λ (q : Parts). AreFreePlaces 64 (length q.demands) (length prices) c.in_ok-opening.opening.places.items) c.deref-2.ensures c.in_ok-opening.ensures.free))
          (subst (λ (q : Parts). HasFreeRoot q c.in_ok-opening.opening.grounds.items) c.deref-2.ensures c.in_ok-opening.ensures.grounds)
          c.in_ok-opening.ensures.root
          columns;
      room_is = of_equal (λ q xs. c.in_ok-opening.opening.room ≡ places q + length xs) _ _ _ _ c.deref-2.ensures (ap (λ (t : CutProblem). t.cuts) c.deref-3.ensures) c.in_ok-opening.ensures.room;
    }

pub returns : goal.returns
returns c =
    let p = arc_value c.args.inst in
    let prices = c.in_ok-prices.prices in
    let lawful : IsInstance p = subst IsInstance c.deref.ensures c.places-places.ensures.lawful in
    let is_unit : IsUnit p c.cost_unit-unit.result = subst (λ (q : Parts). IsUnit q c.cost_unit-unit.result) c.deref-4.ensures c.cost_unit-unit.ensures in
    let is_p : c.in_ok-made.made.problem ≡ p = ap (λ (t : CutProblem). t.problem) c.in_ok-made.ensures ∙ c.requires.table in
    let is_cuts : c.in_ok-made.made.cuts ≡ c.args.cuts = ap (λ (t : CutProblem). t.cuts) c.in_ok-made.ensures in
    let start : AreStartNumbers p c.args.cuts prices = of_equal (λ q xs. AreStartNumbers q xs prices) _ _ _ _ is_p is_cuts c.in_ok-prices.ensures.start in
    let numbers : AreNumbers p c.args.cuts prices = of_equal (λ q xs. AreNumbers q xs prices) _ _ _ _ is_p is_cuts c.in_ok-prices.ensures.numbers in
    let columns : c.in_ok-opening.opening.columns ≡ no_columns p = subst (λ (q : Parts). c.in_ok-opening.opening.columns ≡ no_columns q) c.deref-2.ensures c.in_ok-opening.ensures.columns in
    let held : (arc_value c.in_ok-table.table).cuts ≡ c.args.cuts = ap (λ (t : CutProblem). t.cuts) (c.in_ok-table.ensures.ok ∙ c.in_ok-made.ensures) in
    record {
      opening = opening-state-at p c.args.cuts c.cost_unit-unit.result c.args.budget prices lawful c.requires.cuts is_unit start numbers (arc_value c.in_ok-table.table).cuts
          c.in_ok-opening.opening.nodes.items c.in_ok-opening.opening.columns held c.in_ok-opening.ensures.root columns;
    }
