use Rattle.std.proofs.Common.{◌≡◌, ◌<◌, List, length, sym, ap, subst, ◌∙◌, rules}
use Rattle.arc_restrict.specs.Rows.{forbids}
use Rattle.proof_tree.specs.declared.cuts.Cut.{Cut}
use Rattle.column_pool.specs.Columns.{permitted_at}
use Rattle.cut_values.specs.Numbers.{AreNumbers}
use Rattle.master_step.specs.Restricted.{IsRestrictedValue}
use Rattle.std.proofs.lemmas.Int.{to_z-of_z}
use mir.Syntax.{w128}
use mir.Val.{SFits}
use Rattle.search_nodes.specs.SearchStates.{machine_state}
use Rattle.search_machine.specs.State.{State, ranges_of}
use Rattle.search_machine.specs.Gathering.{columns_for}
use Rattle.search_machine.specs.Soundness.{IsSound}
use Rattle.search_machine.proofs.Runs.{IsReachable-sound}
use Rattle.search_view.specs.Valuing.{IsGatheredAt, ForRound}
use Rattle.search_view.proofs.Valuing.{gathered-round, region-read, ask-numbers, ask-ranges, ask-columns, ask-permitted, tell}
use Rattle.search_view.proofs.Reading.{round-kept, plot-some, ground-within}
use Rattle.search_view.proofs.view.PoolView.value.Goals as goal

pub index-requires : goal.index-requires
index-requires c =
    let s = machine_state c.self.inside.state.now in
    let at : IsGatheredAt s c.args.node = subst (λ (x : State). IsGatheredAt x c.args.node) (sym c.self.view_is) c.requires.gathered in
    let within : c.args.node.0 < length c.self.inside.state.now.grounds.items = ground-within s c.args.node c.self.inside.state.now.grounds.items c.self.invariant.has_grounds (gathered-round s c.args.node at) in
    search rules

pub unwrap-plot-requires : goal.unwrap-plot-requires
unwrap-plot-requires c =
    let s = machine_state c.self.inside.state.now in
    let at : IsGatheredAt s c.args.node = subst (λ (x : State). IsGatheredAt x c.args.node) (sym c.self.view_is) c.requires.gathered in
    let w = round-kept s c.args.node c.self.inside.state.now.grounds.items c.index.result.now (IsReachable-sound s c.self.invariant.pool.reachable) c.self.invariant.has_grounds (gathered-round s c.args.node at) c.index.ensures in
    plot-some s.problem at.node c.index.result.now w c.plot.result _ c.plot.ensures

pub value-requires : goal.value-requires
value-requires c =
    let s = machine_state c.self.inside.state.now in
    let sound : IsSound s = IsReachable-sound s c.self.invariant.pool.reachable in
    let at : IsGatheredAt s c.args.node = subst (λ (x : State). IsGatheredAt x c.args.node) (sym c.self.view_is) c.requires.gathered in
    let given : AreNumbers s.problem s.cuts c.args.prices.now = subst (λ (x : State). AreNumbers x.problem x.cuts c.args.prices.now) (sym c.self.view_is) c.requires.prices in
    let is = region-read _ s c.args.node c.self.inside.state.now.grounds.items c.index.result.now c.plot.result c.unwrap-plot.result _ _ sound c.self.invariant.has_grounds at c.index.ensures c.plot.ensures c.unwrap-plot.ensures
    (c.deref-2.ensures ∙ c.rows.ensures) (c.deref.ensures ∙ c.ranges-2.ensures) in
    let is_p : c.problem.result.now ≡ s.problem = c.problem.ensures ∙ ap (λ (x : State). x.problem) (sym c.self.view_is) in
    let is_cuts : c.table.result.now.cuts ≡ s.cuts = c.table.ensures.cuts ∙ ap (λ (x : State). x.cuts) (sym c.self.view_is) in
    record {
      table = c.table.ensures.problem ∙ sym c.problem.ensures;
      are_ranges = ask-ranges s c.args.node sound at c.problem.result.now c.deref-2.result.now is_p is.forbidden c.deref.result.now is.ranges_are;
      numbers = ask-numbers s c.args.node sound at c.problem.result.now c.deref-2.result.now is_p is.forbidden c.table.result.now.cuts c.args.prices.now is_cuts given;
      columns = ask-columns s c.args.node sound at c.problem.result.now c.deref-2.result.now is_p is.forbidden;
      permitted = ask-permitted s c.args.node sound at c.problem.result.now c.deref-2.result.now is_p is.forbidden;
    }

pub returns : goal.returns
returns c =
    let s = machine_state c.self.inside.state.now in
    let sound : IsSound s = IsReachable-sound s c.self.invariant.pool.reachable in
    let at : IsGatheredAt s c.args.node = subst (λ (x : State). IsGatheredAt x c.args.node) (sym c.self.view_is) c.requires.gathered in
    let is = region-read _ s c.args.node c.self.inside.state.now.grounds.items c.index.result.now c.plot.result c.unwrap-plot.result _ _ sound c.self.invariant.has_grounds at c.index.ensures c.plot.ensures c.unwrap-plot.ensures
    (c.deref-2.ensures ∙ c.rows.ensures) (c.deref.ensures ∙ c.ranges-2.ensures) in
    let is_p : c.problem.result.now ≡ s.problem = c.problem.ensures ∙ ap (λ (x : State). x.problem) (sym c.self.view_is) in
    let is_cuts : c.table.result.now.cuts ≡ s.cuts = c.table.ensures.cuts ∙ ap (λ (x : State). x.cuts) (sym c.self.view_is) in
    let worth : IsRestrictedValue c.problem.result.now s.cuts c.deref.result.now (permitted_at (forbids c.deref-2.result.now) s.columns) c.args.prices.now c.value.result =
    subst (λ (xs : List Cut). IsRestrictedValue c.problem.result.now xs c.deref.result.now (permitted_at (forbids c.deref-2.result.now) s.columns) c.args.prices.now c.value.result) is_cuts c.value.ensures in
    let fits : SFits w128 c.value.result = search rules in
    rw (to_z-of_z w128 c.value.result fits)
    (subst (λ (x : State). ForRound x c.args.node (λ n round. IsRestrictedValue x.problem x.cuts (ranges_of x.problem n) (columns_for x n) c.args.prices.now c.value.result)) c.self.view_is
    (tell s c.args.node sound at c.problem.result.now c.deref-2.result.now is_p is.forbidden (λ p ranges choices prices. IsRestrictedValue p s.cuts ranges choices prices c.value.result) c.deref.result.now c.args.prices.now is.ranges_are worth))
