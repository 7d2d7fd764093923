use Rattle.std.proofs.Common.{◌≡◌, ◌<◌, ◌+◌, length, sym, ap, subst, ◌∙◌, rules}
use Rattle.arc_restrict.specs.Rows.{forbids}
use Rattle.pool_core.specs.contracts.pool.Pool.{the_view}
use Rattle.plan_base.specs.Places.{places}
use Rattle.column_pool.specs.Columns.{permitted_at}
use Rattle.master_step.specs.Outcomes.{HasGain, HasStalled}
use Rattle.search_machine.specs.State.{State, ranges_of}
use Rattle.search_machine.specs.Gathering.{columns_for}
use Rattle.cut_values.specs.Numbers.{CutProblem, AreNumbers}
use Rattle.search_machine.specs.Soundness.{IsSound}
use Rattle.search_machine.proofs.Runs.{IsReachable-sound}
use Rattle.search_view.specs.Valuing.{IsGatheredAt, ForRound}
use Rattle.search_view.proofs.Valuing.{gathered-round, region-read, ask-numbers, ask-ranges, ask-columns, ask-permitted, tell-round}
use Rattle.pool_core.proofs.ReadTables.{as_read}
use Rattle.pool_core.proofs.Valuing.{gathered-some, read-prices, round-price_list, some_then, none_then}
use Rattle.search_view.proofs.Reading.{round-kept, plot-some, read-round, ground-within, shown-some, has-within}
use Rattle.pool_core.proofs.pool.Pool.gain.Goals as goal

pub index-requires : goal.index-requires
index-requires c =
    let s = the_view c.self.inside in
    let at : IsGatheredAt s c.args.node = subst (λ (x : State). IsGatheredAt x c.args.node) (sym c.self.view_is) c.requires in
    let within : c.args.node.0 < length c.self.inside.state.grounds.items = ground-within s c.args.node c.self.inside.state.grounds.items c.self.invariant.kept.has_grounds (gathered-round s c.args.node at) in
    search rules

pub unwrap-plot-requires : goal.unwrap-plot-requires
unwrap-plot-requires c =
    let s = the_view c.self.inside in
    let at : IsGatheredAt s c.args.node = subst (λ (x : State). IsGatheredAt x c.args.node) (sym c.self.view_is) c.requires in
    let w = round-kept s c.args.node c.self.inside.state.grounds.items c.index.result.now (IsReachable-sound s c.self.invariant.kept.pool.reachable) c.self.invariant.kept.has_grounds (gathered-round s c.args.node at) c.index.ensures in
    plot-some s.problem at.node c.index.result.now w c.plot.result _ c.plot.ensures

pub index-requires-2 : goal.index-requires-2
index-requires-2 c =
    let s = the_view c.self.inside in
    let at : IsGatheredAt s c.args.node = subst (λ (x : State). IsGatheredAt x c.args.node) (sym c.self.view_is) c.requires in
    let within : c.args.node.0 < length c.self.inside.state.nodes.items = has-within s c.args.node (gathered-round s c.args.node at) in
    search rules

pub unwrap-round-requires : goal.unwrap-round-requires
unwrap-round-requires c =
    let s = the_view c.self.inside in
    let at : IsGatheredAt s c.args.node = subst (λ (x : State). IsGatheredAt x c.args.node) (sym c.self.view_is) c.requires in
    let read = read-round c.self.inside.state.nodes.items c.args.node.0 c.index-2.result.now (has-within s c.args.node (gathered-round s c.args.node at)) c.index-2.ensures in
    shown-some _ _ _ (c.round.ensures ∙ sym read) (gathered-some s c.args.node at)

pub gain-requires : goal.gain-requires
gain-requires c =
    let s = the_view c.self.inside in
    let sound : IsSound s = IsReachable-sound s c.self.invariant.kept.pool.reachable in
    let at : IsGatheredAt s c.args.node = subst (λ (x : State). IsGatheredAt x c.args.node) (sym c.self.view_is) c.requires in
    let is = region-read _ s c.args.node _ _ _ _ _ _ sound c.self.invariant.kept.has_grounds at c.index.ensures c.plot.ensures c.unwrap-plot.ensures (c.deref-4.ensures ∙ c.rows.ensures) (c.deref-3.ensures ∙ c.ranges-2.ensures) in
    let is_prices = read-prices _ s c.args.node c.index-2.result.now _ _ c.prices.result.now at c.index-2.ensures c.round.ensures c.unwrap-round.ensures c.prices.ensures in
    let prices : AreNumbers s.problem s.cuts c.prices.result.now = subst (AreNumbers s.problem s.cuts) (sym is_prices) (round-price_list s c.args.node sound at) in
    record {
      table = ap (λ (t : CutProblem). t.problem) c.deref-2.ensures ∙ (c.self.invariant.kept.table_is ∙ sym c.deref.ensures);
      are_ranges = ask-ranges s c.args.node sound at c.deref.result.now c.deref-4.result.now c.deref.ensures is.forbidden c.deref-3.result.now is.ranges_are;
      numbers = ask-numbers s c.args.node sound at c.deref.result.now c.deref-4.result.now c.deref.ensures is.forbidden c.deref-2.result.now.cuts c.prices.result.now (ap (λ (t : CutProblem). t.cuts) c.deref-2.ensures) prices;
      columns = ask-columns s c.args.node sound at c.deref.result.now c.deref-4.result.now c.deref.ensures is.forbidden;
      permitted = ask-permitted s c.args.node sound at c.deref.result.now c.deref-4.result.now c.deref.ensures is.forbidden;
      room = as_read (λ p cuts. c.self.inside.room ≡ places p + length cuts) _ _ _ _ c.deref.ensures c.deref-2.ensures c.self.invariant.room_is;
    }

pub invariant_of-self : goal.invariant_of-self
invariant_of-self c = record { kept = c.self.invariant.kept; room_is = c.gain.ensures.room ∙ c.self.invariant.room_is }

pub returns : goal.returns
returns c =
    let s = the_view c.self.inside in
    let sound : IsSound s = IsReachable-sound s c.self.invariant.kept.pool.reachable in
    let at : IsGatheredAt s c.args.node = subst (λ (x : State). IsGatheredAt x c.args.node) (sym c.self.view_is) c.requires in
    let is = region-read _ s c.args.node _ _ _ _ _ _ sound c.self.invariant.kept.has_grounds at c.index.ensures c.plot.ensures c.unwrap-plot.ensures (c.deref-4.ensures ∙ c.rows.ensures) (c.deref-3.ensures ∙ c.ranges-2.ensures) in
    let is_prices = read-prices _ s c.args.node c.index-2.result.now _ _ c.prices.result.now at c.index-2.ensures c.round.ensures c.unwrap-round.ensures c.prices.ensures in
    record {
      unchanged = search rules;
      some = some_then c.gain.result _ _
          (λ new has. subst (λ (x : State). ForRound x c.args.node (λ n round. HasGain x.problem x.cuts (ranges_of x.problem n) (columns_for x n) round.prices new)) c.self.view_is
          (tell-round s c.args.node sound at c.deref.result.now c.deref-4.result.now c.deref.ensures is.forbidden (λ p ranges choices prices. HasGain p s.cuts ranges choices prices new) c.deref-3.result.now c.prices.result.now is.ranges_are is_prices
          (subst (λ (t : CutProblem). HasGain c.deref.result.now t.cuts c.deref-3.result.now (permitted_at (forbids c.deref-4.result.now) s.columns) c.prices.result.now new) c.deref-2.ensures has)))
          c.gain.ensures.some;
      none = none_then c.gain.result _ _
          (λ stalled. subst (λ (x : State). ForRound x c.args.node (λ n round. HasStalled x.problem x.cuts (ranges_of x.problem n) (columns_for x n) round.prices)) c.self.view_is
          (tell-round s c.args.node sound at c.deref.result.now c.deref-4.result.now c.deref.ensures is.forbidden (λ p ranges choices prices. HasStalled p s.cuts ranges choices prices) c.deref-3.result.now c.prices.result.now is.ranges_are is_prices
          (subst (λ (t : CutProblem). HasStalled c.deref.result.now t.cuts c.deref-3.result.now (permitted_at (forbids c.deref-4.result.now) s.columns) c.prices.result.now) c.deref-2.ensures stalled)))
          c.gain.ensures.none;
    }
