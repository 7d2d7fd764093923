use Rattle.std.proofs.Common.{◌≡◌, ◌<◌, ◌+◌, ◌-◌, ℕ, suc, None, List, Option, length, replicate, ap, subst, sym, ◌∙◌, arith}
use Rattle.std.proofs.lemmas.List.{length-replicate}
use Rattle.plan_base.specs.declared.parts.Demand.{Demand}
use Rattle.plan_base.specs.Arcs.{demand_at}
use Rattle.arc_restrict.specs.Prices.{price_of}
use Rattle.verifier_paths.specs.Labels.{open_arcs, first_labels, AreSmall, AreLeastWithin, AreOffered, LeavesBelow, HasOffered}
use Rattle.verifier_paths.proofs.Rounding.{first_least, least-small, fixed_round, rounds_done, round_law, round_offers, none_offers}
use Rattle.verifier_paths.proofs.LeastPrices.{open_are_arcs}
use Rattle.verifier_paths.proofs.rounds.least_prices.Goals as goal

pub loop-round-init : goal.loop-round-init
loop-round-init c =
    let p = c.args.ways.now.inst.now in
    let k = c.args.ways.now.demand.0 in
    let takes = open_arcs c.args.ways.now in
    let d = demand_at p k in
    let none : c.in_ok-earlier.earlier.items ≡ replicate p.nodes None = c.in_ok-earlier.ensures ∙ ap (λ (n : ℕ). replicate {A = Option ℕ} n None) c.nodes-nodes.ensures.value in
    let is : c.in_ok-old.old.items ≡ first_labels p.nodes d.source.0 =
    c.in_ok-old.ensures ∙ ap (λ (n : ℕ). first_labels n c.demand.result.now.source.0) c.nodes-nodes.ensures.value ∙ ap (λ (x : Demand). first_labels p.nodes x.source.0) c.demand.ensures.value in
    let within = subst (λ (x : Demand). x.source.0 < p.nodes) c.demand.ensures.value c.demand.ensures.lawful.source in
    record {
      same = c.in_ok-new.ensures.items ∙ c.deref.ensures.value;
      some = omega arith;
      least = subst (AreLeastWithin p takes (price_of p c.args.prices.now) d.source.0 0) (sym is) (first_least p takes c.args.prices.now d.source.0 within);
      count = ap length none ∙ length-replicate p.nodes None;
      offered = subst (λ (xs : List (Option ℕ)). HasOffered p takes c.args.prices.now xs c.in_ok-old.old.items) (sym none) (none_offers p takes c.args.prices.now c.in_ok-old.old.items c.lawful.ensures (open_are_arcs c.args.ways.now));
    }

pub relax_all-requires-clause-small : goal.relax_all-requires-clause-small
relax_all-requires-clause-small c =
    let p = c.args.ways.now.inst.now in
    let takes = open_arcs c.args.ways.now in
    subst AreSmall (sym c.deref-in-loop-round-2.ensures.value)
    (least-small p takes c.args.prices.now (demand_at p c.args.ways.now.demand.0).source.0 (c.loop-round._round - 1) c.loop-round.old.items c.requires.limit
    (omega (arith, c.nodes-nodes.ensures.within, c.loop-round-test.true)) c.loop-round.invariant.least)

pub relax_all-requires-clause-offered : goal.relax_all-requires-clause-offered
relax_all-requires-clause-offered c =
    let p = c.args.ways.now.inst.now in
    let takes = open_arcs c.args.ways.now in
    subst (λ (xs : List (Option ℕ)). HasOffered p takes c.args.prices.now xs c.deref-in-loop-round-2.result.now) (sym c.deref-in-loop-round.ensures.value)
    (subst (HasOffered p takes c.args.prices.now c.loop-round.earlier.items) (sym c.deref-in-loop-round-2.ensures.value) c.loop-round.invariant.offered)

pub returns-then-are_same-clause-least : goal.returns-then-are_same-clause-least
returns-then-are_same-clause-least c =
    let p = c.args.ways.now.inst.now in
    let k = c.args.ways.now.demand.0 in
    let takes = open_arcs c.args.ways.now in
    let cost = price_of p c.args.prices.now in
    let old = c.loop-round.old.items in
    let same : old ≡ c.relax_all.new.new.items = sym c.deref-in-loop-round-3.ensures.value ∙ c.are_same.ensures c.if-are_same.true ∙ c.deref-in-loop-round-4.ensures.value in
    let offered = subst (λ (xs : List (Option ℕ)). AreOffered p takes c.args.prices.now xs (LeavesBelow p p.nodes) xs c.relax_all.new.new.items) c.deref-in-loop-round-2.ensures.value c.relax_all.ensures in
    let fixed = subst (λ (xs : List (Option ℕ)). AreOffered p takes c.args.prices.now old (LeavesBelow p p.nodes) old xs) (sym same) offered in
    fixed_round p takes cost (demand_at p k).source.0 (c.loop-round._round - 1) old (round_law p takes c.args.prices.now old old c.lawful.ensures (open_are_arcs c.args.ways.now) fixed)
    (omega (arith, c.nodes-nodes.ensures.value, c.loop-round-test.true)) c.loop-round.invariant.least

pub loop-round-preserved : goal.loop-round-preserved
loop-round-preserved c =
    let p = c.args.ways.now.inst.now in
    let k = c.args.ways.now.demand.0 in
    let takes = open_arcs c.args.ways.now in
    let prices = c.args.prices.now in
    let cost = price_of p prices in
    let source = (demand_at p k).source.0 in
    let old = c.loop-round.old.items in
    let new = c.relax_all.new.new.items in
    let was : c.replace_prices.new.prices.items ≡ old = c.replace_prices.ensures ∙ c.deref-in-loop-round-5.ensures.value in
    let is : c.replace_prices-in-loop-round.new.prices.items ≡ new = c.replace_prices-in-loop-round.ensures ∙ c.deref-in-loop-round-6.ensures.value in
    let offered = subst (λ (xs : List (Option ℕ)). AreOffered p takes prices xs (LeavesBelow p p.nodes) xs new) c.deref-in-loop-round-2.ensures.value c.relax_all.ensures in
    let round = round_law p takes prices old new c.lawful.ensures (open_are_arcs c.args.ways.now) offered in
    let next : suc (c.loop-round._round - 1) ≡ c.loop-round._round + 1 - 1 = omega (arith, c.loop-round.invariant.some) in
    record {
      same = sym is;
      some = omega arith;
      least = subst (AreLeastWithin p takes cost source (c.loop-round._round + 1 - 1)) (sym is)
          (subst (λ (n : ℕ). AreLeastWithin p takes cost source n new) next (round source (c.loop-round._round - 1) c.loop-round.invariant.least));
      count = ap length was ∙ c.loop-round.invariant.least.count;
      offered = subst (λ (xs : List (Option ℕ)). HasOffered p takes prices xs c.replace_prices-in-loop-round.new.prices.items) (sym was)
          (subst (HasOffered p takes prices old) (sym is) (round_offers p takes prices old new c.lawful.ensures (open_are_arcs c.args.ways.now) offered));
    }

pub returns-clause-least : goal.returns-clause-least
returns-clause-least c =
    let p = c.args.ways.now.inst.now in
    let takes = open_arcs c.args.ways.now in
    let k = c.args.ways.now.demand.0 in
    let within = subst (λ (x : Demand). x.source.0 < p.nodes) c.demand.ensures.value c.demand.ensures.lawful.source in
    rounds_done p takes c.args.prices.now (demand_at p k).source (c.loop-round._round - 1) c.loop-round.old.items c.lawful.ensures
    (open_are_arcs c.args.ways.now) within
    (omega (arith, c.nodes-nodes.ensures.value, c.loop-round-test.false, c.loop-round.invariant.some))
    (omega (arith, c.nodes-nodes.ensures.value, c.loop-round.auto._round-end, c.loop-round.invariant.some))
    c.loop-round.invariant.least
