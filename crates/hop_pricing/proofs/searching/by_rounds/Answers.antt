use Rattle.std.proofs.Common.{◌∙◌, Option, IfSome, IfNone, subst}
use Rattle.limited_path.specs.declared.searching.Way.{Way}
use Rattle.limited_path.specs.Within as limited
use Rattle.arc_restrict.specs.Rows.{forbids}
use Rattle.path_pricing.proofs.FoundLaws.{found-weights}
use Rattle.hop_pricing.proofs.RoundLaws.{least-found, none-found}
use Rattle.hop_pricing.proofs.searching.by_rounds.Goals as goal

pub search_within-requires-clause-weights : goal.search_within-requires-clause-weights
search_within-requires-clause-weights c =
    found-weights c.args.query.inst.now c.args.query.prices.now c.args.query.demand.0 (forbids c.args.query.restriction.now) c.deref.result.now c.requires.prices (c.deref.ensures.value ∙ c.in_ok-weights.ensures)

pub returns-in-Some : goal.returns-in-Some
returns-in-Some c =
    let p = c.args.query.inst.now in
    let ws = c.deref.result.now in
    let asked = c.demand-asked.result.now in
    let hops = c.args.hops in
    let way = c.in-Some.way in
    let h : limited.IsLeastWithin p ws asked.source asked.target hops way.path way.length = subst (λ (found : Option Way). IfSome found (λ w. limited.IsLeastWithin p ws asked.source asked.target hops w.path w.length)) c.in-Some.is c.in_ok-way.ensures.path in
    record {
      within = least-found p c.args.query.prices.now c.args.query.demand.0 hops (forbids c.args.query.restriction.now) ws asked way.path way.length (c.deref.ensures.value ∙ c.in_ok-weights.ensures) c.demand-asked.ensures.value h;
    }

pub returns : goal.returns
returns c =
    let p = c.args.query.inst.now in
    let ws = c.deref.result.now in
    let asked = c.demand-asked.result.now in
    let hops = c.args.hops in
    let h : limited.HasNoneWithin p ws asked.source asked.target hops = subst (λ (found : Option Way). IfNone found (limited.HasNoneWithin p ws asked.source asked.target hops)) c.in-None.is c.in_ok-way.ensures.none in
    record {
      within = (none-found p c.args.query.prices.now c.args.query.demand.0 hops (forbids c.args.query.restriction.now) ws asked (c.deref.ensures.value ∙ c.in_ok-weights.ensures) c.demand-asked.ensures.value h, c.in_ok-fewest-in-None.ensures.fewest);
    }
