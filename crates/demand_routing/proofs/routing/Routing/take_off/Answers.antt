use Rattle.std.proofs.Common.{◌≡◌, ◌∙◌, ◌<◌, true, false, length, sym, true≢false, arith, rules}
use Rattle.std.proofs.lemmas.List.{get_or_default}
use Rattle.demand_routing.specs.Routings.{is_marked}
use Rattle.demand_routing.proofs.routing.Routing.take_off.Goals as goal

pub returns-clause-without : goal.returns-clause-without
returns-clause-without c =
    let laid = c.args.self.now.laid.items in
    let marked : c.args.demand.0 < length laid = omega (arith, c.requires.demand, c.requires.routing.marks) in
    let on : is_marked laid c.args.demand.0 ≡ true = get_or_default laid c.args.demand.0 false c.index.result.now marked ∙ sym c.index.ensures ∙ c.if-not-index.false in
    record {
      fall = c.rise-fall.result;
      are_loads = search rules;
      is_fall = λ _. search rules;
      no_fall = λ off. absurd (true≢false (sym on ∙ off));
      is_cost = search rules;
    }
