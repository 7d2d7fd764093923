use Rattle.std.proofs.Common.{◌≡◌, ◌+◌, ◌↔◌, true, false, None, length, take, rules, tests, subst}
use Rattle.std.specs.Prelude.{IsTrue}
use Rattle.plan_base.specs.declared.parts.Parts.{Parts}
use Rattle.plan_base.specs.First.{first_in}
use Rattle.plan_base.specs.Places.{places}
use Rattle.cut_values.specs.Numbers.{AreNumbers}
use Rattle.search_machine.specs.Publishing.{price_fault}
use Rattle.search_view.proofs.Refusing.{refusal-told}
use Rattle.search_view.proofs.view.publishing.price_refusal.Goals as goal

pub returns-then-not-are_numbers : goal.returns-then-not-are_numbers
returns-then-not-are_numbers c =
    let count : length c.args.prices.now ≡ places c.args.inst.now + length c.args.table.now.cuts = search (rules, tests) in
    let over : first_in (price_fault c.args.inst.now) (take (places c.args.inst.now) c.args.prices.now) ≡ None = search rules in
    let told : IsTrue false ↔ AreNumbers c.args.inst.now c.args.table.now.cuts c.args.prices.now = subst (λ (p : Parts). IsTrue false ↔ AreNumbers p c.args.table.now.cuts c.args.prices.now) c.requires c.if-not-are_numbers.ensures in
    refusal-told c.args.inst.now c.args.table.now.cuts c.args.prices.now false told count over

pub returns : goal.returns
returns c =
    let count : length c.args.prices.now ≡ places c.args.inst.now + length c.args.table.now.cuts = search (rules, tests) in
    let over : first_in (price_fault c.args.inst.now) (take (places c.args.inst.now) c.args.prices.now) ≡ None = search rules in
    let told : IsTrue true ↔ AreNumbers c.args.inst.now c.args.table.now.cuts c.args.prices.now = subst (λ (p : Parts). IsTrue true ↔ AreNumbers p c.args.table.now.cuts c.args.prices.now) c.requires c.if-not-are_numbers.ensures in
    refusal-told c.args.inst.now c.args.table.now.cuts c.args.prices.now true told count over
