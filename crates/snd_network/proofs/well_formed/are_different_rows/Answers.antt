use Rattle.std.proofs.Common.{map, take, subst, sym, ap, ◌∙◌, rules}
use Rattle.std.proofs.lemmas.Bool.{true≢false}
use Rattle.std.proofs.lemmas.List.{take_all}
use Rattle.snd_reader.specs.Names.{is_among}
use Rattle.snd_network.specs.WellFormed.{AreDifferent}
use Rattle.snd_network.proofs.NameLists.{different_more, not_different}
use Rattle.snd_network.proofs.well_formed.are_different_rows.Goals as goal

pub returns-then-has_name : goal.returns-then-has_name
returns-then-has_name g c =
    let x = c.index-rows-place.result in
    let found = ap (is_among (map g.T.Record.name_of (take c.loop-place.place c.args.rows.now))) (sym c.name.ensures) ∙ sym c.has_name.ensures ∙ c.if-has_name.true in
    (λ t. absurd (true≢false (sym t)), λ h. absurd (not_different g.T.Record.name_of c.args.rows.now c.loop-place.place x c.loop-place-test.true c.index-rows-place.is found h))

pub loop-place-preserved : goal.loop-place-preserved
loop-place-preserved g c =
    let new = ap (is_among (map g.T.Record.name_of (take c.loop-place.place c.args.rows.now))) (sym c.name.ensures) ∙ sym c.has_name.ensures ∙ c.if-has_name.false in
    different_more g.T.Record.name_of c.args.rows.now c.loop-place.place c.index-rows-place.result c.loop-place-test.true c.index-rows-place.is new c.loop-place.invariant

pub returns : goal.returns
returns g c = (
  λ t. subst (λ xs. AreDifferent (map g.T.Record.name_of xs)) (take_all c.loop-place.place c.args.rows.now c.loop-place-test.false) c.loop-place.invariant,
  λ h. search rules,
)
