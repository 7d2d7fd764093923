use Rattle.std.proofs.Common.{sym, ◌∙◌, rules, tests}
use Rattle.std.proofs.lemmas.Iterator.{YieldsList-from_slice}
use Rattle.std.proofs.lemmas.Iterator.Search.{any_from_yields_List}
use Rattle.snd_network.proofs.NameLists.{same_name}
use Rattle.snd_reader.proofs.NameSets.{any_viewed}
use Rattle.snd_network.proofs.well_formed.has_name.Goals as goal

pub returns : goal.returns
returns g c =
    any_from_yields_List (λ x. same_name c.args.name.now (g.T.Record.name_of x)) _ _ _ c.any.ensures.ran (YieldsList-from_slice c.args.rows.now cc) (λ x b q k. search (rules, tests))
    ∙ sym (any_viewed g.T.Record.name_of (same_name c.args.name.now) c.args.rows.now)
