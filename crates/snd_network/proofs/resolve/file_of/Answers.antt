use Rattle.std.proofs.Common.{◌∙◌}
use Rattle.std.proofs.lemmas.Result.{err_from_is_err_and}
use Rattle.snd_network.proofs.Finding.{links_unknown, demands_unknown}
use Rattle.snd_network.proofs.FoundFile.{file_found}
use Rattle.snd_network.proofs.resolve.file_of.Goals as goal

pub returns-in_err-links-clause-unknown : goal.returns-in_err-links-clause-unknown
returns-in_err-links-clause-unknown c =
    let there = c.in-Some-Some-Some in
    let p = err_from_is_err_and c.from_residual.result c.from_residual.ensures.1 in
    rw (p.1, p.2) (links_unknown c.args.draft there.nodes there.links there.demands _ _ there.is-0 there.is-1 there.is-2 c.into_vec.ensures c.in_err-links.ensures.unknown)

pub returns-in_err-demands-clause-unknown : goal.returns-in_err-demands-clause-unknown
returns-in_err-demands-clause-unknown c =
    let there = c.in-Some-Some-Some in
    let p = err_from_is_err_and c.from_residual-in_err-demands.result c.from_residual-in_err-demands.ensures.1 in
    rw (p.1, p.2) (demands_unknown c.args.draft there.nodes there.links there.demands _ _ _ there.is-0 there.is-1 there.is-2 c.into_vec.ensures c.into_vec-2.ensures c.in_ok-links.ensures.known c.in_err-demands.ensures.unknown)

pub returns-clause-found : goal.returns-clause-found
returns-clause-found c =
    let there = c.in-Some-Some-Some in
    file_found c.args.draft there.nodes there.links there.demands _ _ _ there.is-0 there.is-1 there.is-2 (c.from_vec.ensures ∙ c.into_vec-3.ensures) c.into_vec.ensures c.into_vec-2.ensures c.in_ok-links.ensures.found c.in_ok-demands.ensures.found
