use Rattle.std.proofs.Common.{sym, subst}
use Rattle.std.proofs.lemmas.Result.{err_from_is_err_and}
use Rattle.snd_lexer.specs.declared.token.Dialect.TheVariants as dialects
use Rattle.snd_reader.specs.Texts.{HasTokens}
use Rattle.snd_network.specs.Spelling.{network_header}
use Rattle.snd_network.proofs.Top.{cut_fault, draft_spelt, draft_told}
use Rattle.snd_network.proofs.Counts.{few_told}
use Rattle.snd_network.proofs.reading.read_draft.Goals as goal

pub returns-in_err-tokens-clause-fault : goal.returns-in_err-tokens-clause-fault
returns-in_err-tokens-clause-fault c =
    let p = err_from_is_err_and c.from_residual.result c.from_residual.ensures.1 in
    rw (p.1, p.2) (cut_fault c.args.text.now _ c.in_err-tokens.ensures.fault)

pub returns-clause-value : goal.returns-clause-value
returns-clause-value c =
    let tokens = subst (HasTokens dialects.Network network_header c.args.text.now) (sym c.cursor.ensures) c.in_ok-tokens.ensures.tokens in
    draft_spelt c.args.text.now _ _ tokens c.network.result c.network.ensures.gives

pub returns-clause-few : goal.returns-clause-few
returns-clause-few c = few_told c.args.text.now c.network.result c.requires (returns-clause-value c)

pub returns-clause-fault : goal.returns-clause-fault
returns-clause-fault c =
    let tokens = subst (HasTokens dialects.Network network_header c.args.text.now) (sym c.cursor.ensures) c.in_ok-tokens.ensures.tokens in
    draft_told c.args.text.now _ _ tokens c.network.result c.network.ensures.gives
