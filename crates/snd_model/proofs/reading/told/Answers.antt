use Rattle.std.proofs.Common.{List, sym, subst}
use Rattle.std.proofs.lemmas.Result.{err_from_is_err_and}
use Rattle.snd_lexer.specs.declared.token.Dialect.TheVariants as dialects
use Rattle.snd_reader.specs.Readers.{Placed}
use Rattle.snd_reader.specs.Texts.{HasTokens}
use Rattle.snd_model.specs.Spelling.{model_header}
use Rattle.snd_model.proofs.Top.{cut_fault, spelt, made, bad_fault}
use Rattle.snd_model.proofs.reading.told.Goals as goal

pub returns-in_err-tokens-clause-fault : goal.returns-in_err-tokens-clause-fault
returns-in_err-tokens-clause-fault c =
    let p = err_from_is_err_and c.from_residual.result c.from_residual.ensures.1 in
    rw (p.1, p.2) (cut_fault c.args.text.now c.in_err-tokens.field-0.0 c.in_err-tokens.ensures.fault)

pub returns-in_err-draft-clause-fault : goal.returns-in_err-draft-clause-fault
returns-in_err-draft-clause-fault c =
    let p = err_from_is_err_and c.from_residual-in_err-draft.result c.from_residual-in_err-draft.ensures.1 in
    let tokens = subst (HasTokens dialects.Model model_header c.args.text.now) (sym c.cursor.ensures) c.in_ok-tokens.ensures.tokens in
    rw (p.1, p.2) (bad_fault c.args.text.now c.cursor.result c.in_err-draft.field-0.0 tokens c.in_err-draft.ensures.gives)

pub returns-clause-value : goal.returns-clause-value
returns-clause-value c =
    let tokens = subst (HasTokens dialects.Model model_header c.args.text.now) (sym c.cursor.ensures) c.in_ok-tokens.ensures.tokens in
    spelt c.args.text.now c.cursor.result c.in-Some.file c.in_ok-draft.draft c.pairs.new.cursor tokens c.in_ok-draft.ensures.gives
    (made c.in_ok-draft.draft c.in-Some.file c.in-Some.ensures c.in_ok-draft.ensures.complete)
