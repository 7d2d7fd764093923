use Rattle.std.proofs.Common.{◌+◌, length, ◌++◌, ap, subst, arith}
use Rattle.std.specs.Prelude.{Option}
use Rattle.std.proofs.lemmas.List.{append-nil, take_rest, length-drop}
use Rattle.snd_lexer.specs.declared.token.TokenKind.{TokenKind}
use Rattle.snd_lexer.specs.Cutting.{token_at}
use Rattle.snd_lexer.proofs.Cuts.{CutTo, stops, goes_on, lexed, only_tokens, not_both, only_stop, spans, within}
use Rattle.snd_lexer.proofs.lexer.lex.Goals as goal
use Rattle.snd_lexer.proofs.lexer.lex.Goals.{in-Some-kind+in_ok-push, in_default-kind}

pub returns-in_default-clause-control : goal.returns-in_default-clause-control
returns-in_default-clause-control c = stops c.args.dialect c.args.text.now c.loop-at.at _ _ c.loop-at.invariant.cut c.loop-at-test.true c.piece.ensures.found c.in_default.is

pub returns-in_default-clause-cut_only : goal.returns-in_default-clause-cut_only
returns-in_default-clause-cut_only c = λ tokens l. not_both _ _ _ _ l (stops c.args.dialect c.args.text.now c.loop-at.at _ _ c.loop-at.invariant.cut c.loop-at-test.true c.piece.ensures.found c.in_default.is)

pub returns-in_default-clause-control_only : goal.returns-in_default-clause-control_only
returns-in_default-clause-control_only c = λ at s. only_stop _ _ _ _ (stops c.args.dialect c.args.text.now c.loop-at.at _ _ c.loop-at.invariant.cut c.loop-at-test.true c.piece.ensures.found c.in_default.is) s

pub loop-at-preserved : goal.loop-at-preserved
loop-at-preserved c =
    let at = c.loop-at.at + c.in-Some.len in
    let next = goes_on c.args.dialect c.args.text.now c.loop-at.at _ _ c.in-Some.len c.in-Some.kind c.loop-at.invariant.cut c.piece.ensures.found c.in-Some.is in
    let with_kind = λ (k : Option TokenKind). CutTo c.args.dialect c.args.text.now at (c.loop-at.tokens.items ++ token_at c.loop-at.at at k) in
    record {
      cut = elim c.match-kind.branch [
        | in-Some-kind+in_ok-push w ↦ rw (w.tokens-is, w.in_ok-push.ensures.items) (subst with_kind w.in-Some-kind.is next)
        | in_default-kind w ↦ rw (w.tokens-is, ← append-nil c.loop-at.tokens.items) (subst with_kind w.in_default-kind.is next)
      ];
      within = omega (arith, c.in-Some.ensures.within, ap length (take_rest c.args.text.now c.loop-at.at), length-drop c.loop-at.at c.args.text.now);
    }

pub returns-clause-cut : goal.returns-clause-cut
returns-clause-cut c = lexed _ _ _ _ c.loop-at.invariant.cut c.loop-at-test.false

pub returns-clause-cut_only : goal.returns-clause-cut_only
returns-clause-cut_only c = λ tokens l. only_tokens _ _ _ _ (lexed _ _ _ _ c.loop-at.invariant.cut c.loop-at-test.false) l

pub returns-clause-control_only : goal.returns-clause-control_only
returns-clause-control_only c = λ at s. not_both _ _ _ _ (lexed _ _ _ _ c.loop-at.invariant.cut c.loop-at-test.false) s

pub returns-clause-spans : goal.returns-clause-spans
returns-clause-spans c = spans _ _ _ (lexed _ _ _ _ c.loop-at.invariant.cut c.loop-at-test.false)

pub returns-clause-within : goal.returns-clause-within
returns-clause-within c = within _ _ _ (lexed _ _ _ _ c.loop-at.invariant.cut c.loop-at-test.false)
