use Rattle.std.proofs.Common.{List, Option, sym, ap, subst, ◌∙◌}
use Rattle.std.specs.Prelude.{Result, Ok}
use Rattle.std.proofs.lemmas.Result.{err_from_is_err_and}
use Rattle.snd_reader.specs.Readers.{Placed, Stopped}
use Rattle.snd_reader.specs.Faults.{Fails}
use Rattle.snd_reader.proofs.Loops.{head_fails, closes, body_fails, goes_on}
use Rattle.snd_model.specs.declared.keys.Key.{Key}
use Rattle.snd_model.specs.Reading.{key_turn, pair, pairs}
use Rattle.snd_model.proofs.Turns.{turned, ended-complete, pair-shorter}
use Rattle.snd_model.proofs.pairs.pairs.Goals as goal

pub returns-in_err-key-clause-gives : goal.returns-in_err-key-clause-gives
returns-in_err-key-clause-gives c =
    let p = err_from_is_err_and c.from_residual.result c.from_residual.ensures.1 in
    let same = turned c.pairs.draft c.pairs.cursor _ _ c.key_of-verdict.ensures c.first.ensures.seen in
    rw (p.1, p.2) (head_fails key_turn pair (pairs c.args.cursor.now) c.pairs.draft c.pairs.cursor c.in_err-key.field-0.0 c.pairs.invariant (subst (λ (r : Result (Option Key × List Placed) Stopped). Fails c.in_err-key.field-0.0 r) same c.in_err-key.ensures.gives))

pub returns-in_default-clause-gives : goal.returns-in_default-clause-gives
returns-in_default-clause-gives c =
    let same = turned c.pairs.draft c.pairs.cursor _ _ c.key_of-verdict.ensures c.first.ensures.seen in
    closes key_turn pair (pairs c.args.cursor.now) c.pairs.draft c.pairs.cursor c.judge.new.self c.pairs.invariant (sym same ∙ c.in_ok-key.ensures.gives ∙ ap (λ (k : Option Key). Ok (k, c.judge.new.self)) c.in_default.is)

pub returns-in_default-clause-complete : goal.returns-in_default-clause-complete
returns-in_default-clause-complete c =
    let same = turned c.pairs.draft c.pairs.cursor _ _ c.key_of-verdict.ensures c.first.ensures.seen in
    ended-complete c.pairs.draft c.pairs.cursor c.judge.new.self (sym same ∙ c.in_ok-key.ensures.gives ∙ ap (λ (k : Option Key). Ok (k, c.judge.new.self)) c.in_default.is)

pub pairs-smaller : goal.pairs-smaller
pairs-smaller c =
    let same = turned c.pairs.draft c.pairs.cursor _ _ c.key_of-verdict.ensures c.first.ensures.seen in
    pair-shorter c.pairs.draft c.pair.new.draft c.in-Some.key c.pairs.cursor c.judge.new.self c.pair.new.cursor (sym same ∙ c.in_ok-key.ensures.gives ∙ ap (λ (k : Option Key). Ok (k, c.judge.new.self)) c.in-Some.is) c.in_ok-pair.ensures.gives

pub pairs-preserved : goal.pairs-preserved
pairs-preserved c =
    let same = turned c.pairs.draft c.pairs.cursor _ _ c.key_of-verdict.ensures c.first.ensures.seen in
    let head = sym same ∙ c.in_ok-key.ensures.gives ∙ ap (λ (k : Option Key). Ok (k, c.judge.new.self)) c.in-Some.is in
    goes_on key_turn pair (pairs c.args.cursor.now) c.pairs.draft c.pair.new.draft c.pairs.cursor c.judge.new.self c.pair.new.cursor c.in-Some.key c.pairs.invariant head c.in_ok-pair.ensures.gives
    (pair-shorter c.pairs.draft c.pair.new.draft c.in-Some.key c.pairs.cursor c.judge.new.self c.pair.new.cursor head c.in_ok-pair.ensures.gives)

pub returns-in_err-pair-clause-gives : goal.returns-in_err-pair-clause-gives
returns-in_err-pair-clause-gives c =
    let p = err_from_is_err_and c.from_residual-in_err-pair.result c.from_residual-in_err-pair.ensures.1 in
    let same = turned c.pairs.draft c.pairs.cursor _ _ c.key_of-verdict.ensures c.first.ensures.seen in
    let head = sym same ∙ c.in_ok-key.ensures.gives ∙ ap (λ (k : Option Key). Ok (k, c.judge.new.self)) c.in-Some.is in
    rw (p.1, p.2) (body_fails key_turn pair (pairs c.args.cursor.now) c.pairs.draft c.pairs.cursor c.judge.new.self c.in-Some.key c.in_err-pair.field-0.0 c.pairs.invariant head c.in_err-pair.ensures.gives)
