use Rattle.std.proofs.Common.{rules, ◌≡◌, ℕ, List, drop, true, false, sym, ap, subst, ◌∙◌}
use Rattle.snd_reader.specs.Header.{ends_line, HasHeader}
use Rattle.snd_reader.proofs.Headers.{past, has_header, not_ended}
use Rattle.snd_reader.proofs.header.behind_header.Goals as goal

pub returns-then-not-ends_line-clause-header : goal.returns-then-not-ends_line-clause-header
returns-then-not-ends_line-clause-header c =
    let line = c.in-Some.line.now in
    let here : c.split_at.result.1.now ≡ past line = c.split_at.ensures.back ∙ ap (λ (n : ℕ). drop n line) c.blanks_len.ensures.len in
    let goes_on : ends_line c.split_at.result.1.now ≡ false = search rules in
    not_ended c.args.header.now c.args.text.now line c.in-Some.ensures (ap ends_line (sym here) ∙ goes_on)

pub returns-clause-header : goal.returns-clause-header
returns-clause-header c =
    let line = c.in-Some.line.now in
    let here : c.split_at.result.1.now ≡ past line = c.split_at.ensures.back ∙ ap (λ (n : ℕ). drop n line) c.blanks_len.ensures.len in
    let ends : ends_line c.split_at.result.1.now ≡ true = search rules in
    subst (λ (rest : List ℕ). HasHeader c.args.header.now c.args.text.now rest) (sym here)
    (has_header c.args.header.now c.args.text.now line c.in-Some.ensures (ap ends_line (sym here) ∙ ends))
