use Rattle.std.proofs.Common.{◌≡◌, drop, nat_eq}
use Rattle.std.specs.List.{list_any}
use Rattle.std.specs.Cmp.Lexicographic.{pointwise}
use Rattle.snd_model.proofs.setting.is_among.Given as goal

-- those from this one on decide
abbrev pub invariant-loop-known : goal.invariant-loop-known
invariant-loop-known l =
    list_any (λ known. pointwise nat_eq l.fn.word known.now) (drop l.known-index l.words)
    ≡ list_any (λ known. pointwise nat_eq l.fn.word known.now) l.words
