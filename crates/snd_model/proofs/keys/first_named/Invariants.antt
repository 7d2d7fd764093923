use Rattle.std.proofs.Common.{◌≡◌, drop, nat_eq}
use Rattle.std.specs.List.{find}
use Rattle.std.specs.Cmp.Lexicographic.{pointwise}
use Rattle.snd_model.specs.Table.{key_word}
use Rattle.snd_model.proofs.keys.first_named.Given as goal

-- the first one is not before this one
abbrev pub invariant-loop-key : goal.invariant-loop-key
invariant-loop-key l =
    find (λ key. pointwise nat_eq l.fn.word (key_word key)) (drop l.key-index l.keys)
    ≡ find (λ key. pointwise nat_eq l.fn.word (key_word key)) l.keys
