use Rattle.std.proofs.Common.{◌≡◌, drop}
use Rattle.std.specs.List.{find}
use Rattle.snd_model.specs.Table.{is_spelling}
use Rattle.snd_model.proofs.setting.first_spelt.Given as goal

-- the first one is not before this one
abbrev pub invariant-loop-setting : goal.invariant-loop-setting
invariant-loop-setting l =
    find (λ setting. is_spelling setting l.fn.word) (drop l.setting-index l.settings)
    ≡ find (λ setting. is_spelling setting l.fn.word) l.settings
