use Rattle.std.proofs.Common.{◌≡◌, ◌∙◌, false, nat_eq}
use Rattle.std.specs.Cmp.Lexicographic.{pointwise}
use Rattle.snd_model.specs.Table.{spelling, other_spellings}
use Rattle.snd_model.proofs.FirstFound.{seen_among}
use Rattle.snd_model.proofs.setting.Setting.is_spelt.Goals as goal

pub returns-else-eq : goal.returns-else-eq
returns-else-eq c =
    let other : pointwise nat_eq c.args.word.now (spelling c.args.self) ≡ false = cc in
    rw other (c.is_among.ensures ∙ seen_among c.args.word.now c.words.result.1.now (other_spellings c.args.self) c.words.ensures.others)
