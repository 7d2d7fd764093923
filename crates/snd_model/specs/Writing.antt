-- The canonical text of a model.
use Rattle.std.specs.Prelude.{ℕ, List, [], ◌∷◌, ◌++◌, map, codes}
use Rattle.std.specs.List.{concat}
use Rattle.snd_model.specs.declared.setting.Setting.{Setting}
use Rattle.snd_model.specs.declared.file.ModelFile.{ModelFile}
use Rattle.snd_model.specs.Table.{all_keys, key_word, key_of, spelling}
use Rattle.snd_model.specs.Grammar.{setting_of}
use Rattle.snd_model.specs.Spelling.{model_header}

-- the line of a setting: its key, `=` between blanks, the first spelling of its value, and an LF
unfoldable pub line : Setting → List ℕ
line s = key_word (key_of s) ++ (codes " = " ++ (spelling s ++ 10 ∷ []))

-- the header line, and a line for each key in the order of the table
abbrev pub model_text : ModelFile → List ℕ
model_text file = model_header ++ (10 ∷ concat (map (λ k. line (setting_of file k)) all_keys))
