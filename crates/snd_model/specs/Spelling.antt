-- The main theorem's statement: which text spells which model, and what is wrong with every other text. read_model has it as its contract.
use Rattle.std.specs.Prelude.{◌≤◌, ℕ, List, length, codes}
use Rattle.snd_lexer.specs.declared.limits.TheConstants.{MAX_TEXT_BYTES}
use Rattle.snd_lexer.specs.declared.token.Dialect.TheVariants as dialects
use Rattle.snd_reader.specs.declared.fault.TextFault.{TextFault}
use Rattle.snd_reader.specs.declared.fault.TextFault.TheVariants.{Header, Unexpected, Twice, Ended, Control, OutOfMemory}
use Rattle.snd_reader.specs.Readers.{Placed}
use Rattle.snd_reader.specs.Texts.{HasTokens, HasNoHeader, HasControl, HasBad}
use Rattle.snd_model.specs.declared.file.ModelFile.{ModelFile}
use Rattle.snd_model.specs.Grammar.{ModelForm}
use Rattle.snd_model.specs.Reading.{pairs}

-- the first line of a model text
abbrev pub model_header : List ℕ
model_header = codes "?SNDlib native format; type: model; version: 1.0"

-- the text spells this model
pub record SpellsModel (text : List ℕ) (file : ModelFile) : Type 0 where
  pub ts : List Placed
  pub tokens : HasTokens dialects.Model model_header text ts
  pub form : ModelForm ts file

-- some text that is not too long spells this model
pub record IsReadable (file : ModelFile) : Type 0 where
  pub text : List ℕ
  pub short : length text ≤ MAX_TEXT_BYTES
  pub spells : SpellsModel text file

-- ---- faults

-- what is wrong with the text; no number, no unknown name and no long name ever is
abbrev pub IsFault : List ℕ → TextFault → Type 0
IsFault text Header = HasNoHeader model_header text
IsFault text (Control at) = HasControl dialects.Model model_header text at
IsFault text (Unexpected at w) = HasBad dialects.Model model_header ModelForm pairs text (Unexpected at w)
IsFault text (Twice at) = HasBad dialects.Model model_header ModelForm pairs text (Twice at)
IsFault text (Ended at) = HasBad dialects.Model model_header ModelForm pairs text (Ended at)
IsFault text OutOfMemory = Unit {0}
IsFault text f = ⊥
