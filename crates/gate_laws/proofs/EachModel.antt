-- Each text spells a model, or has a fault other than want of memory.
use Rattle.std.proofs.Common.{◌≡◌, ℕ, ◌⊎◌, inl, inr, List, refl}
use Rattle.std.specs.Prelude.{Result, Ok, Err}
use Rattle.snd_lexer.specs.declared.token.Dialect.TheVariants as dialects
use Rattle.snd_reader.specs.Readers.{Placed, Stopped}
use Rattle.snd_reader.specs.Texts.{HasTokens}
use Rattle.snd_reader.proofs.ReadTexts as texts
use Rattle.snd_model.specs.declared.draft.Draft.{Draft}
use Rattle.snd_model.specs.declared.file.ModelFile.{ModelFile}
use Rattle.snd_model.specs.Grammar.{PairsForm}
use Rattle.snd_model.specs.Reading.{pairs}
use Rattle.snd_model.specs.Spelling.{model_header, SpellsModel, IsFault}
use Rattle.snd_model.proofs.Top.{spelt, bad_fault, cut_fault}
use Rattle.snd_model.proofs.Whole.{lawful_pairs, pairs_end, pairs_complete, file-of}
use Rattle.gate_laws.proofs.EachText.{HasAFault, HasTokensOrFault, tokens_or_fault, stopped_so}

abbrev IsSpeltOrFaulty : List ℕ → Type 0
IsSpeltOrFaulty text = ((file : ModelFile) × SpellsModel text file) ⊎ HasAFault (IsFault text)

of-tokens : (text : List ℕ) (ts : List Placed) → HasTokens dialects.Model model_header text ts → (read : Result (Draft × List Placed) Stopped) → pairs ts ≡ read → IsSpeltOrFaulty text
of-tokens text ts tokens (Ok found) is =
    let form = texts.reaches_end dialects.Model model_header PairsForm pairs lawful_pairs pairs_end text ts found.0 found.1 tokens is in
    let file = file-of found.0 (pairs_complete ts found.0 form) in
    inl (file.0, spelt text ts file.0 found.0 found.1 tokens is file.1)
of-tokens text ts tokens (Err stop) is =
    let fault = stopped_so stop.0 stop.1 (pairs ts) is in
    inr (fault.0, fault.1, bad_fault text ts fault.0 tokens fault.2)

of-text : (text : List ℕ) → HasTokensOrFault dialects.Model model_header text → IsSpeltOrFaulty text
of-text text (inl found) = of-tokens text found.0 found.1 (pairs found.0) refl
of-text text (inr fault) = inr (fault.0, fault.1, cut_fault text fault.0 fault.2)

-- each text spells a model, or has a fault other than want of memory
pub model_or_fault : (text : List ℕ) → IsSpeltOrFaulty text
model_or_fault text = of-text text (tokens_or_fault dialects.Model model_header text)
