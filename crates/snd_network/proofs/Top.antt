-- What the reading of a text comes to.
use Rattle.std.proofs.Common.{ℕ, List}
use Rattle.std.specs.Prelude.{Result, Ok, Err, IfOk, IfErr}
use Rattle.snd_lexer.specs.declared.token.Dialect.TheVariants as dialects
use Rattle.snd_reader.specs.declared.fault.TextFault.{TextFault}
use Rattle.snd_reader.specs.declared.fault.TextFault.TheVariants.{Unknown, OutOfMemory}
use Rattle.snd_reader.specs.Readers.{Placed}
use Rattle.snd_reader.specs.Faults.{Gives}
use Rattle.snd_reader.specs.Texts.{HasTokens, IsCutFault}
use Rattle.snd_reader.proofs.ReadTexts as texts
use Rattle.snd_network.specs.declared.file.NetworkFile.{NetworkFile}
use Rattle.snd_network.specs.declared.draft.Draft.{Draft}
use Rattle.snd_network.specs.Grammar.{NetworkForm}
use Rattle.snd_network.specs.Reading.{network}
use Rattle.snd_network.specs.Ends.{IsFileOf, names_of, all_ends}
use Rattle.snd_network.specs.Steps.{IsUnknown}
use Rattle.snd_network.specs.Spelling.{network_header, SpellsDraft, SpellsNetwork, HasUnknown, IsFault}
use Rattle.snd_network.proofs.Whole.{lawful_network, network_ends}

-- a text without tokens has a fault
pub cut_fault : (text : List ℕ) (f : TextFault) → IsCutFault dialects.Network network_header text f → IsFault text f
cut_fault text f k = texts.cut_fault dialects.Network network_header NetworkForm network HasUnknown text f k

-- an unknown name is a fault of the text
unknown_fault : (text : List ℕ) (d : Draft) (f : TextFault) → SpellsDraft text d → IsUnknown (names_of d.nodes) (all_ends d) f → IsFault text f
unknown_fault text d OutOfMemory h k = tt
unknown_fault text d (Unknown at) h k = record { draft = d; spelt = h; first = k }
unknown_fault text d f h k = absurd k

-- what is found is spelt
pub spelt_network : (text : List ℕ) (d : Draft) (result : Result NetworkFile TextFault) → SpellsDraft text d → IfOk result (IsFileOf d) → IfOk result (SpellsNetwork text)
spelt_network text d (Ok file) h k = record { draft = d; spelt = h; found = k }
spelt_network text d (Err f) h k = tt

-- what is not found is a fault
pub unknown_told : (text : List ℕ) (d : Draft) (result : Result NetworkFile TextFault) → SpellsDraft text d → IfErr result (IsUnknown (names_of d.nodes) (all_ends d)) → IfErr result (IsFault text)
unknown_told text d (Ok file) h k = tt
unknown_told text d (Err f) h k = unknown_fault text d f h k

-- ---- the answer of the reader of sections

-- the sections that the reader answers are spelt by the text
pub draft_spelt : (text : List ℕ) (ts after : List Placed) → HasTokens dialects.Network network_header text ts → (result : Result Draft TextFault) → Gives (λ (d : Draft). (d, after)) result (network ts) → IfOk result (SpellsDraft text)
draft_spelt text ts after h (Ok d) g = record { ts = ts; tokens = h; form = texts.reaches_end dialects.Network network_header NetworkForm network lawful_network network_ends text ts d after h g }
draft_spelt text ts after h (Err f) g = tt

-- the fault that the reader of sections answers is a fault of the text
pub draft_told : (text : List ℕ) (ts after : List Placed) → HasTokens dialects.Network network_header text ts → (result : Result Draft TextFault) → Gives (λ (d : Draft). (d, after)) result (network ts) → IfErr result (IsFault text)
draft_told text ts after h (Ok d) g = tt
draft_told text ts after h (Err f) g = texts.bad_fault dialects.Network network_header NetworkForm network lawful_network network_ends HasUnknown text ts f h g
