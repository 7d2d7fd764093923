-- The main theorem's statement: which text spells which network, and what is wrong with every other text. read_network has it as its contract.
use Rattle.std.specs.Prelude.{◌≡◌, ℕ, List, codes, Some}
use Rattle.snd_lexer.specs.declared.token.Dialect.TheVariants as dialects
use Rattle.snd_reader.specs.declared.fault.TextFault.{TextFault}
use Rattle.snd_reader.specs.Readers.{Placed}
use Rattle.snd_reader.specs.Texts.{HasTokens, IsFaultOf}
use Rattle.snd_network.specs.declared.file.NetworkFile.{NetworkFile}
use Rattle.snd_network.specs.declared.draft.Draft.{Draft}
use Rattle.snd_network.specs.Grammar.{NetworkForm}
use Rattle.snd_network.specs.Reading.{network}
use Rattle.snd_network.specs.Ends.{IsFileOf, names_of, all_ends, first_unknown}

-- the first line of a network text
abbrev pub network_header : List ℕ
network_header = codes "?SNDlib native format; type: network; version: 1.0"

-- the text spells these sections, with the names of nodes as they are written
pub record SpellsDraft (text : List ℕ) (d : Draft) : Type 0 where
  pub ts : List Placed
  pub tokens : HasTokens dialects.Network network_header text ts
  pub form : NetworkForm ts d

-- the text spells this network
pub record SpellsNetwork (text : List ℕ) (file : NetworkFile) : Type 0 where
  pub draft : Draft
  pub spelt : SpellsDraft text draft
  pub found : IsFileOf draft file

-- nothing else is wrong, and this is the place of the first name that is no node
pub record HasUnknown (text : List ℕ) (at : ℕ) : Type 0 where
  pub draft : Draft
  pub spelt : SpellsDraft text draft
  pub first : first_unknown (names_of draft.nodes) (all_ends draft) ≡ Some at

-- what is wrong with the text
abbrev pub IsFault : List ℕ → TextFault → Type 0
IsFault = IsFaultOf dialects.Network network_header NetworkForm network HasUnknown
