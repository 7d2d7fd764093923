-- A text spells one network at most, or has one fault.
use Rattle.std.proofs.Common.{◌≡◌, ℕ, List, Some, None, sym, ap, subst, ◌∙◌}
use Rattle.std.specs.Prelude.{Result, Ok, Err, IfOk, IfErr}
use Rattle.snd_lexer.specs.declared.token.Dialect.TheVariants as dialects
use Rattle.snd_reader.specs.declared.fault.TextFault.{TextFault}
use Rattle.snd_reader.specs.declared.fault.TextFault.TheVariants.{OutOfMemory}
use Rattle.snd_reader.specs.Readers.{Placed}
use Rattle.snd_reader.specs.Texts.{AreOneFault, OnlyFile, OnlyFault}
use Rattle.snd_reader.proofs.Lawful.{one_value}
use Rattle.snd_reader.proofs.OneFault as texts
use Rattle.snd_network.specs.declared.file.NetworkFile.{NetworkFile}
use Rattle.snd_network.specs.declared.draft.Draft.{Draft}
use Rattle.snd_network.specs.Grammar.{NetworkForm}
use Rattle.snd_network.specs.Reading.{network}
use Rattle.snd_network.specs.Ends.{IsFileOf, names_of, all_ends, first_unknown}
use Rattle.snd_network.specs.Spelling.{network_header, SpellsDraft, SpellsNetwork, HasUnknown, IsFault}
use Rattle.snd_network.proofs.Whole.{lawful_network}
use Rattle.snd_network.proofs.Finding.{none_unknown, one_file_of}

one-draft : (text : List ℕ) (d e : Draft) → SpellsDraft text d → SpellsDraft text e → d ≡ e
one-draft text d e h k =
    one_value NetworkForm network lawful_network k.ts d e (subst (λ (ts : List Placed). NetworkForm ts d) (texts.same_tokens dialects.Network network_header text h.ts k.ts h.tokens k.tokens) h.form) k.form

-- a text spells one network at most
pub one_file : (text : List ℕ) (a b : NetworkFile) → SpellsNetwork text a → SpellsNetwork text b → a ≡ b
one_file text a b h k =
    let d : h.draft ≡ k.draft = one-draft text h.draft k.draft h.spelt k.spelt in
    one_file_of k.draft a b (subst (λ (d : Draft). IsFileOf d a) d h.found) k.found

read : (text : List ℕ) (d : Draft) → SpellsDraft text d → texts.IsReadWhole dialects.Network network_header network text
read text d h = texts.read_whole dialects.Network network_header text NetworkForm network lawful_network h.ts d h.tokens h.form

no-unknown : (text : List ℕ) (file : NetworkFile) (at : ℕ) → SpellsNetwork text file → HasUnknown text at → ⊥
no-unknown text file at h u =
    let d : h.draft ≡ u.draft = one-draft text h.draft u.draft h.spelt u.spelt in
    let none : first_unknown (names_of u.draft.nodes) (all_ends u.draft) ≡ None = none_unknown u.draft file (subst (λ (e : Draft). IsFileOf e file) d h.found) in
    let bad : None ≡ Some at = sym none ∙ u.first in
    cc

-- a text that spells a network has no fault but want of memory
pub no_fault : (text : List ℕ) (file : NetworkFile) (f : TextFault) → SpellsNetwork text file → IsFault text f → f ≡ OutOfMemory
no_fault text file f h k = texts.no_fault dialects.Network network_header text NetworkForm network HasUnknown (read text h.draft h.spelt) (λ at u. no-unknown text file at h u) f k

-- the reader's answer to a text that spells a network is that network or want of memory
pub only_file : (text : List ℕ) (result : Result NetworkFile TextFault) → IfOk result (SpellsNetwork text) → IfErr result (IsFault text) → (file : NetworkFile) → SpellsNetwork text file → OnlyFile result file
only_file text (Ok found) h k file s = one_file text found file h s
only_file text (Err f) h k file s = no_fault text file f s k

-- ---- one fault

one-unknown : (text : List ℕ) (a b : ℕ) → HasUnknown text a → HasUnknown text b → a ≡ b
one-unknown text a b h k =
    let d : h.draft ≡ k.draft = one-draft text h.draft k.draft h.spelt k.spelt in
    let same : Some a ≡ Some b = sym h.first ∙ ap (λ (d : Draft). first_unknown (names_of d.nodes) (all_ends d)) d ∙ k.first in
    cc

-- two faults of a text are the same, unless one of them is want of memory
pub one_fault : (text : List ℕ) (f g : TextFault) → IsFault text f → IsFault text g → AreOneFault f g
one_fault text f g h k = texts.one_fault dialects.Network network_header text NetworkForm network HasUnknown (one-unknown text) (λ at u. read text u.draft u.spelt) f g h k

-- the reader's answer to a text with a fault other than want of memory is that fault or want of memory
pub only_fault : (text : List ℕ) (result : Result NetworkFile TextFault) → IfOk result (SpellsNetwork text) → IfErr result (IsFault text) → (f : TextFault) → IsFault text f → OnlyFault result f
only_fault text (Ok found) h k f s = no_fault text found f h s
only_fault text (Err g) h k f s = one_fault text g f k s
