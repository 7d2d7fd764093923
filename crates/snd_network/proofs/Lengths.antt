-- A text that ends too soon is told at its length.
use Rattle.std.proofs.Common.{◌≡◌, ℕ, ◌+◌, ◌-◌, List, [], ◌∷◌, ◌++◌, length, refl, sym, ap, subst, ◌∙◌, arith}
use Rattle.snd_reader.specs.declared.fault.Complaint.{Complaint}
use Rattle.snd_reader.specs.declared.fault.Complaint.TheVariants as complaints
use Rattle.snd_reader.specs.declared.fault.TextFault.TheVariants.{Ended}
use Rattle.snd_reader.specs.Readers.{Lexeme, the_end, Placed}
use Rattle.snd_reader.specs.Faults.{fault_at}
use Rattle.snd_reader.proofs.Headers.{rest_within}
use Rattle.snd_reader.proofs.Lawful.{stopped_at}
use Rattle.snd_reader.proofs.Live.{IsMore, HasNoEnd}
use Rattle.snd_network.specs.declared.draft.Draft.{Draft}
use Rattle.snd_network.specs.Reading.{network}
use Rattle.snd_network.specs.Spelling.{network_header, IsFault}
use Rattle.snd_lexer.specs.declared.token.Dialect.TheVariants as dialects
use Rattle.snd_reader.proofs.ReadTexts.{has-end, end_place}
use Rattle.snd_network.proofs.Whole.{ends_network}

no-more : (a more : List Placed) (e : Placed) → a ++ (e ∷ more) ≡ [] → ⊥
no-more [] more e h = cc
no-more (t ∷ a) more e h = cc

-- the one end of a text is its last token
last-end : (a front more : List Placed) (e last : Placed) → e.is ≡ the_end → HasNoEnd front → a ++ (e ∷ more) ≡ front ++ last ∷ [] → e ≡ last
last-end [] [] more e last is h k = cc
last-end [] (t ∷ front) more e last is h k =
    let same : e ≡ t = cc in
    absurd (subst (λ (l : Lexeme). IsMore l) (ap (λ (u : Placed). u.is) (sym same) ∙ is) h.0)
last-end (u ∷ a) [] more e last is h k = absurd (no-more a more e cc)
last-end (u ∷ a) (t ∷ front) more e last is h k =
    let tail : a ++ (e ∷ more) ≡ front ++ last ∷ [] = cc in
    last-end a front more e last is h.1 tail

-- the complaint that is told as an end
told-end : (at place : ℕ) (c : Complaint) → Ended at ≡ fault_at place c → (c ≡ complaints.Ended) × (at ≡ place)
told-end at place (complaints.Unexpected w) e = absurd cc
told-end at place (complaints.Number f) e = absurd cc
told-end at place complaints.Twice e = absurd cc
told-end at place complaints.LongId e = absurd cc
told-end at place complaints.Ended e = (refl, cc)

-- the fault that a text ends too soon has the length of the text as its place
pub ended_at : (text : List ℕ) (at : ℕ) → IsFault text (Ended at) → at ≡ length text
ended_at text at b =
    let told = told-end at b.bad.at b.complaint b.is in
    let says : network b.ts ≡ stopped_at complaints.Ended (b.bad ∷ b.after) = b.says ∙ ap (λ (c : Complaint). stopped_at {A = Draft} c (b.bad ∷ b.after)) told.0 in
    let is_end : b.bad.is ≡ the_end = ends_network.at_end b.ts b.bad b.after says in
    let e = has-end dialects.Network network_header text b.ts b.tokens in
    let last : b.bad ≡ e.last = last-end b.first.front e.front b.first.after b.bad e.last is_end e.before (sym b.first.whole ∙ e.whole) in
    let place : b.bad.at ≡ length text - length b.tokens.rest + length b.tokens.rest = ap (λ (t : Placed). t.at) last ∙ end_place dialects.Network network_header text b.ts b.tokens in
    omega (arith, told.1, place, rest_within network_header text b.tokens.rest b.tokens.header)
