-- What the reading of a text comes to.
use Rattle.std.proofs.Common.{◌≡◌, ℕ, List, Bool, true, cond, Some, None, ap, subst, ◌∙◌}
use Rattle.std.specs.Prelude.{Ok}
use Rattle.snd_lexer.specs.declared.token.Dialect.TheVariants as dialects
use Rattle.snd_reader.specs.declared.fault.Complaint.{Complaint}
use Rattle.snd_reader.specs.declared.fault.Complaint.TheVariants as complaints
use Rattle.snd_reader.specs.declared.fault.TextFault.{TextFault}
use Rattle.snd_reader.specs.declared.fault.TextFault.TheVariants.{Header, Unexpected, Number, Twice, Unknown, Ended, LongId, Control, OutOfMemory}
use Rattle.snd_reader.specs.Readers.{Placed, first_of}
use Rattle.snd_reader.specs.Faults.{Blames, Fails, fault_at}
use Rattle.snd_reader.specs.Texts.{HasTokens, HasBad, IsCutFault}
use Rattle.snd_reader.proofs.ReadTexts as texts
use Rattle.snd_model.specs.declared.draft.Draft.{Draft}
use Rattle.snd_model.specs.declared.file.ModelFile.{ModelFile}
use Rattle.snd_model.specs.Grammar.{settings_of, is_complete, PairsForm, ModelForm}
use Rattle.snd_model.specs.Reading.{pairs}
use Rattle.snd_model.specs.Spelling.{model_header, SpellsModel, IsFault}
use Rattle.snd_model.proofs.Whole.{lawful_pairs, pairs_end, first_bad_model}
use Rattle.snd_model.proofs.Complaints.{IsPlain, plain_pairs}

-- what is read is spelt, since it reaches the end
pub spelt : (text : List ℕ) (ts : List Placed) (file : ModelFile) (d : Draft) (rest : List Placed) → HasTokens dialects.Model model_header text ts → pairs ts ≡ Ok (d, rest) → d ≡ settings_of file → SpellsModel text file
spelt text ts file d rest h r same =
    record { ts = ts; tokens = h; form = subst (λ (x : Draft). PairsForm ts x) same (texts.reaches_end dialects.Model model_header PairsForm pairs lawful_pairs pairs_end text ts d rest h r) }

-- the model that the settings make
pub made : (d : Draft) (file : ModelFile) → Some (settings_of file) ≡ cond (is_complete d) (Some d) None → is_complete d ≡ true → d ≡ settings_of file
made d file e c =
    let same : Some (settings_of file) ≡ Some d = e ∙ ap (λ (b : Bool). cond b (Some d) None) c in
    cc

-- who blames a token of a text blames the first bad one
has-bad : (text : List ℕ) (ts : List Placed) (f : TextFault) → HasTokens dialects.Model model_header text ts → Blames f (pairs ts) → HasBad dialects.Model model_header ModelForm pairs text f
has-bad text ts f h b =
    let k = texts.has_bad dialects.Model model_header PairsForm pairs lawful_pairs pairs_end text ts f h b in
    record { ts = k.ts; tokens = k.tokens; bad = k.bad; after = k.after; first = first_bad_model k.ts k.bad k.first; complaint = k.complaint; says = k.says; is = k.is }

-- faults that no bad token has
abbrev IsOther : TextFault → Type 0
IsOther Header = Unit {0}
IsOther (Control at) = Unit {0}
IsOther (Unknown at) = Unit {0}
IsOther (Number at f) = Unit {0}
IsOther (LongId at) = Unit {0}
IsOther f = ⊥

plain-apart : (at : ℕ) (c : Complaint) → IsPlain c → IsOther (fault_at at c) → ⊥
plain-apart at (complaints.Unexpected w) h k = k
plain-apart at (complaints.Number f) h k = h
plain-apart at complaints.Twice h k = k
plain-apart at complaints.LongId h k = h
plain-apart at complaints.Ended h k = k

no-other : (ts : List Placed) (f : TextFault) → Blames f (pairs ts) → IsOther f → ⊥
no-other ts f b k = plain-apart (first_of b.rest).at b.complaint (plain_pairs ts b.complaint b.rest b.stops) (subst (λ (g : TextFault). IsOther g) b.is k)

-- what stops the reading is a fault of the text
pub bad_fault : (text : List ℕ) (ts : List Placed) (f : TextFault) → HasTokens dialects.Model model_header text ts → Fails f (pairs ts) → IsFault text f
bad_fault text ts OutOfMemory h b = tt
bad_fault text ts (Unexpected at w) h b = has-bad text ts (Unexpected at w) h b
bad_fault text ts (Twice at) h b = has-bad text ts (Twice at) h b
bad_fault text ts (Ended at) h b = has-bad text ts (Ended at) h b
bad_fault text ts f h b = absurd (no-other ts f b tt)

-- a text without tokens has a fault
pub cut_fault : (text : List ℕ) (f : TextFault) → IsCutFault dialects.Model model_header text f → IsFault text f
cut_fault text OutOfMemory k = tt
cut_fault text (Control at) k = k
cut_fault text Header k = k
cut_fault text f k = absurd k
