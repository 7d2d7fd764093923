-- A text spells one model at most, or has one fault.
use Rattle.std.proofs.Common.{◌≡◌, ℕ, List, Option, Some, None, ap, subst}
use Rattle.std.specs.Prelude.{Result, Ok, Err, IfOk, IfErr}
use Rattle.snd_lexer.specs.declared.token.Dialect.TheVariants as dialects
use Rattle.snd_reader.specs.declared.fault.TextFault.{TextFault}
use Rattle.snd_reader.specs.declared.fault.TextFault.TheVariants.{Header, Unexpected, Number, Twice, Unknown, Ended, LongId, Control, OutOfMemory}
use Rattle.snd_reader.specs.Readers.{Placed}
use Rattle.snd_reader.specs.Texts.{IsFaultOf, AreOneFault, OnlyFile, OnlyFault}
use Rattle.snd_reader.proofs.Lawful.{one_value}
use Rattle.snd_reader.proofs.OneFault as texts
use Rattle.snd_model.specs.declared.values.DemandModel.TheVariants as demands
use Rattle.snd_model.specs.declared.values.LinkModel.TheVariants as links
use Rattle.snd_model.specs.declared.values.CapacityModel.TheVariants as capacities
use Rattle.snd_model.specs.declared.values.FixedChargeModel.TheVariants as charges
use Rattle.snd_model.specs.declared.values.RoutingModel.TheVariants as routings
use Rattle.snd_model.specs.declared.values.PathModel.TheVariants as paths
use Rattle.snd_model.specs.declared.values.HopModel.TheVariants as hops
use Rattle.snd_model.specs.declared.values.SurvivabilityModel.TheVariants as survivals
use Rattle.snd_model.specs.declared.draft.Draft.{Draft}
use Rattle.snd_model.specs.declared.file.ModelFile.{ModelFile}
use Rattle.snd_model.specs.Grammar.{settings_of, PairsForm, ModelForm}
use Rattle.snd_model.specs.Reading.{pairs}
use Rattle.snd_model.specs.Spelling.{model_header, SpellsModel, IsFault}
use Rattle.snd_model.proofs.Whole.{lawful_pairs}

abbrev value_or : {A : Type 0} → A → Option A → A
value_or a None = a
value_or a (Some x) = x

-- the model of these settings
abbrev model_of : Draft → ModelFile
model_of d = record {
  demand = value_or demands.Undirected d.demand;
  link = value_or links.Undirected d.link;
  capacity = value_or capacities.Modular d.capacity;
  fixed_charge = value_or charges.No d.fixed_charge;
  routing = value_or routings.SinglePath d.routing;
  path = value_or paths.All d.path;
  hop = value_or hops.No d.hop;
  survivability = value_or survivals.No d.survivability;
}

-- models with the same settings are the same
pub same-file : (a b : ModelFile) → settings_of a ≡ settings_of b → a ≡ b
same-file a b e = ap model_of e

-- a text spells one model at most
pub one_file : (text : List ℕ) (a b : ModelFile) → SpellsModel text a → SpellsModel text b → a ≡ b
one_file text a b h k =
    same-file a b (one_value PairsForm pairs lawful_pairs k.ts (settings_of a) (settings_of b) (subst (λ (ts : List Placed). ModelForm ts a) (texts.same_tokens dialects.Model model_header text h.ts k.ts h.tokens k.tokens) h.form) k.form)

-- what is wrong with a model text is wrong with a text without unknown names
abbrev NoUnknown : List ℕ → ℕ → Type 0
NoUnknown text at = ⊥

as-fault : (text : List ℕ) (f : TextFault) → IsFault text f → IsFaultOf dialects.Model model_header ModelForm pairs NoUnknown text f
as-fault text Header k = k
as-fault text (Control at) k = k
as-fault text (Unexpected at w) k = k
as-fault text (Twice at) k = k
as-fault text (Ended at) k = k
as-fault text OutOfMemory k = tt
as-fault text (Number at g) k = absurd k
as-fault text (Unknown at) k = absurd k
as-fault text (LongId at) k = absurd k

-- a text that spells a model has no fault but want of memory
pub no_fault : (text : List ℕ) (file : ModelFile) (f : TextFault) → SpellsModel text file → IsFault text f → f ≡ OutOfMemory
no_fault text file f h k =
    let read = texts.read_whole dialects.Model model_header text PairsForm pairs lawful_pairs h.ts (settings_of file) h.tokens h.form in
    texts.no_fault dialects.Model model_header text ModelForm pairs NoUnknown read (λ at u. u) f (as-fault text f k)

-- the reader's answer to a text that spells a model is that model or want of memory
pub only_file : (text : List ℕ) (result : Result ModelFile TextFault) → IfOk result (SpellsModel text) → IfErr result (IsFault text) → (file : ModelFile) → SpellsModel text file → OnlyFile result file
only_file text (Ok found) h k file s = one_file text found file h s
only_file text (Err f) h k file s = no_fault text file f s k

-- ---- one fault

-- two faults of a text are the same, unless one of them is want of memory
pub one_fault : (text : List ℕ) (f g : TextFault) → IsFault text f → IsFault text g → AreOneFault f g
one_fault text f g h k = texts.one_fault dialects.Model model_header text ModelForm pairs NoUnknown (λ a b u v. absurd u) (λ at u. absurd u) f g (as-fault text f h) (as-fault text g k)

-- the reader's answer to a text with a fault other than want of memory is that fault or want of memory
pub only_fault : (text : List ℕ) (result : Result ModelFile TextFault) → IfOk result (SpellsModel text) → IfErr result (IsFault text) → (f : TextFault) → IsFault text f → OnlyFault result f
only_fault text (Ok found) h k f s = no_fault text found f h s
only_fault text (Err g) h k f s = one_fault text g f k s
