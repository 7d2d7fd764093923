-- The canonical text of a model spells it, and is short.
use Rattle.std.proofs.Common.{◌≡◌, ℕ, ◌+◌, ◌*◌, ◌-◌, ◌≤◌, ◌<◌, Bool, true, false, cond, List, [], ◌∷◌, ◌++◌, length, map, refl, sym, ap, ◌∙◌, ◌⊎◌, inl, inr, append_assoc, arith}
use Rattle.std.specs.List.{AllByRecursion, concat}
use Rattle.std.proofs.lemmas.List.{length-append}
use Rattle.snd_lexer.specs.declared.limits.TheConstants.{MAX_TEXT_BYTES}
use Rattle.snd_lexer.specs.declared.token.Dialect.TheVariants as dialects
use Rattle.snd_lexer.specs.declared.token.Token.{Token}
use Rattle.snd_lexer.specs.declared.token.TokenKind.{TokenKind}
use Rattle.snd_lexer.specs.declared.token.TokenKind.TheVariants as kinds
use Rattle.snd_lexer.specs.Cutting as cutting
use Rattle.snd_lexer.specs.Cutting.{Piece, text_of, AreCut, is_word, with_bytes, shown}
use Rattle.snd_lexer.proofs.Shown.{shown_is_cut}
use Rattle.snd_reader.specs.Readers.{the_end, Placed}
use Rattle.snd_reader.specs.Forms.{Items}
use Rattle.snd_reader.specs.Tokens.{lexeme_of, place, placed}
use Rattle.snd_reader.specs.Header.{HasHeader}
use Rattle.snd_model.specs.declared.keys.Key.{Key}
use Rattle.snd_model.specs.declared.keys.Key.TheVariants as keys
use Rattle.snd_model.specs.declared.setting.Setting.{Setting}
use Rattle.snd_model.specs.declared.setting.Setting.TheVariants.{Demand, Link, Capacity, FixedCharge, Routing, Path, Hop, Survivability}
use Rattle.snd_model.specs.declared.values.DemandModel.TheVariants as demands
use Rattle.snd_model.specs.declared.values.LinkModel.TheVariants as links
use Rattle.snd_model.specs.declared.values.CapacityModel.TheVariants as capacities
use Rattle.snd_model.specs.declared.values.FixedChargeModel.TheVariants as charges
use Rattle.snd_model.specs.declared.values.RoutingModel.TheVariants as routings
use Rattle.snd_model.specs.declared.values.PathModel.TheVariants as paths
use Rattle.snd_model.specs.declared.values.HopModel.TheVariants as hops
use Rattle.snd_model.specs.declared.values.SurvivabilityModel.TheVariants as survivals
use Rattle.snd_model.specs.declared.draft.Draft.{Draft}
use Rattle.snd_model.specs.declared.file.ModelFile.{ModelFile}
use Rattle.snd_model.specs.Table.{all_keys, key_word, key_of, spelling}
use Rattle.snd_model.specs.Grammar.{setting_of, settings_of, no_settings, has_setting, and_setting, BeginsPair, PairForm}
use Rattle.snd_model.specs.Spelling.{model_header, SpellsModel, IsReadable}
use Rattle.snd_model.specs.Writing.{line, model_text}
use Rattle.snd_model.proofs.Whole.{pair-first, end-only}

-- ---- words

abbrev all_word : List ℕ → Bool
all_word [] = true
all_word (b ∷ bytes) = cond (is_word dialects.Model b) (all_word bytes) false

went : (x : Bool) → (x ≡ true) ⊎ (x ≡ false)
went true = inl refl
went false = inr refl

all-word : (bytes : List ℕ) → all_word bytes ≡ true → AllByRecursion (λ b. is_word dialects.Model b ≡ true) bytes
all-word [] e = tt
all-word (b ∷ bytes) e =
    elim (went (is_word dialects.Model b)) [
      | inl h ↦ (h, all-word bytes (sym (ap (λ (x : Bool). cond x (all_word bytes) false) h) ∙ e))
      | inr h ↦ (let bad : false ≡ true = sym (ap (λ (x : Bool). cond x (all_word bytes) false) h) ∙ e in absurd cc)
    ]

-- so many bytes at least and at most, all of words
record IsName (most : ℕ) (bytes : List ℕ) : Type 0 where
  some : 0 < length bytes
  short : length bytes ≤ most
  are_word : all_word bytes ≡ true

key-name : (k : Key) → IsName 40 (key_word k)
key-name keys.Demand = record { some = omega arith; short = omega arith; are_word = refl }
key-name keys.Link = record { some = omega arith; short = omega arith; are_word = refl }
key-name keys.Capacity = record { some = omega arith; short = omega arith; are_word = refl }
key-name keys.FixedCharge = record { some = omega arith; short = omega arith; are_word = refl }
key-name keys.Routing = record { some = omega arith; short = omega arith; are_word = refl }
key-name keys.Path = record { some = omega arith; short = omega arith; are_word = refl }
key-name keys.Hop = record { some = omega arith; short = omega arith; are_word = refl }
key-name keys.Survivability = record { some = omega arith; short = omega arith; are_word = refl }

spelling-name : (s : Setting) → IsName 40 (spelling s)
spelling-name (Demand demands.Undirected) = record { some = omega arith; short = omega arith; are_word = refl }
spelling-name (Demand demands.Directed) = record { some = omega arith; short = omega arith; are_word = refl }
spelling-name (Link links.Undirected) = record { some = omega arith; short = omega arith; are_word = refl }
spelling-name (Link links.Directed) = record { some = omega arith; short = omega arith; are_word = refl }
spelling-name (Link links.Bidirected) = record { some = omega arith; short = omega arith; are_word = refl }
spelling-name (Capacity capacities.Modular) = record { some = omega arith; short = omega arith; are_word = refl }
spelling-name (Capacity capacities.Linear) = record { some = omega arith; short = omega arith; are_word = refl }
spelling-name (Capacity capacities.SingleModular) = record { some = omega arith; short = omega arith; are_word = refl }
spelling-name (Capacity capacities.Explicit) = record { some = omega arith; short = omega arith; are_word = refl }
spelling-name (FixedCharge charges.No) = record { some = omega arith; short = omega arith; are_word = refl }
spelling-name (FixedCharge charges.Yes) = record { some = omega arith; short = omega arith; are_word = refl }
spelling-name (Routing routings.SinglePath) = record { some = omega arith; short = omega arith; are_word = refl }
spelling-name (Routing routings.Continuous) = record { some = omega arith; short = omega arith; are_word = refl }
spelling-name (Routing routings.Integer) = record { some = omega arith; short = omega arith; are_word = refl }
spelling-name (Path paths.All) = record { some = omega arith; short = omega arith; are_word = refl }
spelling-name (Path paths.Explicit) = record { some = omega arith; short = omega arith; are_word = refl }
spelling-name (Hop hops.No) = record { some = omega arith; short = omega arith; are_word = refl }
spelling-name (Hop hops.Yes) = record { some = omega arith; short = omega arith; are_word = refl }
spelling-name (Survivability survivals.No) = record { some = omega arith; short = omega arith; are_word = refl }
spelling-name (Survivability survivals.Yes) = record { some = omega arith; short = omega arith; are_word = refl }
spelling-name (Survivability survivals.OnePlusOne) = record { some = omega arith; short = omega arith; are_word = refl }
spelling-name (Survivability survivals.SharedPath) = record { some = omega arith; short = omega arith; are_word = refl }
spelling-name (Survivability survivals.Unrestricted) = record { some = omega arith; short = omega arith; are_word = refl }

-- ---- pieces

-- the pieces of the line of a setting, and those behind it
abbrev line_then : Setting → List Piece → List Piece
line_then s ps = cutting.word (key_word (key_of s)) ∷ cutting.blank 32 ∷ cutting.equals_sign ∷ cutting.blank 32 ∷ cutting.word (spelling s) ∷ cutting.blank 10 ∷ ps

line-cut : (s : Setting) (ps : List Piece) → AreCut dialects.Model ps [] → AreCut dialects.Model (line_then s ps) []
line-cut s ps h =
    let k = key-name (key_of s) in
    let v = spelling-name s in
    ((k.some, (all-word (key_word (key_of s)) k.are_word, refl)), (refl, (refl, (refl, ((v.some, (all-word (spelling s) v.are_word, refl)), (refl, h))))))

line-text : (s : Setting) (ps : List Piece) (rest : List ℕ) → rest ≡ text_of ps → line s ++ rest ≡ text_of (line_then s ps)
unfolding line
line-text s ps rest e =
    append_assoc (key_word (key_of s)) (32 ∷ 61 ∷ 32 ∷ (spelling s ++ 10 ∷ [])) rest
    ∙ ap (λ (bytes : List ℕ). key_word (key_of s) ++ (32 ∷ 61 ∷ 32 ∷ bytes)) (append_assoc (spelling s) (10 ∷ []) rest)
    ∙ ap (λ (bytes : List ℕ). key_word (key_of s) ++ (32 ∷ 61 ∷ 32 ∷ (spelling s ++ (10 ∷ bytes)))) e

-- the pieces of lines
abbrev lines_of : ModelFile → List Key → List Piece
lines_of file [] = []
lines_of file (k ∷ ks) = line_then (setting_of file k) (lines_of file ks)

lines-cut : (file : ModelFile) (ks : List Key) → AreCut dialects.Model (lines_of file ks) []
lines-cut file [] = tt
lines-cut file (k ∷ ks) = line-cut (setting_of file k) (lines_of file ks) (lines-cut file ks)

abbrev lines_text : ModelFile → List Key → List ℕ
lines_text file ks = concat (map (λ k. line (setting_of file k)) ks)

lines-text : (file : ModelFile) (ks : List Key) → lines_text file ks ≡ text_of (lines_of file ks)
lines-text file [] = refl
lines-text file (k ∷ ks) = line-text (setting_of file k) (lines_of file ks) (lines_text file ks) (lines-text file ks)

-- ---- tokens

first-of-two : {A : Type 0} (x y : A) (xs ys : List A) → x ∷ xs ≡ y ∷ ys → (x ≡ y) × (xs ≡ ys)
first-of-two x y xs ys e = (cc, cc)

abbrev Shape : Type 0
Shape = List (TokenKind × List ℕ)

-- the kinds and bytes of the tokens of the line of a setting, and those behind it
abbrev line_shape : Setting → Shape → Shape
line_shape s ls = (kinds.Word, key_word (key_of s)) ∷ (kinds.Equals, 61 ∷ []) ∷ (kinds.Word, spelling s) ∷ ls

placed-as : (base : ℕ) (text : List ℕ) (t : Token) (kind : TokenKind) (bytes : List ℕ) → with_bytes text t ≡ (kind, bytes) → (place base text t).is ≡ lexeme_of kind bytes
placed-as base text t kind bytes e = ap (λ (p : TokenKind × List ℕ). lexeme_of p.0 p.1) e

-- a line is read
line-read : (base : ℕ) (text : List ℕ) (d x : Draft) (s : Setting) (ts : List Token) (ls : Shape) (m : List Placed)
    → map (with_bytes text) ts ≡ line_shape s ls → has_setting d (key_of s) ≡ false
    → ((us : List Token) → map (with_bytes text) us ≡ ls → Items BeginsPair PairForm (and_setting d s) (map (place base text) us ++ m) x)
    → Items BeginsPair PairForm d (map (place base text) ts ++ m) x
line-read base text d x s [] ls m e new later = absurd cc
line-read base text d x s (p ∷ []) ls m e new later = absurd cc
line-read base text d x s (p ∷ q ∷ []) ls m e new later = absurd cc
line-read base text d x s (p ∷ q ∷ r ∷ us) ls m e new later =
    let a = first-of-two (with_bytes text p) (kinds.Word, key_word (key_of s)) (map (with_bytes text) (q ∷ r ∷ us)) _ e in
    let b = first-of-two (with_bytes text q) (kinds.Equals, 61 ∷ []) (map (with_bytes text) (r ∷ us)) _ a.1 in
    let c = first-of-two (with_bytes text r) (kinds.Word, spelling s) (map (with_bytes text) us) _ b.1 in
    pair-first d x s (place base text p) (place base text q) (place base text r) (map (place base text) us ++ m)
    (placed-as base text p kinds.Word (key_word (key_of s)) a.0) (placed-as base text q kinds.Equals (61 ∷ []) b.0) (placed-as base text r kinds.Word (spelling s) c.0) new (later us c.1)

no-tokens : (base : ℕ) (text : List ℕ) (d : Draft) (us : List Token) (m : List Placed) → map (with_bytes text) us ≡ [] → Items BeginsPair PairForm d m d → Items BeginsPair PairForm d (map (place base text) us ++ m) d
no-tokens base text d [] m e h = h
no-tokens base text d (u ∷ us) m e h = absurd cc

lines-read : (base : ℕ) (text : List ℕ) (file : ModelFile) (ts : List Token) (last : Placed) → last.is ≡ the_end → map (with_bytes text) ts ≡ shown (lines_of file all_keys) → Items BeginsPair PairForm no_settings (map (place base text) ts ++ last ∷ []) (settings_of file)
lines-read base text file ts last is e =
    line-read base text (no_settings) (settings_of file) (Demand file.demand) ts _ (last ∷ []) e refl (λ us1 e1.
    line-read base text (and_setting no_settings (Demand file.demand)) (settings_of file) (Link file.link) us1 _ (last ∷ []) e1 refl (λ us2 e2.
    line-read base text (and_setting (and_setting no_settings (Demand file.demand)) (Link file.link)) (settings_of file) (Capacity file.capacity) us2 _ (last ∷ []) e2 refl (λ us3 e3.
    line-read base text (and_setting (and_setting (and_setting no_settings (Demand file.demand)) (Link file.link)) (Capacity file.capacity)) (settings_of file) (FixedCharge file.fixed_charge) us3 _ (last ∷ []) e3 refl (λ us4 e4.
    line-read base text (and_setting (and_setting (and_setting (and_setting no_settings (Demand file.demand)) (Link file.link)) (Capacity file.capacity)) (FixedCharge file.fixed_charge)) (settings_of file) (Routing file.routing) us4 _ (last ∷ []) e4 refl (λ us5 e5.
    line-read base text (and_setting (and_setting (and_setting (and_setting (and_setting no_settings (Demand file.demand)) (Link file.link)) (Capacity file.capacity)) (FixedCharge file.fixed_charge)) (Routing file.routing)) (settings_of file) (Path file.path) us5 _ (last ∷ []) e5 refl (λ us6 e6.
    line-read base text (and_setting (and_setting (and_setting (and_setting (and_setting (and_setting no_settings (Demand file.demand)) (Link file.link)) (Capacity file.capacity))
    (FixedCharge file.fixed_charge)) (Routing file.routing)) (Path file.path)) (settings_of file) (Hop file.hop) us6 _ (last ∷ []) e6 refl (λ us7 e7.
    line-read base text (and_setting (and_setting (and_setting (and_setting (and_setting (and_setting (and_setting no_settings (Demand file.demand)) (Link file.link)) (Capacity file.capacity))
    (FixedCharge file.fixed_charge)) (Routing file.routing)) (Path file.path)) (Hop file.hop)) (settings_of file) (Survivability file.survivability) us7 _ (last ∷ []) e7 refl (λ us8 e8.
    no-tokens base text (settings_of file) us8 (last ∷ []) e8 (end-only (settings_of file) last is refl)))))))))

-- ---- the whole text

header-of : (file : ModelFile) → HasHeader model_header (model_text file) (10 ∷ lines_text file all_keys)
header-of file = record { blanks = []; whole = refl; are_blank = tt; line_ends = refl }

-- the canonical text of a model spells it
pub written : (file : ModelFile) → SpellsModel (model_text file) file
written file =
    let rest = 10 ∷ lines_text file all_keys in
    let cut = shown_is_cut dialects.Model rest (shown (lines_of file all_keys))
    (record { pieces = cutting.blank 10 ∷ lines_of file all_keys; cut = (refl, lines-cut file all_keys); whole = ap (λ (bytes : List ℕ). 10 ∷ bytes) (lines-text file all_keys); these = refl }) in
    let base = length (model_text file) - length rest in
    record {
      ts = placed base rest cut.0;
      tokens = record { rest = rest; header = header-of file; tokens = cut.0; cut = cut.1; these = refl };
      form = lines-read base rest file cut.0 (record { at = base + length rest; is = the_end }) refl cut.2;
    }

line-short : (s : Setting) → length (line s) ≤ 84
unfolding line
line-short s = omega (arith, length-append (key_word (key_of s)) (32 ∷ 61 ∷ 32 ∷ (spelling s ++ 10 ∷ [])), length-append (spelling s) (10 ∷ []), (key-name (key_of s)).short, (spelling-name s).short)

lines-short : (file : ModelFile) (ks : List Key) → length (lines_text file ks) ≤ 84 * length ks
lines-short file [] = omega arith
lines-short file (k ∷ ks) = omega (arith, length-append (line (setting_of file k)) (lines_text file ks), line-short (setting_of file k), lines-short file ks)

-- the canonical text of a model is no longer than a text may be
pub written-short : (file : ModelFile) → length (model_text file) ≤ MAX_TEXT_BYTES
written-short file = omega (arith, length-append model_header (10 ∷ lines_text file all_keys), lines-short file all_keys)

-- each model is spelt by a text that is not too long
pub readable : (file : ModelFile) → IsReadable file
readable file = record { text = model_text file; short = written-short file; spells = written file }
