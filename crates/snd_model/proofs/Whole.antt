-- Model texts are read lawfully: pairs of different keys in any order, and then the end.
use Rattle.std.proofs.Common.{◌≡◌, ℕ, zero, suc, true, false, List, [], ◌∷◌, ◌++◌, Option, Some, None, refl, sym, ap, subst, ◌∙◌}
use Rattle.std.specs.Prelude.{Ok, Err}
use Rattle.snd_reader.specs.Readers.{Lexeme, word, open_bracket, close_bracket, equals_sign, the_end, Placed}
use Rattle.snd_reader.specs.Forms.{IsToken, AreItems, Items, IsFirstBad}
use Rattle.snd_reader.specs.Tests.{equals_test}
use Rattle.snd_reader.specs.declared.fault.Complaint.TheVariants.{Ended}
use Rattle.snd_reader.proofs.Lawful.{Says, Lawful}
use Rattle.snd_reader.proofs.Endings.{equals-end}
use Rattle.snd_reader.proofs.Live.{Live, live_bind, live_done, live_token, IsMore, EndsLast, items_end_last}
use Rattle.snd_reader.proofs.Many.{lawful_items}
use Rattle.snd_reader.proofs.SameForms.{lawful_as, live_such, same_items}
use Rattle.snd_model.specs.declared.keys.Key.{Key}
use Rattle.snd_model.specs.declared.keys.Key.TheVariants as keys
use Rattle.snd_model.specs.declared.setting.Setting.{Setting}
use Rattle.snd_model.specs.declared.values.DemandModel.{DemandModel}
use Rattle.snd_model.specs.declared.values.LinkModel.{LinkModel}
use Rattle.snd_model.specs.declared.values.CapacityModel.{CapacityModel}
use Rattle.snd_model.specs.declared.values.FixedChargeModel.{FixedChargeModel}
use Rattle.snd_model.specs.declared.values.RoutingModel.{RoutingModel}
use Rattle.snd_model.specs.declared.values.PathModel.{PathModel}
use Rattle.snd_model.specs.declared.values.HopModel.{HopModel}
use Rattle.snd_model.specs.declared.values.SurvivabilityModel.{SurvivabilityModel}
use Rattle.snd_model.specs.declared.values.DemandModel.TheVariants as demands
use Rattle.snd_model.specs.declared.values.LinkModel.TheVariants as links
use Rattle.snd_model.specs.declared.values.CapacityModel.TheVariants as capacities
use Rattle.snd_model.specs.declared.values.FixedChargeModel.TheVariants as charges
use Rattle.snd_model.specs.declared.values.RoutingModel.TheVariants as routings
use Rattle.snd_model.specs.declared.values.PathModel.TheVariants as paths
use Rattle.snd_model.specs.declared.values.HopModel.TheVariants as hops
use Rattle.snd_model.specs.declared.values.SurvivabilityModel.TheVariants as survivals
use Rattle.snd_model.specs.declared.draft.Draft.{Draft}
use Rattle.snd_model.specs.declared.file.ModelFile.{ModelFile}
use Rattle.snd_model.specs.Table.{key_word, key_of, spelling, setting_named}
use Rattle.snd_model.specs.Grammar.{no_settings, settings_of, and_setting, has_setting, is_complete, IsEquals, IsValueWord, BeginsPair, PairForm, PairsForm, ModelForm}
use Rattle.snd_model.specs.Tests.{valued, value_test}
use Rattle.snd_model.specs.Reading.{equals, value, key_turn, pair, pairs}
use Rattle.snd_model.proofs.Agree.{equals_same, value_same, key_same}
use Rattle.snd_model.proofs.Tabled.{setting-found, some_setting, of_key}

-- this token at place 0
abbrev pub sample : Lexeme → Placed
sample l = record { at = 0; is = l }

-- ---- a pair

live_equals : Live IsEquals equals
live_equals = live_such (λ t. equals_test t.is) (λ t _. t.is ≡ equals_sign) equals_same (live_token (λ t. equals_test t.is) (sample equals_sign) tt refl (λ t e. rw e refl) (λ t e. equals-end t.is e))

good_value : (s : Setting) → value_test (key_of s) (word (spelling s)) ≡ Ok s
good_value s = ap valued (setting-found s)

value-end : (k : Key) (l : Lexeme) → value_test k l ≡ Err Ended → l ≡ the_end
value-end k (word bytes) e = absurd (by (setting_named k bytes) e)
  where
    by : (o : Option Setting) → valued o ≡ Err Ended → ⊥
    by None e = cc
    by (Some s) e = cc
value-end k open_bracket e = absurd cc
value-end k close_bracket e = absurd cc
value-end k equals_sign e = absurd cc
value-end k the_end e = refl

live_value : (k : Key) → Live (IsToken (IsValueWord k)) (value k)
live_value k =
    let s = some_setting k in
    live_such (λ t. value_test k t.is) (IsValueWord k) (value_same k)
    (live_token (λ t. value_test k t.is) (sample (word (spelling s))) s (subst (λ (key : Key). value_test key (word (spelling s)) ≡ Ok s) (of_key k).1 (good_value s)) (λ t e. rw e refl) (λ t e. value-end k t.is e))

-- a pair behind its key is read lawfully and never past the end of the text
pub live_pair : (d : Draft) (k : Key) → Live (PairForm d k) (pair d k)
unfolding pair
live_pair d k = live_bind _ _ _ _ live_equals (λ _. live_bind _ _ _ _ (live_value k) (λ s. live_done (and_setting d s)))

-- the tokens of a new setting, and what comes behind it
pub pair-first : (d x : Draft) (s : Setting) (p q r : Placed) (m : List Placed) → p.is ≡ word (key_word (key_of s)) → q.is ≡ equals_sign → r.is ≡ word (spelling s)
    → has_setting d (key_of s) ≡ false → Items BeginsPair PairForm (and_setting d s) m x → Items BeginsPair PairForm d (p ∷ q ∷ r ∷ m) x
unfolding AreItems
pair-first d x s p q r m pe qe re new (n, i) =
    let form : PairForm d (key_of s) (q ∷ r ∷ []) (and_setting d s) =
    (q ∷ [], tt, r ∷ [], (q, refl, qe), (r ∷ [], s, [], (r, refl, (spelling s, re, setting-found s)), (refl, refl), refl), refl) in
    (suc n, (p, key_of s, q ∷ r ∷ [], and_setting d s, m, (pe, new), form, i, refl))

-- behind the last setting the text ends
pub end-only : (d : Draft) (t : Placed) → t.is ≡ the_end → is_complete d ≡ true → Items BeginsPair PairForm d (t ∷ []) d
unfolding AreItems
end-only d t e c = (zero, (t, (e, c), refl, refl))

-- ---- a model can be finished

abbrev Finishes : Draft → Type 0
Finishes d = (l : List Placed) × (x : Draft) × Items BeginsPair PairForm d l x

with-one : (d : Draft) (k : Key) → has_setting d (key_of (some_setting k)) ≡ false → Finishes (and_setting d (some_setting k)) → Finishes d
with-one d k new (m, x, i) =
    let s = some_setting k in
    (sample (word (key_word (key_of s))) ∷ sample equals_sign ∷ sample (word (spelling s)) ∷ m, x, pair-first d x s (sample (word (key_word (key_of s)))) (sample equals_sign) (sample (word (spelling s))) m refl refl refl new i)

abbrev draft : Option DemandModel → Option LinkModel → Option CapacityModel → Option FixedChargeModel → Option RoutingModel → Option PathModel → Option HopModel → Option SurvivabilityModel → Draft
draft a b c e f g h i = record { demand = a; link = b; capacity = c; fixed_charge = e; routing = f; path = g; hop = h; survivability = i }

all-there : (a : DemandModel) (b : LinkModel) (c : CapacityModel) (e : FixedChargeModel) (f : RoutingModel) (g : PathModel) (h : HopModel) (i : SurvivabilityModel) → Finishes (draft (Some a) (Some b) (Some c) (Some e) (Some f) (Some g) (Some h) (Some i))
all-there a b c e f g h i = (sample the_end ∷ [], draft (Some a) (Some b) (Some c) (Some e) (Some f) (Some g) (Some h) (Some i), end-only _ (sample the_end) refl refl)

from-survivability : (a : DemandModel) (b : LinkModel) (c : CapacityModel) (e : FixedChargeModel) (f : RoutingModel) (g : PathModel) (h : HopModel) (i : Option SurvivabilityModel) → Finishes (draft (Some a) (Some b) (Some c) (Some e) (Some f) (Some g) (Some h) i)
from-survivability a b c e f g h (Some i) = all-there a b c e f g h i
from-survivability a b c e f g h None = with-one _ keys.Survivability refl (all-there a b c e f g h survivals.No)

from-hop : (a : DemandModel) (b : LinkModel) (c : CapacityModel) (e : FixedChargeModel) (f : RoutingModel) (g : PathModel) (h : Option HopModel) (i : Option SurvivabilityModel) → Finishes (draft (Some a) (Some b) (Some c) (Some e) (Some f) (Some g) h i)
from-hop a b c e f g (Some h) i = from-survivability a b c e f g h i
from-hop a b c e f g None i = with-one _ keys.Hop refl (from-survivability a b c e f g hops.No i)

from-path : (a : DemandModel) (b : LinkModel) (c : CapacityModel) (e : FixedChargeModel) (f : RoutingModel) (g : Option PathModel) (h : Option HopModel) (i : Option SurvivabilityModel) → Finishes (draft (Some a) (Some b) (Some c) (Some e) (Some f) g h i)
from-path a b c e f (Some g) h i = from-hop a b c e f g h i
from-path a b c e f None h i = with-one _ keys.Path refl (from-hop a b c e f paths.All h i)

from-routing : (a : DemandModel) (b : LinkModel) (c : CapacityModel) (e : FixedChargeModel) (f : Option RoutingModel) (g : Option PathModel) (h : Option HopModel) (i : Option SurvivabilityModel) → Finishes (draft (Some a) (Some b) (Some c) (Some e) f g h i)
from-routing a b c e (Some f) g h i = from-path a b c e f g h i
from-routing a b c e None g h i = with-one _ keys.Routing refl (from-path a b c e routings.SinglePath g h i)

from-fixed-charge : (a : DemandModel) (b : LinkModel) (c : CapacityModel) (e : Option FixedChargeModel) (f : Option RoutingModel) (g : Option PathModel) (h : Option HopModel) (i : Option SurvivabilityModel) → Finishes (draft (Some a) (Some b) (Some c) e f g h i)
from-fixed-charge a b c (Some e) f g h i = from-routing a b c e f g h i
from-fixed-charge a b c None f g h i = with-one _ keys.FixedCharge refl (from-routing a b c charges.No f g h i)

from-capacity : (a : DemandModel) (b : LinkModel) (c : Option CapacityModel) (e : Option FixedChargeModel) (f : Option RoutingModel) (g : Option PathModel) (h : Option HopModel) (i : Option SurvivabilityModel) → Finishes (draft (Some a) (Some b) c e f g h i)
from-capacity a b (Some c) e f g h i = from-fixed-charge a b c e f g h i
from-capacity a b None e f g h i = with-one _ keys.Capacity refl (from-fixed-charge a b capacities.Modular e f g h i)

from-link : (a : DemandModel) (b : Option LinkModel) (c : Option CapacityModel) (e : Option FixedChargeModel) (f : Option RoutingModel) (g : Option PathModel) (h : Option HopModel) (i : Option SurvivabilityModel) → Finishes (draft (Some a) b c e f g h i)
from-link a (Some b) c e f g h i = from-capacity a b c e f g h i
from-link a None c e f g h i = with-one _ keys.Link refl (from-capacity a links.Undirected c e f g h i)

from-demand : (a : Option DemandModel) (b : Option LinkModel) (c : Option CapacityModel) (e : Option FixedChargeModel) (f : Option RoutingModel) (g : Option PathModel) (h : Option HopModel) (i : Option SurvivabilityModel) → Finishes (draft a b c e f g h i)
from-demand (Some a) b c e f g h i = from-link a b c e f g h i
from-demand None b c e f g h i = with-one _ keys.Demand refl (from-link demands.Undirected b c e f g h i)

finishes : (d : Draft) → Finishes d
finishes d = from-demand d.demand d.link d.capacity d.fixed_charge d.routing d.path d.hop d.survivability

-- the pairs of a model, up to the end of the text, are read lawfully
pub lawful_pairs : Lawful PairsForm pairs
lawful_pairs =
    lawful_as (Items (Says key_turn) PairForm no_settings) PairsForm pairs (same_items PairForm key_turn BeginsPair key_same no_settings)
    (lawful_items key_turn pair PairForm (λ d k. (live_pair d k).law) (λ d. (let f = finishes d in (f.0, f.1, (same_items PairForm key_turn BeginsPair key_same d f.0 f.1).1 f.2))) no_settings)

-- ---- nothing is read behind the end of the text

-- tokens in the form of pairs have the end of the text as their last one, and nowhere before
pub pairs_end : (l : List Placed) (d : Draft) → PairsForm l d → EndsLast l
pairs_end l d f = items_end_last BeginsPair PairForm (λ s k m x g. (live_pair s k).no_end m x g) (λ s t h. h.0) (λ s t k h. subst IsMore (sym h.0) tt) f.0 no_settings l d f.1

-- ---- where a text may end, each key has a value

items-complete : (n : ℕ) (s x : Draft) (l : List Placed) → AreItems BeginsPair PairForm n s l x → is_complete x ≡ true
unfolding AreItems
items-complete zero s x l (t, a, e, b) = ap is_complete b ∙ a.1
items-complete (suc n) s x l (t, k, front, next, rest, a, f, r, e) = items-complete n next x rest r

-- where tokens have the form of pairs, each key has a value
pub pairs_complete : (l : List Placed) (d : Draft) → PairsForm l d → is_complete d ≡ true
pairs_complete l d f = items-complete f.0 no_settings d l f.1

-- settings with a value for each key are those of a model
pub file-of : (d : Draft) → is_complete d ≡ true → (file : ModelFile) × (d ≡ settings_of file)
file-of d c = by d.demand d.link d.capacity d.fixed_charge d.routing d.path d.hop d.survivability c
  where
    by : (a : Option DemandModel) (b : Option LinkModel) (c : Option CapacityModel) (e : Option FixedChargeModel) (f : Option RoutingModel) (g : Option PathModel) (h : Option HopModel) (i : Option SurvivabilityModel)
        → is_complete (draft a b c e f g h i) ≡ true → (file : ModelFile) × (draft a b c e f g h i ≡ settings_of file)
    by (Some a) (Some b) (Some c) (Some e) (Some f) (Some g) (Some h) (Some i) given = (record { demand = a; link = b; capacity = c; fixed_charge = e; routing = f; path = g; hop = h; survivability = i }, refl)
    by None b c e f g h i given = absurd cc
    by (Some a) None c e f g h i given = absurd cc
    by (Some a) (Some b) None e f g h i given = absurd cc
    by (Some a) (Some b) (Some c) None f g h i given = absurd cc
    by (Some a) (Some b) (Some c) (Some e) None g h i given = absurd cc
    by (Some a) (Some b) (Some c) (Some e) (Some f) None h i given = absurd cc
    by (Some a) (Some b) (Some c) (Some e) (Some f) (Some g) None i given = absurd cc
    by (Some a) (Some b) (Some c) (Some e) (Some f) (Some g) (Some h) None given = absurd cc

-- the first token with which no list of pairs begins is the first with which no model begins
pub first_bad_model : (ts : List Placed) (t : Placed) → IsFirstBad PairsForm ts t → IsFirstBad ModelForm ts t
first_bad_model ts t k =
    let d = k.begun.1 in
    let form = k.begun.2 in
    let f = file-of d (pairs_complete (k.front ++ k.begun.0) d form) in
    record {
      front = k.front;
      after = k.after;
      whole = k.whole;
      begun = (k.begun.0, f.0, subst (λ (e : Draft). PairsForm (k.front ++ k.begun.0) e) f.1 form);
      bad = λ b. k.bad (b.0, settings_of b.1, b.2);
    }
