-- Whole networks are read lawfully: sections in any order, and then the end.
use Rattle.std.proofs.Common.{◌≡◌, ℕ, zero, suc, Bool, List, [], ◌∷◌, ◌++◌, Option, Some, None, refl, sym, subst}
use Rattle.std.specs.Prelude.{Ok, codes}
use Rattle.std.proofs.lemmas.List.{append-nil}
use Rattle.snd_reader.specs.Readers.{Lexeme, word, open_bracket, the_end, Placed}
use Rattle.snd_reader.specs.Forms.{Then, IsNothing, AreItems, Items}
use Rattle.snd_reader.proofs.Lawful.{Says, Lawful}
use Rattle.snd_reader.proofs.Live.{Live, live_bind, live_done, IsMore, EndsLast, items_end_last}
use Rattle.snd_reader.proofs.Many.{lawful_items}
use Rattle.snd_reader.proofs.SameForms.{lawful_as, same_items}
use Rattle.snd_reader.proofs.Endings.{EndsAtEnd, ends_items}
use Rattle.snd_network.proofs.Agree.{section_same}
use Rattle.snd_network.proofs.Endings.{section-end}
use Rattle.snd_network.specs.declared.file.NodeRecord.{NodeRecord}
use Rattle.snd_network.specs.declared.draft.LinkDraft.{LinkDraft}
use Rattle.snd_network.specs.declared.draft.DemandDraft.{DemandDraft}
use Rattle.snd_network.specs.declared.draft.Named.{Named}
use Rattle.snd_network.specs.declared.draft.Table.{Table}
use Rattle.snd_network.specs.declared.draft.Draft.{Draft}
use Rattle.snd_network.specs.declared.draft.Section.{Section}
use Rattle.snd_network.specs.declared.draft.Section.TheVariants.{Nodes, Links, Demands, Meta, Paths}
use Rattle.snd_network.specs.Grammar.{IsOpen, NodesForm, LinkForm, DemandForm, ListForm, no_sections, and_nodes, and_links, and_demands, and_meta, and_paths, BeginsSection, SectionForm, NetworkForm}
use Rattle.snd_network.specs.Reading.{link, demand, list_of, section_turn, section, network}
use Rattle.snd_network.proofs.Parts.{live_opening, live_nodes, live_link, live_demand, live_list}
use Rattle.snd_reader.proofs.Skips.{live_skip}

live_links : Live (ListForm LinkForm) (list_of link)
live_links = live_list LinkForm link live_link

live_demands : Live (ListForm DemandForm) (list_of demand)
live_demands = live_list DemandForm demand live_demand

-- a section behind its name is read lawfully and never past the end of the text
pub live_section : (d : Draft) (k : Section) → Live (SectionForm d k) (section d k)
unfolding section
live_section d Nodes = live_bind _ _ _ _ live_opening (λ _. live_bind _ _ _ _ live_nodes (λ x. live_done (and_nodes d x)))
live_section d Links = live_bind _ _ _ _ live_opening (λ _. live_bind _ _ _ _ live_links (λ x. live_done (and_links d x)))
live_section d Demands = live_bind _ _ _ _ live_opening (λ _. live_bind _ _ _ _ live_demands (λ x. live_done (and_demands d x)))
live_section d Meta = live_bind _ _ _ _ live_opening (λ _. live_bind _ _ _ _ live_skip (λ _. live_done (and_meta d)))
live_section d Paths = live_bind _ _ _ _ live_opening (λ _. live_bind _ _ _ _ live_skip (λ _. live_done (and_paths d)))

-- ---- a network can be finished

abbrev Finishes : Draft → Type 0
Finishes d = (l : List Placed) × (x : Draft) × Items (Says section_turn) SectionForm d l x

abbrev sample : Lexeme → Placed
sample l = record { at = 0; is = l }

-- a section, and what comes behind it
section-first : (d next : Draft) (name : List ℕ) (k : Section) → section_turn d (sample (word name)) ≡ Ok (Some k) → ((l : List Placed) × SectionForm d k l next) → Finishes next → Finishes d
unfolding AreItems
section-first d next name k e (l, f) (m, x, (n, i)) = (sample (word name) ∷ (l ++ m), x, (suc n, (sample (word name), k, l, next, m, e, f, i, refl)))

section-of : {A : Type 0} (F : List Placed → A → Type 0) (into : A → Draft) (l : List Placed) (x : A) → F l x → (m : List Placed) × Then IsOpen (λ _. Then F (λ y. IsNothing (into y))) m (into x)
section-of F into l x f = (sample open_bracket ∷ l, (sample open_bracket ∷ [], tt, l, (sample open_bracket, refl, refl), (l, x, [], f, (refl, refl), sym (append-nil l)), refl))

abbrev draft : Option (Table NodeRecord) → Option (Table (Named LinkDraft)) → Option (Table (Named DemandDraft)) → Bool → Bool → Draft
draft n l d a b = record { nodes = n; links = l; demands = d; has_meta = a; has_paths = b }

all-there : (n : Table NodeRecord) (l : Table (Named LinkDraft)) (d : Table (Named DemandDraft)) (a b : Bool) → Finishes (draft (Some n) (Some l) (Some d) a b)
unfolding AreItems
all-there n l d a b = (sample the_end ∷ [], draft (Some n) (Some l) (Some d) a b, (zero, (sample the_end, refl, refl, refl)))

with-demands : (n : Table NodeRecord) (l : Table (Named LinkDraft)) (d : Option (Table (Named DemandDraft))) (a b : Bool) → Finishes (draft (Some n) (Some l) d a b)
with-demands n l (Some d) a b = all-there n l d a b
with-demands n l None a b =
    let s = live_demands.some in
    section-first _ _ (codes "DEMANDS") Demands refl (section-of (ListForm DemandForm) (and_demands (draft (Some n) (Some l) None a b)) s.0 s.1 s.2) (all-there n l s.1 a b)

with-links : (n : Table NodeRecord) (l : Option (Table (Named LinkDraft))) (d : Option (Table (Named DemandDraft))) (a b : Bool) → Finishes (draft (Some n) l d a b)
with-links n (Some l) d a b = with-demands n l d a b
with-links n None d a b =
    let s = live_links.some in
    section-first _ _ (codes "LINKS") Links refl (section-of (ListForm LinkForm) (and_links (draft (Some n) None d a b)) s.0 s.1 s.2) (with-demands n s.1 d a b)

with-nodes : (n : Option (Table NodeRecord)) (l : Option (Table (Named LinkDraft))) (d : Option (Table (Named DemandDraft))) (a b : Bool) → Finishes (draft n l d a b)
with-nodes (Some n) l d a b = with-links n l d a b
with-nodes None l d a b =
    let s = live_nodes.some in
    section-first _ _ (codes "NODES") Nodes refl (section-of NodesForm (and_nodes (draft None l d a b)) s.0 s.1 s.2) (with-links s.1 l d a b)

finishes : (d : Draft) → Finishes d
finishes d = with-nodes d.nodes d.links d.demands d.has_meta d.has_paths

-- the sections of a network, up to the end of the text, are read lawfully
pub lawful_network : Lawful NetworkForm network
lawful_network =
    lawful_as (Items (Says section_turn) SectionForm no_sections) NetworkForm network (same_items SectionForm section_turn BeginsSection section_same no_sections)
    (lawful_items section_turn section SectionForm (λ d k. (live_section d k).law) finishes no_sections)

-- ---- nothing is read behind the end of the text

-- tokens in the form of a network have the end of the text as their last one, and nowhere before
pub network_ends : (l : List Placed) (d : Draft) → NetworkForm l d → EndsLast l
network_ends l d f = items_end_last BeginsSection SectionForm (λ s h l x g. (live_section s h).no_end l x g) (λ s t h. h.0) (λ s t k h. subst IsMore (sym h.0) tt) f.0 no_sections l d f.1

-- the end of a text is told at its end alone
pub ends_network : EndsAtEnd network
ends_network = ends_items section_turn section (λ d t e. section-end d t.is e) (λ d k. (live_section d k).at_end) no_sections
