-- The tokens of a network's sections stand for them.
use Rattle.std.proofs.Common.{◌≡◌, ℕ, true, false, List, [], ◌∷◌, ◌++◌, length, map, All, Option, Some, None, refl, sym, ap, subst, ◌∙◌, append_assoc, codes, flat_map}
use Rattle.std.specs.Prelude.{is_some}
use Rattle.std.proofs.lemmas.List.{append-nil, map-append}
use Rattle.std.proofs.lemmas.List.Elements.{All-head, All-tail}
use Rattle.snd_reader.specs.Readers.{Lexeme, word, open_bracket, close_bracket, the_end, Placed}
use Rattle.snd_reader.specs.Forms.{Items}
use Rattle.snd_network.specs.declared.file.NodeRecord.{NodeRecord}
use Rattle.snd_network.specs.declared.file.LinkRecord.{LinkRecord}
use Rattle.snd_network.specs.declared.file.DemandRecord.{DemandRecord}
use Rattle.snd_network.specs.declared.file.NetworkFile.{NetworkFile}
use Rattle.snd_network.specs.declared.draft.NodeItem.TheVariants as node_items
use Rattle.snd_network.specs.declared.draft.NodeList.{NodeList}
use Rattle.snd_network.specs.declared.draft.LinkDraft.{LinkDraft}
use Rattle.snd_network.specs.declared.draft.Named.{Named}
use Rattle.snd_network.specs.declared.draft.Table.{Table}
use Rattle.snd_network.specs.declared.draft.Draft.{Draft}
use Rattle.snd_network.specs.declared.draft.Section.TheVariants.{Nodes, Links, Demands}
use Rattle.snd_reader.specs.Names.{is_among}
use Rattle.snd_network.specs.Tests.{is_complete}
use Rattle.snd_network.specs.Grammar.{no_nodes, last_node, with_last, and_named, BeginsNode, NodeForm, NodesForm, LinkForm, DemandForm, no_rows, and_row, BeginsItem, ItemForm, ListForm, no_sections, and_nodes, and_links, BeginsSection, SectionForm, NetworkForm}
use Rattle.snd_network.specs.Ends.{IsLinkOf, IsDemandOf, AreAllOf, IsFileOf}
use Rattle.snd_network.specs.WellFormed.{IsName, IsPlace, IsGoodNode, IsGoodLink, IsGoodDemand, AreDifferent, node_names, IsWellFormed}
use Rattle.snd_network.specs.Writing.{place_tokens, node_tokens, link_tokens, demand_tokens}
use Rattle.snd_reader.proofs.CutTexts.{section_tokens}
use Rattle.snd_network.proofs.Finding.{all-push}
use Rattle.snd_network.proofs.NameLists.{is_new}
use Rattle.snd_reader.proofs.Standing.{Reads, reads_then, reads_last, reads_nothing, reads_end, reads_item}
use Rattle.snd_network.proofs.SpeltRecords.{IsReadBack, reads_open, reads_close, reads_coordinate, reads_link, reads_demand}

-- ---- nodes

-- these nodes have been read; the last may wait for a place
record IsSoFar (nodes : List NodeRecord) (s : NodeList) : Type 0 where
  names : s.names ≡ node_names nodes
  rows : s.rows ++ last_node s.pending None ≡ nodes

-- these nodes have been read, and then this name, which waits for a place
record IsWaiting (nodes : List NodeRecord) (name : List ℕ) (s : NodeList) : Type 0 where
  names : s.names ≡ node_names nodes ++ name ∷ []
  rows : s.rows ≡ nodes
  pending : s.pending ≡ Some name

abbrev node : List ℕ → Option (List ℕ × List ℕ) → NodeRecord
node name place = record { name = name; place = place }

names-push : (nodes : List NodeRecord) (n : NodeRecord) → node_names (nodes ++ n ∷ []) ≡ node_names nodes ++ n.name ∷ []
names-push nodes n = map-append (λ (m : NodeRecord). m.name) nodes (n ∷ [])

name-begins : (before : List NodeRecord) (s : NodeList) (name : List ℕ) → IsSoFar before s → IsName name → is_among (node_names before) name ≡ false → (t : Placed) → t.is ≡ word name → BeginsNode s t (Some (node_items.Name name))
name-begins before s name so_far good fresh t is = (is, (good.short, subst (λ (names : List (List ℕ)). is_among names name ≡ false) (sym so_far.names) fresh))

place-begins : (nodes : List NodeRecord) (name : List ℕ) (s : NodeList) → IsWaiting nodes name s → (t : Placed) → t.is ≡ open_bracket → BeginsNode s t (Some node_items.Place)
place-begins nodes name s waits t is = (is, ap (λ (pending : Option (List ℕ)). is_some pending) waits.pending)

-- a node, and then what follows
node-read : (Q : NodeList → Type 0) (before : List NodeRecord) (name : List ℕ) (place : Option (List ℕ × List ℕ)) (s : NodeList) (rest : List Lexeme)
    → IsSoFar before s → IsName name → IsPlace place → is_among (node_names before) name ≡ false
    → ((next : NodeList) → IsSoFar (before ++ node name place ∷ []) next → Reads (Items BeginsNode NodeForm next) Q rest)
    → Reads (Items BeginsNode NodeForm s) Q (word name ∷ (place_tokens place ++ rest))
node-read Q before name None s rest so_far good placed fresh later =
    let state : IsSoFar (before ++ node name None ∷ []) (and_named s name) = record {
      names = ap (λ (names : List (List ℕ)). names ++ name ∷ []) so_far.names ∙ sym (names-push before (node name None));
      rows = ap (λ (rows : List NodeRecord). rows ++ node name None ∷ []) so_far.rows;
    } in
    reads_item BeginsNode NodeForm Q (IsSoFar (before ++ node name None ∷ [])) s (word name) (node_items.Name name) [] rest (name-begins before s name so_far good fresh)
    (reads_nothing (and_named s name) (IsSoFar (before ++ node name None ∷ [])) state) later
node-read Q before name (Some place) s rest so_far good placed fresh later =
    let state : IsWaiting before name (and_named s name) = record {
      names = ap (λ (names : List (List ℕ)). names ++ name ∷ []) so_far.names;
      rows = so_far.rows;
      pending = refl;
    } in
    reads_item BeginsNode NodeForm Q (IsWaiting before name) s (word name) (node_items.Name name) [] (open_bracket ∷ word place.0 ∷ word place.1 ∷ close_bracket ∷ rest) (name-begins before s name so_far good fresh)
    (reads_nothing (and_named s name) (IsWaiting before name) state)
    (λ next waits. reads_item BeginsNode NodeForm Q (IsSoFar (before ++ node name (Some place) ∷ [])) next open_bracket node_items.Place (word place.0 ∷ word place.1 ∷ close_bracket ∷ []) rest (place-begins before name next waits) (place-read next waits) later)
  where
    full : (next : NodeList) → IsWaiting before name next → (x y : List ℕ) → x ≡ place.0 → y ≡ place.1 → IsSoFar (before ++ node name (Some place) ∷ []) (with_last next (Some (x, y)))
    full next waits x y is_x is_y = record {
      names = waits.names ∙ sym (names-push before (node name (Some place)));
      rows = append-nil (next.rows ++ last_node next.pending (Some (x, y))) ∙ rw (waits.rows, waits.pending, is_x, is_y) refl;
    }

    place-read : (next : NodeList) → IsWaiting before name next → Reads (NodeForm next node_items.Place) (IsSoFar (before ++ node name (Some place) ∷ [])) (word place.0 ∷ word place.1 ∷ close_bracket ∷ [])
    place-read next waits =
        reads_then _ _ _ _ _ _ (reads_coordinate place.0 placed.0) (λ x is_x.
        reads_then _ _ _ _ _ _ (reads_coordinate place.1 placed.1) (λ y is_y.
        reads_last _ _ _ _ _ reads_close (λ _ _. full next waits x y is_x is_y)))

fresh-node : (before more all : List NodeRecord) (n : NodeRecord) → before ++ n ∷ more ≡ all → AreDifferent (node_names all) → is_among (node_names before) n.name ≡ false
fresh-node before more all n e apart =
    is_new (node_names before) (node_names more) n.name (subst AreDifferent (ap node_names (sym e) ∙ map-append (λ (m : NodeRecord). m.name) before (n ∷ more)) apart)

nodes-read : (all before more : List NodeRecord) (s : NodeList) → before ++ more ≡ all → All IsGoodNode more → AreDifferent (node_names all) → IsSoFar before s
    → Reads (Items BeginsNode NodeForm s) (IsSoFar all) (flat_map node_tokens more ++ close_bracket ∷ [])
nodes-read all before [] s e good apart so_far =
    reads_end BeginsNode NodeForm (IsSoFar all) s close_bracket (λ t is. is) (subst (λ (ns : List NodeRecord). IsSoFar ns s) (sym (append-nil before) ∙ e) so_far)
nodes-read all before (n ∷ more) s e good apart so_far =
    let here = All-head IsGoodNode n more good in
    let rest = flat_map node_tokens more ++ close_bracket ∷ [] in
    let regrouped : place_tokens n.place ++ rest ≡ (place_tokens n.place ++ flat_map node_tokens more) ++ close_bracket ∷ [] = sym (append_assoc (place_tokens n.place) (flat_map node_tokens more) (close_bracket ∷ [])) in
    subst (λ (ls : List Lexeme). Reads (Items BeginsNode NodeForm s) (IsSoFar all) (word n.name ∷ ls)) regrouped
    (node-read (IsSoFar all) before n.name n.place s rest so_far here.name here.place (fresh-node before more all n e apart)
    (λ next state. nodes-read all (before ++ n ∷ []) more next (append_assoc before (n ∷ []) more ∙ e) (All-tail IsGoodNode n more good) apart state))

-- the names and the rows of nodes
pub record IsNodeTable (nodes : List NodeRecord) (t : Table NodeRecord) : Type 0 where
  pub names : t.names ≡ node_names nodes
  pub rows : t.rows ≡ nodes

-- the tokens of good nodes with different names, and the Close behind them, stand for these nodes
pub reads_nodes : (nodes : List NodeRecord) → All IsGoodNode nodes → AreDifferent (node_names nodes) → Reads NodesForm (IsNodeTable nodes) (flat_map node_tokens nodes ++ close_bracket ∷ [])
reads_nodes nodes good apart =
    reads_last _ _ _ _ _ (nodes-read nodes [] nodes no_nodes refl good apart (record { names = refl; rows = refl })) (λ s state. record { names = state.names; rows = state.rows })

-- ---- lists of named things

-- the names and the parts of these items
pub record IsTable {T X : Type 0} (name : X → List ℕ) (Is : Named T → X → Type 0) (items : List X) (s : Table (Named T)) : Type 0 where
  pub names : s.names ≡ map name items
  pub rows : AreAllOf Is s.rows items

module _ {T X : Type 0} (F : List Placed → T → Type 0) (name : X → List ℕ) (tokens : X → List Lexeme) (Is : Named T → X → Type 0) (Good : X → Type 0)
    (is_name : (x : X) → Good x → IsName (name x)) (reads : (x : X) → Good x → Reads F (λ (part : T). Is (record { name = name x; part = part }) x) (tokens x)) where
  item-begins : (before : List X) (s : Table (Named T)) (x : X) → IsTable name Is before s → Good x → is_among (map name before) (name x) ≡ false → (t : Placed) → t.is ≡ word (name x) → BeginsItem s t (Some (name x))
  item-begins before s x so_far good fresh t is = (is, ((is_name x good).short, subst (λ (names : List (List ℕ)). is_among names (name x) ≡ false) (sym so_far.names) fresh))

  pushed : (before : List X) (s : Table (Named T)) (x : X) (part : T) → IsTable name Is before s → Is (record { name = name x; part = part }) x → IsTable name Is (before ++ x ∷ []) (and_row s (name x) part)
  pushed before s x part so_far is = record {
    names = ap (λ (names : List (List ℕ)). names ++ name x ∷ []) so_far.names ∙ sym (map-append name before (x ∷ []));
    rows = all-push Is s.rows before (record { name = name x; part = part }) x so_far.rows is;
  }

  abbrev item-tokens : X → List Lexeme
  item-tokens x = word (name x) ∷ tokens x

  items-read : (all before more : List X) (s : Table (Named T)) → before ++ more ≡ all → All Good more → AreDifferent (map name all) → IsTable name Is before s
      → Reads (Items BeginsItem (ItemForm F) s) (IsTable name Is all) (flat_map item-tokens more ++ close_bracket ∷ [])
  items-read all before [] s e good apart so_far =
      reads_end BeginsItem (ItemForm F) (IsTable name Is all) s close_bracket (λ t is. is) (subst (λ (xs : List X). IsTable name Is xs s) (sym (append-nil before) ∙ e) so_far)
  items-read all before (x ∷ more) s e good apart so_far =
      let here = All-head Good x more good in
      let rest = flat_map item-tokens more ++ close_bracket ∷ [] in
      let fresh = is_new (map name before) (map name more) (name x) (subst AreDifferent (ap (map name) (sym e) ∙ map-append name before (x ∷ more)) apart) in
      let regrouped : tokens x ++ rest ≡ (tokens x ++ flat_map item-tokens more) ++ close_bracket ∷ [] = sym (append_assoc (tokens x) (flat_map item-tokens more) (close_bracket ∷ [])) in
      subst (λ (ls : List Lexeme). Reads (Items BeginsItem (ItemForm F) s) (IsTable name Is all) (word (name x) ∷ ls)) regrouped
      (reads_item BeginsItem (ItemForm F) (IsTable name Is all) (IsTable name Is (before ++ x ∷ [])) s (word (name x)) (name x) (tokens x) rest (item-begins before s x so_far here fresh)
      (reads_last F (λ (part : T). and_row s (name x) part) (λ (part : T). Is (record { name = name x; part = part }) x) (IsTable name Is (before ++ x ∷ [])) (tokens x) (reads x here) (λ part is. pushed before s x part so_far is))
      (λ next state. items-read all (before ++ x ∷ []) more next (append_assoc before (x ∷ []) more ∙ e) (All-tail Good x more good) apart state))

  -- the tokens of good items with different names, and the Close behind them, stand for these items
  pub reads_list : (items : List X) → All Good items → AreDifferent (map name items) → Reads (ListForm F) (IsTable name Is items) (flat_map item-tokens items ++ close_bracket ∷ [])
  reads_list items good apart = items-read items [] items no_rows refl good apart (record { names = refl; rows = tt })

-- ---- the whole network

-- the tokens of a network
abbrev pub network_tokens : NetworkFile → List Lexeme
network_tokens file =
    section_tokens (codes "NODES") (flat_map node_tokens file.nodes)
    ++ (section_tokens (codes "LINKS") (flat_map (link_tokens file.nodes) file.links)
    ++ section_tokens (codes "DEMANDS") (flat_map (demand_tokens file.nodes) file.demands))

-- the first sections of a network have been read
record HasNodes (file : NetworkFile) (d : Draft) : Type 0 where
  nodes : Table NodeRecord
  are_nodes : IsNodeTable file.nodes nodes
  is : d ≡ and_nodes no_sections nodes

record HasLinks (file : NetworkFile) (d : Draft) : Type 0 where
  nodes : Table NodeRecord
  are_nodes : IsNodeTable file.nodes nodes
  links : Table (Named LinkDraft)
  are_links : AreAllOf (IsLinkOf (node_names file.nodes)) links.rows file.links
  is : d ≡ and_links (and_nodes no_sections nodes) links

module _ (back : IsReadBack) (file : NetworkFile) (good : IsWellFormed file) where
  links-list : Reads (ListForm LinkForm) (IsTable (λ (l : LinkRecord). l.name) (IsLinkOf (node_names file.nodes)) file.links) (flat_map (link_tokens file.nodes) file.links ++ close_bracket ∷ [])
  links-list = reads_list LinkForm (λ (l : LinkRecord). l.name) _ (IsLinkOf (node_names file.nodes)) (IsGoodLink (length file.nodes)) (λ l h. h.name) (reads_link back file.nodes good.nodes good.apart_nodes) file.links good.links good.apart_links

  demands-list : Reads (ListForm DemandForm) (IsTable (λ (d : DemandRecord). d.name) (IsDemandOf (node_names file.nodes)) file.demands) (flat_map (demand_tokens file.nodes) file.demands ++ close_bracket ∷ [])
  demands-list = reads_list DemandForm (λ (d : DemandRecord). d.name) _ (IsDemandOf (node_names file.nodes)) (IsGoodDemand (length file.nodes)) (λ d h. h.name) (reads_demand back file.nodes good.nodes good.apart_nodes) file.demands good.demands good.apart_demands

  ends : (d : Draft) → IsFileOf d file → is_complete d ≡ true → Reads (Items BeginsSection SectionForm d) (λ e. IsFileOf e file) (the_end ∷ [])
  ends d is complete = reads_end BeginsSection SectionForm (λ e. IsFileOf e file) d the_end (λ t h. (h, complete)) is

  -- a whole draft
  record IsWhole (d : Draft) : Type 0 where
    is_file : IsFileOf d file
    complete : is_complete d ≡ true

  demands-read : (d : Draft) → HasLinks file d → Reads (Items BeginsSection SectionForm d) (λ e. IsFileOf e file) (section_tokens (codes "DEMANDS") (flat_map (demand_tokens file.nodes) file.demands) ++ the_end ∷ [])
  demands-read d has =
      subst (λ (e : Draft). Reads (Items BeginsSection SectionForm e) (λ f. IsFileOf f file) (section_tokens (codes "DEMANDS") (flat_map (demand_tokens file.nodes) file.demands) ++ the_end ∷ [])) (sym has.is)
      (reads_item BeginsSection SectionForm (λ e. IsFileOf e file) IsWhole (and_links (and_nodes no_sections has.nodes) has.links) (word (codes "DEMANDS")) Demands (open_bracket ∷ (flat_map (demand_tokens file.nodes) file.demands ++ close_bracket ∷ [])) (the_end ∷ [])
      (λ t is. (is, refl))
      (reads_then _ _ _ _ _ _ reads_open (λ _ _. reads_last _ _ _ _ _ demands-list (λ demands are. record {
        is_file = record {
          nodes = sym has.are_nodes.rows;
          links = subst (λ (names : List (List ℕ)). AreAllOf (IsLinkOf names) has.links.rows file.links) (sym has.are_nodes.names) has.are_links;
          demands = subst (λ (names : List (List ℕ)). AreAllOf (IsDemandOf names) demands.rows file.demands) (sym has.are_nodes.names) are.rows;
        };
        complete = refl;
      })))
      (λ next whole. ends next whole.is_file whole.complete))

  links-read : (d : Draft) → HasNodes file d → (rest : List Lexeme) → ((e : Draft) → HasLinks file e → Reads (Items BeginsSection SectionForm e) (λ f. IsFileOf f file) rest)
      → Reads (Items BeginsSection SectionForm d) (λ e. IsFileOf e file) (section_tokens (codes "LINKS") (flat_map (link_tokens file.nodes) file.links) ++ rest)
  links-read d has rest later =
      subst (λ (e : Draft). Reads (Items BeginsSection SectionForm e) (λ f. IsFileOf f file) (section_tokens (codes "LINKS") (flat_map (link_tokens file.nodes) file.links) ++ rest)) (sym has.is)
      (reads_item BeginsSection SectionForm (λ e. IsFileOf e file) (HasLinks file) (and_nodes no_sections has.nodes) (word (codes "LINKS")) Links (open_bracket ∷ (flat_map (link_tokens file.nodes) file.links ++ close_bracket ∷ [])) rest
      (λ t is. (is, refl))
      (reads_then _ _ _ _ _ _ reads_open (λ _ _. reads_last _ _ _ _ _ links-list (λ links are. record {
        nodes = has.nodes;
        are_nodes = has.are_nodes;
        links = links;
        are_links = are.rows;
        is = refl;
      })))
      later)

  nodes-section : (rest : List Lexeme) → ((e : Draft) → HasNodes file e → Reads (Items BeginsSection SectionForm e) (λ f. IsFileOf f file) rest)
      → Reads (Items BeginsSection SectionForm no_sections) (λ e. IsFileOf e file) (section_tokens (codes "NODES") (flat_map node_tokens file.nodes) ++ rest)
  nodes-section rest later =
      reads_item BeginsSection SectionForm (λ e. IsFileOf e file) (HasNodes file) no_sections (word (codes "NODES")) Nodes (open_bracket ∷ (flat_map node_tokens file.nodes ++ close_bracket ∷ [])) rest
      (λ t is. (is, refl))
      (reads_then _ _ _ _ _ _ reads_open (λ _ _. reads_last _ _ _ _ _ (reads_nodes file.nodes good.nodes good.apart_nodes) (λ nodes are. record { nodes = nodes; are_nodes = are; is = refl })))
      later

  -- the tokens of a well-formed network, and the end of the text, stand for sections of which it is the file
  pub reads_network : Reads NetworkForm (λ d. IsFileOf d file) (network_tokens file ++ the_end ∷ [])
  reads_network =
      let demands = section_tokens (codes "DEMANDS") (flat_map (demand_tokens file.nodes) file.demands) in
      let links = section_tokens (codes "LINKS") (flat_map (link_tokens file.nodes) file.links) in
      let nodes = section_tokens (codes "NODES") (flat_map node_tokens file.nodes) in
      let regrouped : nodes ++ (links ++ (demands ++ the_end ∷ [])) ≡ network_tokens file ++ the_end ∷ [] =
      ap (λ (ls : List Lexeme). nodes ++ ls) (sym (append_assoc links demands (the_end ∷ []))) ∙ sym (append_assoc nodes (links ++ demands) (the_end ∷ [])) in
      subst (λ (ls : List Lexeme). Reads NetworkForm (λ d. IsFileOf d file) ls) regrouped
      (nodes-section (links ++ (demands ++ the_end ∷ [])) (λ d has. links-read d has (demands ++ the_end ∷ []) (λ e more. demands-read e more)))
