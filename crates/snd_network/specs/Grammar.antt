-- The grammar of network texts: which lists of tokens stand for which records.
use Rattle.std.specs.Prelude.{◌≡◌, ℕ, ◌≤◌, true, false, List, [], ◌∷◌, ◌++◌, length, ◌⊎◌, is_some, codes, Option, Some, None}
use Rattle.scaled_numbers.specs.Decimal.{Numeral, Spells, IsRead}
use Rattle.snd_reader.specs.Readers.{word, open_bracket, close_bracket, the_end, Placed}
use Rattle.snd_reader.specs.Forms.{Then, IsToken, IsNothing, Items}
use Rattle.snd_reader.specs.Brackets.{IsSkipped}
use Rattle.snd_network.specs.declared.file.NodeRecord.{NodeRecord}
use Rattle.snd_network.specs.declared.draft.End.{End}
use Rattle.snd_network.specs.declared.draft.NodeItem.{NodeItem}
use Rattle.snd_network.specs.declared.draft.NodeItem.TheVariants as node_items
use Rattle.snd_network.specs.declared.draft.NodeList.{NodeList}
use Rattle.snd_network.specs.declared.draft.LinkDraft.{LinkDraft}
use Rattle.snd_network.specs.declared.draft.DemandDraft.{DemandDraft}
use Rattle.snd_network.specs.declared.draft.Named.{Named}
use Rattle.snd_network.specs.declared.draft.Table.{Table}
use Rattle.snd_network.specs.declared.draft.Draft.{Draft}
use Rattle.snd_network.specs.declared.draft.Section.{Section}
use Rattle.snd_network.specs.declared.draft.Section.TheVariants.{Nodes, Links, Demands, Meta, Paths}
use Rattle.snd_network.specs.declared.limits.TheConstants.{MAX_NAME_BYTES}
use Rattle.snd_network.specs.Names.{IsNewName}
use Rattle.snd_network.specs.Tests.{is_sign, has_section, is_complete}

-- ---- single tokens

-- an opening bracket
abbrev pub IsOpen : List Placed → Unit {0} → Type 0
IsOpen = IsToken (λ t _. t.is ≡ open_bracket)

-- a closing bracket
abbrev pub IsClose : List Placed → Unit {0} → Type 0
IsClose = IsToken (λ t _. t.is ≡ close_bracket)

-- a word that spells a number below 10^12, which is this one at the scale
abbrev pub IsNumeral : ℕ → Placed → ℕ → Type 0
IsNumeral scale t n = (bytes : List ℕ) × (t.is ≡ word bytes) × IsRead bytes scale n

-- a number at a scale
abbrev pub IsNumber : ℕ → List Placed → ℕ → Type 0
IsNumber scale = IsToken (IsNumeral scale)

-- a word of at most 64 bytes, with its place
abbrev pub IsEndName : Placed → End → Type 0
IsEndName t e = (t.is ≡ word e.name) × (t.at ≡ e.at) × (length e.name ≤ MAX_NAME_BYTES)

-- the end of a link or demand
abbrev pub IsEnd : List Placed → End → Type 0
IsEnd = IsToken IsEndName

-- it spells a number of any size
abbrev pub SpellsNumber : List ℕ → Type 0
SpellsNumber bytes = (n : Numeral) × Spells bytes n

-- it spells a number of any size, with at most one sign in front
abbrev pub SpellsSigned : List ℕ → Type 0
SpellsSigned bytes = SpellsNumber bytes ⊎ ((sign : ℕ) × (digits : List ℕ) × (bytes ≡ sign ∷ digits) × (is_sign sign ≡ true) × SpellsNumber digits)

-- a word that spells such a number
abbrev pub IsSignedWord : Placed → List ℕ → Type 0
IsSignedWord t bytes = (t.is ≡ word bytes) × SpellsSigned bytes

-- a coordinate, as its word
abbrev pub IsCoordinate : List Placed → List ℕ → Type 0
IsCoordinate = IsToken IsSignedWord

-- the word `UNLIMITED`, or the most links of a path
abbrev pub IsLimitWord : Placed → Option ℕ → Type 0
IsLimitWord t None = t.is ≡ word (codes "UNLIMITED")
IsLimitWord t (Some n) = IsNumeral 0 t n

-- a hop limit, or none
abbrev pub IsHopLimit : List Placed → Option ℕ → Type 0
IsHopLimit = IsToken IsLimitWord

-- ---- nodes

-- the nodes before a list has begun
abbrev pub no_nodes : NodeList
no_nodes = record { names = []; rows = []; pending = None }

-- the node of the name that waits
abbrev pub last_node : Option (List ℕ) → Option (List ℕ × List ℕ) → List NodeRecord
last_node None place = []
last_node (Some name) place = record { name = name; place = place } ∷ []

-- the name that waits becomes a node of this place
abbrev pub with_last : NodeList → Option (List ℕ × List ℕ) → NodeList
with_last s place = record { names = s.names; rows = s.rows ++ last_node s.pending place; pending = None }

-- another name, which waits for a place
abbrev pub and_named : NodeList → List ℕ → NodeList
and_named s bytes = record { names = s.names ++ bytes ∷ []; rows = s.rows ++ last_node s.pending None; pending = Some bytes }

-- A new name begins a node, an Open the place of the node whose name stands before it, and a Close ends the list.
abbrev pub BeginsNode : NodeList → Placed → Option NodeItem → Type 0
BeginsNode s t None = t.is ≡ close_bracket
BeginsNode s t (Some (node_items.Name bytes)) = (t.is ≡ word bytes) × IsNewName s.names bytes
BeginsNode s t (Some node_items.Place) = (t.is ≡ open_bracket) × (is_some s.pending ≡ true)

-- behind a name nothing more of it; behind an Open two coordinates and a Close
abbrev pub NodeForm : NodeList → NodeItem → List Placed → NodeList → Type 0
NodeForm s (node_items.Name bytes) = IsNothing (and_named s bytes)
NodeForm s node_items.Place = Then IsCoordinate (λ x. Then IsCoordinate (λ y. Then IsClose (λ _. IsNothing (with_last s (Some (x, y))))))

-- all nodes, and their names
abbrev pub all_nodes : NodeList → Table NodeRecord
all_nodes s = record { names = s.names; rows = s.rows ++ last_node s.pending None }

-- nodes with different names, up to a Close
abbrev pub NodesForm : List Placed → Table NodeRecord → Type 0
NodesForm = Then (Items BeginsNode NodeForm no_nodes) (λ s. IsNothing (all_nodes s))

-- ---- ends

-- the two ends of a link or demand, in brackets
abbrev pub EndsForm : List Placed → End × End → Type 0
EndsForm = Then IsOpen (λ _. Then IsEnd (λ source. Then IsEnd (λ target. Then IsClose (λ _. IsNothing (source, target)))))

-- ---- links

-- its capacity begins a module, and a Close ends the list
abbrev pub BeginsModule : List (ℕ × ℕ) → Placed → Option ℕ → Type 0
BeginsModule modules t None = t.is ≡ close_bracket
BeginsModule modules t (Some capacity) = IsNumeral 6 t capacity

-- a module behind its capacity is its cost
abbrev pub ModuleForm : List (ℕ × ℕ) → ℕ → List Placed → List (ℕ × ℕ) → Type 0
ModuleForm modules capacity = Then (IsNumber 6) (λ cost. IsNothing (modules ++ (capacity, cost) ∷ []))

-- capacities and costs of modules, up to a Close
abbrev pub ModulesForm : List Placed → List (ℕ × ℕ) → Type 0
ModulesForm = Items BeginsModule ModuleForm []

-- what the pre-installed capacity is and costs, what routing and setting up cost, and the bracket before the modules
abbrev pub CostsForm : List Placed → ℕ × ℕ × ℕ × ℕ → Type 0
CostsForm =
    Then (IsNumber 6) (λ pre.
    Then (IsNumber 6) (λ pre_cost.
    Then (IsNumber 6) (λ routing.
    Then (IsNumber 6) (λ setup.
    Then IsOpen (λ _.
    IsNothing (pre, pre_cost, routing, setup))))))

-- the link of these parts
abbrev pub link_with : End × End → ℕ × ℕ × ℕ × ℕ → List (ℕ × ℕ) → LinkDraft
link_with x n modules = record { source = x.0; target = x.1; pre = n.0; pre_cost = n.1; routing = n.2; setup = n.3; modules = modules }

-- a link behind its name
abbrev pub LinkForm : List Placed → LinkDraft → Type 0
LinkForm = Then EndsForm (λ x. Then CostsForm (λ n. Then ModulesForm (λ modules. IsNothing (link_with x n modules))))

-- ---- demands

-- the demand of these parts
abbrev pub demand_with : End × End → ℕ → ℕ → Option ℕ → DemandDraft
demand_with x unit value hops = record { source = x.0; target = x.1; unit = unit; value = value; hops = hops }

-- a demand behind its name
abbrev pub DemandForm : List Placed → DemandDraft → Type 0
DemandForm = Then EndsForm (λ x. Then (IsNumber 0) (λ unit. Then (IsNumber 6) (λ value. Then IsHopLimit (λ hops. IsNothing (demand_with x unit value hops)))))

-- ---- lists of named things

-- no items
abbrev pub no_rows : {T : Type 0} → Table (Named T)
no_rows = record { names = []; rows = [] }

-- one item more
abbrev pub and_row : {T : Type 0} → Table (Named T) → List ℕ → T → Table (Named T)
and_row s name part = record { names = s.names ++ name ∷ []; rows = s.rows ++ record { name = name; part = part } ∷ [] }

-- a new name begins an item, and a Close ends the list
abbrev pub BeginsItem : {T : Type 0} → Table (Named T) → Placed → Option (List ℕ) → Type 0
BeginsItem s t None = t.is ≡ close_bracket
BeginsItem s t (Some name) = (t.is ≡ word name) × IsNewName s.names name

-- an item behind its name
abbrev pub ItemForm : {T : Type 0} → (List Placed → T → Type 0) → Table (Named T) → List ℕ → List Placed → Table (Named T) → Type 0
ItemForm F s name = Then F (λ part. IsNothing (and_row s name part))

-- items with different names, up to a Close
abbrev pub ListForm : {T : Type 0} → (List Placed → T → Type 0) → List Placed → Table (Named T) → Type 0
ListForm F = Items BeginsItem (ItemForm F) no_rows

-- ---- sections

-- no section has been read
abbrev pub no_sections : Draft
no_sections = record { nodes = None; links = None; demands = None; has_meta = false; has_paths = false }

-- the sections with the nodes
abbrev pub and_nodes : Draft → Table NodeRecord → Draft
and_nodes d nodes = record { nodes = Some nodes; links = d.links; demands = d.demands; has_meta = d.has_meta; has_paths = d.has_paths }

-- the sections with the links
abbrev pub and_links : Draft → Table (Named LinkDraft) → Draft
and_links d links = record { nodes = d.nodes; links = Some links; demands = d.demands; has_meta = d.has_meta; has_paths = d.has_paths }

-- the sections with the demands
abbrev pub and_demands : Draft → Table (Named DemandDraft) → Draft
and_demands d demands = record { nodes = d.nodes; links = d.links; demands = Some demands; has_meta = d.has_meta; has_paths = d.has_paths }

-- the sections with the one on the text itself
abbrev pub and_meta : Draft → Draft
and_meta d = record { nodes = d.nodes; links = d.links; demands = d.demands; has_meta = true; has_paths = d.has_paths }

-- the sections with the admissible paths
abbrev pub and_paths : Draft → Draft
and_paths d = record { nodes = d.nodes; links = d.links; demands = d.demands; has_meta = d.has_meta; has_paths = true }

-- the name of a section
abbrev pub section_name : Section → List ℕ
section_name Nodes = codes "NODES"
section_name Links = codes "LINKS"
section_name Demands = codes "DEMANDS"
section_name Meta = codes "META"
section_name Paths = codes "ADMISSIBLE_PATHS"

-- The name of a section that has not been read begins it, and the text may end where nodes, links and demands are there.
abbrev pub BeginsSection : Draft → Placed → Option Section → Type 0
BeginsSection d t None = (t.is ≡ the_end) × (is_complete d ≡ true)
BeginsSection d t (Some k) = (t.is ≡ word (section_name k)) × (has_section d k ≡ false)

-- a section behind its name
abbrev pub SectionForm : Draft → Section → List Placed → Draft → Type 0
SectionForm d Nodes = Then IsOpen (λ _. Then NodesForm (λ nodes. IsNothing (and_nodes d nodes)))
SectionForm d Links = Then IsOpen (λ _. Then (ListForm LinkForm) (λ links. IsNothing (and_links d links)))
SectionForm d Demands = Then IsOpen (λ _. Then (ListForm DemandForm) (λ demands. IsNothing (and_demands d demands)))
SectionForm d Meta = Then IsOpen (λ _. Then IsSkipped (λ _. IsNothing (and_meta d)))
SectionForm d Paths = Then IsOpen (λ _. Then IsSkipped (λ _. IsNothing (and_paths d)))

-- Sections in any order, each at most once, and then the end of the text; nodes, links and demands are there.
abbrev pub NetworkForm : List Placed → Draft → Type 0
NetworkForm = Items BeginsSection SectionForm no_sections
