-- The readers of network texts, which the code follows; their forms are in Grammar.
use Rattle.std.specs.Prelude.{ℕ, List, [], ◌∷◌, ◌++◌, Option, Some, Result}
use Rattle.snd_reader.specs.declared.fault.Complaint.{Complaint}
use Rattle.snd_reader.specs.Readers.{Placed, Reader, done, bind, token, items}
use Rattle.snd_reader.specs.Brackets.{skip}
use Rattle.snd_reader.specs.Tests.{open_test, close_test, number_test}
use Rattle.snd_network.specs.declared.file.NodeRecord.{NodeRecord}
use Rattle.snd_network.specs.declared.draft.End.{End}
use Rattle.snd_network.specs.declared.draft.NodeItem.{NodeItem}
use Rattle.snd_network.specs.declared.draft.NodeItem.TheVariants as node_items
use Rattle.snd_network.specs.declared.draft.NodeList.{NodeList}
use Rattle.snd_network.specs.declared.draft.LinkDraft.{LinkDraft}
use Rattle.snd_network.specs.declared.draft.DemandDraft.{DemandDraft}
use Rattle.snd_network.specs.declared.draft.Named.{Named}
use Rattle.snd_network.specs.declared.draft.Table.{Table}
use Rattle.snd_network.specs.declared.draft.Draft.{Draft}
use Rattle.snd_network.specs.declared.draft.Section.{Section}
use Rattle.snd_network.specs.declared.draft.Section.TheVariants.{Nodes, Links, Demands, Meta, Paths}
use Rattle.snd_network.specs.Tests.{end_test, list_head, node_head, module_head, coordinate_test, hops_test, section_head}
use Rattle.snd_network.specs.Grammar.{no_nodes, with_last, and_named, all_nodes, link_with, demand_with, no_rows, and_row, no_sections, and_nodes, and_links, and_demands, and_meta, and_paths}

-- ---- single tokens

-- reads an opening bracket
abbrev pub opening : Reader (Unit {0})
opening = token (λ t. open_test t.is)

-- reads a closing bracket
abbrev pub closing : Reader (Unit {0})
closing = token (λ t. close_test t.is)

-- reads a number at a scale
abbrev pub number : ℕ → Reader ℕ
number scale = token (λ t. number_test scale t.is)

-- reads the name of an end
abbrev pub end_name : Reader End
end_name = token end_test

-- reads a coordinate
abbrev pub coordinate : Reader (List ℕ)
coordinate = token (λ t. coordinate_test t.is)

-- reads a hop limit
abbrev pub hop_limit : Reader (Option ℕ)
hop_limit = token (λ t. hops_test t.is)

-- ---- nodes

-- what a token is between the items of the nodes
abbrev pub node_turn : NodeList → Placed → Result (Option NodeItem) Complaint
node_turn s t = node_head s t.is

-- reads the place of the name that waits
unfoldable pub node_place : NodeList → Reader NodeList
node_place s = bind coordinate (λ x. bind coordinate (λ y. bind closing (λ _. done (with_last s (Some (x, y))))))

-- reads an item of the nodes
unfoldable pub node_item : NodeList → NodeItem → Reader NodeList
node_item s (node_items.Name bytes) = done (and_named s bytes)
node_item s node_items.Place = node_place s

-- reads the items of the nodes up to a Close
abbrev pub node_list : Reader NodeList
node_list = items node_turn node_item no_nodes

-- reads the nodes
abbrev pub nodes : Reader (Table NodeRecord)
nodes = bind node_list (λ s. done (all_nodes s))

-- ---- ends

-- reads the two ends in brackets
unfoldable pub ends : Reader (End × End)
ends = bind opening (λ _. bind end_name (λ source. bind end_name (λ target. bind closing (λ _. done (source, target)))))

-- ---- links

-- what a token is between modules
abbrev pub module_turn : List (ℕ × ℕ) → Placed → Result (Option ℕ) Complaint
module_turn modules t = module_head t.is

-- reads the cost of a module
unfoldable pub module_item : List (ℕ × ℕ) → ℕ → Reader (List (ℕ × ℕ))
module_item modules capacity = bind (number 6) (λ cost. done (modules ++ (capacity, cost) ∷ []))

-- reads modules up to a Close
abbrev pub modules : Reader (List (ℕ × ℕ))
modules = items module_turn module_item []

-- reads the four numbers of a link, and the bracket before its modules
unfoldable pub costs : Reader (ℕ × ℕ × ℕ × ℕ)
costs =
    bind (number 6) (λ pre.
    bind (number 6) (λ pre_cost.
    bind (number 6) (λ routing.
    bind (number 6) (λ setup.
    bind opening (λ _.
    done (pre, pre_cost, routing, setup))))))

-- reads a link behind its name
unfoldable pub link : Reader LinkDraft
link = bind ends (λ x. bind costs (λ n. bind modules (λ modules. done (link_with x n modules))))

-- ---- demands

-- reads a demand behind its name
unfoldable pub demand : Reader DemandDraft
demand = bind ends (λ x. bind (number 0) (λ unit. bind (number 6) (λ value. bind hop_limit (λ hops. done (demand_with x unit value hops)))))

-- ---- lists of named things

-- what a token is between the items of a list
abbrev pub list_turn : {T : Type 0} → Table (Named T) → Placed → Result (Option (List ℕ)) Complaint
list_turn s t = list_head s.names t.is

-- reads an item behind its name
unfoldable pub list_item : {T : Type 0} → Reader T → Table (Named T) → List ℕ → Reader (Table (Named T))
list_item part s name = bind part (λ item. done (and_row s name item))

-- reads items up to a Close
abbrev pub list_of : {T : Type 0} → Reader T → Reader (Table (Named T))
list_of part = items list_turn (list_item part) no_rows

-- ---- sections

-- what a token is between sections
abbrev pub section_turn : Draft → Placed → Result (Option Section) Complaint
section_turn d t = section_head d t.is

-- reads a section behind its name
unfoldable pub section : Draft → Section → Reader Draft
section d Nodes = bind opening (λ _. bind nodes (λ x. done (and_nodes d x)))
section d Links = bind opening (λ _. bind (list_of link) (λ x. done (and_links d x)))
section d Demands = bind opening (λ _. bind (list_of demand) (λ x. done (and_demands d x)))
section d Meta = bind opening (λ _. bind (skip 0) (λ _. done (and_meta d)))
section d Paths = bind opening (λ _. bind (skip 0) (λ _. done (and_paths d)))

-- reads sections up to the end of the text
abbrev pub network : Reader Draft
network = items section_turn section no_sections
