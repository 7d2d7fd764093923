-- The canonical text of a network, from the tokens of its records.
use Rattle.std.specs.Prelude.{ℕ, List, [], ◌∷◌, ◌++◌, codes, slice_index_or, flat_map, Option, Some, None}
use Rattle.plan_base.specs.declared.ids.NodeId.{NodeId}
use Rattle.snd_reader.specs.Readers.{Lexeme, word, open_bracket, close_bracket}
use Rattle.snd_reader.specs.Writing.{line_of, section_text, grains, whole}
use Rattle.snd_network.specs.declared.file.NodeRecord.{NodeRecord}
use Rattle.snd_network.specs.declared.file.LinkRecord.{LinkRecord}
use Rattle.snd_network.specs.declared.file.DemandRecord.{DemandRecord}
use Rattle.snd_network.specs.declared.file.NetworkFile.{NetworkFile}
use Rattle.snd_network.specs.Spelling.{network_header}
use Rattle.snd_network.specs.WellFormed.{node_names}

-- ---- the tokens of the records

-- the place of a node, if it has one: its two coordinates in brackets
abbrev pub place_tokens : Option (List ℕ × List ℕ) → List Lexeme
place_tokens None = []
place_tokens (Some place) = open_bracket ∷ word place.0 ∷ word place.1 ∷ close_bracket ∷ []

-- a node is its name and its place
abbrev pub node_tokens : NodeRecord → List Lexeme
node_tokens n = word n.name ∷ place_tokens n.place

-- the name of a node
abbrev pub end_token : List NodeRecord → NodeId → Lexeme
end_token nodes id = word (slice_index_or (node_names nodes) id.0 [])

-- each module is its capacity and its cost
abbrev pub module_tokens : List (ℕ × ℕ) → List Lexeme
module_tokens modules = flat_map (λ (m : ℕ × ℕ). grains m.0 ∷ grains m.1 ∷ []) modules

-- a link is its name, its ends in brackets, four numbers, and its modules in brackets
abbrev pub link_tokens : List NodeRecord → LinkRecord → List Lexeme
link_tokens nodes l =
    word l.name ∷ open_bracket ∷ end_token nodes l.source ∷ end_token nodes l.target ∷ close_bracket
    ∷ grains l.pre ∷ grains l.pre_cost ∷ grains l.routing ∷ grains l.setup
    ∷ open_bracket ∷ (module_tokens l.modules ++ close_bracket ∷ [])

-- a hop limit in links, or the word for none
abbrev pub limit_token : Option ℕ → Lexeme
limit_token None = word (codes "UNLIMITED")
limit_token (Some n) = whole n

-- a demand is its name, its ends in brackets, its routing unit, its value and its hop limit
abbrev pub demand_tokens : List NodeRecord → DemandRecord → List Lexeme
demand_tokens nodes d =
    word d.name ∷ open_bracket ∷ end_token nodes d.source ∷ end_token nodes d.target ∷ close_bracket
    ∷ whole d.unit ∷ grains d.value ∷ limit_token d.hops ∷ []

-- ---- the text

-- the lines of the nodes
abbrev pub node_lines : List NodeRecord → List ℕ
node_lines nodes = flat_map (λ n. line_of (node_tokens n)) nodes

-- the lines of the links
abbrev pub link_lines : List NodeRecord → List LinkRecord → List ℕ
link_lines nodes links = flat_map (λ l. line_of (link_tokens nodes l)) links

-- the lines of the demands
abbrev pub demand_lines : List NodeRecord → List DemandRecord → List ℕ
demand_lines nodes demands = flat_map (λ d. line_of (demand_tokens nodes d)) demands

-- the header line, then the nodes, the links and the demands
unfoldable pub network_text : NetworkFile → List ℕ
network_text file =
    network_header ++ (10 ∷ (section_text (codes "NODES") (node_lines file.nodes)
    ++ (section_text (codes "LINKS") (link_lines file.nodes file.links)
    ++ section_text (codes "DEMANDS") (demand_lines file.nodes file.demands))))
