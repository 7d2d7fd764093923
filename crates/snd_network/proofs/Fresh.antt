-- A name that begins an item is new, and a text that ends is complete.
use Rattle.std.proofs.Common.{◌≡◌, ℕ, true, false, List, Some, None}
use Rattle.std.specs.Prelude.{Ok}
use Rattle.snd_reader.specs.Readers.{Placed, token}
use Rattle.snd_reader.specs.Names.{is_among}
use Rattle.snd_reader.proofs.Turns.{taken_good}
use Rattle.snd_network.specs.declared.draft.NodeItem.{NodeItem}
use Rattle.snd_network.specs.declared.draft.NodeItem.TheVariants as node_items
use Rattle.snd_network.specs.declared.draft.NodeList.{NodeList}
use Rattle.snd_network.specs.declared.draft.Named.{Named}
use Rattle.snd_network.specs.declared.draft.Table.{Table}
use Rattle.snd_network.specs.declared.draft.Draft.{Draft}
use Rattle.snd_network.specs.Tests.{is_complete}
use Rattle.snd_network.specs.Grammar.{BeginsNode}
use Rattle.snd_network.specs.Reading.{list_turn, node_turn, section_turn}
use Rattle.snd_network.specs.Steps.{IsNewItem}
use Rattle.snd_network.proofs.Agree.{item_same, node_same, section_same}

-- a name with which an item of a list begins is none of the names before it
pub fresh_name : {T : Type 0} (s : Table (Named T)) (ts us : List Placed) (name : List ℕ) → token (list_turn s) ts ≡ Ok (Some name, us) → is_among s.names name ≡ false
fresh_name s ts us name e = let g = taken_good (list_turn s) ts us (Some name) e in ((item_same s g.0 (Some name)).0 g.1).1.1

new-item : (s : NodeList) (t : Placed) (item : NodeItem) → BeginsNode s t (Some item) → IsNewItem s.names item
new-item s t (node_items.Name name) h = h.1.1
new-item s t node_items.Place h = tt

-- a name that is read in the nodes is none of the names before it
pub fresh_item : (s : NodeList) (ts us : List Placed) (item : NodeItem) → token (node_turn s) ts ≡ Ok (Some item, us) → IsNewItem s.names item
fresh_item s ts us item e = let g = taken_good (node_turn s) ts us (Some item) e in new-item s g.0 item ((node_same s g.0 (Some item)).0 g.1)

-- where the list of sections ends, the nodes, the links and the demands are there
pub complete_end : (d : Draft) (ts us : List Placed) → token (section_turn d) ts ≡ Ok (None, us) → is_complete d ≡ true
complete_end d ts us e = let g = taken_good (section_turn d) ts us None e in ((section_same d g.0 None).0 g.1).1
