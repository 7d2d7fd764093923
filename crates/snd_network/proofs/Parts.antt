-- The readers of the parts of a network are lawful, and each can be finished.
use Rattle.std.proofs.Common.{◌≡◌, ◌≤◌, ℕ, List, [], ◌∷◌, ◌++◌, length, Some, None, refl}
use Rattle.std.specs.Prelude.{Result, Ok, Err, OnOk, codes}
use Rattle.snd_reader.specs.declared.fault.TextFault.{TextFault}
use Rattle.snd_reader.specs.Faults.{Gives}
use Rattle.snd_reader.proofs.Loops.{not_longer}
use Rattle.snd_network.specs.declared.draft.LinkDraft.{LinkDraft}
use Rattle.snd_network.specs.declared.draft.DemandDraft.{DemandDraft}
use Rattle.scaled_numbers.specs.Scanning.{decimal_of, run}
use Rattle.snd_reader.specs.Readers.{Lexeme, word, open_bracket, close_bracket, Placed, Reader, done}
use Rattle.snd_reader.specs.Forms.{IsNothing, Items}
use Rattle.snd_reader.specs.Tests.{open_test, close_test, number_test}
use Rattle.snd_reader.proofs.SameForms.{live_such, live_items_such}
use Rattle.snd_reader.proofs.Live.{Live, live_bind, live_done, live_token, live_items}
use Rattle.snd_reader.proofs.Many.{finish_by}
use Rattle.snd_reader.proofs.Endings.{open-end, close-end, number-end}
use Rattle.snd_network.proofs.Endings.{end-end, list-end, node-end, module-end, coordinate-end, hops-end}
use Rattle.snd_network.specs.declared.draft.NodeItem.{NodeItem}
use Rattle.snd_network.specs.declared.draft.NodeItem.TheVariants as node_items
use Rattle.snd_network.specs.declared.draft.NodeList.{NodeList}
use Rattle.snd_network.specs.declared.draft.Named.{Named}
use Rattle.snd_network.specs.declared.draft.Table.{Table}
use Rattle.snd_network.proofs.Agree.{open_same, close_same, number_same, end_same, coordinate_same, hops_same, module_same, item_same, node_same}
use Rattle.snd_network.specs.Tests.{end_test, coordinate_test, hops_test}
use Rattle.snd_network.specs.Grammar.{
  IsOpen,
  IsClose,
  IsNumeral,
  IsNumber,
  IsEndName,
  IsEnd,
  IsSignedWord,
  IsCoordinate,
  IsLimitWord,
  IsHopLimit,
  BeginsNode,
  BeginsModule,
  BeginsItem,
  no_nodes,
  with_last,
  and_named,
  all_nodes,
  NodeForm,
  NodesForm,
  EndsForm,
  ModuleForm,
  ModulesForm,
  CostsForm,
  link_with,
  LinkForm,
  demand_with,
  DemandForm,
  no_rows,
  and_row,
  ItemForm,
  ListForm,
}
use Rattle.snd_network.specs.Reading.{opening, closing, number, end_name, coordinate, hop_limit, node_turn, node_place, node_item, node_list, nodes, module_turn, module_item, modules, ends, costs, link, demand, list_turn, list_item, list_of}

abbrev sample : Lexeme → Placed
sample l = record { at = 0; is = l }

-- the word `0`
abbrev zero_word : Lexeme
zero_word = word (48 ∷ [])

-- ---- single tokens

-- an opening bracket is read lawfully and never past the end of the text
pub live_opening : Live IsOpen opening
live_opening = live_such (λ t. open_test t.is) (λ t _. t.is ≡ open_bracket) open_same (live_token (λ t. open_test t.is) (sample open_bracket) tt refl (λ t e. rw e refl) (λ t e. open-end t.is e))

-- a closing bracket is read lawfully and never past the end of the text
pub live_closing : Live IsClose closing
live_closing = live_such (λ t. close_test t.is) (λ t _. t.is ≡ close_bracket) close_same (live_token (λ t. close_test t.is) (sample close_bracket) tt refl (λ t e. rw e refl) (λ t e. close-end t.is e))

zero-whole : number_test 0 zero_word ≡ Ok 0
unfolding decimal_of run
zero-whole = refl

zero-grains : number_test 6 zero_word ≡ Ok 0
unfolding decimal_of run
zero-grains = refl

live_whole : Live (IsNumber 0) (number 0)
live_whole = live_such (λ t. number_test 0 t.is) (IsNumeral 0) (number_same 0) (live_token (λ t. number_test 0 t.is) (sample zero_word) 0 zero-whole (λ t e. rw e refl) (λ t e. number-end 0 t.is e))

live_grains : Live (IsNumber 6) (number 6)
live_grains = live_such (λ t. number_test 6 t.is) (IsNumeral 6) (number_same 6) (live_token (λ t. number_test 6 t.is) (sample zero_word) 0 zero-grains (λ t e. rw e refl) (λ t e. number-end 6 t.is e))

live_end : Live IsEnd end_name
live_end = live_such end_test IsEndName end_same (live_token end_test (sample zero_word) (record { at = 0; name = 48 ∷ [] }) refl (λ t e. rw e refl) (λ t e. end-end t.at t.is e))

zero-coordinate : coordinate_test zero_word ≡ Ok (48 ∷ [])
unfolding decimal_of run
zero-coordinate = refl

live_coordinate : Live IsCoordinate coordinate
live_coordinate = live_such (λ t. coordinate_test t.is) IsSignedWord coordinate_same (live_token (λ t. coordinate_test t.is) (sample zero_word) (48 ∷ []) zero-coordinate (λ t e. rw e refl) (λ t e. coordinate-end t.is e))

live_hops : Live IsHopLimit hop_limit
live_hops = live_such (λ t. hops_test t.is) IsLimitWord hops_same (live_token (λ t. hops_test t.is) (sample (word (codes "UNLIMITED"))) None refl (λ t e. rw e refl) (λ t e. hops-end t.is e))

-- ---- nodes

live_place : (s : NodeList) → Live (NodeForm s node_items.Place) (node_place s)
unfolding node_place
live_place s =
    live_bind _ _ _ _ live_coordinate (λ x.
    live_bind _ _ _ _ live_coordinate (λ y.
    live_bind _ _ _ _ live_closing (λ _.
    live_done (with_last s (Some (x, y))))))

-- an item of the nodes is read lawfully and never past the end of the text
pub live_node : (s : NodeList) (i : NodeItem) → Live (NodeForm s i) (node_item s i)
unfolding node_item
live_node s (node_items.Name bytes) = live_done (and_named s bytes)
live_node s node_items.Place = live_place s

live_node_items : Live (Items BeginsNode NodeForm no_nodes) node_list
live_node_items = live_items_such NodeForm node_turn node_item BeginsNode node_same no_nodes (live_items node_turn node_item NodeForm live_node (finish_by node_turn NodeForm (sample close_bracket) (λ s. refl)) (λ s t e. rw e refl) (λ s t e. node-end s t.is e) no_nodes)

-- the nodes up to their Close are read lawfully and never past the end of the text
pub live_nodes : Live NodesForm nodes
live_nodes = live_bind _ _ _ _ live_node_items (λ s. live_done (all_nodes s))

-- ---- links

-- a module behind its capacity is read lawfully and never past the end of the text
pub live_module : (modules : List (ℕ × ℕ)) (capacity : ℕ) → Live (ModuleForm modules capacity) (module_item modules capacity)
unfolding module_item
live_module modules capacity = live_bind (IsNumber 6) (λ cost. IsNothing (modules ++ (capacity, cost) ∷ [])) (number 6) (λ cost. done (modules ++ (capacity, cost) ∷ [])) live_grains (λ cost. live_done (modules ++ (capacity, cost) ∷ []))

live_modules : Live ModulesForm modules
live_modules = live_items_such ModuleForm module_turn module_item BeginsModule module_same [] (live_items module_turn module_item ModuleForm live_module (finish_by module_turn ModuleForm (sample close_bracket) (λ s. refl)) (λ s t e. rw e refl) (λ s t e. module-end t.is e) [])

live_ends : Live EndsForm ends
unfolding ends
live_ends =
    live_bind _ _ _ _ live_opening (λ _.
    live_bind _ _ _ _ live_end (λ source.
    live_bind _ _ _ _ live_end (λ target.
    live_bind _ _ _ _ live_closing (λ _.
    live_done (source, target)))))

live_costs : Live CostsForm costs
unfolding costs
live_costs =
    live_bind _ _ _ _ live_grains (λ pre.
    live_bind _ _ _ _ live_grains (λ pre_cost.
    live_bind _ _ _ _ live_grains (λ routing.
    live_bind _ _ _ _ live_grains (λ setup.
    live_bind _ _ _ _ live_opening (λ _.
    live_done (pre, pre_cost, routing, setup))))))

-- a link behind its name is read lawfully and never past the end of the text
pub live_link : Live LinkForm link
unfolding link
live_link = live_bind _ _ _ _ live_ends (λ x. live_bind _ _ _ _ live_costs (λ n. live_bind _ _ _ _ live_modules (λ modules. live_done (link_with x n modules))))

-- ---- demands

-- a demand behind its name is read lawfully and never past the end of the text
pub live_demand : Live DemandForm demand
unfolding demand
live_demand =
    live_bind _ _ _ _ live_ends (λ x.
    live_bind _ _ _ _ live_whole (λ unit.
    live_bind _ _ _ _ live_grains (λ value.
    live_bind _ _ _ _ live_hops (λ hops.
    live_done (demand_with x unit value hops)))))

-- ---- what is left

gives-shorter : {A : Type 0} (F : List Placed → A → Type 0) (r : Reader A) → Live F r → (ts after : List Placed) (result : Result A TextFault) → Gives (λ x. (x, after)) result (r ts) → OnOk result (length after ≤ length ts)
gives-shorter F r live ts after (Ok x) g = not_longer F r live.law x ts after g
gives-shorter F r live ts after (Err f) g = tt

-- a link that is read leaves no more tokens than there were
pub link_shorter : (ts after : List Placed) (result : Result LinkDraft TextFault) → Gives (λ x. (x, after)) result (link ts) → OnOk result (length after ≤ length ts)
link_shorter ts after result g = gives-shorter LinkForm link live_link ts after result g

-- a demand that is read leaves no more tokens than there were
pub demand_shorter : (ts after : List Placed) (result : Result DemandDraft TextFault) → Gives (λ x. (x, after)) result (demand ts) → OnOk result (length after ≤ length ts)
demand_shorter ts after result g = gives-shorter DemandForm demand live_demand ts after result g

-- ---- lists of named things

-- an item behind its name is read lawfully and never past the end of the text, where its part is
pub live_item : {T : Type 0} (F : List Placed → T → Type 0) (part : Reader T) → Live F part → (s : Table (Named T)) (name : List ℕ) → Live (ItemForm F s name) (list_item part s name)
unfolding list_item
live_item F part live s name = live_bind F (λ x. IsNothing (and_row s name x)) part (λ x. done (and_row s name x)) live (λ x. live_done (and_row s name x))

-- named items up to a Close are read lawfully and never past the end of the text, where their parts are
pub live_list : {T : Type 0} (F : List Placed → T → Type 0) (part : Reader T) → Live F part → Live (ListForm F) (list_of part)
live_list F part live =
    live_items_such (ItemForm F) list_turn (list_item part) BeginsItem item_same no_rows
    (live_items list_turn (list_item part) (ItemForm F) (live_item F part live) (finish_by list_turn (ItemForm F) (sample close_bracket) (λ s. refl)) (λ s t e. rw e refl) (λ s t e. list-end s.names t.is e) no_rows)
