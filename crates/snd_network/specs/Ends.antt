-- The ends of links and demands, looked up among the nodes.
use Rattle.std.specs.Prelude.{◌≡◌, ℕ, is_some, if◌then◌else◌, List, [], ◌∷◌, ◌++◌, Option, Some, None}
use Rattle.std.specs.Option.{option_map}
use Rattle.plan_base.specs.declared.ids.NodeId.{NodeId}
use Rattle.snd_network.specs.declared.file.LinkRecord.{LinkRecord}
use Rattle.snd_network.specs.declared.file.DemandRecord.{DemandRecord}
use Rattle.snd_network.specs.declared.file.NetworkFile.{NetworkFile}
use Rattle.snd_network.specs.declared.draft.End.{End}
use Rattle.snd_network.specs.declared.draft.LinkDraft.{LinkDraft}
use Rattle.snd_network.specs.declared.draft.DemandDraft.{DemandDraft}
use Rattle.snd_network.specs.declared.draft.Named.{Named}
use Rattle.snd_network.specs.declared.draft.Table.{Table}
use Rattle.snd_network.specs.declared.draft.Draft.{Draft}
use Rattle.snd_reader.specs.Names.{number_of}

-- the node of this number
abbrev pub node_id : ℕ → NodeId
node_id n = record { 0 = n }

-- the end has the name of this node
abbrev pub IsNode : List (List ℕ) → End → NodeId → Type 0
IsNode names end node = option_map node_id (number_of names end.name) ≡ Some node

-- the link, with the numbers of its nodes
pub record IsLinkOf (names : List (List ℕ)) (link : Named LinkDraft) (found : LinkRecord) : Type 0 where
  pub name : found.name ≡ link.name
  pub source : IsNode names link.part.source found.source
  pub target : IsNode names link.part.target found.target
  pub pre : found.pre ≡ link.part.pre
  pub pre_cost : found.pre_cost ≡ link.part.pre_cost
  pub routing : found.routing ≡ link.part.routing
  pub setup : found.setup ≡ link.part.setup
  pub modules : found.modules ≡ link.part.modules

-- the demand, with the numbers of its nodes
pub record IsDemandOf (names : List (List ℕ)) (demand : Named DemandDraft) (found : DemandRecord) : Type 0 where
  pub name : found.name ≡ demand.name
  pub source : IsNode names demand.part.source found.source
  pub target : IsNode names demand.part.target found.target
  pub unit : found.unit ≡ demand.part.unit
  pub value : found.value ≡ demand.part.value
  pub hops : found.hops ≡ demand.part.hops

-- one by one in order
abbrev pub AreAllOf : {A B : Type 0} → (A → B → Type 0) → List A → List B → Type 0
AreAllOf Is [] [] = Unit {0}
AreAllOf Is [] (y ∷ ys) = ⊥
AreAllOf Is (x ∷ xs) [] = ⊥
AreAllOf Is (x ∷ xs) (y ∷ ys) = Is x y × AreAllOf Is xs ys

-- the names of a section, and its items
abbrev pub names_of : {T : Type 0} → Option (Table T) → List (List ℕ)
names_of None = []
names_of (Some t) = t.names

-- the items of a section
abbrev pub rows_of : {T : Type 0} → Option (Table T) → List T
rows_of None = []
rows_of (Some t) = t.rows

-- the file has the records of the sections, with the numbers of their nodes
pub record IsFileOf (d : Draft) (file : NetworkFile) : Type 0 where
  pub nodes : file.nodes ≡ rows_of d.nodes
  pub links : AreAllOf (IsLinkOf (names_of d.nodes)) (rows_of d.links) file.links
  pub demands : AreAllOf (IsDemandOf (names_of d.nodes)) (rows_of d.demands) file.demands

-- the two ends of a link
abbrev pub link_ends : LinkDraft → End × End
link_ends l = (l.source, l.target)

-- the two ends of a demand
abbrev pub demand_ends : DemandDraft → End × End
demand_ends d = (d.source, d.target)

-- the ends of items in the order in which they are looked up: the source before the target
abbrev pub ends_of : {T : Type 0} → (T → End × End) → List (Named T) → List End
ends_of two [] = []
ends_of two (x ∷ xs) = (two x.part).0 ∷ (two x.part).1 ∷ ends_of two xs

-- all ends, those of links before those of demands
abbrev pub all_ends : Draft → List End
all_ends d = ends_of link_ends (rows_of d.links) ++ ends_of demand_ends (rows_of d.demands)

-- the place of the first end that is no node
abbrev pub first_unknown : List (List ℕ) → List End → Option ℕ
first_unknown names [] = None
first_unknown names (e ∷ es) = if is_some (number_of names e.name) then first_unknown names es else Some e.at
