-- Which networks a text can hold: what write_network takes, and what NetworkFile's well_formed tests.
use Rattle.std.specs.Prelude.{◌≡◌, ◌≢◌, ℕ, ◌<◌, ◌≤◌, ◌^◌, List, length, map, All, AllPairs, Option, Some, None, Ok}
use Rattle.snd_lexer.specs.declared.token.Dialect.TheVariants as dialects
use Rattle.snd_lexer.specs.declared.limits.TheConstants.{MAX_TEXT_BYTES}
use Rattle.snd_reader.specs.Writing.{IsWordOf}
use Rattle.snd_network.specs.declared.file.NodeRecord.{NodeRecord}
use Rattle.snd_network.specs.declared.file.LinkRecord.{LinkRecord}
use Rattle.snd_network.specs.declared.file.DemandRecord.{DemandRecord}
use Rattle.snd_network.specs.declared.file.NetworkFile.{NetworkFile}
use Rattle.snd_network.specs.declared.limits.TheConstants.{MAX_NAME_BYTES}
use Rattle.snd_network.specs.Tests.{checked_coordinate}

-- one byte or more, and each may stand in a word of a network text
abbrev pub IsWord : List ℕ → Type 0
IsWord bytes = IsWordOf dialects.Network bytes

-- a word of at most 64 bytes
pub record IsName (bytes : List ℕ) : Type 0 where
  pub word : IsWord bytes
  pub short : length bytes ≤ MAX_NAME_BYTES

-- a word, no longer than a text, that spells a number of any size with at most one sign in front
pub record IsCoordinateWord (bytes : List ℕ) : Type 0 where
  pub word : IsWord bytes
  pub short : length bytes ≤ MAX_TEXT_BYTES
  pub number : checked_coordinate bytes ≡ Ok tt

-- millionths of a number below 10^12
abbrev pub IsGrains : ℕ → Type 0
IsGrains n = n < 10 ^ 18

-- a whole number below 10^12
abbrev pub IsWhole : ℕ → Type 0
IsWhole n = n < 10 ^ 12

-- a node has no place, or two coordinates
abbrev pub IsPlace : Option (List ℕ × List ℕ) → Type 0
IsPlace None = Unit {0}
IsPlace (Some place) = IsCoordinateWord place.0 × IsCoordinateWord place.1

-- no hop limit, or a whole number
abbrev pub IsLimit : Option ℕ → Type 0
IsLimit None = Unit {0}
IsLimit (Some n) = IsWhole n

-- the capacity and the cost of a module
abbrev pub IsModule : ℕ × ℕ → Type 0
IsModule m = IsGrains m.0 × IsGrains m.1

-- the name can be read back, and so can the coordinates
pub record IsGoodNode (node : NodeRecord) : Type 0 where
  pub name : IsName node.name
  pub place : IsPlace node.place

-- a link in a network of so many nodes: its ends are among them
pub record IsGoodLink (count : ℕ) (link : LinkRecord) : Type 0 where
  pub name : IsName link.name
  pub source : link.source.0 < count
  pub target : link.target.0 < count
  pub pre : IsGrains link.pre
  pub pre_cost : IsGrains link.pre_cost
  pub routing : IsGrains link.routing
  pub setup : IsGrains link.setup
  pub modules : All IsModule link.modules

-- a demand in a network of so many nodes: its ends are among them
pub record IsGoodDemand (count : ℕ) (demand : DemandRecord) : Type 0 where
  pub name : IsName demand.name
  pub source : demand.source.0 < count
  pub target : demand.target.0 < count
  pub unit : IsWhole demand.unit
  pub value : IsGrains demand.value
  pub hops : IsLimit demand.hops

-- no two of the names are equal
abbrev pub AreDifferent : List (List ℕ) → Type 0
AreDifferent names = AllPairs (λ a b. a ≢ b) names

-- the names of the records in order
abbrev pub node_names : List NodeRecord → List (List ℕ)
node_names nodes = map (λ (n : NodeRecord). n.name) nodes

-- the names of the links
abbrev pub link_names : List LinkRecord → List (List ℕ)
link_names links = map (λ (l : LinkRecord). l.name) links

-- the names of the demands
abbrev pub demand_names : List DemandRecord → List (List ℕ)
demand_names demands = map (λ (d : DemandRecord). d.name) demands

-- the records are good, and the names of each kind differ
pub record IsWellFormed (file : NetworkFile) : Type 0 where
  pub nodes : All IsGoodNode file.nodes
  pub links : All (IsGoodLink (length file.nodes)) file.links
  pub demands : All (IsGoodDemand (length file.nodes)) file.demands
  pub apart_nodes : AreDifferent (node_names file.nodes)
  pub apart_links : AreDifferent (link_names file.links)
  pub apart_demands : AreDifferent (demand_names file.demands)
