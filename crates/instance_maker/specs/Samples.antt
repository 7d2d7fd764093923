-- The network of a sample: a ring of nodes with chords, and demands, all of whose numbers are drawn. Numbers of the file are in millionths.
use Rattle.std.specs.Prelude.{ℕ, ◌+◌, ◌-◌, ◌*◌, ◌/◌, ◌%◌, ◌^◌, List, [], ◌∷◌, ◌++◌, map, codes, decimal, Some, None}
use Rattle.std.specs.List.{range_with_len}
use Rattle.plan_base.specs.declared.ids.NodeId.{NodeId}
use Rattle.snd_network.specs.declared.file.NodeRecord.{NodeRecord}
use Rattle.snd_network.specs.declared.file.LinkRecord.{LinkRecord}
use Rattle.snd_network.specs.declared.file.DemandRecord.{DemandRecord}
use Rattle.snd_network.specs.declared.file.NetworkFile.{NetworkFile}
use Rattle.instance_maker.specs.Draws.{next_state, state_after, draw}

-- so many units, in millionths
abbrev pub units : ℕ → ℕ
units n = n * 10 ^ 6

-- the node of this number
abbrev pub node_numbered : ℕ → NodeId
node_numbered i = record { 0 = i }

-- a node, with its number and 0 as coordinates
abbrev pub sample_node : ℕ → NodeRecord
sample_node i = record { name = codes "n" ++ decimal i; place = Some (decimal i, decimal 0) }

-- ---- links

-- a module of 10 and one of 40, and what they cost: the draw at this state, and the one behind it
abbrev pub sample_modules : ℕ → List (ℕ × ℕ)
sample_modules state = (units 10, units (5 + draw state 20)) ∷ (units 40, units (15 + draw (next_state state) 40)) ∷ []

-- a link with these modules, without pre-installed capacity and without other costs
abbrev pub sample_link : List ℕ → ℕ → ℕ → List (ℕ × ℕ) → LinkRecord
sample_link name source target modules = record {
  name = name;
  source = node_numbered source;
  target = node_numbered target;
  pre = 0;
  pre_cost = 0;
  routing = 0;
  setup = 0;
  modules = modules;
}

-- a link of the ring: from its node to the next one, two draws
abbrev pub ring_link : ℕ → ℕ → ℕ → LinkRecord
ring_link nodes state i = sample_link (codes "r" ++ decimal i) i ((i + 1) % nodes) (sample_modules state)

-- a chord: from its node to one that is no neighbour of it, which the first of three draws tells
abbrev pub chord : ℕ → ℕ → ℕ → LinkRecord
chord nodes state i = sample_link (codes "c" ++ decimal i) i ((i + 2 + draw state (nodes - 3)) % nodes) (sample_modules (next_state state))

-- the links of the ring, one for each node, from this state on: two draws each
abbrev pub ring_links : ℕ → ℕ → List LinkRecord
ring_links state nodes = map (λ i. ring_link nodes (state_after state (2 * i)) i) (range_with_len 0 nodes)

-- the state behind the ring
abbrev pub after_ring : ℕ → ℕ → ℕ
after_ring state nodes = state_after state (2 * nodes)

-- the chords of half the nodes from this state on: three draws each
abbrev pub chords : ℕ → ℕ → List LinkRecord
chords state nodes = map (λ i. chord nodes (state_after state (3 * i)) i) (range_with_len 0 (nodes / 2))

-- the state behind the chords
abbrev pub after_chords : ℕ → ℕ → ℕ
after_chords state nodes = state_after state (3 * (nodes / 2))

-- ---- demands

-- a demand, three draws: its source, how far its target is behind it, and its value
abbrev pub sample_demand : ℕ → ℕ → ℕ → DemandRecord
sample_demand nodes state i = record {
  name = codes "k" ++ decimal i;
  source = node_numbered (draw state nodes);
  target = node_numbered ((draw state nodes + 1 + draw (next_state state) (nodes - 1)) % nodes);
  unit = 1;
  value = units (1 + draw (next_state (next_state state)) 9);
  hops = None;
}

-- so many demands between the nodes, from this state on: three draws each
abbrev pub sample_demands : ℕ → ℕ → ℕ → List DemandRecord
sample_demands state nodes count = map (λ i. sample_demand nodes (state_after state (3 * i)) i) (range_with_len 0 count)

-- ---- the network

-- the links: the ring, and behind it the chords
abbrev pub sample_links : ℕ → ℕ → List LinkRecord
sample_links number nodes = ring_links number nodes ++ chords (after_ring number nodes) nodes

-- the network of a number: so many nodes, their links, and so many demands; the number is the first state
abbrev pub sample_network : ℕ → ℕ → ℕ → NetworkFile
sample_network number nodes demands = record {
  nodes = map sample_node (range_with_len 0 nodes);
  links = sample_links number nodes;
  demands = sample_demands (after_chords (after_ring number nodes) nodes) nodes demands;
}
