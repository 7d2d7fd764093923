-- Places, which are what has a price: the links, or where each direction has a capacity of its own the arcs.
use Rattle.std.specs.Prelude.{ℕ, ◌+◌, ◌*◌, ◌/◌, Bool, true, false, length, if◌then◌else◌}
use Rattle.plan_base.specs.declared.ids.ArcId.{ArcId}
use Rattle.plan_base.specs.declared.parts.Orient.{Orient}
use Rattle.plan_base.specs.declared.parts.Orient.TheVariants.{Directed, Undirected, Bidirected}
use Rattle.plan_base.specs.declared.parts.Parts.{Parts}
use Rattle.plan_base.specs.Arcs.{link_of}

-- each direction of a link has a capacity and a price of its own
abbrev pub is_two_way : Orient → Bool
is_two_way Directed = false
is_two_way Undirected = false
is_two_way Bidirected = true

-- how many places there are
abbrev pub places : Parts → ℕ
places p = if is_two_way p.orient then 2 * length p.links else length p.links

-- the place of an arc
abbrev pub place_of : Parts → ArcId → ℕ
place_of p a = if is_two_way p.orient then a.0 else link_of a

-- the link of a place
abbrev pub link_of_place : Parts → ℕ → ℕ
link_of_place p q = if is_two_way p.orient then q / 2 else q

-- what a link's place has that its arc from source to target is of
abbrev pub there_of : Parts → (ℕ → ℕ) → ℕ → ℕ
there_of p f e = f (if is_two_way p.orient then 2 * e else e)

-- what the place has that its arc back is of, where that is another place, and else 0
abbrev pub back_of : Parts → (ℕ → ℕ) → ℕ → ℕ
back_of p f e = if is_two_way p.orient then f (2 * e + 1) else 0
