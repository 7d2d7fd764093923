-- The rules of the two kinds of split, in their order.
use Rattle.std.specs.Prelude.{ℕ, ◌≡◌, ◌<◌, ◌≤◌, false, List, length, IsTrue, All, Option}
use Rattle.plan_base.specs.declared.ids.NodeId.{NodeId}
use Rattle.plan_base.specs.declared.ids.ArcId.{ArcId}
use Rattle.plan_base.specs.declared.ids.DemandId.{DemandId}
use Rattle.plan_base.specs.declared.parts.Parts.{Parts}
use Rattle.plan_base.specs.Arcs.{is_arc, tail_of}
use Rattle.plan_base.specs.Places.{places}
use Rattle.link_steps.specs.declared.range.LoadRange.{LoadRange}
use Rattle.link_steps.specs.Ranges.{range_at}
use Rattle.arc_restrict.specs.Restrictions.{Forbidden, is_among}
use Rattle.cert_verifier.specs.declared.rejected.Rejected.{Rejected}
use Rattle.cert_verifier.specs.declared.rejected.Rejected.TheVariants.{Split}
use Rattle.cert_verifier.specs.Rules.{unless, ◌then_by◌}

-- the demand, the node and all arcs exist
pub record Exist (p : Parts) (id : DemandId) (at : NodeId) (left right : List ArcId) : Type 0 where
  pub demand : id.0 < length p.demands
  pub node : at.0 < p.nodes
  pub left_arcs : All (λ a. IsTrue (is_arc p a)) left
  pub right_arcs : All (λ a. IsTrue (is_arc p a)) right

-- neither side is empty
abbrev pub HaveArcs : List ArcId → List ArcId → Type 0
HaveArcs left right = (0 < length left) × (0 < length right)

-- all these arcs leave the node
abbrev pub Leave : Parts → NodeId → List ArcId → Type 0
Leave p at arcs = All (λ a. (tail_of p a).0 ≡ at.0) arcs

-- the sides share no arc
abbrev pub AreApart : List ArcId → List ArcId → Type 0
AreApart left right = All (λ a. is_among right a ≡ false) left

-- no arc is forbidden to the demand already
abbrev pub AreAllowed : Forbidden → DemandId → List ArcId → Type 0
AreAllowed r id arcs = All (λ a. r id.0 a ≡ false) arcs

-- the first rule that the split of a record of this index breaks: 1 what it names exists, 2 there are arcs, 3 they leave
-- the node, 4 no arc is on both sides, 5 none is forbidden already
unfoldable pub SplitFinds : Parts → Forbidden → ℕ → DemandId → NodeId → List ArcId → List ArcId → Option Rejected → Type 0
SplitFinds p r index id at left right =
    unless (Exist p id at left right) (Split index 1)
    then_by unless (HaveArcs left right) (Split index 2)
    then_by unless (Leave p at left × Leave p at right) (Split index 3)
    then_by unless (AreApart left right) (Split index 4)
    then_by unless (AreAllowed r id left × AreAllowed r id right) (Split index 5)

-- the range has loads up to this one, and loads above it
pub record HasBothSides (range : LoadRange) (load : ℕ) : Type 0 where
  pub some_left : range.least ≤ load
  pub some_right : load < range.most

-- the first rule that the split of a place's loads of a record of this index breaks: 1 the place exists, 2 its range has
-- loads up to the load, and loads above it
unfoldable pub LoadsFind : Parts → List LoadRange → ℕ → ℕ → ℕ → Option Rejected → Type 0
LoadsFind p ranges index place load =
    unless (place < places p) (Split index 1)
    then_by unless (HasBothSides (range_at ranges place) load) (Split index 2)
