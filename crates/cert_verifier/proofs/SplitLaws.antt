-- A split breaks no rule exactly where it is one of the region.
use Rattle.std.proofs.Common.{None, inl, inr, refl}
use Rattle.plan_base.specs.declared.ids.NodeId.{NodeId}
use Rattle.plan_base.specs.declared.ids.ArcId.{ArcId}
use Rattle.plan_base.specs.declared.ids.DemandId.{DemandId}
use Rattle.plan_base.specs.declared.parts.Parts.{Parts}
use Rattle.plan_base.specs.Places.{places}
use Rattle.std.specs.Prelude.{ℕ, ◌<◌, List}
use Rattle.link_steps.specs.declared.range.LoadRange.{LoadRange}
use Rattle.link_steps.specs.Ranges.{range_at}
use Rattle.arc_restrict.specs.Restrictions.{Forbidden}
use Rattle.proof_tree.specs.Regions.{IsLoadSplit}
use Rattle.proof_tree.specs.Splits.{IsSplit}
use Rattle.cert_verifier.specs.SplitRules.{SplitFinds, Exist, HaveArcs, Leave, AreApart, AreAllowed, HasBothSides, LoadsFind}
use Rattle.cert_verifier.proofs.FirstRules.{unless-none}
use Rattle.cert_verifier.proofs.RuleLaws.{then_by-none, FindsOne, unless-one, then_by-one}

-- a split that breaks no rule is one of the region
pub split_found_none : (p : Parts) (r : Forbidden) (index : ℕ) (id : DemandId) (at : NodeId) (left right : List ArcId) → SplitFinds p r index id at left right None → IsSplit p r id at left right
unfolding SplitFinds
split_found_none p r index id at left right h =
    let a = then_by-none h in
    let b = then_by-none a.1 in
    let c = then_by-none b.1 in
    let d = then_by-none c.1 in
    let exist : Exist p id at left right = unless-none _ _ a.0 in
    let some : HaveArcs left right = unless-none _ _ b.0 in
    let leave : Leave p at left × Leave p at right = unless-none _ _ c.0 in
    let apart : AreApart left right = unless-none _ _ d.0 in
    let free : AreAllowed r id left × AreAllowed r id right = unless-none _ _ d.1 in
    record {
      demand = exist.demand;
      node = exist.node;
      left_side = record { some = some.0; are_arcs = exist.left_arcs; leave = leave.0; permitted = free.0 };
      right_side = record { some = some.1; are_arcs = exist.right_arcs; leave = leave.1; permitted = free.1 };
      disjoint = apart;
    }

-- a split of the region breaks no rule
pub split_finds_none : (p : Parts) (r : Forbidden) (index : ℕ) (id : DemandId) (at : NodeId) (left right : List ArcId) → IsSplit p r id at left right → SplitFinds p r index id at left right None
unfolding SplitFinds
split_finds_none p r index id at left right h =
    let exist : Exist p id at left right = record { demand = h.demand; node = h.node; left_arcs = h.left_side.are_arcs; right_arcs = h.right_side.are_arcs } in
    inr (
      inl (exist, refl),
      inr (
        inl ((h.left_side.some, h.right_side.some), refl),
        inr (
          inl ((h.left_side.leave, h.right_side.leave), refl),
          inr (
            inl (h.disjoint, refl),
            inl ((h.left_side.permitted, h.right_side.permitted), refl),
          ),
        ),
      ),
    )

-- of a split there is at most one first broken rule
pub split_finds_one : (p : Parts) (r : Forbidden) (index : ℕ) (id : DemandId) (at : NodeId) (left right : List ArcId) → FindsOne (SplitFinds p r index id at left right)
unfolding SplitFinds
split_finds_one p r index id at left right =
    then_by-one _ _ (unless-one _ _) (then_by-one _ _ (unless-one _ _) (then_by-one _ _ (unless-one _ _) (then_by-one _ _ (unless-one _ _) (unless-one _ _))))

-- a load split that breaks no rule is one of the region
pub loads_found_none : (p : Parts) (ranges : List LoadRange) (index place load : ℕ) → LoadsFind p ranges index place load None → IsLoadSplit p ranges place load
unfolding LoadsFind
loads_found_none p ranges index place load h =
    let both = then_by-none h in
    let exists : place < places p = unless-none _ _ both.0 in
    let sides : HasBothSides (range_at ranges place) load = unless-none _ _ both.1 in
    record { is_place = exists; some_left = sides.some_left; some_right = sides.some_right }

-- a load split of the region breaks no rule
pub loads_find_none : (p : Parts) (ranges : List LoadRange) (index place load : ℕ) → IsLoadSplit p ranges place load → LoadsFind p ranges index place load None
unfolding LoadsFind
loads_find_none p ranges index place load h = inr (inl (h.is_place, refl), inl (record { some_left = h.some_left; some_right = h.some_right }, refl))

-- of a load split there is at most one first broken rule
pub loads_find_one : (p : Parts) (ranges : List LoadRange) (index place load : ℕ) → FindsOne (LoadsFind p ranges index place load)
unfolding LoadsFind
loads_find_one p ranges index place load = then_by-one _ _ (unless-one _ _) (unless-one _ _)
