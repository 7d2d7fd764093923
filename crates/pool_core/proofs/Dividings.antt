-- A division on the pool's own fields is the event, and keeps what the pool is.
use Rattle.search_nodes.specs.declared.slot.Slot.{Slot}
use Rattle.std.proofs.Common.{[], ◌≡◌, ℕ, zero, suc, ◌+◌, ◌*◌, ◌<◌, ◌≤◌, inl, inr, List, ◌∷◌, ◌++◌, length, set, get_or, Option, Some, None, slice_get, All, refl, sym, ap, ap₂, subst, ◌∙◌, arith, length-append}
use Rattle.std.specs.Prelude.{IfSome, Ok}
use Rattle.std.proofs.lemmas.List.{get_or_append_left, set-append_left, set-get_or}
use Rattle.std.proofs.lemmas.Option.{slice_get_within, get_or_from_slice_get}
use Rattle.plan_base.specs.declared.ids.ArcId.{ArcId}
use Rattle.plan_base.specs.declared.ids.BranchId.{BranchId}
use Rattle.plan_base.specs.declared.ids.DemandId.{DemandId}
use Rattle.plan_base.specs.declared.ids.NodeId.{NodeId}
use Rattle.plan_base.specs.declared.parts.Parts.{Parts}
use Rattle.plan_base.specs.declared.limits.TheConstants.{MAX_TOTAL_LOAD}
use Rattle.plan_base.specs.Facts.{total_load}
use Rattle.link_steps.specs.Ranges.{AreRanges}
use Rattle.arc_restrict.specs.Restrictions.{Forbidden}
use Rattle.proof_tree.specs.Regions.{Region}
use Rattle.proof_tree.specs.Splits.{IsSide}
use Rattle.branch_tree.specs.Branches.{IsLimitOf}
use Rattle.branch_tree.proofs.LimitLaws.{load-sides}
use Rattle.branch_tree.proofs.BranchLaws.{arc_within}
use Rattle.branch_tree.specs.declared.node.Divider.TheVariants as divider
use Rattle.search_machine.specs.declared.answers.Examined.TheVariants as examined
use Rattle.branch_tree.specs.declared.node.Division.{Division}
use Rattle.branch_tree.specs.declared.node.Fate.TheVariants.{Undone}
use Rattle.search_machine.specs.State.{Round, Limit, Divider, left_limit, right_limit, Node, State, region_of}
use Rattle.search_machine.specs.Dividing.{PartsBy, child_of, divided_by, Divides}
use Rattle.search_machine.specs.Machine.{Examining, to_examining, IsReachable}
use Rattle.search_nodes.specs.Slots.{given_back}
use Rattle.search_view.specs.Views.{HasPlaces, IsKeptPool}
use Rattle.cut_values.specs.Numbers.{CutProblem}
use Rattle.search_nodes.specs.Grounds.{Kept, IsKeptRegion, IsGroundOf, HasGrounds}
use Rattle.search_view.specs.Examining.{IsReadyAt, IsChildAt, IsDivisionAt, AreChildrenAt}
use Rattle.pool_core.specs.Children.{HasChildBehind}
use Rattle.search_machine.proofs.Lists.{slice_get-append_left, slice_get-append_right, slice_get-append_cases}
use Rattle.search_machine.specs.Soundness.{IsSound}
use Rattle.search_machine.proofs.Frames.{one_at}
use Rattle.search_machine.proofs.Replacing.{node_at}
use Rattle.search_machine.proofs.Runs.{IsReachable-step, IsReachable-sound}
use Rattle.pool_core.proofs.EndedRounds.{HasEnded, HasPlaces-ended, round-within, HasGrounds-cleared}

-- two more nodes with their regions
HasGrounds-append : (p : Parts) (nodes : List Node) (grounds : List (Option Kept)) (one other : Node) (one_ground other_ground : Option Kept) → HasGrounds p nodes grounds
    → IsGroundOf p (region_of p one) one.fate one_ground → IsGroundOf p (region_of p other) other.fate other_ground
    → HasGrounds p (nodes ++ (one ∷ other ∷ [])) (grounds ++ (one_ground ∷ other_ground ∷ []))
HasGrounds-append p nodes grounds one other one_ground other_ground h is_one is_other = record {
  count = (let a = length-append nodes (one ∷ other ∷ []) in let b = length-append grounds (one_ground ∷ other_ground ∷ []) in let same = h.count in omega arith);
  each = λ n node at. elim (slice_get-append_cases nodes (one ∷ other ∷ []) n node at) [
    | inl w ↦ let g = h.each n node w in (g.0, slice_get-append_left grounds (one_ground ∷ other_ground ∷ []) n g.0 g.1, g.2)
    | inr w ↦
        let new = fresh w.0 node w.2 in
        let here : length grounds + w.0 ≡ n = (let same = h.count in let is = w.1 in omega arith) in
        (new.0, subst (λ (i : ℕ). slice_get (grounds ++ (one_ground ∷ other_ground ∷ [])) i ≡ Some new.0) here (slice_get-append_right grounds (one_ground ∷ other_ground ∷ []) w.0 ∙ new.1), new.2)
  ];
}
  where
    fresh : (j : ℕ) (node : Node) → slice_get (one ∷ other ∷ []) j ≡ Some node → (ground : Option Kept) × (slice_get (one_ground ∷ other_ground ∷ []) j ≡ Some ground) × IsGroundOf p (region_of p node) node.fate ground
    fresh zero node is = let same : one ≡ node = cc in (one_ground, refl, subst (λ (x : Node). IsGroundOf p (region_of p x) x.fate one_ground) same is_one)
    fresh (suc zero) node is = let same : other ≡ node = cc in (other_ground, refl, subst (λ (x : Node). IsGroundOf p (region_of p x) x.fate other_ground) same is_other)
    fresh (suc (suc j)) node is = let bad : ◌≡◌ {A = Option Node} None (Some node) = is in absurd (cc)

module _ (s : State) (table : CutProblem) (grounds : List (Option Kept)) (places : List Slot) (id : BranchId) (d : Division)
    (h : IsKeptPool s table grounds places) (div : IsDivisionAt s id d) where
  is_node : slice_get s.nodes id.0 ≡ Some div.at.node
  is_node = div.at.ready.open_node.is_node

  abbrev new : Node
  new = divided_by d div.at.node

  abbrev more : List Node
  more = child_of div.at.node (left_limit d.by) ∷ child_of div.at.node (right_limit d.by) ∷ []

  abbrev after : State
  after = record s { nodes = set s.nodes id.0 new ++ more; examined = suc s.examined }

  divides : Divides s id d.left_child d.right_child after
  divides = record {
    node = div.at.node;
    ready = div.at.ready;
    none_far = div.at.none_far;
    division = d;
    parts = div.parts;
    left_is = refl;
    right_is = refl;
    left_next = div.left_next;
    right_next = div.right_next;
    becomes = refl;
  }

  after-reachable : IsReachable after
  after-reachable = IsReachable-step s after (Examining id) (to_examining (Ok (examined.Divided d.left_child d.right_child))) h.pool.reachable divides

  has_ended : HasEnded s after id.0 div.at.node new more
  has_ended = record { is_node = is_node; no_round = refl; none_more = idle; nodes = refl; problem = refl; cuts = refl }
    where
      idle : (j : ℕ) (m : Node) → slice_get more j ≡ Some m → m.round ≡ None
      idle zero m is = let same : child_of div.at.node (left_limit d.by) ≡ m = cc in ap (λ (x : Node). x.round) (sym same)
      idle (suc zero) m is = let same : child_of div.at.node (right_limit d.by) ≡ m = cc in ap (λ (x : Node). x.round) (sym same)
      idle (suc (suc j)) m is = let bad : ◌≡◌ {A = Option Node} None (Some m) = is in absurd (cc)

  -- the round of the node that is divided, if it has one, has a slot below the count of slots
  pub divided-place : (round : Option Round) → round ≡ div.at.node.round → IfSome round (λ r. r.slot < length places)
  divided-place None is = tt
  divided-place (Some round) is = round-within s after id.0 div.at.node new more has_ended (IsReachable-sound s h.pool.reachable) places h.pool.has_places round (sym is)

  after-places : HasPlaces after (given_back places div.at.node.round)
  after-places = HasPlaces-ended s after id.0 div.at.node new more has_ended (IsReachable-sound s h.pool.reachable) places h.pool.has_places

  -- a child of the node is the one that the division makes
  is_child : (last : Limit) (child : Node) (ground : Option Kept) → IsChildAt s id last child ground → child ≡ child_of div.at.node last
  is_child last child ground made = made.is_child ∙ ap (λ (x : Node). child_of x last) (one_at s.nodes id.0 made.node div.at.node made.is_node is_node)

  child-ground : (last : Limit) (child : Node) (ground : Option Kept) → IsChildAt s id last child ground → IsGroundOf s.problem (region_of s.problem (child_of div.at.node last)) Undone ground
  child-ground last child ground made =
      let same : made.node ≡ div.at.node = one_at s.nodes id.0 made.node div.at.node made.is_node is_node in
      let below : IsKeptRegion s.problem (region_of s.problem (child_of div.at.node last)) made.kept = subst (λ (x : Node). IsKeptRegion s.problem (region_of s.problem (child_of x last)) made.kept) same made.below in
      subst (IsGroundOf s.problem (region_of s.problem (child_of div.at.node last)) Undone) (sym made.is_ground) below

  module _ (children : List Node) (below : List (Option Kept)) (made : AreChildrenAt s id d children below) where
    are_more : children ≡ more
    are_more = made.children_are ∙ ap₂ (λ (x y : Node). x ∷ y ∷ []) (is_child (left_limit d.by) made.left.child made.left.ground made.left.is_child) (is_child (right_limit d.by) made.right.child made.right.ground made.right.is_child)

    node-within : id.0 < length s.nodes
    node-within = slice_get_within s.nodes id.0 div.at.node is_node

    -- the divided node's number is below the count of kept regions with those of its children behind
    pub ground-within : id.0 < length (grounds ++ below)
    ground-within = let a = node-within in let same = h.has_grounds.count in let long = length-append grounds below in omega arith

    -- the divided node's number is below the count of nodes with its children behind
    pub item-within : id.0 < length (s.nodes ++ children)
    item-within = let a = node-within in let long = length-append s.nodes children in omega arith

    after-grounds : HasGrounds s.problem after.nodes (set (grounds ++ below) id.0 None)
    after-grounds =
        let cleared = HasGrounds-cleared s.problem s.nodes grounds id.0 div.at.node new is_node refl h.has_grounds in
        let both = HasGrounds-append s.problem (set s.nodes id.0 new) (set grounds id.0 None) (child_of div.at.node (left_limit d.by)) (child_of div.at.node (right_limit d.by)) made.left.ground made.right.ground cleared
        (child-ground (left_limit d.by) made.left.child made.left.ground made.left.is_child) (child-ground (right_limit d.by) made.right.child made.right.ground made.right.is_child) in
        let within : id.0 < length grounds = (let a = node-within in let same = h.has_grounds.count in omega arith) in
        let split : set (grounds ++ below) id.0 None ≡ set grounds id.0 None ++ (made.left.ground ∷ made.right.ground ∷ []) =
        set-append_left grounds below id.0 None within ∙ ap (λ (xs : List (Option Kept)). set grounds id.0 None ++ xs) made.grounds_are in
        subst (HasGrounds s.problem after.nodes) (sym split) both

    module _ (item : Node) (read : item ≡ get_or (s.nodes ++ children) id.0 item) where
      -- what is read at the number, with the children behind the nodes, is the node that is to be divided
      pub is_item : item ≡ div.at.node
      is_item = read ∙ (get_or_append_left s.nodes children item id.0 node-within ∙ get_or_from_slice_get s.nodes id.0 div.at.node item is_node)

      -- the node that is read for a division is neither closed nor divided
      pub item-undone : item.fate ≡ Undone
      item-undone = ap (λ (x : Node). x.fate) is_item ∙ div.at.ready.open_node.undone

      -- the round of the node that is read for a division, if it has one, has a slot below the count of slots
      pub item-place : (round : Option Round) → round ≡ item.round → IfSome round (λ r. r.slot < length places)
      item-place round is = divided-place round (is ∙ ap (λ (x : Node). x.round) is_item)

      is_after : (written : Node) (examined : ℕ) → written ≡ divided_by d item → examined ≡ suc s.examined → record s { nodes = set (s.nodes ++ children) id.0 written; examined = examined } ≡ after
      is_after written examined wrote more_by_one =
          let nodes : set (s.nodes ++ children) id.0 written ≡ set s.nodes id.0 new ++ more =
          set-append_left s.nodes children id.0 written node-within
          ∙ ap₂ (λ (x : Node) (xs : List Node). set s.nodes id.0 x ++ xs) (wrote ∙ ap (divided_by d) is_item) are_more in
          let make : List Node → ℕ → State = λ xs n. record s { nodes = xs; examined = n } in
          ap₂ make nodes more_by_one

      -- the read node written back divided, its children behind, and one more node examined, is the event
      pub divided-step : (written : Node) (examined : ℕ) → written ≡ divided_by d item → examined ≡ suc s.examined
          → Divides s id d.left_child d.right_child (record s { nodes = set (s.nodes ++ children) id.0 written; examined = examined })
      divided-step written examined wrote more_by_one = subst (Divides s id d.left_child d.right_child) (sym (is_after written examined wrote more_by_one)) divides

      -- the pool stays one when the read node is written back divided, its region let go and its slot given back
      pub divided-kept : (written : Node) (examined : ℕ) (left : Option Kept) (back : List Slot) → written ≡ divided_by d item → examined ≡ suc s.examined → left ≡ None
          → back ≡ given_back places item.round
          → IsKeptPool (record s { nodes = set (s.nodes ++ children) id.0 written; examined = examined }) table (set (grounds ++ below) id.0 left) back
      divided-kept written examined left back wrote more_by_one none returned =
          let kept : IsKeptPool after table (set (grounds ++ below) id.0 None) (given_back places div.at.node.round) = record {
            pool = record { some_budget = h.pool.some_budget; budget = h.pool.budget; reachable = after-reachable; has_places = after-places };
            table_is = h.table_is;
            cuts_are = h.cuts_are;
            has_grounds = after-grounds;
          } in
          let give_back : back ≡ given_back places div.at.node.round = returned ∙ ap (λ (x : Node). given_back places x.round) is_item in
          subst (λ (x : State). IsKeptPool x table (set (grounds ++ below) id.0 left) back) (sym (is_after written examined wrote more_by_one))
          (subst (λ (o : Option Kept). IsKeptPool after table (set (grounds ++ below) id.0 o) back) (sym none)
          (subst (λ (xs : List Slot). IsKeptPool after table (set (grounds ++ below) id.0 None) xs) (sym give_back) kept))

  -- where a node may be divided, fewer than 4096 nodes are examined
  pub examined-small : s.examined < 4096
  examined-small = let spent = div.at.ready.open_node.not_spent in let budget = h.pool.budget in omega arith

-- a node that is read and written back as it was
pub written-same : (nodes : List Node) (n : ℕ) (item written : Node) → item ≡ get_or nodes n item → written ≡ item → set nodes n written ≡ nodes
written-same nodes n item written read same = ap (set nodes n) (same ∙ read) ∙ set-get_or nodes n item

-- Children

-- the arcs of a side exist
side-within : (p : Parts) (r : Forbidden) (id : DemandId) (node : NodeId) (arcs : List ArcId) → IsSide p r id node arcs → All (λ a. a.0 < 2 * length p.links) arcs
side-within p r id node arcs side = λ i d within. arc_within p (get_or arcs i d) (side.are_arcs i d within)

-- the limits of both children are limits of the instance
by-limits : (p : Parts) (g : Region) (by : Divider) → total_load p ≤ MAX_TOTAL_LOAD → AreRanges p g.ranges → PartsBy p g by → IsLimitOf p (left_limit by) × IsLimitOf p (right_limit by)
by-limits p g (divider.Arcs d) total are parts = (
  (parts.is_split.demand, side-within p g.forbidden d.demand d.at d.left parts.is_split.left_side),
  (parts.is_split.demand, side-within p g.forbidden d.demand d.at d.right parts.is_split.right_side),
)
by-limits p g (divider.Load d) total are parts = let sides = load-sides p g d total are parts.0.is_split in (sides.left, sides.right)

-- a node that has a division may be examined
pub division-ready : (s : State) (id : BranchId) (d : Division) → IsDivisionAt s id d → IsReadyAt s id
division-ready s id d h = record { node = h.at.node; ready = h.at.ready }

-- what a division limits in its left and in its right child are limits of the instance
pub division-limits : (s : State) (id : BranchId) (d : Division) → IsSound s → IsDivisionAt s id d → IsLimitOf s.problem (left_limit d.by) × IsLimitOf s.problem (right_limit d.by)
division-limits s id d sound h =
    let is = h.at.ready.open_node in
    by-limits s.problem (region_of s.problem h.at.node) d.by sound.lawful.total (node_at s id.0 h.at.node sound is.is_node).ranges h.parts

-- one child came first, and the other one behind it
pub both-made : (s : State) (id : BranchId) (d : Division) (none one both : List Node) (no_ground one_ground both_grounds : List (Option Kept)) → none ≡ [] → no_ground ≡ []
    → HasChildBehind s id (left_limit d.by) none no_ground one one_ground → HasChildBehind s id (right_limit d.by) one one_ground both both_grounds → AreChildrenAt s id d both both_grounds
both-made s id d none one both no_ground one_ground both_grounds is_none is_no_ground left right = record {
  left = left.made;
  right = right.made;
  children_are = right.nodes_are ∙ ap (λ (xs : List Node). xs ++ right.made.child ∷ []) (left.nodes_are ∙ ap (λ (xs : List Node). xs ++ left.made.child ∷ []) is_none);
  grounds_are = right.grounds_are ∙ ap (λ (xs : List (Option Kept)). xs ++ right.made.ground ∷ []) (left.grounds_are ∙ ap (λ (xs : List (Option Kept)). xs ++ left.made.ground ∷ []) is_no_ground);
}
