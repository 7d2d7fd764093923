-- How the place moves: up from a child of a split, and on from a record to the next.
use Rattle.std.proofs.Common.{◌≡◌, ℕ, ◌+◌, ◌*◌, ◌/◌, ◌<◌, Bool, true, false, List, [], ◌∷◌, ◌++◌, length, reverse, get_or, Some, refl, sym, ap, ap₂, subst, ◌∙◌, arith, All}
use Rattle.std.specs.Prelude.{IsTrue, slice_get}
use Rattle.std.proofs.lemmas.Bool.{ltb-true, and_parts}
use Rattle.std.proofs.lemmas.List.{reverse-append}
use Rattle.std.proofs.lemmas.List.Elements.{All-weaker}
use Rattle.std.proofs.lemmas.Option.{get_or_from_slice_get}
use Rattle.plan_base.specs.declared.ids.NodeId.{NodeId}
use Rattle.plan_base.specs.declared.ids.ArcId.{ArcId}
use Rattle.plan_base.specs.declared.ids.DemandId.{DemandId}
use Rattle.plan_base.specs.declared.parts.Parts.{Parts}
use Rattle.plan_base.specs.Arcs.{is_arc}
use Rattle.plan_base.specs.Places.{places}
use Rattle.link_steps.specs.declared.range.LoadRange.{LoadRange}
use Rattle.link_steps.specs.Ranges.{range_at, ends_at, begins_at, with_range, AreRanges}
use Rattle.arc_restrict.specs.Restrictions.{Forbidden, with_forbidden}
use Rattle.proof_tree.specs.declared.tree.TreeNode.{TreeNode}
use Rattle.proof_tree.specs.declared.tree.TreeNode.TheVariants.{Split, Loads, Leaf}
use Rattle.proof_tree.specs.Regions.{Region, with_arcs, up_to, above}
use Rattle.proof_tree.specs.Splits.{IsSplit, IsSide}
use Rattle.proof_tree.specs.Trees.{children_at}
use Rattle.proof_tree.proofs.RangeLaws.{AreRanges-up_to, AreRanges-above, with_range-back, with_range-twice}
use Rattle.verifier_paths.specs.Kept.{Marks, forbidden_by, without_forbidden, HasRows}
use Rattle.verifier_paths.proofs.MarkLaws.{undo_forbid}
use Rattle.cert_verifier.specs.declared.walk.Turn.{Turn}
use Rattle.cert_verifier.specs.Walks.{region_of_marks, Splits, IsSplitWithin, child_of, left_after, HasSplit, IsTreePlace, StandsAt, AreLeft}

-- an arc that exists has a number below twice the count of links
pub arc_within : (p : Parts) (a : ArcId) → IsTrue (is_arc p a) → a.0 < 2 * length p.links
arc_within p a exists = let below : a.0 / 2 < length p.links = ltb-true _ _ (and_parts _ _ exists).0 in omega arith

-- a demand and two sides of arcs whose numbers are within the instance
pub record AreWithin (p : Parts) (id : DemandId) (left right : List ArcId) : Type 0 where
  pub demand : id.0 < length p.demands
  pub left_within : All (λ a. a.0 < 2 * length p.links) left
  pub right_within : All (λ a. a.0 < 2 * length p.links) right

side_within : (p : Parts) (r : Forbidden) (id : DemandId) (at : NodeId) (arcs : List ArcId) → IsSide p r id at arcs → All (λ a. a.0 < 2 * length p.links) arcs
side_within p r id at arcs side = All-weaker (λ a. IsTrue (is_arc p a)) (λ a. a.0 < 2 * length p.links) (arc_within p) arcs side.are_arcs

-- the demand and the arcs of a split of a region have numbers within those of the instance
pub split-within : (p : Parts) (r : Forbidden) (id : DemandId) (at : NodeId) (left right : List ArcId) → IsSplit p r id at left right → AreWithin p id left right
split-within p r id at left right h = record { demand = h.demand; left_within = side_within p r id at left h.left_side; right_within = side_within p r id at right h.right_side }

-- the numbers of a split are within the instance
splits-within : (p : Parts) (parent : Region) (node : TreeNode) (range : LoadRange) → Splits p parent node range → IsSplitWithin (length p.demands) (2 * length p.links) (places p) range node
splits-within p parent (Split id at left right) range h = let within = split-within p parent.forbidden id at left right h in (within.demand, within.left_within, within.right_within)
splits-within p parent (Loads place load) range h = (h.0.is_place, subst (λ (x : LoadRange). load < x.most) (sym h.1) h.0.some_right)
splits-within p parent (Leaf evidence) range h = absurd h

-- two children that are the same two
both_same : (a b c d : Region) → (a ∷ b ∷ []) ≡ (c ∷ d ∷ []) → (a ≡ c) × (b ≡ d)
both_same a b c d h = (cc, cc)

-- what holds of both children holds of either
either_child : (P : Region → Type 0) (is_right : Bool) (left right : Region) → P left → P right → P (child_of is_right left right)
either_child P true left right l r = r
either_child P false left right l r = l

child-ranges : (p : Parts) (parent : Region) (node : TreeNode) (range : LoadRange) (is_right : Bool) (left right : Region) → Splits p parent node range → children_at parent node ≡ left ∷ right ∷ [] → AreRanges p parent.ranges → AreRanges p (child_of is_right left right).ranges
child-ranges p parent (Split id at l r) range is_right left right splits children are =
    let same = both_same (with_arcs parent id l) (with_arcs parent id r) left right children in
    let P : Region → Type 0 = λ g. AreRanges p g.ranges in
    either_child P is_right left right (subst P same.0 are) (subst P same.1 are)
child-ranges p parent (Loads place load) range is_right left right splits children are =
    let same = both_same (up_to parent place load) (above parent place load) left right children in
    let P : Region → Type 0 = λ g. AreRanges p g.ranges in
    either_child P is_right left right (subst P same.0 (AreRanges-up_to p parent place load splits.0 are)) (subst P same.1 (AreRanges-above p parent place load splits.0 are))
child-ranges p parent (Leaf evidence) range is_right left right splits children are = absurd splits

-- at each place of the tree ranges have loads
pub place-ranges : (p : Parts) (nodes : List TreeNode) (turns : List Turn) (g : Region) (gs : List Region) → IsTreePlace p nodes turns g gs → AreRanges p g.ranges
place-ranges p nodes [] g gs h = h.1
place-ranges p nodes (turn ∷ turns) g gs h =
    subst (λ (x : Region). AreRanges p x.ranges) (sym h.child)
    (let s = h.up in child-ranges p s.parent s.split turn.range turn.is_right s.left s.right s.splits s.children (place-ranges p nodes turns s.parent s.more s.above))

-- where the walk stands, each place has a range with a load
pub stands-ranges : (p : Parts) (nodes : List TreeNode) (turns : List Turn) (g : Region) → StandsAt p nodes turns g → AreRanges p g.ranges
stands-ranges p nodes turns g stands = place-ranges p nodes turns g stands.rest stands.is_place

-- what is in equal options is equal
pub some_same : {A : Type 0} (x y : A) → Some x ≡ Some y → x ≡ y
some_same x y h = cc

-- the record of the last turn is a split within the instance
pub turn-within : (p : Parts) (nodes : List TreeNode) (turn : Turn) (turns : List Turn) (marks : Marks) (ranges : List LoadRange) (node : TreeNode) → slice_get nodes turn.split ≡ Some node → HasRows p marks
    → StandsAt p nodes (turn ∷ turns) (region_of_marks marks ranges) → IsSplitWithin marks.demands marks.arcs (length ranges) turn.range node
turn-within p nodes turn turns marks ranges node is rows stands =
    let h = stands.is_place.up in
    let are : AreRanges p ranges = stands-ranges p nodes (turn ∷ turns) (region_of_marks marks ranges) stands in
    let within = subst (IsSplitWithin (length p.demands) (2 * length p.links) (places p) turn.range) (some_same _ _ (sym h.is_record ∙ is)) (splits-within p h.parent h.split turn.range h.splits) in
    subst (λ (n : ℕ). IsSplitWithin n marks.arcs (length ranges) turn.range node) (sym rows.demands)
    (subst (λ (n : ℕ). IsSplitWithin (length p.demands) n (length ranges) turn.range node) (sym rows.arcs)
    (subst (λ (n : ℕ). IsSplitWithin (length p.demands) (2 * length p.links) n turn.range node) (sym are.count) within))

-- the record that the last turn reads is the one at its place
pub turn-read : (p : Parts) (nodes read : List TreeNode) (turn : Turn) (turns : List Turn) (g : Region) → StandsAt p nodes (turn ∷ turns) g → read ≡ nodes → (node : TreeNode) → node ≡ get_or read turn.split node → slice_get nodes turn.split ≡ Some node
turn-read p nodes read turn turns g stands same node is =
    let h = stands.is_place.up in
    let there : get_or nodes turn.split node ≡ h.split = get_or_from_slice_get nodes turn.split h.split node h.is_record in
    let here : node ≡ get_or nodes turn.split node = is ∙ ap (λ ns. get_or ns turn.split node) same in
    h.is_record ∙ ap (λ (x : TreeNode). Some x) (sym (here ∙ there))

-- up from the right child to its split
pub leave_right : (p : Parts) (nodes : List TreeNode) (turn : Turn) (turns turns_after : List Turn) (g g_after : Region) (gs : List Region) (node : TreeNode) → slice_get nodes turn.split ≡ Some node → turn.is_right ≡ true
    → ((parent left : Region) → Splits p parent node turn.range → children_at parent node ≡ left ∷ g ∷ [] → g_after ≡ parent) → turns_after ≡ turns
    → IsTreePlace p nodes (turn ∷ turns) g gs → IsTreePlace p nodes turns_after g_after gs
leave_right p nodes turn turns turns_after g g_after gs node is right_one up turned h =
    let s = h.up in
    let same : s.split ≡ node = some_same _ _ (sym s.is_record ∙ is) in
    let child : g ≡ s.right = h.child ∙ ap (λ b. child_of b s.left s.right) right_one in
    let rest : gs ≡ s.more = h.rest ∙ ap (λ b. left_after b s.right s.more) right_one in
    let children : children_at s.parent node ≡ s.left ∷ g ∷ [] = ap (children_at s.parent) (sym same) ∙ s.children ∙ ap (λ x. s.left ∷ x ∷ []) (sym child) in
    let to_parent : g_after ≡ s.parent = up s.parent s.left (subst (λ n. Splits p s.parent n turn.range) same s.splits) children in
    let there = subst (λ x. IsTreePlace p nodes turns x gs) (sym to_parent) (subst (IsTreePlace p nodes turns s.parent) (sym rest) s.above) in
    subst (λ ts. IsTreePlace p nodes ts g_after gs) (sym turned) there

-- the same turn, to the right child
abbrev pub to_right : Turn → Turn
to_right turn = record turn { is_right = true }

-- from the left child into the right one
pub leave_left : (p : Parts) (nodes : List TreeNode) (turn : Turn) (turns turns_after : List Turn) (g g_after : Region) (gs : List Region) (node : TreeNode) → slice_get nodes turn.split ≡ Some node → turn.is_right ≡ false
    → ((parent right : Region) → Splits p parent node turn.range → children_at parent node ≡ g ∷ right ∷ [] → g_after ≡ right) → turns_after ≡ to_right turn ∷ turns
    → IsTreePlace p nodes (turn ∷ turns) g gs → AreLeft p nodes turns_after g_after gs
leave_left p nodes turn turns turns_after g g_after gs node is left_one over turned h =
    let s = h.up in
    let same : s.split ≡ node = some_same _ _ (sym s.is_record ∙ is) in
    let child : g ≡ s.left = h.child ∙ ap (λ b. child_of b s.left s.right) left_one in
    let rest : gs ≡ s.right ∷ s.more = h.rest ∙ ap (λ b. left_after b s.right s.more) left_one in
    let children : children_at s.parent node ≡ g ∷ s.right ∷ [] = ap (children_at s.parent) (sym same) ∙ s.children ∙ ap (λ x. x ∷ s.right ∷ []) (sym child) in
    let to_other : g_after ≡ s.right = over s.parent s.right (subst (λ n. Splits p s.parent n turn.range) same s.splits) children in
    let below : IsTreePlace p nodes (to_right turn ∷ turns) g_after s.more = record { up = s; child = to_other; rest = refl } in
    subst (λ ts. AreLeft p nodes ts g_after gs) (sym turned) (subst (AreLeft p nodes (to_right turn ∷ turns) g_after) (sym rest) (to_other, below))

-- where no turn is left, nothing is
pub left_at_end : (p : Parts) (nodes : List TreeNode) (turns : List Turn) (g : Region) (gs : List Region) → turns ≡ [] → IsTreePlace p nodes turns g gs → AreLeft p nodes turns g gs
left_at_end p nodes [] g gs none place = subst (AreLeft p nodes [] g) (sym place.0) refl
left_at_end p nodes (turn ∷ turns) g gs none place = absurd (let bad : (turn ∷ turns) ≡ [] = none in cc)

-- a turn that was put at the end is the last
pub reverse_push : (turns : List Turn) (turn : Turn) → reverse (turns ++ turn ∷ []) ≡ turn ∷ reverse turns
reverse_push turns turn = reverse-append turns (turn ∷ [])

-- a record that is read at a place is the one there
pub record-is : (nodes read : List TreeNode) (i : ℕ) (here : TreeNode) → read ≡ nodes → here ≡ get_or read i here → (node : TreeNode) → slice_get nodes i ≡ Some node → here ≡ node
record-is nodes read i here same is node found = is ∙ ap (λ ns. get_or ns i here) same ∙ get_or_from_slice_get nodes i node here found

-- from a split of this place into its left child
pub entered : (p : Parts) (nodes : List TreeNode) (index : ℕ) (turns turns_after : List Turn) (g g_after left right : Region) (gs : List Region) (node : TreeNode) (had : LoadRange)
    → slice_get nodes index ≡ Some node → Splits p g node had → children_at g node ≡ left ∷ right ∷ [] → g_after ≡ left → turns_after ≡ turns ++ (record { split = index; is_right = false; range = had } ∷ [])
    → IsTreePlace p nodes (reverse turns) g gs → AreLeft p nodes (reverse turns_after) g_after (children_at g node ++ gs)
entered p nodes index turns turns_after g g_after left right gs node had found splits children to_left pushed place =
    let next : Turn = record { split = index; is_right = false; range = had } in
    let last : reverse turns_after ≡ next ∷ reverse turns = ap (λ (ts : List Turn). reverse ts) pushed ∙ reverse_push turns next in
    let up : HasSplit p nodes index had (IsTreePlace p nodes (reverse turns)) =
    record { split = node; parent = g; left = left; right = right; more = gs; is_record = found; splits = splits; children = children; above = place } in
    let below : IsTreePlace p nodes (next ∷ reverse turns) g_after (right ∷ gs) = record { up = up; child = to_left; rest = refl } in
    subst (λ (cs : List Region). AreLeft p nodes (reverse turns_after) g_after (cs ++ gs)) (sym children)
    (to_left, subst (λ ts. IsTreePlace p nodes ts g_after (right ∷ gs)) (sym last) below)

-- Marks and ranges of the regions.

abbrev region : Forbidden → List LoadRange → Region
region r ranges = record { forbidden = r; ranges = ranges }

-- where marks and ranges are those of a region, the region that they make is this one
pub region-is : (g : Region) (marks : Marks) (ranges : List LoadRange) → forbidden_by marks ≡ g.forbidden → ranges ≡ g.ranges → region_of_marks marks ranges ≡ g
region-is g marks ranges one other = ap₂ region one other

-- what the right child forbids is undone
pub up_arcs : (p : Parts) (parent left : Region) (node : TreeNode) (had : LoadRange) (id : DemandId) (at : NodeId) (l r : List ArcId) (marks after : Marks) (ranges : List LoadRange) → node ≡ Split id at l r → Splits p parent node had
    → children_at parent node ≡ left ∷ region_of_marks marks ranges ∷ [] → forbidden_by after ≡ without_forbidden (forbidden_by marks) id r → region_of_marks after ranges ≡ parent
up_arcs p parent left node had id at l r marks after ranges read splits children is =
    let split : IsSplit p parent.forbidden id at l r = subst (λ n. Splits p parent n had) read splits in
    let same = both_same (with_arcs parent id l) (with_arcs parent id r) left (region_of_marks marks ranges) (sym (ap (children_at parent) read) ∙ children) in
    let had : forbidden_by marks ≡ with_forbidden parent.forbidden id r = ap (λ (g : Region). g.forbidden) (sym same.1) in
    let back : without_forbidden (forbidden_by marks) id r ≡ parent.forbidden = ap (λ (s : Forbidden). without_forbidden s id r) had ∙ undo_forbid parent.forbidden id r split.right_side.permitted in
    region-is parent after ranges (is ∙ back) (ap (λ (g : Region). g.ranges) (sym same.1))

-- what the left child forbids is undone, and the right arcs are forbidden
pub over_arcs : (p : Parts) (parent right : Region) (node : TreeNode) (had : LoadRange) (id : DemandId) (at : NodeId) (l r : List ArcId) (marks after : Marks) (ranges : List LoadRange) → node ≡ Split id at l r → Splits p parent node had
    → children_at parent node ≡ region_of_marks marks ranges ∷ right ∷ [] → forbidden_by after ≡ with_forbidden (without_forbidden (forbidden_by marks) id l) id r → region_of_marks after ranges ≡ right
over_arcs p parent right node had id at l r marks after ranges read splits children is =
    let split : IsSplit p parent.forbidden id at l r = subst (λ n. Splits p parent n had) read splits in
    let same = both_same (with_arcs parent id l) (with_arcs parent id r) (region_of_marks marks ranges) right (sym (ap (children_at parent) read) ∙ children) in
    let had : forbidden_by marks ≡ with_forbidden parent.forbidden id l = ap (λ (g : Region). g.forbidden) (sym same.0) in
    let back : without_forbidden (forbidden_by marks) id l ≡ parent.forbidden = ap (λ (s : Forbidden). without_forbidden s id l) had ∙ undo_forbid parent.forbidden id l split.left_side.permitted in
    region-is (with_arcs parent id r) after ranges (is ∙ ap (λ (s : Forbidden). with_forbidden s id r) back) (ap (λ (g : Region). g.ranges) (sym same.0)) ∙ same.1

-- the place has the range again that it had
pub up_loads : (p : Parts) (parent left : Region) (node : TreeNode) (place load : ℕ) (had : LoadRange) (marks : Marks) (ranges after : List LoadRange) → node ≡ Loads place load → Splits p parent node had
    → children_at parent node ≡ left ∷ region_of_marks marks ranges ∷ [] → after ≡ with_range ranges place had → region_of_marks marks after ≡ parent
up_loads p parent left node place load had marks ranges after read splits children set =
    let split : Splits p parent (Loads place load) had = subst (λ n. Splits p parent n had) read splits in
    let same = both_same (up_to parent place load) (above parent place load) left (region_of_marks marks ranges) (sym (ap (children_at parent) read) ∙ children) in
    let given : ranges ≡ with_range parent.ranges place (begins_at (range_at parent.ranges place) (load + 1)) = ap (λ (g : Region). g.ranges) (sym same.1) in
    let back : with_range ranges place had ≡ parent.ranges = ap₂ (λ (rs : List LoadRange) (x : LoadRange). with_range rs place x) given split.1 ∙ with_range-back parent.ranges place (begins_at (range_at parent.ranges place) (load + 1)) in
    region-is parent marks after (ap (λ (g : Region). g.forbidden) (sym same.1)) (set ∙ back)

-- the place has the loads of the range that are above
pub over_loads : (p : Parts) (parent right : Region) (node : TreeNode) (place load : ℕ) (had : LoadRange) (marks : Marks) (ranges after : List LoadRange) → node ≡ Loads place load → Splits p parent node had
    → children_at parent node ≡ region_of_marks marks ranges ∷ right ∷ [] → after ≡ with_range ranges place (begins_at had (load + 1)) → region_of_marks marks after ≡ right
over_loads p parent right node place load had marks ranges after read splits children set =
    let split : Splits p parent (Loads place load) had = subst (λ n. Splits p parent n had) read splits in
    let same = both_same (up_to parent place load) (above parent place load) (region_of_marks marks ranges) right (sym (ap (children_at parent) read) ∙ children) in
    let given : ranges ≡ with_range parent.ranges place (ends_at (range_at parent.ranges place) load) = ap (λ (g : Region). g.ranges) (sym same.0) in
    let next : with_range ranges place (begins_at had (load + 1)) ≡ with_range parent.ranges place (begins_at (range_at parent.ranges place) (load + 1)) =
    ap₂ (λ (rs : List LoadRange) (x : LoadRange). with_range rs place (begins_at x (load + 1))) given split.1
    ∙ with_range-twice parent.ranges place (ends_at (range_at parent.ranges place) load) (begins_at (range_at parent.ranges place) (load + 1)) in
    region-is (above parent place load) marks after (ap (λ (g : Region). g.forbidden) (sym same.0)) (set ∙ next) ∙ same.1
