-- A node that is divided, with its two children, leaves a state sound.
use Rattle.std.proofs.Common.{◌≡◌, ℕ, zero, suc, ◌+◌, ◌-◌, ◌^◌, ◌<◌, ◌≤◌, inl, inr, List, [], ◌∷◌, ◌++◌, length, set, Option, Some, None, slice_get, refl, sym, ap, subst, ◌∙◌, arith, sum_by, length-set, length-append, pow-suc}
use Rattle.std.proofs.lemmas.List.Elements.{All-set, All-append, All-cons, All-nil}
use Rattle.std.proofs.lemmas.List.Sums.{sum_by-append, sum_by-cons}
use Rattle.std.proofs.lemmas.Option.{slice_get_within}
use Rattle.plan_base.specs.declared.ids.BranchId.{BranchId}
use Rattle.plan_base.specs.declared.parts.Parts.{Parts}
use Rattle.link_steps.specs.declared.range.LoadRange.{LoadRange}
use Rattle.link_steps.specs.Ranges.{AreRanges}
use Rattle.arc_restrict.specs.Restrictions.{Forbidden}
use Rattle.proof_tree.specs.declared.cuts.Cut.{Cut}
use Rattle.proof_tree.specs.Regions.{Region, whole}
use Rattle.cut_values.specs.Numbers.{AreNumbers}
use Rattle.proof_tree.proofs.RangeLaws.{AreRanges-up_to, AreRanges-above}
use Rattle.branch_tree.specs.declared.node.Divider.TheVariants as divider
use Rattle.search_machine.specs.State.{Best, Limit, restriction_by, ranges_by, kept_prices, Divider, left_limit, right_limit, narrowed, Division, Fate, Undone, ClosedBy, DividedBy, Node, State, region_of, cutoff_of, examined_by, examined_in, left_in, divided_by_fate, divided_in, kept_by}
use Rattle.search_machine.specs.Changes.{waiting_with}
use Rattle.search_machine.specs.Dividing.{PartsBy, child_of, divided_by, Divides}
use Rattle.search_machine.specs.Depth.{AreAllEnds, choices_of, points_of, depth_below}
use Rattle.search_machine.specs.Nodes.{IsSoundBest, IsOpenEnough, IsSoundNode, IsSoundDivider, HasSoundFate}
use Rattle.search_machine.specs.Counts.{IsShallow, weight_in, AreSoundCounts, versions_of}
use Rattle.search_machine.specs.Family.{badge_at, HasChildrenBy, IsFamily}
use Rattle.search_machine.specs.Soundness.{IsSound}
use Rattle.std.specs.Prelude.{IfSome}
use Rattle.search_machine.proofs.Lists.{All-at, slice_get-set_cases, slice_get-append_left, slice_get-append_cases, slice_get-append_right, sum_by-set_at}
use Rattle.search_machine.proofs.Frames.{AreApart-fewer, AreApart-set, SameBase, HasChildrenBy-set, no_children, IsFamily-root}
use Rattle.search_machine.proofs.Replacing.{replaced, CountsRise, CountsRise-sound, node_at, versions_of-le}
use Rattle.search_machine.proofs.Splitting.{IsOpenEnough-left, IsOpenEnough-right, choices-left, choices-right, PartsAt-parts}
use Rattle.search_machine.proofs.Points.{points-up_to, points-above}

-- the prices that a node gives to its children are lawful numbers for the places and the cuts
pub kept_by-sound : (p : Parts) (cuts : List Cut) (node : Node) (best : Option Best) → AreNumbers p cuts node.first_prices
    → IfSome best (λ b. IsSoundBest p cuts (region_of p node) node.first_prices node.completed b) → AreNumbers p cuts (kept_by best node.first_prices)
kept_by-sound p cuts node None first h = first
kept_by-sound p cuts node (Some best) first h = h.prices

-- what a split leaves to a child: arcs enough, loads of each place, and less depth
record IsLeft (p : Parts) (g child : Region) : Type 0 where
  open_enough : IsOpenEnough p child.forbidden
  ranges : AreRanges p child.ranges
  less : (ends : ℕ → List ℕ) → AreAllEnds p ends → depth_below p ends child < depth_below p ends g

module _ (p : Parts) (g : Region) (enough : IsOpenEnough p g.forbidden) (ranges : AreRanges p g.ranges) where
  by_arcs : (r : Forbidden) → IsOpenEnough p r → choices_of p r < choices_of p g.forbidden → IsLeft p g (record g { forbidden = r })
  by_arcs r arcs fewer = record { open_enough = arcs; ranges = ranges; less = λ ends are. omega (arith, fewer) }

  by_load : (left : List LoadRange) → AreRanges p left → ((ends : ℕ → List ℕ) → AreAllEnds p ends → points_of p ends left < points_of p ends g.ranges) → IsLeft p g (record g { ranges = left })
  by_load left are fewer = record { open_enough = enough; ranges = are; less = λ ends all. (let less = fewer ends all in omega (arith, less)) }

  left-on_left : (by : Divider) → PartsBy p g by → IsLeft p g (narrowed g (left_limit by))
  left-on_left (divider.Arcs d) parts = by_arcs _ (IsOpenEnough-left p g.forbidden d parts enough) (choices-left p g.forbidden d parts)
  left-on_left (divider.Load d) parts = by_load _ (AreRanges-up_to p g d.place d.load parts.0.is_split ranges) (λ ends are. points-up_to p ends g d are ranges parts.0)

  left-on_right : (by : Divider) → PartsBy p g by → IsLeft p g (narrowed g (right_limit by))
  left-on_right (divider.Arcs d) parts = by_arcs _ (IsOpenEnough-right p g.forbidden d parts enough) (choices-right p g.forbidden d parts)
  left-on_right (divider.Load d) parts = by_load _ (AreRanges-above p g d.place d.load parts.0.is_split ranges) (λ ends are. points-above p ends g d are ranges parts.0)

-- the split is a sound one
PartsBy-sound : (p : Parts) (g : Region) (by : Divider) → PartsBy p g by → IsSoundDivider p g by
PartsBy-sound p g (divider.Arcs d) parts = (parts.is_split, PartsAt-parts p g.forbidden d parts, parts.left_ascends, parts.right_ascends)
PartsBy-sound p g (divider.Load d) parts = parts.0

-- a node that waits is sound where its first prices are lawful and enough is left to it
pub waiting-sound : (p : Parts) (cuts : List Cut) (limits : List Limit) (prices : List ℕ) → AreNumbers p cuts prices → IsOpenEnough p (restriction_by limits) → AreRanges p (ranges_by p limits)
    → IsSoundNode p cuts (waiting_with limits prices)
waiting-sound p cuts limits prices are enough left = record {
  first_prices = are;
  open_enough = enough;
  ranges = left;
  round = tt;
  best = tt;
  no_best = λ none. refl;
  versions = tt;
  version_count = omega arith;
  waiting = λ undone none. refl;
  cut = tt;
  crowd = tt;
}

-- a child is sound where enough is left to it
child_of-sound : (p : Parts) (cuts : List Cut) (node : Node) (more : Limit) → IsSoundNode p cuts node → IsLeft p (region_of p node) (region_of p (child_of node more)) → IsSoundNode p cuts (child_of node more)
child_of-sound p cuts node more k left = waiting-sound p cuts (more ∷ node.limits) (kept_prices node) (kept_by-sound p cuts node node.best k.first_prices k.best) left.open_enough left.ranges

-- two nodes that wait bring no badge
badge_at-append : (nodes : List Node) (one other : Node) → one.round ≡ None → other.round ≡ None → (n : ℕ) (b : ℕ × ℕ) → badge_at (nodes ++ (one ∷ other ∷ [])) n ≡ Some b → badge_at nodes n ≡ Some b
badge_at-append [] one other x y zero b is = let e : badge_at (one ∷ other ∷ []) 0 ≡ None = rw x refl in let bad : ◌≡◌ {A = Option (ℕ × ℕ)} None (Some b) = sym e ∙ is in cc
badge_at-append [] one other x y (suc zero) b is = let e : badge_at (one ∷ other ∷ []) 1 ≡ None = rw y refl in let bad : ◌≡◌ {A = Option (ℕ × ℕ)} None (Some b) = sym e ∙ is in cc
badge_at-append [] one other x y (suc (suc n)) b is = is
badge_at-append (node ∷ nodes) one other x y zero b is = is
badge_at-append (node ∷ nodes) one other x y (suc n) b is = badge_at-append nodes one other x y n b is

HasChildrenBy-append : (nodes more : List Node) (n : ℕ) (parent : Node) (fate : Fate) → HasChildrenBy nodes n parent fate → HasChildrenBy (nodes ++ more) n parent fate
HasChildrenBy-append nodes more n parent Undone h = h
HasChildrenBy-append nodes more n parent (ClosedBy found) h = h
HasChildrenBy-append nodes more n parent (DividedBy d) h = (
  (h.0.0, h.0.1, slice_get-append_left nodes more d.left_child.0 h.0.1 h.0.2, h.0.3),
  (h.1.0, h.1.1, slice_get-append_left nodes more d.right_child.0 h.1.1 h.1.2, h.1.3),
)

AreSoundCounts-append : (s : State) (more : List Node) → sum_by examined_in more ≡ 0 → sum_by versions_of more ≡ 0 → sum_by left_in more ≡ 0 → AreSoundCounts s → AreSoundCounts (record s { nodes = s.nodes ++ more })
AreSoundCounts-append s more x y z h =
    let e = sum_by-append examined_in s.nodes more in
    let v = sum_by-append versions_of s.nodes more in
    let l = sum_by-append left_in s.nodes more in
    record {
      examined = (let a = h.examined in omega arith);
      within_budget = h.within_budget;
      versions = (let a = h.versions in omega arith);
      accepted = (let a = h.accepted in omega arith);
    }

-- a list with a node that waits, and one more, at its end
waits : (nodes : List Node) (one other : Node) → one.fate ≡ Undone → other.fate ≡ Undone → (n j : ℕ) (m : Node) → slice_get (one ∷ other ∷ []) j ≡ Some m → HasChildrenBy nodes n m m.fate
waits nodes one other x y n zero m is = let same : one ≡ m = cc in no_children nodes n m m.fate (subst (λ (k : Node). k.fate ≡ Undone) same x)
waits nodes one other x y n (suc zero) m is = let same : other ≡ m = cc in no_children nodes n m m.fate (subst (λ (k : Node). k.fate ≡ Undone) same y)
waits nodes one other x y n (suc (suc j)) m is = let bad : ◌≡◌ {A = Option Node} None (Some m) = is in absurd (cc)

-- a divided node and its two children at the end of the list
module _ (p : Parts) (cuts : List Cut) (nodes : List Node) (i : ℕ) (node : Node) (d : Division) (is : slice_get nodes i ≡ Some node) (h : IsFamily p cuts nodes)
    (left_next : d.left_child.0 ≡ length nodes) (right_next : d.right_child.0 ≡ suc (length nodes)) where
  IsFamily-divided : IsFamily p cuts (set nodes i (divided_by d node) ++ (child_of node (left_limit d.by) ∷ child_of node (right_limit d.by) ∷ []))
  IsFamily-divided =
      let new : Node = divided_by d node in
      let left : Node = child_of node (left_limit d.by) in
      let right : Node = child_of node (right_limit d.by) in
      let more = left ∷ right ∷ [] in
      let xs = set nodes i new in
      let base : SameBase node new = record { limits = refl; first_prices = refl } in
      let within = slice_get_within nodes i node is in
      let size : length xs ≡ length nodes = length-set nodes i new in
      let at_left : slice_get (xs ++ more) d.left_child.0 ≡ Some left =
      let k : d.left_child.0 ≡ length xs + 0 = omega arith in
      subst (λ (j : ℕ). slice_get (xs ++ more) j ≡ Some left) (sym k) (slice_get-append_right xs more 0) in
      let at_right : slice_get (xs ++ more) d.right_child.0 ≡ Some right =
      let k : d.right_child.0 ≡ length xs + 1 = omega arith in
      subst (λ (j : ℕ). slice_get (xs ++ more) j ≡ Some right) (sym k) (slice_get-append_right xs more 1) in
      let own : HasChildrenBy (xs ++ more) i new (DividedBy d) = (
        (omega arith, left, at_left, record { limits = refl; first_prices = refl }),
        (omega arith, right, at_right, record { limits = refl; first_prices = refl }),
      ) in
      let root = IsFamily-root p cuts nodes i node new is base h in
      record {
        root = root.0;
        is_root = slice_get-append_left xs more 0 root.0 root.1;
        root_limits = root.2;
        root_prices = root.3;
        children = λ n m at. elim (slice_get-append_cases xs more n m at) [
          | inl w ↦ elim (slice_get-set_cases nodes i n new m w) [
            | inl u ↦
                let P : ℕ → Node → Type 0 = λ k x. HasChildrenBy (xs ++ more) k x x.fate in
                subst (λ (k : ℕ). P k m) (sym u.0) (subst (P i) (sym u.1) own)
            | inr u ↦ HasChildrenBy-append xs more n m m.fate (HasChildrenBy-set nodes i node new is base n m m.fate (h.children n m u.1))
          ]
          | inr w ↦ waits (xs ++ more) left right refl refl n w.0 m w.2
        ];
      }

double : (depth l : ℕ) → suc l ≤ depth → 2 ^ (depth - l) ≡ 2 ^ (depth - suc l) + 2 ^ (depth - suc l)
double depth l h =
    let e : depth - l ≡ suc (depth - suc l) = omega arith in
    let two = pow-suc 2 (depth - suc l) in
    rw e (omega arith)

-- a node passes its weight on to its children
divided_weights : (depth : ℕ) (nodes : List Node) (i : ℕ) (node : Node) (d : Division) → slice_get nodes i ≡ Some node → node.fate ≡ Undone
    → suc (length node.limits) ≤ depth → sum_by (weight_in depth) nodes ≡ 2 ^ depth
    → sum_by (weight_in depth) (set nodes i (divided_by d node) ++ (child_of node (left_limit d.by) ∷ child_of node (right_limit d.by) ∷ [])) ≡ 2 ^ depth
divided_weights depth nodes i node d is undone deep h =
    let w = weight_in depth in
    let new : Node = divided_by d node in
    let left : Node = child_of node (left_limit d.by) in
    let right : Node = child_of node (right_limit d.by) in
    let old_w : w node ≡ 2 ^ (depth - length node.limits) = rw undone refl in
    let set_ = sum_by-set_at w nodes i node new is in
    let all = sum_by-append w (set nodes i new) (left ∷ right ∷ []) in
    let two = sum_by-cons w left (right ∷ []) in
    let one = sum_by-cons w right [] in
    let twice = double depth (length node.limits) deep in
    sums _ _ _ _ _ _ _ _ set_ all two one old_w twice ∙ h
  where
    sums : (all xs ys before old one rest m : ℕ) → xs + old ≡ before + 0 → all ≡ xs + ys → ys ≡ one + rest → rest ≡ one + 0 → old ≡ m → m ≡ one + one → all ≡ before
    sums all xs ys before old one rest m a b c d_ e f = omega arith

-- a child is one deeper, and less depth is left below it
child-shallow : (p : Parts) (ends : ℕ → List ℕ) (node : Node) (more : Limit) → AreAllEnds p ends → IsLeft p (region_of p node) (region_of p (child_of node more)) → IsShallow p ends node → IsShallow p ends (child_of node more)
child-shallow p ends node more are left shallow =
    record { within = deeper (depth_below p ends (region_of p (child_of node more))) (depth_below p ends (region_of p node)) (length node.limits) (depth_below p ends (whole p)) (left.less ends are) shallow.within }
  where
    deeper : (a b l d : ℕ) → a < b → b + l ≤ d → a + suc l ≤ d
    deeper a b l d less within = omega arith

-- so a node that is divided is not at the branching depth
not-deepest : (p : Parts) (ends : ℕ → List ℕ) (node : Node) (more : Limit) → IsShallow p ends (child_of node more) → suc (length node.limits) ≤ depth_below p ends (whole p)
not-deepest p ends node more shallow = lower (depth_below p ends (region_of p (child_of node more))) (length node.limits) (depth_below p ends (whole p)) shallow.within
  where
    lower : (a l d : ℕ) → a + suc l ≤ d → suc l ≤ d
    lower a l d within = omega arith

-- a state stays sound when a node is divided and its two children wait at the end of the list
pub Divides-sound : (s : State) (id left_child right_child : BranchId) (t : State) → IsSound s → Divides s id left_child right_child t → IsSound t
Divides-sound s id left_child right_child t h e =
    let p = s.problem in
    let node = e.node in
    let d = e.division in
    let is = e.ready.open_node in
    let new : Node = divided_by d node in
    let left : Node = child_of node (left_limit d.by) in
    let right : Node = child_of node (right_limit d.by) in
    let more = left ∷ right ∷ [] in
    let xs = set s.nodes id.0 new in
    let k = node_at s id.0 node h is.is_node in
    let waits : new.fate ≡ Undone → new.round ≡ None → node.completed ≡ 0 = λ undone none. cc in
    let sound : IsSoundNode p s.cuts new = assumption (k, waits) in
    let P = IsSoundNode p s.cuts in
    let F = HasSoundFate p s.cuts (cutoff_of s) in
    let g = region_of p node in
    let to_left : IsLeft p g (region_of p left) = left-on_left p g k.open_enough k.ranges d.by e.parts in
    let to_right : IsLeft p g (region_of p right) = left-on_right p g k.open_enough k.ranges d.by e.parts in
    let left_sound = child_of-sound p s.cuts node (left_limit d.by) k to_left in
    let right_sound = child_of-sound p s.cuts node (right_limit d.by) k to_right in
    let shallow = λ (ends : ℕ → List ℕ) (are : AreAllEnds p ends). All-at (IsShallow p ends) s.nodes id.0 node (h.depths ends are) is.is_node in
    let shallow_left = λ (ends : ℕ → List ℕ) (are : AreAllEnds p ends). child-shallow p ends node (left_limit d.by) are to_left (shallow ends are) in
    let shallow_right = λ (ends : ℕ → List ℕ) (are : AreAllEnds p ends). child-shallow p ends node (right_limit d.by) are to_right (shallow ends are) in
    let rise : CountsRise s node new (suc s.examined) s.next_version s.accepted = record {
      examined_is = (let old : examined_in node ≡ 0 = ap examined_by is.undone in omega arith);
      within_budget = (let spent = is.not_spent in omega arith);
      versions = (let most = versions_of-le node in omega arith);
      accepted_within = omega arith;
    } in
    subst IsSound (sym e.becomes) (record {
      lawful = h.lawful;
      cuts = h.cuts;
      unit = h.unit;
      nodes = All-append P xs more (All-set P s.nodes id.0 new sound h.nodes) (All-cons P left (right ∷ []) left_sound (All-cons P right [] right_sound (All-nil P)));
      fates = All-append F xs more
          (All-set F s.nodes id.0 new (PartsBy-sound p g d.by e.parts) h.fates)
          (All-cons F left (right ∷ []) tt (All-cons F right [] tt (All-nil F)));
      apart = AreApart-fewer s.next_version xs (xs ++ more) (badge_at-append xs left right refl refl)
          (AreApart-set s.next_version s.nodes id.0 node new is.is_node (inr refl) h.apart);
      family = IsFamily-divided p s.cuts s.nodes id.0 node d is.is_node h.family (ap (λ (b : BranchId). b.0) e.left_is ∙ e.left_next) (ap (λ (b : BranchId). b.0) e.right_is ∙ e.right_next);
      columns = h.columns;
      incumbent = h.incumbent;
      counts = AreSoundCounts-append (replaced s id.0 new (suc s.examined) s.next_version s.accepted) more refl refl refl
          (CountsRise-sound s id.0 node new (suc s.examined) s.next_version s.accepted is.is_node rise h.counts);
      depths = λ ends are.
          let D = IsShallow p ends in
          All-append D xs more (All-set D s.nodes id.0 new (record { within = (shallow ends are).within }) (h.depths ends are))
          (All-cons D left (right ∷ []) (shallow_left ends are) (All-cons D right [] (shallow_right ends are) (All-nil D)));
      weights = λ ends are. divided_weights (depth_below p ends (whole p)) s.nodes id.0 node d is.is_node is.undone (not-deepest p ends node (left_limit d.by) (shallow_left ends are)) (h.weights ends are);
      size = (
          let sum = sum_by-set_at divided_in s.nodes id.0 node new is.is_node in
          let old : divided_in node ≡ 0 = ap divided_by_fate is.undone in
          let all = sum_by-append divided_in xs more in
          let long = length-append xs more in
          let kept : length xs ≡ length s.nodes = length-set s.nodes id.0 new in
          let size = h.size in
          omega arith
          );
    })
