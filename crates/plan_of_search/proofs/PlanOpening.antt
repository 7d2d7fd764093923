-- The bound of each open leaf is at least the bound of the root at the start prices.
use Rattle.std.proofs.Common.{◌≡◌, ℕ, zero, suc, ◌<◌, ◌≤◌, ◌⊎◌, inl, inr, Bool, true, false, List, slice_index, Option, Some, None, slice_get, refl, sym, ap, subst, ◌∙◌, arith, ℤ, pos, ◌≤ℤ◌}
use Rattle.std.specs.Prelude.{min, int_lt}
use Rattle.std.proofs.lemmas.Int.{ints}
use Rattle.std.proofs.lemmas.List.{ext_get_or}
use Rattle.std.proofs.lemmas.Option.{slice_get_within}
use Rattle.plan_base.specs.declared.parts.Link.{Link}
use Rattle.plan_base.specs.declared.parts.Parts.{Parts}
use Rattle.plan_base.specs.declared.path.Design.{Design}
use Rattle.plan_base.specs.Facts.{top_load, price_limit}
use Rattle.plan_base.specs.Arcs.{link_at}
use Rattle.plan_base.specs.Places.{places, link_of_place}
use Rattle.link_steps.specs.Values.{IsLeastUnitPrice, IsStartPrice, AreStartPrices}
use Rattle.proof_tree.specs.Regions.{Region, whole}
use Rattle.proof_tree.specs.Bounds.{IsBound, IsOpeningBound}
use Rattle.proof_tree.specs.Plans.{IsStatedDesign}
use Rattle.proof_tree.proofs.Uniqueness.{bound-unique}
use Rattle.proof_tree.specs.RatedEvidence.{rates_in, IsBoundAt}
use Rattle.proof_tree.proofs.RatedUniqueness.{rated_bound-unique}
use Rattle.proof_tree.proofs.RatedPresence.{rated_bound-not_absent}
use Rattle.cut_values.proofs.StartBounds.{starts-opening}
use Rattle.proof_tree.proofs.Duality.{bound-le-cost}
use Rattle.proof_tree.proofs.RangeLaws.{lies-whole}
use Rattle.branch_tree.specs.declared.node.Division.{Division}
use Rattle.branch_tree.specs.declared.node.Fate.{Fate}
use Rattle.branch_tree.specs.declared.node.Fate.TheVariants.{Undone, ClosedBy, DividedBy}
use Rattle.search_machine.specs.State.{Best, Limit, left_limit, right_limit, Node, State, region_by, region_of, cutoff_of, kept_by, kept_prices}
use Rattle.search_machine.specs.Machine.{IsReachable}
use Rattle.search_machine.specs.Nodes.{HasSoundFate, IsSoundBest}
use Rattle.search_machine.specs.Family.{IsChild, IsChildBy, HasChild, HasChildrenBy}
use Rattle.search_machine.specs.Soundness.{IsSound}
use Rattle.search_machine.proofs.Frames.{one_at}
use Rattle.search_machine.proofs.Replacing.{node_at}
use Rattle.search_machine.proofs.Runs.{IsReachable-sound}
use Rattle.search_machine.proofs.Lists.{All-at}
use Rattle.search_machine.proofs.Narrowing.{IsInside}
use Rattle.search_machine.proofs.Rising.{child-inside, IsBoundAt-rises}
use Rattle.plan_of_search.proofs.PlanBorn.{division_by, division_in, IsReachable-born}

-- Start prices

either-or : (n : ℕ) → (0 < n) ⊎ (n ≡ 0)
either-or n = grind arith

unit-unique : (p : Parts) (l : Link) (a b : ℕ) → IsLeastUnitPrice p l a → IsLeastUnitPrice p l b → a ≡ b
unit-unique p l a b u v =
    let low : a ≤ b = subst (λ (n : ℕ). a ≤ n) v.attained (u.least v.load v.cost v.positive v.within v.is_least) in
    let high : b ≤ a = subst (λ (n : ℕ). b ≤ n) u.attained (v.least u.load u.cost u.positive u.within u.is_least) in
    omega arith

start-unique : (p : Parts) (l : Link) (a b : ℕ) → IsStartPrice p l a → IsStartPrice p l b → a ≡ b
start-unique p l a b x y = elim (either-or (top_load p l)) [
  | inl used ↦
      let u = x.of_used used in
      let v = y.of_used used in
      u.cut ∙ (ap (λ (n : ℕ). min n (price_limit p)) (unit-unique p l u.unit_price v.unit_price u.is_least v.is_least) ∙ sym v.cut)
  | inr unused ↦ x.of_unused unused ∙ sym (y.of_unused unused)
]

starts-unique : (p : Parts) (one other : List ℕ) → AreStartPrices p one → AreStartPrices p other → one ≡ other
starts-unique p one other x y =
    ext_get_or 0 one other (x.count ∙ sym y.count)
    (λ q within.
    let below : q < places p = (let c = x.count in omega arith) in
    start-unique p (link_at p (link_of_place p q)) (slice_index one q) (slice_index other q) (x.each q below) (y.each q below))

opening-unique : (p : Parts) (one other : ℤ) → IsOpeningBound p one → IsOpeningBound p other → one ≡ other
opening-unique p one other x y =
    bound-unique p (whole p) x.prices one other x.is_bound
    (subst (λ (ps : List ℕ). IsBound p (whole p) ps other) (starts-unique p y.prices x.prices y.are_start x.are_start) y.is_bound)

-- Parents

-- the node of the number is a child of the node before it
record HasParent (s : State) (n : ℕ) (child : Node) : Type 0 where
  number : ℕ
  before : number < n
  parent : Node
  is_parent : slice_get s.nodes number ≡ Some parent
  division : Division
  divided : parent.fate ≡ DividedBy division
  is_child : IsChildBy parent division child

divided-there : (o : Option Node) (d : Division) → division_in o ≡ Some d → (node : Node) × (o ≡ Some node) × (node.fate ≡ DividedBy d)
divided-there None d h = absurd (let bad : ◌≡◌ {A = Option Division} None (Some d) = h in cc)
divided-there (Some node) d h = (node, refl, by_fate node.fate h)
  where
    by_fate : (fate : Fate) → division_by fate ≡ Some d → fate ≡ DividedBy d
    by_fate Undone is = absurd (let bad : ◌≡◌ {A = Option Division} None (Some d) = is in cc)
    by_fate (ClosedBy found) is = absurd (let bad : ◌≡◌ {A = Option Division} None (Some d) = is in cc)
    by_fate (DividedBy e) is = let same : e ≡ d = cc in ap DividedBy same

parent-of : (s : State) → IsReachable s → (n : ℕ) (child : Node) → 0 < n → slice_get s.nodes n ≡ Some child → HasParent s n child
parent-of s h n child positive is =
    let sound = IsReachable-sound s h in
    let found = (IsReachable-born s h).parent n positive (slice_get_within s.nodes n child is) in
    let there = divided-there (slice_get s.nodes found.0) found.1.0 found.1.1 in
    let d = found.1.0 in
    let children : HasChildrenBy s.nodes found.0 there.0 (DividedBy d) = subst (HasChildrenBy s.nodes found.0 there.0) there.2 (sound.family.children found.0 there.0 there.1) in
    let made : (number : ℕ) (limit : Limit) → (IsChild there.0 limit child → IsChildBy there.0 d child) → number ≡ n → HasChild s.nodes found.0 there.0 number limit → HasParent s n child = λ number limit side same has.
    let at : slice_get s.nodes n ≡ Some has.1 = subst (λ (i : ℕ). slice_get s.nodes i ≡ Some has.1) same has.2 in
    record {
      number = found.0;
      before = (let less = has.0 in omega arith);
      parent = there.0;
      is_parent = there.1;
      division = d;
      divided = there.2;
      is_child = side (subst (IsChild there.0 limit) (one_at s.nodes n has.1 child at is) has.3);
    } in
    elim found.1.2 [
      | inl left ↦ made d.left_child.0 (left_limit d.by) (λ c. inl c) left children.0
      | inr right ↦ made d.right_child.0 (right_limit d.by) (λ c. inr c) right children.1
    ]

-- Bounds

below_or_not : (one other : ℤ) → (one ≤ℤ other) ⊎ (one ≤ℤ other → ⊥)
below_or_not one other = by_cases (int_lt other one) refl
  where
    by_cases : (b : Bool) → int_lt other one ≡ b → (one ≤ℤ other) ⊎ (one ≤ℤ other → ⊥)
    by_cases true less = inr (λ above. grind (arith, ints))
    by_cases false more = inl (grind (arith, ints))

above-through : (a b c : ℤ) → a ≤ℤ b → b ≤ℤ c → a ≤ℤ c
above-through a b c x y = omega (arith, ints)

module _ (s : State) (h : IsReachable s) (opening : ℤ) (is_opening : IsOpeningBound s.problem opening) where
  abbrev p : Parts
  p = s.problem

  sound : IsSound s
  sound = IsReachable-sound s h

  -- the bound at a node's first prices is at least the opening bound
  abbrev IsAbove : ℕ → Type 0
  IsAbove n = (node : Node) (bound : ℤ) → slice_get s.nodes n ≡ Some node → IsBoundAt p s.cuts (region_of p node) node.first_prices bound → opening ≤ℤ bound

  root-above : IsAbove 0
  root-above node bound is at_first =
      let root : node ≡ sound.family.root = one_at s.nodes 0 node sound.family.root is sound.family.is_root in
      let all : region_of p node ≡ whole p = ap (region_of p) root ∙ ap (region_by p) sound.family.root_limits in
      let numbers = sound.family.root.first_prices in
      let at_root : IsBoundAt p s.cuts (whole p) numbers bound =
      subst (λ (g : Region). IsBoundAt p s.cuts g numbers bound) all (subst (λ (x : Node). IsBoundAt p s.cuts (region_of p node) x.first_prices bound) root at_first) in
      let same = opening-unique p opening bound is_opening (starts-opening p s.cuts numbers bound sound.family.root_prices at_root) in
      omega (arith, ints)

  -- what is recorded of a node is at least the opening bound
  best-above : (n : ℕ) (node : Node) (best : Best) → IsAbove n → slice_get s.nodes n ≡ Some node → node.best ≡ Some best → opening ≤ℤ best.bound
  best-above n node best above is recorded =
      let b : IsSoundBest p s.cuts (region_of p node) node.first_prices node.completed best = rw recorded at ((node_at s n node sound is).best) in
      above-through opening b.first best.bound (above node b.first is b.is_first) b.above_first

  below-child : (m : ℕ) (parent child : Node) (d : Division) (bound : ℤ) → IsAbove m → slice_get s.nodes m ≡ Some parent → parent.fate ≡ DividedBy d → IsChildBy parent d child
      → IsBoundAt p s.cuts (region_of p child) child.first_prices bound → opening ≤ℤ bound
  below-child m parent child d bound above is divided c at_first = by_best parent.best refl
    where
      inside : IsInside p (region_of p child) (region_of p parent)
      inside = child-inside p s.cuts (cutoff_of s) parent child d (All-at (HasSoundFate p s.cuts (cutoff_of s)) s.nodes m parent sound.fates is) divided c

      prices : child.first_prices ≡ kept_prices parent
      prices = elim c [ inl left ↦ left.first_prices | inr right ↦ right.first_prices ]

      at_kept : (best : Option Best) → parent.best ≡ best → IsBoundAt p s.cuts (region_of p child) (kept_by best parent.first_prices) bound
      at_kept best is_best =
          subst (λ (ps : List ℕ). IsBoundAt p s.cuts (region_of p child) ps bound) (prices ∙ ap (λ (o : Option Best). kept_by o parent.first_prices) is_best) at_first

      by_best : (best : Option Best) → parent.best ≡ best → opening ≤ℤ bound
      by_best (Some best) is_best =
          let b : IsSoundBest p s.cuts (region_of p parent) parent.first_prices parent.completed best = rw is_best at ((node_at s m parent sound is).best) in
          let rises = IsBoundAt-rises p s.cuts (region_of p child) (region_of p parent) best.prices best.bound bound inside b.is_bound (at_kept (Some best) is_best) in
          above-through opening best.bound bound (best-above m parent best above is is_best) rises
      by_best None none =
          let below = at_kept None none in
          elim (below_or_not opening bound) [
            | inl there ↦ there
            | inr not_there ↦ absurd (rated_bound-not_absent p s.cuts (region_of p parent) parent.first_prices (rates_in p parent.first_prices) sound.cuts.are_cuts (node_at s m parent sound is).ranges
                (λ k within. let least = below.are_least k within in (least.path, inside.paths k least.path least.permitted))
                (λ over is_over.
                not_there (above-through opening over bound (above parent over is is_over)
                (IsBoundAt-rises p s.cuts (region_of p child) (region_of p parent) parent.first_prices over bound inside is_over below))))
          ]

  all-above : (fuel n : ℕ) → n < fuel → IsAbove n
  all-above zero n within = absurd (omega arith)
  all-above (suc fuel) zero within = root-above
  all-above (suc fuel) (suc n) within = λ node bound is at_first.
      let up = parent-of s h (suc n) node (omega arith) is in
      below-child up.number up.parent node up.division bound (all-above fuel up.number (let less = up.before in omega arith)) up.is_parent up.divided up.is_child at_first

  -- the bound of a node at the prices that it keeps is at least the opening bound
  pub kept-above : (n : ℕ) (node : Node) (bound : ℤ) → slice_get s.nodes n ≡ Some node → IsBoundAt p s.cuts (region_of p node) (kept_prices node) bound → opening ≤ℤ bound
  kept-above n node bound is at_kept = by_best node.best refl
    where
      above : IsAbove n
      above = all-above (suc n) n (omega arith)

      by_best : (best : Option Best) → node.best ≡ best → opening ≤ℤ bound
      by_best (Some best) recorded =
          let b : IsSoundBest p s.cuts (region_of p node) node.first_prices node.completed best = rw recorded at ((node_at s n node sound is).best) in
          let at_best : IsBoundAt p s.cuts (region_of p node) best.prices bound = subst (λ (o : Option Best). IsBoundAt p s.cuts (region_of p node) (kept_by o node.first_prices) bound) recorded at_kept in
          let same : best.bound ≡ bound = rated_bound-unique p s.cuts (region_of p node) best.prices (rates_in p best.prices) best.bound bound b.is_bound at_best in
          subst (λ (x : ℤ). opening ≤ℤ x) same (best-above n node best above is recorded)
      by_best None none = above node bound is (subst (λ (o : Option Best). IsBoundAt p s.cuts (region_of p node) (kept_by o node.first_prices) bound) none at_kept)

  -- the cost of a good design is at least the opening bound
  pub cost-above : (cost : ℕ) (d : Design) → IsStatedDesign p cost d → opening ≤ℤ pos cost
  cost-above cost d stated =
      subst (λ (n : ℕ). opening ≤ℤ pos n) stated.cost_is
      (bound-le-cost p (whole p) is_opening.prices opening d is_opening.is_bound stated.good.design stated.good.feasible (lies-whole p d stated.good.design stated.good.feasible))
