-- A budget of one node for each place of the tree is enough.
use Rattle.std.proofs.Common.{◌≡◌, ℕ, zero, suc, ◌+◌, ◌-◌, ◌*◌, ◌^◌, ◌≤◌, List, [], ◌∷◌, length, refl, sym, ap, subst, ◌∙◌, arith, sum_by, pow-suc}
use Rattle.std.proofs.lemmas.List.Sums.{sum_by-cons}
use Rattle.std.proofs.Math.Nat.{one-le-pow}
use Rattle.search_machine.specs.State.{Fate, Undone, ClosedBy, DividedBy, Node, State, examined_by, examined_in, divided_by_fate, divided_in}
use Rattle.search_machine.specs.Counts.{weight_by, weight_in}
use Rattle.search_machine.specs.Soundness.{IsSound}
use Rattle.search_machine.specs.PlanOf.{open_by, open_count}
use Rattle.search_machine.specs.Depth.{IsBranchingDepth}

-- each node is examined or open
one_of : (fate : Fate) → examined_by fate + open_by fate ≡ 1
one_of Undone = refl
one_of (ClosedBy found) = refl
one_of (DividedBy d) = refl

-- the examined nodes and the open leaves are together all nodes
pub all_nodes : (nodes : List Node) → sum_by examined_in nodes + sum_by (λ node. open_by node.fate) nodes ≡ length nodes
all_nodes [] = refl
all_nodes (node ∷ nodes) =
    let e = sum_by-cons examined_in node nodes in
    let o = sum_by-cons (λ (x : Node). open_by x.fate) node nodes in
    let here = one_of node.fate in
    let rest = all_nodes nodes in
    sums _ _ _ _ _ _ _ e o here rest
  where
    sums : (e es o os x y n : ℕ) → e ≡ x + es → o ≡ y + os → x + y ≡ 1 → es + os ≡ n → e + o ≡ suc n
    sums e es o os x y n a b c d = omega arith

-- each leaf weighs one at least
leaf_weighs : (divided left : ℕ) → divided ≤ 1 → 1 ≤ weight_by divided left + divided
leaf_weighs zero left h = let one : 1 ≤ 2 ^ left = one-le-pow left 2 (omega arith) in omega arith
leaf_weighs (suc divided) left h = omega arith

divided-one : (fate : Fate) → divided_by_fate fate ≤ 1
divided-one Undone = omega arith
divided-one (ClosedBy found) = omega arith
divided-one (DividedBy d) = omega arith

leaves_weigh : (depth : ℕ) (nodes : List Node) → length nodes ≤ sum_by (weight_in depth) nodes + sum_by divided_in nodes
leaves_weigh depth [] = omega arith
leaves_weigh depth (node ∷ nodes) =
    let w = sum_by-cons (weight_in depth) node nodes in
    let d = sum_by-cons divided_in node nodes in
    let here = leaf_weighs (divided_in node) (depth - length node.limits) (divided-one node.fate) in
    let rest = leaves_weigh depth nodes in
    sums _ _ _ _ _ _ _ w d here rest
  where
    sums : (w ws d ds x y n : ℕ) → w ≡ x + ws → d ≡ y + ds → 1 ≤ x + y → n ≤ ws + ds → suc n ≤ w + d
    sums w ws d ds x y n a b c e = omega arith

-- a spent budget of at least 2^(depth + 1) - 1, at the branching depth, leaves no leaf open
pub budget-enough : (s : State) (depth : ℕ) → IsSound s → IsBranchingDepth s.problem depth → 2 ^ (depth + 1) - 1 ≤ s.budget → s.examined ≡ s.budget → open_count s ≡ 0
budget-enough s depth h is enough spent =
    let all = all_nodes s.nodes in
    let weigh = leaves_weigh depth s.nodes in
    let two : 2 ^ (depth + 1) ≡ 2 ^ depth * 2 = ap (λ (n : ℕ). 2 ^ n) (omega arith) ∙ pow-suc 2 depth in
    let e = h.counts.examined in
    let size = h.size in
    let w : sum_by (weight_in depth) s.nodes ≡ 2 ^ depth = subst (λ (n : ℕ). sum_by (weight_in n) s.nodes ≡ 2 ^ n) (sym is.is_depth) (h.weights is.ends is.are_ends) in
    let some : 1 ≤ 2 ^ depth = one-le-pow depth 2 (omega arith) in
    sums _ _ _ _ _ _ _ _ all weigh two e size w enough spent some
  where
    sums : (examined left n weights divided power power' budget : ℕ) → examined + left ≡ n → n ≤ weights + divided → power' ≡ power * 2 → s.examined ≡ examined → n ≡ 1 + 2 * divided → weights ≡ power → power' - 1 ≤ budget → s.examined ≡ budget → 1 ≤ power → left ≡ 0
    sums examined left n weights divided power power' budget a b c d e f g i j = omega arith
