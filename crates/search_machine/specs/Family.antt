-- How the nodes of a state belong together: their rounds are apart, and children follow their parents.
use Rattle.std.specs.Prelude.{ℕ, ◌≡◌, ◌<◌, ◌⊎◌, ⊤, List, [], ◌∷◌, Option, Some, option_and_then, option_map, slice_get}
use Rattle.plan_base.specs.declared.parts.Parts.{Parts}
use Rattle.proof_tree.specs.declared.cuts.Cut.{Cut}
use Rattle.cut_values.specs.Numbers.{AreStartNumbers}
use Rattle.search_machine.specs.State.{Limit, left_limit, right_limit, Division, Round, Node, kept_prices, Fate, Undone, ClosedBy, DividedBy}

-- the slot and the version of a node's round
abbrev pub badge_of : Option Round → Option (ℕ × ℕ)
badge_of round = option_map (λ r. (r.slot, r.version)) round

-- the slot and the version of the round of the node of this number
abbrev pub badge_at : List Node → ℕ → Option (ℕ × ℕ)
badge_at nodes n = option_and_then (λ node. badge_of node.round) (slice_get nodes n)

-- two rounds with one slot or one version are one, and each version is below the next one
pub record AreApart (next : ℕ) (nodes : List Node) : Type 0 where
  pub slots : (m n slot a b : ℕ) → badge_at nodes m ≡ Some (slot, a) → badge_at nodes n ≡ Some (slot, b) → m ≡ n
  pub versions : (m n version a b : ℕ) → badge_at nodes m ≡ Some (a, version) → badge_at nodes n ≡ Some (b, version) → m ≡ n
  pub below_next : (n slot version : ℕ) → badge_at nodes n ≡ Some (slot, version) → version < next

-- a child has the limit too, and begins with its parent's best prices
pub record IsChild (parent : Node) (limit : Limit) (child : Node) : Type 0 where
  pub limits : child.limits ≡ limit ∷ parent.limits
  pub first_prices : child.first_prices ≡ kept_prices parent

-- it is the left or the right child of the division
abbrev pub IsChildBy : Node → Division → Node → Type 0
IsChildBy parent d child = IsChild parent (left_limit d.by) child ⊎ IsChild parent (right_limit d.by) child

-- the node of the number is this child, made later
abbrev pub HasChild : List Node → ℕ → Node → ℕ → Limit → Type 0
HasChild nodes n node number limit = (n < number) × (child : Node) × (slice_get nodes number ≡ Some child) × IsChild node limit child

-- a divided node has its two children, at the numbers that the division names
abbrev pub HasChildrenBy : List Node → ℕ → Node → Fate → Type 0
HasChildrenBy nodes n node Undone = ⊤
HasChildrenBy nodes n node (ClosedBy evidence) = ⊤
HasChildrenBy nodes n node (DividedBy d) = HasChild nodes n node d.left_child.0 (left_limit d.by) × HasChild nodes n node d.right_child.0 (right_limit d.by)

-- the root has no limits and begins with the start prices and with rates of 0; each divided node has its two children
pub record IsFamily (p : Parts) (cuts : List Cut) (nodes : List Node) : Type 0 where
  pub root : Node
  pub is_root : slice_get nodes 0 ≡ Some root
  pub root_limits : root.limits ≡ []
  pub root_prices : AreStartNumbers p cuts root.first_prices
  pub children : (n : ℕ) (node : Node) → slice_get nodes n ≡ Some node → HasChildrenBy nodes n node node.fate
