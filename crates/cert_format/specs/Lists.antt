-- Price lists of a plan text: the lists of a tree, their numbers, and records that name lists by number.
use Rattle.std.specs.Prelude.{ℕ, suc, ◌≡◌, ◌<◌, ◌≤◌, ◌^◌, nat_le, nat_eq, Bool, false, if◌then◌else◌, List, [], ◌∷◌, ◌++◌, length, ⊤, Option, Some, None, IfSome, slice_get, position}
use Rattle.std.specs.List.{list_any, position_or_len, AllByRecursion}
use Rattle.std.specs.Option.{option_map}
use Rattle.std.specs.Cmp.Lexicographic.{pointwise}
use Rattle.proof_tree.specs.declared.tree.Evidence.{Evidence}
use Rattle.proof_tree.specs.declared.tree.Evidence.TheVariants.{Bound, Routed, Overfull, Cut, Far, Crowd, Open}
use Rattle.proof_tree.specs.declared.tree.TreeNode.{TreeNode}
use Rattle.proof_tree.specs.declared.tree.TreeNode.TheVariants.{Split, Loads, Leaf}
use Rattle.cert_format.specs.declared.form.Form.{Form}
use Rattle.cert_format.specs.declared.form.Form.TheVariants.{First, Second, Third}
use Rattle.cert_format.specs.Versions.{has_line}

-- it is one of these lists
abbrev pub is_among : List (List ℕ) → List ℕ → Bool
is_among lists prices = list_any (λ list. pointwise nat_eq prices list) lists

-- its number among these lists, from 0 on, or their count where it is none of them
abbrev pub number_in : List (List ℕ) → List ℕ → ℕ
number_in lists prices = position_or_len (λ list. pointwise nat_eq prices list) lists

-- its number among these lists, where it is one of them
unfoldable pub place_in : List (List ℕ) → List ℕ → Option ℕ
place_in lists prices = position (λ list. pointwise nat_eq prices list) lists

-- the lists with one more, where it is none of them
abbrev pub with_list : List (List ℕ) → List ℕ → List (List ℕ)
with_list lists prices = if is_among lists prices then lists else lists ++ prices ∷ []

-- ---- the lists of a tree

-- the prices of a leaf that is closed or open by prices
abbrev pub prices_in : Evidence → Option (List ℕ)
prices_in (Bound prices) = Some prices
prices_in Routed = None
prices_in (Overfull link) = None
prices_in (Cut demand reached) = None
prices_in (Far demand) = None
prices_in (Crowd prices) = Some prices
prices_in (Open prices) = Some prices

-- the prices of a record
abbrev pub record_prices : TreeNode → Option (List ℕ)
record_prices (Split demand at left right) = None
record_prices (Loads place load) = None
record_prices (Leaf evidence) = prices_in evidence

-- the lists with these prices, where there are some
abbrev pub with_some : List (List ℕ) → Option (List ℕ) → List (List ℕ)
with_some lists None = lists
with_some lists (Some prices) = with_list lists prices

-- the lists with those of records
unfoldable pub gathered : List (List ℕ) → List TreeNode → List (List ℕ)
gathered lists [] = lists
gathered lists (node ∷ nodes) = gathered (with_some lists (record_prices node)) nodes

-- the price lists of a tree, each once, in preorder of their first use
abbrev pub lists_of : List TreeNode → List (List ℕ)
lists_of nodes = gathered [] nodes

-- the price lists that a text of this version tells apart from the records
abbrev pub lists_in : Form → List TreeNode → List (List ℕ)
lists_in First nodes = []
lists_in Second nodes = lists_of nodes
lists_in Third nodes = lists_of nodes

-- ---- records with numbers of lists

-- the leaf with the number of its list in place of the prices
abbrev pub leaf_with_number : List (List ℕ) → Evidence → Evidence
leaf_with_number lists (Bound prices) = Bound (number_in lists prices ∷ [])
leaf_with_number lists Routed = Routed
leaf_with_number lists (Overfull link) = Overfull link
leaf_with_number lists (Cut demand reached) = Cut demand reached
leaf_with_number lists (Far demand) = Far demand
leaf_with_number lists (Crowd prices) = Crowd (number_in lists prices ∷ [])
leaf_with_number lists (Open prices) = Open (number_in lists prices ∷ [])

-- the record with the number of its list in place of the prices
abbrev pub with_number : List (List ℕ) → TreeNode → TreeNode
with_number lists (Split demand at left right) = Split demand at left right
with_number lists (Loads place load) = Loads place load
with_number lists (Leaf evidence) = Leaf (leaf_with_number lists evidence)

-- the record as its line shows it: with its prices, or with the number of their list
abbrev pub shown : Form → List (List ℕ) → TreeNode → TreeNode
shown First lists node = node
shown Second lists node = with_number lists node
shown Third lists node = with_number lists node

-- how many numbers stand for the prices of a record
abbrev pub width : Form → ℕ → ℕ
width First entries = entries
width Second entries = 1
width Third entries = 1

-- there is a list, and it is this one
abbrev pub is_list : List ℕ → Option (List ℕ) → Bool
is_list prices None = false
is_list prices (Some list) = pointwise nat_eq prices list

-- how many lists are named where so many were named before, and then this one is
abbrev pub named_by : List (List ℕ) → ℕ → Option (List ℕ) → ℕ
named_by lists named None = named
named_by lists named (Some prices) = if is_list prices (slice_get lists named) then suc named else named

-- how many lists are named behind a record, where so many were named before it
abbrev pub named_behind : Form → List (List ℕ) → ℕ → TreeNode → ℕ
named_behind First lists named node = named
named_behind Second lists named node = named_by lists named (record_prices node)
named_behind Third lists named node = named_by lists named (record_prices node)

-- how many lists are named behind records, where so many were named before them
unfoldable pub named_from : Form → List (List ℕ) → ℕ → List TreeNode → ℕ
named_from form lists named [] = named
named_from form lists named (node ∷ nodes) = named_from form lists (named_behind form lists named node) nodes

-- the prices are a list that is named already, or the next one
pub record IsNext (lists : List (List ℕ)) (named : ℕ) (prices : List ℕ) : Type 0 where
  pub listed : number_in lists prices < length lists
  pub in_order : number_in lists prices ≤ named

-- where the version has price lists, the record names one that is named already, or the next one
abbrev pub Names : Form → List (List ℕ) → ℕ → TreeNode → Type 0
Names First lists named node = ⊤
Names Second lists named node = IfSome (record_prices node) (IsNext lists named)
Names Third lists named node = IfSome (record_prices node) (IsNext lists named)

-- each record names a list that is named already, or the next one, where so many are named before them
unfoldable pub AreNamed : Form → List (List ℕ) → ℕ → List TreeNode → Type 0
AreNamed form lists named [] = ⊤
AreNamed form lists named (node ∷ nodes) = Names form lists named node × AreNamed form lists (named_behind form lists named node) nodes

-- lists of so many numbers below 2^128, each different from those before it
unfoldable pub AreNew : ℕ → List (List ℕ) → List (List ℕ) → Type 0
AreNew entries before [] = ⊤
AreNew entries before (list ∷ lists) = (length list ≡ entries) × AllByRecursion (λ n. n < 2 ^ 128) list × (is_among before list ≡ false) × AreNew entries (before ++ list ∷ []) lists

-- ---- reading them

-- the list of this number, where it is one of the lists and no list before it is left out
abbrev pub listed : List (List ℕ) → ℕ → List ℕ → Option (List ℕ)
listed lists named [] = None
listed lists named (n ∷ []) = if nat_le n named then slice_get lists n else None
listed lists named (n ∷ m ∷ ns) = None

-- the leaf with the prices that these numbers stand for
abbrev pub priced : List (List ℕ) → ℕ → Evidence → Option Evidence
priced lists named (Bound ns) = option_map (λ prices. Bound prices) (listed lists named ns)
priced lists named Routed = Some Routed
priced lists named (Overfull link) = Some (Overfull link)
priced lists named (Cut demand reached) = Some (Cut demand reached)
priced lists named (Far demand) = Some (Far demand)
priced lists named (Crowd ns) = option_map (λ prices. Crowd prices) (listed lists named ns)
priced lists named (Open ns) = option_map (λ prices. Open prices) (listed lists named ns)

-- the record with the prices that its number stands for
abbrev pub with_listed_prices : List (List ℕ) → ℕ → TreeNode → Option TreeNode
with_listed_prices lists named (Split demand at left right) = Some (Split demand at left right)
with_listed_prices lists named (Loads place load) = Some (Loads place load)
with_listed_prices lists named (Leaf evidence) = option_map (λ found. Leaf found) (priced lists named evidence)

-- the record that is shown so
abbrev pub meant : Form → List (List ℕ) → ℕ → TreeNode → Option TreeNode
meant First lists named node = Some node
meant Second lists named node = with_listed_prices lists named node
meant Third lists named node = with_listed_prices lists named node

-- the record that is shown so, where the version has a line for it
unfoldable pub resolved : Form → List (List ℕ) → ℕ → TreeNode → Option TreeNode
resolved form lists named node = if has_line form node then meant form lists named node else None
