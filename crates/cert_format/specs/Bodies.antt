-- What a line is read as, without its line end. No public clause cites this module.
use Rattle.std.specs.Prelude.{ℕ, zero, suc, ◌-◌, ◌^◌, Bool, true, false, not, if◌then◌else◌, ◌==◌, ◌&&◌, nat_lt, nat_le, List, [], ◌∷◌, length, take, drop, codes, Option, Some, None, ℤ, pos, negsuc}
use Rattle.std.specs.Option.{option_map}
use Rattle.std.specs.Str.{bytes_eq}
use Rattle.plan_base.specs.declared.ids.ArcId.{ArcId}
use Rattle.plan_base.specs.declared.limits.TheConstants.{MAX_NODES, MAX_LINKS, MAX_DEMANDS, MAX_MODULES}
use Rattle.proof_tree.specs.declared.limits.TheConstants.{MAX_PATH_ARCS, MAX_SIDE_ARCS}
use Rattle.proof_tree.specs.declared.cuts.Cut.{Cut as LoadCut}
use Rattle.proof_tree.specs.declared.tree.Evidence.{Evidence}
use Rattle.proof_tree.specs.declared.tree.Evidence.TheVariants.{Bound, Routed, Overfull, Cut, Far, Crowd, Open}
use Rattle.proof_tree.specs.declared.tree.TreeNode.{TreeNode}
use Rattle.proof_tree.specs.declared.tree.TreeNode.TheVariants.{Split, Loads, Leaf}
use Rattle.proof_tree.specs.declared.plan.PlanStatus.{PlanStatus}
use Rattle.proof_tree.specs.declared.plan.PlanStatus.TheVariants.{Optimal, Infeasible, Undecided}
use Rattle.cert_format.specs.declared.bodies.Sizes.{Sizes}
use Rattle.cert_format.specs.declared.form.Form.{Form}
use Rattle.cert_format.specs.declared.form.Form.TheVariants.{First, Second, Third}
use Rattle.cert_format.specs.Lists.{is_among, width, resolved}
use Rattle.plan_tokens.specs.Words.{◌>>=◌, behind, before, each, numbers_of, grains_of, numbers_after_word}

-- the value, where the test holds
abbrev pub only_if : {A : Type 0} → Bool → A → Option A
only_if test x = if test then Some x else None

-- what the first finds, read by f; where it finds nothing, the other
abbrev pub choose : {A B : Type 0} → Option A → (A → Option B) → Option B → Option B
choose (Some x) f other = f x
choose None f other = other

-- nothing but these bytes
unfoldable pub fixed_of : List ℕ → List ℕ → Option (Unit {0})
fixed_of line body = only_if (bytes_eq body line) tt

-- a list of one number from low to high
unfoldable pub one_in : ℕ → ℕ → List ℕ → Option ℕ
one_in low high [] = None
one_in low high (n ∷ []) = only_if (nat_le low n && nat_le n high) n
one_in low high (n ∷ m ∷ ns) = None

-- a word and a number from low to high
unfoldable pub number_row : List ℕ → ℕ → ℕ → List ℕ → Option ℕ
number_row word low high body = numbers_after_word word body >>= one_in low high

-- these three sizes
abbrev pub sizes_with : ℕ → ℕ → ℕ → ℕ × ℕ × ℕ
sizes_with nodes links demands = (nodes, links, demands)

-- three numbers that are sizes of an instance
unfoldable pub sizes_in : List ℕ → Option (ℕ × ℕ × ℕ)
sizes_in (nodes ∷ links ∷ demands ∷ []) = only_if (nat_le nodes MAX_NODES && nat_le links MAX_LINKS && nat_le demands MAX_DEMANDS) (sizes_with nodes links demands)
sizes_in _ = None

-- the counts of nodes, links and demands
unfoldable pub count_row : List ℕ → Option (ℕ × ℕ × ℕ)
count_row body = numbers_after_word (codes "SIZE") body >>= sizes_in

-- the counts, and whether each direction of a link has a price of its own
abbrev pub with_both : Bool → ℕ × ℕ × ℕ → Sizes
with_both both counts = record { nodes = counts.0; links = counts.1; demands = counts.2; both = both }

-- the counts, and behind them whether each direction of a link has a price of its own
unfoldable pub both_row : List ℕ → Option Sizes
both_row body =
    choose (before (codes " ONE") body) (λ rest. option_map (with_both false) (count_row rest))
    (choose (before (codes " BOTH") body) (λ rest. option_map (with_both true) (count_row rest)) None)

-- the sizes
unfoldable pub size_row : Form → List ℕ → Option Sizes
size_row First body = option_map (with_both false) (count_row body)
size_row Second body = both_row body
size_row Third body = both_row body

-- the version
unfoldable pub form_of : List ℕ → Option Form
form_of body =
    if bytes_eq body (codes "SNDPLAN 1") then Some First else
    if bytes_eq body (codes "SNDPLAN 2") then Some Second else
    if bytes_eq body (codes "SNDPLAN 3") then Some Third else None

-- the status
unfoldable pub status_of : List ℕ → Option PlanStatus
status_of body =
    if bytes_eq body (codes "STATUS OPTIMAL") then Some Optimal else
    if bytes_eq body (codes "STATUS INFEASIBLE") then Some Infeasible else
    if bytes_eq body (codes "STATUS UNDECIDED") then Some Undecided else None

-- the word none, or what the bytes are read as
abbrev pub none_or : {A : Type 0} → (List ℕ → Option A) → List ℕ → Option (Option A)
none_or f bytes = if bytes_eq bytes (codes "none") then Some None else option_map (λ x. Some x) (f bytes)

-- an optimal plan has a cost, and an infeasible one has none
abbrev pub cost_allowed : PlanStatus → Option ℕ → Bool
cost_allowed Optimal None = false
cost_allowed Optimal (Some cost) = true
cost_allowed Infeasible None = true
cost_allowed Infeasible (Some cost) = false
cost_allowed Undecided cost = true

-- the cost
unfoldable pub cost_of : PlanStatus → List ℕ → Option (Option ℕ)
cost_of status body = behind (codes "COST ") body >>= none_or grains_of >>= λ cost. only_if (cost_allowed status cost) cost

-- a bound that is not negative
abbrev pub positive : ℕ → Option ℤ
positive n = only_if (nat_lt n (2 ^ 127)) (pos n)

-- a negative bound of this size
abbrev pub negative : ℕ → Option ℤ
negative zero = None
negative (suc n) = only_if (nat_lt n (2 ^ 127)) (negsuc n)

-- a canonical decimal, perhaps with a minus in front
unfoldable pub signed_of : List ℕ → Option ℤ
signed_of bytes = choose (behind (codes "-") bytes) (λ rest. grains_of rest >>= negative) (grains_of bytes >>= positive)

-- the bound
unfoldable pub bound_of : List ℕ → Option (Option ℤ)
bound_of body = behind (codes "BOUND ") body >>= none_or signed_of

-- an arc of this number
abbrev pub numbered_arc : ℕ → ArcId
numbered_arc n = record { 0 = n }

-- an arc of this number, where it fits
abbrev pub arc_of : ℕ → Option ArcId
arc_of n = only_if (nat_lt n (2 ^ 32)) (numbered_arc n)

-- a count, where it fits
abbrev pub fitting_count : ℕ → Option ℕ
fitting_count n = only_if (nat_lt n (2 ^ 64)) n

-- the numbers behind their count, at most so many
abbrev pub uncounted : ℕ → List ℕ → Option (List ℕ)
uncounted most [] = None
uncounted most (m ∷ ns) = only_if (m == length ns && nat_le m most) ns

-- a path
unfoldable pub path_of : List ℕ → Option (List ArcId)
path_of body = numbers_after_word (codes "PATH") body >>= uncounted MAX_PATH_ARCS >>= each arc_of

-- the counts of a link's modules
unfoldable pub modules_of : List ℕ → Option (List ℕ)
modules_of body = numbers_after_word (codes "MODULES") body >>= uncounted MAX_MODULES >>= each fitting_count

-- ---- records

-- each number is greater than the one before it
unfoldable pub ascends : List ℕ → Bool
ascends [] = true
ascends (n ∷ []) = true
ascends (n ∷ m ∷ ns) = nat_lt n m && ascends (m ∷ ns)

-- arcs of a side
abbrev pub side_arcs : List ℕ → Option (List ArcId)
side_arcs ns = if ascends ns then each arc_of ns else None

-- arcs, and the numbers behind them
abbrev pub with_rest : List ℕ → List ArcId → List ArcId × List ℕ
with_rest rest arcs = (arcs, rest)

-- one side of a split, and the numbers behind it
unfoldable pub side_of : List ℕ → Option (List ArcId × List ℕ)
side_of [] = None
side_of (m ∷ ns) = if nat_le m MAX_SIDE_ARCS && nat_le m (length ns) then option_map (with_rest (drop m ns)) (side_arcs (take m ns)) else None

-- both sides
abbrev pub two_sides : List ArcId → List ArcId → List ArcId × List ArcId
two_sides left right = (left, right)

-- the right side, and no number behind it
abbrev pub right_side : List ArcId × List ℕ → List ArcId × List ℕ → Option (List ArcId × List ArcId)
right_side left right = only_if (length right.1 == 0) (two_sides left.0 right.0)

-- the right side behind the left one
abbrev pub behind_left : List ArcId × List ℕ → Option (List ArcId × List ArcId)
behind_left left = side_of left.1 >>= right_side left

-- both sides of a split, and no number behind them
unfoldable pub sides_of : List ℕ → Option (List ArcId × List ArcId)
sides_of ns = side_of ns >>= behind_left

-- a split of this demand, node and sides
abbrev pub split_with : ℕ → ℕ → List ArcId × List ArcId → TreeNode
split_with demand at sides = Split (record { 0 = demand }) (record { 0 = at }) sides.0 sides.1

-- the numbers of a split
unfoldable pub split_in : List ℕ → Option TreeNode
split_in [] = None
split_in (demand ∷ []) = None
split_in (demand ∷ at ∷ ns) = if nat_lt demand (2 ^ 32) && nat_lt at (2 ^ 32)
    then option_map (split_with demand at) (sides_of ns) else None

-- the numbers of a load split
unfoldable pub loads_in : List ℕ → Option TreeNode
loads_in [] = None
loads_in (place ∷ []) = None
loads_in (place ∷ load ∷ []) = only_if (nat_lt place (2 ^ 32) && nat_lt load (2 ^ 64)) (Loads place load)
loads_in (place ∷ load ∷ n ∷ ns) = None

-- the numbers behind the first, where that is this one
unfoldable pub behind_number : ℕ → List ℕ → Option (List ℕ)
behind_number at [] = None
behind_number at (n ∷ ns) = only_if (n == at) ns

-- for each node from a place on, so many, whether it is in the ascending list
unfoldable pub flags_of : ℕ → ℕ → List ℕ → Option (List Bool)
flags_of at zero ns = only_if (length ns == 0) []
flags_of at (suc left) ns = choose (behind_number at ns) (λ rest. option_map (λ flags. true ∷ flags) (flags_of (suc at) left rest)) (option_map (λ flags. false ∷ flags) (flags_of (suc at) left ns))

-- a set of nodes: how many there are, at most all, and the nodes ascending
unfoldable pub set_of : ℕ → List ℕ → Option (List Bool)
set_of nodes ns = uncounted nodes ns >>= flags_of 0 nodes

-- a cut of this demand
abbrev pub cut_with : ℕ → List Bool → Evidence
cut_with demand reached = Cut (record { 0 = demand }) reached

-- an overfull link of this number
abbrev pub overfull_with : ℕ → Evidence
overfull_with link = Overfull (record { 0 = link })

-- the numbers of a cut
unfoldable pub cut_in : ℕ → List ℕ → Option Evidence
cut_in nodes [] = None
cut_in nodes (demand ∷ ns) = if nat_lt demand (2 ^ 32)
    then option_map (cut_with demand) (set_of nodes ns) else None

-- a demand of this number that is far
abbrev pub far_with : ℕ → Evidence
far_with demand = Far (record { 0 = demand })

-- one number of a link or a demand, and no other
unfoldable pub lone_number : List ℕ → Option ℕ
lone_number bytes = numbers_of bytes >>= one_in 0 (2 ^ 32 - 1)

-- so many numbers
unfoldable pub prices_of : ℕ → List ℕ → Option (List ℕ)
prices_of count bytes = numbers_of bytes >>= λ ns. only_if (length ns == count) ns

-- a leaf that is closed or open by so many prices
unfoldable pub priced_of : ℕ → List ℕ → Option Evidence
priced_of count body =
    choose (behind (codes "PRICED") body) (λ rest. option_map (λ prices. Bound prices) (prices_of count rest))
    (choose (behind (codes "CROWD") body) (λ rest. option_map (λ prices. Crowd prices) (prices_of count rest))
    (choose (behind (codes "OPEN") body) (λ rest. option_map (λ prices. Open prices) (prices_of count rest)) None))

-- a leaf, where so many numbers stand for prices
unfoldable pub leaf_of : ℕ → ℕ → List ℕ → Option Evidence
leaf_of nodes count body =
    choose (fixed_of (codes "ROUTED") body) (λ _. Some Routed)
    (choose (behind (codes "OVERFULL") body) (λ rest. option_map overfull_with (lone_number rest))
    (choose (behind (codes "CUT") body) (λ rest. numbers_of rest >>= cut_in nodes)
    (choose (behind (codes "FAR") body) (λ rest. option_map far_with (lone_number rest))
    (priced_of count body))))

-- a record, where so many numbers stand for prices
unfoldable pub record_of : ℕ → ℕ → List ℕ → Option TreeNode
record_of nodes count body =
    choose (behind (codes "SPLIT") body) (λ rest. numbers_of rest >>= split_in)
    (choose (behind (codes "LOADS") body) (λ rest. numbers_of rest >>= loads_in)
    (option_map (λ evidence. Leaf evidence) (leaf_of nodes count body)))

-- a record that names no list which is not there, and leaves none out
unfoldable pub record_in : Form → List (List ℕ) → ℕ → ℕ → ℕ → List ℕ → Option TreeNode
record_in form lists named nodes entries body = record_of nodes (width form entries) body >>= resolved form lists named

-- a price list that is none of those before it
unfoldable pub list_row : ℕ → List (List ℕ) → List ℕ → Option (List ℕ)
list_row entries lists body = numbers_after_word (codes "P") body >>= λ ns. only_if (length ns == entries && not (is_among lists ns)) ns

-- ---- the cuts of the plan

-- a cut of these numbers and nodes
abbrev pub load_cut_with : ℕ → ℕ → ℕ → List Bool → LoadCut
load_cut_with period first installed nodes = record { nodes = nodes; period = period; first = first; counts_installed = installed == 1 }

-- the numbers of a cut
unfoldable pub load_cut_in : ℕ → List ℕ → Option LoadCut
load_cut_in nodes [] = None
load_cut_in nodes (period ∷ []) = None
load_cut_in nodes (period ∷ first ∷ []) = None
load_cut_in nodes (period ∷ first ∷ installed ∷ ns) = if nat_lt period (2 ^ 64) && nat_lt first (2 ^ 64) && nat_le installed 1
    then option_map (load_cut_with period first installed) (set_of nodes ns) else None

-- a cut
unfoldable pub load_cut_row : ℕ → List ℕ → Option LoadCut
load_cut_row nodes body = numbers_after_word (codes "C") body >>= load_cut_in nodes
