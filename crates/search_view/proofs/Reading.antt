-- What is read of the pool's fields at a node with a round.
use Rattle.search_nodes.specs.declared.slot.Slot.{Slot}
use Rattle.std.proofs.Common.{◌≡◌, ℕ, ◌<◌, ◌≤◌, List, length, get_or, Option, Some, None, slice_get, refl, sym, ap, subst, ◌∙◌, arith}
use Rattle.std.specs.Prelude.{Result, Ok, Err, IfOk, is_some, option_map, option_and_then, IsSome, IsSomeAnd}
use Rattle.std.proofs.lemmas.Option.{slice_get_within, slice_get-get_or, get_or_from_slice_get}
use Rattle.plan_base.specs.declared.ids.BranchId.{BranchId}
use Rattle.plan_base.specs.declared.parts.Parts.{Parts}
use Rattle.link_steps.specs.declared.range.LoadRange.{LoadRange}
use Rattle.arc_restrict.specs.Rows.{Rows, forbids, HasSizeOf}
use Rattle.proof_tree.specs.declared.cuts.Cut.{Cut}
use Rattle.cut_values.specs.Numbers.{AreNumbers}
use Rattle.path_pricing.specs.Priced.{ArePrices}
use Rattle.branch_tree.specs.declared.node.Fate.{Fate}
use Rattle.branch_tree.specs.declared.node.Fate.TheVariants.{Undone}
use Rattle.search_machine.specs.State.{Node, State, restriction_of, ranges_of, region_of}
use Rattle.search_machine.specs.Nodes.{IsSoundRound}
use Rattle.search_machine.specs.Soundness.{IsSound}
use Rattle.search_nodes.specs.Grounds.{Kept, rows_in, ranges_in, IsKeptRegion, IsGroundOf, HasGrounds}
use Rattle.search_view.specs.Views.{IsPool}
use Rattle.search_machine.proofs.Replacing.{node_at}
use Rattle.search_machine.proofs.Small.{IsSound-nodes}
use Rattle.search_machine.proofs.Runs.{IsReachable-sound}
use Rattle.search_view.proofs.TaskLaws.{HasRound, has-undone}

-- the round of a node of a sound state is sound at the node's restriction
pub sound-round : (s : State) (id : BranchId) → IsSound s → (h : HasRound s id) → IsSoundRound s.problem s.cuts (restriction_of h.node) h.round
sound-round s id sound h = let in_round = rw h.is_round at ((node_at s id.0 h.node sound h.is_node).round) in in_round.1

-- numbers have a price for each place, and none above the limit
pub numbers-prices : (p : Parts) (cuts : List Cut) (numbers : List ℕ) → AreNumbers p cuts numbers → ArePrices p numbers
numbers-prices p cuts numbers h = let count = h.count in record { count = omega arith; within_limit = h.lawful.prices_within }

-- the prices of a node's round have one for each place at least, and none above the limit
pub round-prices : (s : State) (id : BranchId) → IsSound s → (h : HasRound s id) → ArePrices s.problem h.round.prices
round-prices s id sound h = numbers-prices s.problem s.cuts h.round.prices (sound-round s id sound h).prices

-- a ground keeps the region of the node
pub record HasKept (p : Parts) (node : Node) (ground : Option Kept) : Type 0 where
  pub kept : Kept
  pub is_ground : ground ≡ Some kept
  pub is_region : IsKeptRegion p (region_of p node) kept

kept-by : (p : Parts) (node : Node) (ground : Option Kept) → IsGroundOf p (region_of p node) Undone ground → HasKept p node ground
kept-by p node None h = absurd h
kept-by p node (Some kept) h = record { kept = kept; is_ground = refl; is_region = h }

-- the ground that is read at the place of an open leaf
pub read-kept : (s : State) (id : BranchId) (grounds : List (Option Kept)) (node : Node) (item : Option Kept) → HasGrounds s.problem s.nodes grounds → slice_get s.nodes id.0 ≡ Some node → node.fate ≡ Undone
    → item ≡ get_or grounds id.0 item → HasKept s.problem node item
read-kept s id grounds node item keeps is undone read =
    let g = keeps.each id.0 node is in
    let same : item ≡ g.0 = read ∙ get_or_from_slice_get grounds id.0 g.0 item g.1 in
    kept-by s.problem node item (subst (λ (o : Option Kept). IsGroundOf s.problem (region_of s.problem node) Undone o) (sym same)
    (subst (λ (f : Fate). IsGroundOf s.problem (region_of s.problem node) f g.0) undone g.2))

-- the same of a node with a round
pub round-kept : (s : State) (id : BranchId) (grounds : List (Option Kept)) (item : Option Kept) → IsSound s → HasGrounds s.problem s.nodes grounds → (h : HasRound s id)
    → item ≡ get_or grounds id.0 item → HasKept s.problem h.node item
round-kept s id grounds item sound keeps h read = read-kept s id grounds h.node item keeps h.is_node (has-undone s id sound h) read

-- a pool has at most 8193 nodes
pub nodes-few : (s : State) (places : List Slot) → IsPool s places → length s.nodes ≤ 8193
nodes-few s places h =
    let most = IsSound-nodes s (IsReachable-sound s h.reachable) in
    let b = h.budget in
    omega arith

-- the round of a node that is read at its place
pub read-round : (nodes : List Node) (n : ℕ) (item : Node) → n < length nodes → item ≡ get_or nodes n item → option_and_then (λ (node : Node). node.round) (slice_get nodes n) ≡ item.round
read-round nodes n item within read =
    ap (option_and_then (λ (node : Node). node.round)) (slice_get-get_or nodes n item within ∙ ap (λ (x : Node). Some x) (sym read))

-- where the image of an option is there, the option is
pub map-some : {A B : Type 0} (f : A → B) (o : Option A) → IsSome (option_map f o) → IsSome o
map-some f None h = h
map-some f (Some x) h = refl

-- a node with a round has a number below the count of nodes
pub has-within : (s : State) (id : BranchId) → HasRound s id → id.0 < length s.nodes
has-within s id h = slice_get_within s.nodes id.0 h.node h.is_node

-- what a shown option says of the option itself
pub shown-some : {A B : Type 0} (f : A → B) (o : Option A) (q : Option B) → option_map f o ≡ q → IsSome q → IsSome o
shown-some f o q e some = map-some f o (ap is_some e ∙ some)

-- what is shown of an option that is there is the image of its value
pub shown-value : {A B : Type 0} (f : A → B) (o : Option A) (x : A) (q : Option B) → option_map f o ≡ q → o ≡ Some x → Some (f x) ≡ q
shown-value f o x q e is = sym (ap (option_map f) is) ∙ e

-- what is shown of a ground that keeps the node's region, and unwrapped
module _ {A : Type 0} (p : Parts) (node : Node) (item : Option Kept) (w : HasKept p node item) (o : Option A) where
  -- where a part of a kept region is shown, what shows it is there
  pub kept-some : {B : Type 0} (f : A → B) (g : Kept → B) → option_map f o ≡ option_map g item → IsSome o
  kept-some f g shown = shown-some f o (Some (g w.kept)) (shown ∙ ap (option_map g) w.is_ground) refl

  kept-value : {B : Type 0} (f : A → B) (g : Kept → B) (x : A) → option_map f o ≡ option_map g item → o ≡ Some x → f x ≡ g w.kept
  kept-value {B} f g x shown is = let both : ◌≡◌ {A = Option B} (Some (f x)) (Some (g w.kept)) = shown-value f o x (option_map g item) shown is ∙ ap (option_map g) w.is_ground in cc

  -- rows that are shown of a kept region forbid what the node's restriction does, and fit the instance
  pub kept-rows : (f : A → Rows) (x : A) → option_map f o ≡ rows_in item → o ≡ Some x → (forbids (f x) ≡ restriction_of node) × HasSizeOf p (f x)
  kept-rows f x shown is =
      let same = kept-value f (λ kept. kept.rows) x shown is in
      (ap forbids same ∙ w.is_region.forbidden, subst (HasSizeOf p) (sym same) w.is_region.size)

  -- ranges that are shown of a kept region are those of the node
  pub kept-ranges : (f : A → List LoadRange) (x : A) → option_map f o ≡ ranges_in item → o ≡ Some x → f x ≡ ranges_of p node
  kept-ranges f x shown is = kept-value f (λ kept. kept.ranges) x shown is ∙ w.is_region.ranges

  -- where a whole kept region is shown, what shows it is there
  pub plot-some : (f : A → Kept) → option_map f o ≡ item → IsSome o
  plot-some f shown = shown-some f o (Some w.kept) (shown ∙ w.is_ground) refl

  -- a whole region that is shown of the kept one is that of the node
  pub plot-region : (f : A → Kept) (x : A) → option_map f o ≡ item → o ≡ Some x → IsKeptRegion p (region_of p node) (f x)
  plot-region f x shown is =
      let both : ◌≡◌ {A = Option Kept} (Some (f x)) (Some w.kept) = shown-value f o x item shown is ∙ w.is_ground in
      let same : f x ≡ w.kept = cc in
      subst (IsKeptRegion p (region_of p node)) (sym same) w.is_region

-- a node with a round has a place among the kept regions
pub ground-within : (s : State) (id : BranchId) (grounds : List (Option Kept)) → HasGrounds s.problem s.nodes grounds → HasRound s id → id.0 < length grounds
ground-within s id grounds keeps h = let count = keeps.count in let below = has-within s id h in omega arith

-- what follows from what a result says of its value may be said of it instead
pub if_ok : {X E : Type 0} (r : Result X E) (P Q : X → Type 0) → ((x : X) → P x → Q x) → IfOk r P → IfOk r Q
if_ok (Ok x) P Q f h = f x h
if_ok (Err e) P Q f h = tt

-- an option of whose value something holds is there
pub some_and-some : {A : Type 0} (P : A → Type 0) (o : Option A) → IsSomeAnd o P → IsSome o
some_and-some P None h = absurd h
some_and-some P (Some x) h = refl
