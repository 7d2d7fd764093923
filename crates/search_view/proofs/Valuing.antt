-- What is read of the pool's fields at a node with a gathered round.
use Rattle.std.proofs.Common.{◌≡◌, ℕ, ◌≤◌, List, length, get_or, Option, Some, None, slice_get, refl, sym, ap, subst, ◌∙◌, arith}
use Rattle.std.specs.Prelude.{IsSome, option_map, option_and_then}
use Rattle.std.proofs.lemmas.Option.{get_or_from_slice_get}
use Rattle.plan_base.specs.declared.ids.BranchId.{BranchId}
use Rattle.plan_base.specs.declared.parts.Parts.{Parts}
use Rattle.plan_base.specs.declared.limits.TheConstants.{MAX_DEMANDS}
use Rattle.link_steps.specs.declared.range.LoadRange.{LoadRange}
use Rattle.link_steps.specs.Ranges.{AreRanges}
use Rattle.arc_restrict.specs.Restrictions.{Forbidden}
use Rattle.arc_restrict.specs.Rows.{Rows, forbids}
use Rattle.proof_tree.specs.declared.cuts.Cut.{Cut}
use Rattle.cut_values.specs.Numbers.{AreNumbers}
use Rattle.column_pool.specs.Columns.{permitted_at, AreColumns}
use Rattle.master_step.specs.Columns.{Choices, HasColumns}
use Rattle.search_machine.specs.State.{Round, Node, State, round_of, restriction_of, ranges_of}
use Rattle.search_machine.specs.Gathering.{columns_for}
use Rattle.search_machine.specs.Soundness.{IsSound}
use Rattle.search_machine.proofs.Frames.{one_at}
use Rattle.search_machine.proofs.Replacing.{node_at}
use Rattle.search_machine.proofs.GatheredRounds.{gathered-columns}
use Rattle.search_view.specs.Valuing.{IsGatheredAt, ForRound}
use Rattle.search_view.proofs.TaskLaws.{HasRound, has-round, round_of-has}
use Rattle.search_nodes.specs.Grounds.{Kept, HasGrounds}
use Rattle.search_view.proofs.Reading.{sound-round, round-kept, plot-region}

-- a node with a gathered round
abbrev pub gathered-round : (s : State) (id : BranchId) → IsGatheredAt s id → HasRound s id
gathered-round s id h =
    let is = h.is_gathered.complete_round in
    record { node = h.node; round = h.round; is_node = is.is_node; is_round = is.is_round }

-- the columns of the node, as a restriction that equals its own permits them
pub rows-columns : (s : State) (id : BranchId) (r : Forbidden) → IsSound s → (h : IsGatheredAt s id) → r ≡ restriction_of h.node → HasColumns s.problem (permitted_at r s.columns)
rows-columns s id r sound h same =
    subst (λ (x : Forbidden). HasColumns s.problem (permitted_at x s.columns)) (sym same) (gathered-columns s id h.version h.node h.round sound h.is_gathered)

-- a round that is read has a list for each of its demands
pub round-lists : (s : State) (id : BranchId) (round : Round) → IsSound s → Some round ≡ round_of s id → length round.found ≤ length s.columns
round-lists s id round sound is =
    let h = has-round s id (read-some (round_of s id) round (sym is)) in
    let both : Some round ≡ Some h.round = is ∙ round_of-has s id h in
    let same : round ≡ h.round = cc in
    let count : length round.found ≡ length h.round.found = ap (λ (r : Round). length r.found) same in
    let c = (sound-round s id sound h).count in
    let l = sound.columns.count in
    omega arith
  where
    read-some : (o : Option Round) (r : Round) → o ≡ Some r → IsSome o
    read-some None r e = absurd (let bad : ◌≡◌ {A = Option Round} None (Some r) = e in cc)
    read-some (Some x) r e = refl

-- a round that is read has at most as many entries as there may be demands
pub round-few : (s : State) (id : BranchId) (round : Round) → IsSound s → Some round ≡ round_of s id → length round.found ≤ MAX_DEMANDS
round-few s id round sound is =
    let most = round-lists s id round sound is in
    let l = sound.columns.count in
    let d = sound.lawful.demand_count in
    omega arith

-- the region that is read of a node with a gathered round: what is forbidden there, and its ranges
pub record IsRead (s : State) (id : BranchId) (at : IsGatheredAt s id) (rows : Rows) (ranges : List LoadRange) : Type 0 where
  pub forbidden : forbids rows ≡ restriction_of at.node
  pub ranges_are : ranges ≡ ranges_of s.problem at.node

-- what is shown of the kept region of a node with a gathered round is read of it
pub region-read : {A : Type 0} (f : A → Kept) (s : State) (id : BranchId) (grounds : List (Option Kept)) (item : Option Kept) (o : Option A) (x : A) (rows : Rows) (ranges : List LoadRange) → IsSound s
    → HasGrounds s.problem s.nodes grounds → (at : IsGatheredAt s id) → item ≡ get_or grounds id.0 item → option_map f o ≡ item → o ≡ Some x → rows ≡ (f x).rows → ranges ≡ (f x).ranges → IsRead s id at rows ranges
region-read f s id grounds item o x rows ranges sound keeps at read shown is is_rows are =
    let w = round-kept s id grounds item sound keeps (gathered-round s id at) read in
    let region = plot-region s.problem at.node item w o f x shown is in
    record { forbidden = ap forbids is_rows ∙ region.forbidden; ranges_are = are ∙ region.ranges }

-- What a valuing asks for, and what it tells, where the instance and the restriction are those of the pool

module _ (s : State) (id : BranchId) (sound : IsSound s) (at : IsGatheredAt s id) (p : Parts) (rows : Rows) (is_p : p ≡ s.problem) (is_rows : forbids rows ≡ restriction_of at.node) where
  -- numbers as they have to be for the pool's instance and cuts are so for those that are read
  pub ask-numbers : (cuts : List Cut) (numbers : List ℕ) → cuts ≡ s.cuts → AreNumbers s.problem s.cuts numbers → AreNumbers p cuts numbers
  ask-numbers cuts numbers is_cuts h = subst (λ (q : Parts). AreNumbers q cuts numbers) (sym is_p) (subst (λ (xs : List Cut). AreNumbers s.problem xs numbers) (sym is_cuts) h)

  -- the columns of the pool are columns of the instance that is read
  pub ask-columns : AreColumns p s.columns
  ask-columns = subst (λ (q : Parts). AreColumns q s.columns) (sym is_p) sound.columns

  -- the restriction that is read leaves each demand a column
  pub ask-permitted : HasColumns p (permitted_at (forbids rows) s.columns)
  ask-permitted = subst (λ (q : Parts). HasColumns q (permitted_at (forbids rows) s.columns)) (sym is_p) (rows-columns s id (forbids rows) sound at is_rows)

  -- the ranges that are read give each place a load, and none above its link's top load
  pub ask-ranges : (ranges : List LoadRange) → ranges ≡ ranges_of s.problem at.node → AreRanges p ranges
  ask-ranges ranges same =
      let is = at.is_gathered.complete_round in
      subst (λ (q : Parts). AreRanges q ranges) (sym is_p) (subst (AreRanges s.problem) (sym same) (node_at s id.0 at.node sound is.is_node).ranges)

  -- what is so of the instance, the ranges and the restriction is so of the node
  pub tell : (P : Parts → List LoadRange → Choices → List ℕ → Type 0) (ranges : List LoadRange) (prices : List ℕ) → ranges ≡ ranges_of s.problem at.node → P p ranges (permitted_at (forbids rows) s.columns) prices
      → ForRound s id (λ x round. P s.problem (ranges_of s.problem x) (columns_for s x) prices)
  tell P ranges prices is_ranges h node round is_node is_round =
      let same : node ≡ at.node = one_at s.nodes id.0 node at.node is_node at.is_gathered.complete_round.is_node in
      let here : P s.problem (ranges_of s.problem at.node) (permitted_at (restriction_of at.node) s.columns) prices =
      subst (λ (q : Parts). P q (ranges_of s.problem at.node) (permitted_at (restriction_of at.node) s.columns) prices) is_p
      (subst (λ (xs : List LoadRange). P p xs (permitted_at (restriction_of at.node) s.columns) prices) is_ranges (subst (λ (r : Forbidden). P p ranges (permitted_at r s.columns) prices) is_rows h)) in
      subst (λ (x : Node). P s.problem (ranges_of s.problem x) (columns_for s x) prices) (sym same) here

  -- the same at the prices of the node's round
  pub tell-round : (P : Parts → List LoadRange → Choices → List ℕ → Type 0) (ranges : List LoadRange) (prices : List ℕ) → ranges ≡ ranges_of s.problem at.node → prices ≡ at.round.prices → P p ranges (permitted_at (forbids rows) s.columns) prices
      → ForRound s id (λ x round. P s.problem (ranges_of s.problem x) (columns_for s x) round.prices)
  tell-round P ranges prices is_ranges is_prices h node round is_node is_round =
      let same : node ≡ at.node = one_at s.nodes id.0 node at.node is_node at.is_gathered.complete_round.is_node in
      let both : Some round ≡ Some at.round = sym is_round ∙ ap (λ (x : Node). x.round) same ∙ at.is_gathered.complete_round.is_round in
      let rounds : round ≡ at.round = cc in
      let same_prices : prices ≡ round.prices = is_prices ∙ ap (λ (r : Round). r.prices) (sym rounds) in
      subst (λ (ps : List ℕ). P s.problem (ranges_of s.problem node) (columns_for s node) ps) same_prices (tell P ranges prices is_ranges h node round is_node is_round)

-- the node that is read at its place
pub read-node : (s t : State) (id : BranchId) (item x : Node) → s ≡ t → item ≡ get_or s.nodes id.0 item → slice_get t.nodes id.0 ≡ Some x → item ≡ x
read-node s t id item x same read is = read ∙ get_or_from_slice_get s.nodes id.0 x item (ap (λ (u : State). slice_get u.nodes id.0) same ∙ is)

-- the round that is read, at the node's own
pub same-round : (t : State) (id : BranchId) (read : Round) (x : Node) (round : Round) → Some read ≡ round_of t id → slice_get t.nodes id.0 ≡ Some x → x.round ≡ Some round → read ≡ round
same-round t id read x round is is_node is_round =
    let at : round_of t id ≡ Some round = ap (option_and_then (λ (node : Node). node.round)) is_node ∙ is_round in
    let both : Some read ≡ Some round = is ∙ at in cc
