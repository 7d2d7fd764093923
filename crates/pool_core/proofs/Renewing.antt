-- A publishing: the node's round as it is emptied, and the pool afterwards.
use Rattle.std.proofs.Common.{◌≡◌, ℕ, suc, ◌<◌, ◌≤◌, Bool, List, length, get_or, set, replicate, Option, Some, None, slice_get, refl, sym, ap, subst, ◌∙◌}
use Rattle.std.specs.Prelude.{IfSome, IsSome, IsSomeAnd}
use Rattle.std.proofs.lemmas.List.{length-replicate}
use Rattle.std.proofs.lemmas.Option.{slice_get_within, get_or_from_slice_get}
use Rattle.plan_base.specs.declared.ids.BranchId.{BranchId}
use Rattle.cut_values.specs.Numbers.{CutProblem}
use Rattle.search_nodes.specs.Grounds.{Kept}
use Rattle.search_machine.specs.declared.answers.Publish.TheVariants as publish
use Rattle.search_machine.specs.declared.limits.TheConstants.{MAX_ROUNDS}
use Rattle.branch_tree.specs.declared.node.Fate.TheVariants.{Undone}
use Rattle.search_machine.specs.State.{Round, Node, State, restriction_of, round_of}
use Rattle.search_machine.specs.Changes.{TakesRound}
use Rattle.search_machine.specs.Opening.{empty_round}
use Rattle.search_machine.specs.Publishing.{Publishes}
use Rattle.search_machine.specs.Nodes.{IsSoundRound, IsSoundNode}
use Rattle.search_machine.specs.Machine.{Publishing, to_publishing}
use Rattle.search_machine.specs.Soundness.{IsSound}
use Rattle.search_machine.proofs.Opening.{none_found}
use Rattle.search_machine.proofs.Replacing.{node_at}
use Rattle.search_machine.proofs.Runs.{IsReachable-sound, IsReachable-step}
use Rattle.search_machine.proofs.Small.{IsSound-next_version}
use Rattle.search_nodes.specs.declared.slot.Slot.{Slot}
use Rattle.search_nodes.specs.Rounds.{MayComplete}
use Rattle.search_nodes.proofs.Completing.{TakesRound-round, TakesRound-limits, TakesRound-fate, TakesRound-from}
use Rattle.search_nodes.proofs.Grounds.{HasGrounds-set}
use Rattle.search_view.specs.Views.{HasPlaces, IsPool, IsKeptPool}
use Rattle.pool_core.specs.Valuing.{IsToPublish}
use Rattle.pool_core.specs.declared.pool.following.Following.{Following}
use Rattle.pool_core.specs.Foretold.{IsFollowing}
use Rattle.search_view.proofs.Reading.{sound-round}
use Rattle.search_view.proofs.TaskLaws.{HasRound, round_of-has}
use Rattle.pool_core.proofs.TaskLaws.{has-some}
use Rattle.pool_core.proofs.OfferPool.{HasPlaces-slot}

-- what may follow may be published
abbrev pub to_publish-of : (s : State) (id : BranchId) (seen : ℕ) (prices : List ℕ) (next : Following) → IsFollowing s id seen prices next → IsToPublish s id seen prices next.crowd_tried
to_publish-of s id seen prices next will = record { node = will.node; round = will.round; may = will.may; gains = will.gains; is_mark = will.is_mark }

-- the same in an equal state
pub to_publish-at : (s now : State) (id : BranchId) (seen : ℕ) (prices : List ℕ) (next : Following) → s ≡ now → IsFollowing now id seen prices next → IsToPublish s id seen prices next.crowd_tried
to_publish-at s now id seen prices next is will = to_publish-of s id seen prices next (subst (λ (x : State). IsFollowing x id seen prices next) (sym is) will)

abbrev to_publish-round : (s : State) (id : BranchId) (seen : ℕ) (prices : List ℕ) (mark : Bool) → IsToPublish s id seen prices mark → HasRound s id
to_publish-round s id seen prices mark to =
    let is = to.may.is_gathered.complete_round in
    record { node = to.node; round = to.round; is_node = is.is_node; is_round = is.is_round }

-- a node for which prices may be published has a round
pub to_publish-some : (s : State) (id : BranchId) (seen : ℕ) (prices : List ℕ) (mark : Bool) → IsToPublish s id seen prices mark → IsSome (round_of s id)
to_publish-some s id seen prices mark to = has-some s id (to_publish-round s id seen prices mark to)

-- the slot of the round that is read
pub to_publish-slot : (s : State) (id : BranchId) (seen : ℕ) (prices : List ℕ) (mark : Bool) (to : IsToPublish s id seen prices mark) (read : Round) (slot : ℕ) → Some read ≡ round_of s id → slot ≡ read.slot → slot ≡ to.round.slot
to_publish-slot s id seen prices mark to read slot is is_slot =
    let both : Some read ≡ Some to.round = is ∙ round_of-has s id (to_publish-round s id seen prices mark to) in
    let rounds : read ≡ to.round = cc in
    is_slot ∙ ap (λ (r : Round). r.slot) rounds

-- the slot of the round whose prices are replaced is below the greatest count of active rounds
pub to_publish-below : (s : State) (id : BranchId) (seen : ℕ) (prices : List ℕ) (mark : Bool) (to : IsToPublish s id seen prices mark) → IsSound s → to.round.slot < MAX_ROUNDS
to_publish-below s id seen prices mark to sound = (sound-round s id sound (to_publish-round s id seen prices mark to)).slot

module _ (s : State) (places : List Slot) (id : BranchId) (seen : ℕ) (prices : List ℕ) (mark : Bool) (h : IsPool s places) (to : IsToPublish s id seen prices mark) where
  is_node : slice_get s.nodes id.0 ≡ Some to.node
  is_node = to.may.is_gathered.complete_round.is_node

  is_round : to.node.round ≡ Some to.round
  is_round = to.may.is_gathered.complete_round.is_round

  at_node : IsSoundNode s.problem s.cuts to.node
  at_node = node_at s id.0 to.node (IsReachable-sound s h.reachable) is_node

  -- the node for which prices may be published is neither closed nor divided
  pub renew-undone : to.node.fate ≡ Undone
  renew-undone = (rw is_round at (at_node.round)).0

  had-sound : IsSoundRound s.problem s.cuts (restriction_of to.node) to.round
  had-sound = (rw is_round at (at_node.round)).1

  abbrev marked : Node
  marked = record to.node { crowd_tried = mark }

  abbrev empty : Round
  empty = empty_round s to.round.slot prices

  empty-sound : IsSoundRound s.problem s.cuts (restriction_of to.node) empty
  empty-sound = record {
    slot = had-sound.slot;
    count = length-replicate (length s.problem.demands) None;
    prices = to.may.are_numbers;
    least = λ j found is. absurd (none_found (length s.problem.demands) j found is);
  }

  -- the number of the node for which prices may be published is below the count of nodes
  pub renew-within : id.0 < length s.nodes
  renew-within = slice_get_within s.nodes id.0 to.node is_node

  -- the next version of a pool in which prices may be published is at most 139282
  pub renew-small : s.next_version ≤ 139282
  renew-small = IsSound-next_version s (IsReachable-sound s h.reachable) h.budget

  -- The node as it is read, and as its round has begun anew

  module _ (item : Node) (at_item : item ≡ get_or s.nodes id.0 item) where
    item_is : item ≡ to.node
    item_is = at_item ∙ get_or_from_slice_get s.nodes id.0 to.node item is_node

    -- the read node has a round, with as many prices as are to be published
    pub renew-fits : IsSomeAnd item.round (λ round. length prices ≡ length round.prices)
    renew-fits =
        subst (λ (x : Node). IsSomeAnd x.round (λ round. length prices ≡ length round.prices)) (sym item_is)
        (subst (λ (o : Option Round). IsSomeAnd o (λ round. length prices ≡ length round.prices)) (sym is_round) (to.may.are_numbers.count ∙ sym had-sound.prices.count))

    -- the round that a round is renewed as
    abbrev renewed_round : Round → Round
    renewed_round round = record { slot = round.slot; version = s.next_version; prices = prices; found = replicate (length round.found) None }

    module _ (mid : Node) (renewed : IfSome item.round (λ round. mid ≡ record item { crowd_tried = mark; round = Some (renewed_round round) })) where
      mid_is : mid ≡ record marked { round = Some empty }
      mid_is =
          let make : Node → Round → Node = λ x r. record x { crowd_tried = mark; round = Some r } in
          let there : IfSome to.node.round (λ round. mid ≡ make to.node (renewed_round round)) = subst (λ (x : Node). IfSome x.round (λ round. mid ≡ make x (renewed_round round))) item_is renewed in
          let at : mid ≡ make to.node (renewed_round to.round) = subst (λ (o : Option Round). IfSome o (λ round. mid ≡ make to.node (renewed_round round))) is_round there in
          let none : ℕ → Round = λ n. record { slot = to.round.slot; version = s.next_version; prices = prices; found = replicate n None } in
          at ∙ ap (λ (n : ℕ). make to.node (none n)) had-sound.count

      -- the node has the same limits once its round has begun anew
      pub renewed-limits : mid.limits ≡ to.node.limits
      renewed-limits = ap (λ (x : Node). x.limits) mid_is

      -- the node whose round has begun anew is an open leaf with a sound round, which may become complete
      pub renewed-ready : MayComplete s.problem s.cuts mid
      renewed-ready = subst (MayComplete s.problem s.cuts) (sym mid_is) (record {
        undone = renew-undone;
        price_count = at_node.first_prices.count;
        ranges = at_node.ranges;
        version_count = at_node.version_count;
        is_sound = empty-sound;
      })

      -- what the renewed node becomes with its round is what the marked node becomes with the emptied round
      pub renewed-takes : (new : Node) → IfSome mid.round (λ r. TakesRound s.problem s.cuts mid r new) → TakesRound s.problem s.cuts marked empty new
      renewed-takes new takes = TakesRound-from s.problem s.cuts marked mid new empty mid_is takes

  -- The state after

  module _ (after : Node) (takes : TakesRound s.problem s.cuts marked empty after) (version : ℕ) (version_is : version ≡ suc s.next_version) where
    abbrev next : State
    next = record s { nodes = set s.nodes id.0 after; next_version = version }

    -- the state in which the marked node has taken the emptied round, and one more version is counted, is the event
    pub publishes : (slot : ℕ) → slot ≡ to.round.slot → Publishes s id seen prices slot s.next_version next
    publishes slot slot_is = record {
      node = to.node;
      round = to.round;
      may = to.may;
      gains = to.gains;
      slot_is = slot_is;
      version_is = refl;
      mark = mark;
      is_mark = to.is_mark;
      after = after;
      takes = takes;
      becomes = ap (λ (n : ℕ). let t : State = record s { nodes = set s.nodes id.0 after; next_version = n } in t) version_is;
    }

    has_places : HasPlaces next places
    has_places =
        assumption (HasPlaces-slot s id to.node after to.round empty is_node is_round (TakesRound-round s.problem s.cuts marked empty after takes) refl places s.accepted h.has_places)

    -- the pool stays one, with the same slots, when the prices are published
    pub renewed-kept : (table : CutProblem) (grounds : List (Option Kept)) (item : Node) → item ≡ get_or s.nodes id.0 item → IsKeptPool s table grounds places → IsKeptPool next table grounds places
    renewed-kept table grounds item at_item kept =
        let same : item ≡ to.node = at_item ∙ get_or_from_slice_get s.nodes id.0 to.node item is_node in
        record {
          pool = record {
            some_budget = h.some_budget;
            budget = h.budget;
            reachable = IsReachable-step s next (Publishing id seen prices) (to_publishing (publish.Published to.round.slot s.next_version)) h.reachable (publishes to.round.slot refl);
            has_places = has_places;
          };
          table_is = kept.table_is;
          cuts_are = kept.cuts_are;
          has_grounds = HasGrounds-set s.problem s.nodes grounds id.0 item after (slice_get_within s.nodes id.0 to.node is_node) at_item
              (TakesRound-limits s.problem s.cuts marked empty after takes ∙ ap (λ (x : Node). x.limits) (sym same))
              (TakesRound-fate s.problem s.cuts marked empty after takes ∙ ap (λ (x : Node). x.fate) (sym same)) kept.has_grounds;
        }
