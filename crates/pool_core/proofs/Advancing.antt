-- What a master task of one thread does: the columns are gathered, and prices are published or the node is settled.
use Rattle.std.proofs.Common.{◌≡◌, ℕ, ◌+◌, ◌<◌, ◌≤◌, ◌⊎◌, inl, inr, Bool, true, false, List, length, slice_index, Some, None, slice_get, refl, sym, ap, subst, ◌∙◌, arith}
use Rattle.std.specs.Prelude.{Result, Ok, Err, if◌then◌else◌}
use Rattle.std.specs.declared.alloc.AllocError.{AllocError}
use Rattle.std.proofs.lemmas.List.Elements.{All-from_get_or}
use Rattle.plan_base.specs.declared.ids.BranchId.{BranchId}
use Rattle.plan_base.specs.declared.parts.Parts.{Parts}
use Rattle.plan_base.specs.Facts.{price_limit, is_useful}
use Rattle.plan_base.specs.Arcs.{link_at}
use Rattle.plan_base.specs.Places.{places, link_of_place}
use Rattle.arc_restrict.specs.Prices.{AreWithinLimit}
use Rattle.proof_tree.specs.declared.cuts.Cut.{Cut}
use Rattle.cut_values.specs.Numbers.{AreNumbers}
use Rattle.cut_values.proofs.NoRates.{lawful-within}
use Rattle.column_pool.specs.declared.brief.Brief.{Brief}
use Rattle.column_pool.specs.Columns.{columns_at}
use Rattle.column_pool.specs.Briefs.{IsBriefFor}
use Rattle.master_step.specs.Columns.{HasColumns}
use Rattle.master_step.specs.Outcomes.{HasStalled, AreCrowdPrices}
use Rattle.leaf_tasks.specs.Advances.{IsNext}
use Rattle.search_machine.specs.declared.limits.TheConstants.{MAX_VERSIONS}
use Rattle.search_machine.specs.declared.answers.Gather.{Gather}
use Rattle.search_machine.specs.declared.answers.Gather.TheVariants as gather
use Rattle.search_machine.specs.declared.answers.Publish.{Publish}
use Rattle.search_machine.specs.declared.answers.Settle.{Settle}
use Rattle.search_machine.specs.State.{Node, State, ranges_of}
use Rattle.search_machine.specs.Gathering.{columns_for, has_enough, GatherStep}
use Rattle.search_machine.specs.Settling.{SettleStep}
use Rattle.search_machine.specs.Publishing.{MayFollow, IsBetterStep, IsCrowdStep, PublishStep}
use Rattle.search_machine.specs.Machine.{Gathering, Publishing, Settling, to_gathering, to_publishing, to_settling, IsReachable}
use Rattle.search_machine.specs.Soundness.{IsSound}
use Rattle.search_machine.specs.Tasks.{LeadsTo, IsToAdvance}
use Rattle.search_machine.proofs.Frames.{one_at}
use Rattle.search_machine.proofs.Leads.{LeadsTo-one, LeadsTo-trans}
use Rattle.search_machine.proofs.Runs.{IsReachable-sound}
use Rattle.search_machine.proofs.MasterEvents.{gather-goes, gather-gathers, brief-fits, settle-goes, same-stalled, rise-better, publish-goes}
use Rattle.search_machine.proofs.GatheredRounds.{gathered-columns}
use Rattle.pool_core.specs.Valuing.{IsCompleteAt}
use Rattle.pool_core.specs.Work.{IsCloser, KeepsNodes, IsBriefed}
use Rattle.pool_core.proofs.Steps.{keeps-same, settled-closer, published-closer}

-- Gathering

keeps-columns : (s t u : State) → LeadsTo s t → t ≡ u → u.problem ≡ s.problem → u.nodes ≡ s.nodes → u.examined ≡ s.examined → u.budget ≡ s.budget → KeepsNodes s t
keeps-columns s t u leads is p n e b = record {
  leads = leads;
  problem = ap (λ (x : State). x.problem) is ∙ p;
  nodes = ap (λ (x : State). x.nodes) is ∙ n;
  examined = ap (λ (x : State). x.examined) is ∙ e;
  budget = ap (λ (x : State). x.budget) is ∙ b;
}

-- a gathering, however it is answered, changes no node, no budget and no count of examined nodes
pub gathered-keeps : (s t : State) (id : BranchId) (version : ℕ) (answer : Result Gather AllocError) → GatherStep s id version answer t → KeepsNodes s t
gathered-keeps s t id version answer e = by answer e (LeadsTo-one s t (Gathering id version) (to_gathering answer) e)
  where
    same : t ≡ s → KeepsNodes s t
    same is = subst (KeepsNodes s) (sym is) (keeps-same s)

    by : (a : Result Gather AllocError) → GatherStep s id version a t → LeadsTo s t → KeepsNodes s t
    by (Ok (gather.Taken brief)) x leads = keeps-columns s t _ leads x.becomes refl refl refl refl
    by (Ok (gather.Spent y)) x leads = same x.1
    by (Ok (gather.Stale y)) x leads = same x.1
    by (Ok (gather.Incomplete y)) x leads = same x.1
    by (Err wanting) x leads = elim x [ inl is ↦ same is | inr front ↦ keeps-columns s t _ leads front.becomes refl refl refl refl ]

module _ (s t : State) (id : BranchId) (version : ℕ) (reachable : IsReachable s) (h : IsCompleteAt s id version) where
  -- a gathering that takes no memory away is taken
  pub told-taken : (answer : Gather) → GatherStep s id version (Ok answer) t → ((brief : Brief) → answer ≡ gather.Taken brief → ⊥) → ⊥
  told-taken answer e refused = let w = gather-goes s t id version h.node h.round answer h.is_complete e in refused w.0 w.1

  -- once a gathering is taken, the round is gathered, and the brief is what a master step is told of it
  pub told-briefed : (answer : Gather) (brief : Brief) → answer ≡ gather.Taken brief → GatherStep s id version (Ok answer) t → IsBriefed t id version brief
  told-briefed answer brief is step =
      let e : GatherStep s id version (Ok (gather.Taken brief)) t = subst (λ (a : Gather). GatherStep s id version (Ok a) t) is step in
      record {
        node = e.node;
        round = e.round;
        is_gathered = gather-gathers s t id version brief (IsReachable-sound s reachable) e;
        is_brief = e.is_brief;
      }

-- What the brief is for

module _ (t : State) (id : BranchId) (version : ℕ) (brief : Brief) (sound : IsSound t) (b : IsBriefed t id version brief) where
  -- the brief of a gathered round has lawful prices and rates, ranges, and simple paths for each demand
  pub briefed-fits : IsBriefFor t.problem t.cuts brief.prices brief.ranges brief.columns
  briefed-fits = brief-fits t id version b.node b.round brief sound b.is_gathered.complete_round b.is_brief

  -- the brief of a gathered round has a column for each demand
  pub briefed-columns : HasColumns t.problem (columns_at brief.columns)
  briefed-columns k below =
      subst (λ (paths : List _). 0 < length paths) (sym (b.is_brief.columns k below)) (gathered-columns t id version b.node b.round sound b.is_gathered k below)

  -- what is settled or published

  briefed-enough : brief.has_enough ≡ true → has_enough t b.node ≡ true
  briefed-enough h = sym b.is_brief.has_enough ∙ h

  -- where no prices follow from the brief, the node has had enough versions, or no master step gains
  pub briefed-no_more : IsNext t.problem t.cuts brief None → (has_enough t b.node ≡ true) ⊎ HasStalled t.problem t.cuts (ranges_of t.problem b.node) (columns_for t b.node) b.round.prices
  briefed-no_more h = elim h [
    | inl enough ↦ inl (briefed-enough enough)
    | inr stalled ↦ inr (same-stalled t id b.node b.round brief stalled.0 b.is_brief stalled.1)
  ]

  -- prices that follow from the brief are a better step than those of the node's round, or its crowd step
  pub briefed-gains : (prices : List ℕ) → IsNext t.problem t.cuts brief (Some prices) → IsBetterStep t b.node b.round prices ⊎ IsCrowdStep t b.node b.round prices
  briefed-gains prices h = elim h [
    | inl raised ↦ inl (rise-better t id b.node b.round brief raised.old prices raised.new b.is_brief raised.is_rise)
    | inr crowd ↦ inr (record {
      not_tried = sym b.is_brief.crowd_tried ∙ crowd.not_tried;
      crowding = record {
        stalled = same-stalled t id b.node b.round brief crowd.stalled.0 b.is_brief crowd.stalled.1;
        are_crowd = subst (λ (ps : List ℕ). AreCrowdPrices t.problem ps prices) b.is_brief.prices crowd.are_crowd;
      };
    })
  ]

-- The numbers that follow

place-or-behind : (q n : ℕ) → (q < n) ⊎ (n ≤ q)
place-or-behind q n = grind arith

-- crowd prices are within the limit, and behind them the rates are 0
crowd-within : (p : Parts) (old new : List ℕ) → AreWithinLimit p old → AreCrowdPrices p old new → AreWithinLimit p new
crowd-within p old new within h = All-from_get_or (λ price. price ≤ price_limit p) new 0 (λ q here. by q here (place-or-behind q (places p)))
  where
    either : (b : Bool) (price : ℕ) → price ≤ price_limit p → (if b then 0 else price) ≤ price_limit p
    either true price most = omega arith
    either false price most = most

    by : (q : ℕ) → q < length new → (q < places p) ⊎ (places p ≤ q) → slice_index new q ≤ price_limit p
    by q here (inl below) = subst (λ (x : ℕ). x ≤ price_limit p) (sym (h.each q below)) (either (is_useful (link_at p (link_of_place p q))) (slice_index old q) (within q 0 (let same = h.count in omega arith)))
    by q here (inr behind) = let none = h.rates q behind in omega arith

crowd-numbers : (p : Parts) (cuts : List Cut) (old new : List ℕ) → AreNumbers p cuts old → AreCrowdPrices p old new → AreNumbers p cuts new
crowd-numbers p cuts old new numbers h = record {
  count = h.count ∙ numbers.count;
  lawful = lawful-within p cuts new (λ i below. h.rates (places p + i) (omega arith)) (crowd-within p old new numbers.lawful.prices_within h);
}

next-numbers : (p : Parts) (cuts : List Cut) (brief : Brief) (prices : List ℕ) → IsBriefFor p cuts brief.prices brief.ranges brief.columns → IsNext p cuts brief (Some prices) → AreNumbers p cuts prices
next-numbers p cuts brief prices fits h = elim h [
  | inl raised ↦ raised.is_rise.are_numbers
  | inr crowd ↦ crowd-numbers p cuts brief.prices prices fits.are_numbers crowd.are_crowd
]

-- The whole task: from s a design is sought, which leads to r, and the columns are gathered, which leads to t

-- the round that is gone on with is complete, after steps that keep the nodes
pub advancing-complete : (s t : State) (id : BranchId) (version : ℕ) → IsToAdvance s id version → KeepsNodes s t → IsCompleteAt t id version
advancing-complete s t id version advance keeps = record {
  node = advance.node;
  round = advance.round;
  is_complete = record {
    not_spent = (let spent = advance.not_spent in let e = keeps.examined in let b = keeps.budget in omega arith);
    is_node = ap (λ (xs : List Node). slice_get xs id.0) keeps.nodes ∙ advance.active.is_node;
    is_round = advance.active.is_round;
    is_version = advance.active.version_is;
    complete = advance.complete;
  };
}

-- events that keep the nodes, and further events that keep them, together keep them
pub keeps-trans : (s r t : State) → KeepsNodes s r → KeepsNodes r t → KeepsNodes s t
keeps-trans s r t a b = record {
  leads = LeadsTo-trans s r t a.leads b.leads;
  problem = b.problem ∙ a.problem;
  nodes = b.nodes ∙ a.nodes;
  examined = b.examined ∙ a.examined;
  budget = b.budget ∙ a.budget;
}

module _ (s t u : State) (id : BranchId) (version : ℕ) (reachable : IsReachable s) (sound : IsSound t) (advance : IsToAdvance s id version) (keeps : KeepsNodes s t) (brief : Brief) (b : IsBriefed t id version brief) where
  same-node : b.node ≡ advance.node
  same-node = one_at s.nodes id.0 b.node advance.node (ap (λ (xs : List Node). slice_get xs id.0) (sym keeps.nodes) ∙ b.is_gathered.complete_round.is_node) advance.active.is_node

  may-follow : (prices : List ℕ) → IsNext t.problem t.cuts brief (Some prices) → MayFollow t id version prices b.node b.round
  may-follow prices h = record {
    is_gathered = b.is_gathered;
    not_settled = ap (λ (x : Node). x.settled) same-node ∙ advance.not_settled;
    room = subst (λ (x : Node). x.completed < MAX_VERSIONS) (sym same-node) advance.room;
    are_numbers = next-numbers t.problem t.cuts brief prices (briefed-fits t id version brief sound b) h;
  }

  -- once prices that follow from the brief are published, the leaf is open still, with fewer steps left
  pub advanced-published : (prices : List ℕ) (answer : Publish) → IsNext t.problem t.cuts brief (Some prices) → PublishStep t id version prices answer u → IsCloser s u id
  advanced-published prices answer h e =
      let w = publish-goes t u id version prices b.node b.round answer (may-follow prices h) (briefed-gains t id version brief sound b prices h) e in
      published-closer s t id version advance keeps u prices w.0 w.1 reachable w.3

  -- once the node is settled as no prices follow, the leaf is open still, with fewer steps left
  pub advanced-settled : (answer : Settle) → IsNext t.problem t.cuts brief None → SettleStep t id version answer u → IsCloser s u id
  advanced-settled answer h e =
      settled-closer s t id version advance keeps u reachable (settle-goes t u id version b.node b.round answer b.is_gathered (briefed-no_more t id version brief sound b h) e)

  -- events lead from the state before the master task to the one after its publishing
  pub published-leads : (prices : List ℕ) (answer : Publish) → PublishStep t id version prices answer u → LeadsTo s u
  published-leads prices answer e = LeadsTo-trans s t u keeps.leads (LeadsTo-one t u (Publishing id version prices) (to_publishing answer) e)

  -- events lead from the state before the master task to the one after its settling
  pub settled-leads_on : (answer : Settle) → SettleStep t id version answer u → LeadsTo s u
  settled-leads_on answer e = LeadsTo-trans s t u keeps.leads (LeadsTo-one t u (Settling id version) (to_settling answer) e)
