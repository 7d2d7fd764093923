-- What the events of a master task answer at a node with a complete round.
use Rattle.std.proofs.Common.{◌≡◌, ℕ, ◌⊎◌, true, List, All, Option, Some, None, refl, sym, subst, ◌∙◌, ℤ}
use Rattle.std.specs.Prelude.{Ok}
use Rattle.std.proofs.lemmas.List.Elements.{All-filter}
use Rattle.plan_base.specs.declared.ids.ArcId.{ArcId}
use Rattle.plan_base.specs.declared.ids.BranchId.{BranchId}
use Rattle.plan_base.specs.Arcs.{demand_at}
use Rattle.plan_base.specs.Paths.{IsSimplePath}
use Rattle.cut_values.specs.Numbers.{AreNumbers}
use Rattle.link_steps.specs.declared.range.LoadRange.{LoadRange}
use Rattle.link_steps.specs.Ranges.{AreRanges}
use Rattle.column_pool.specs.declared.brief.Brief.{Brief}
use Rattle.column_pool.specs.Columns.{columns_at, is_permitted}
use Rattle.column_pool.specs.Briefs.{IsBriefFor}
use Rattle.master_step.specs.Restricted.{IsRestrictedValue}
use Rattle.master_step.specs.Outcomes.{IsStalled, HasStalled}
use Rattle.master_step.specs.Ascents.{IsRiseOf}
use Rattle.search_machine.specs.declared.answers.Gather.{Gather}
use Rattle.search_machine.specs.declared.answers.Gather.TheVariants as gather
use Rattle.search_machine.specs.declared.answers.Publish.{Publish}
use Rattle.search_machine.specs.declared.answers.Publish.TheVariants as publish
use Rattle.search_machine.specs.declared.answers.Settle.{Settle}
use Rattle.search_machine.specs.declared.answers.Settle.TheVariants as settle
use Rattle.search_machine.specs.State.{Round, Node, State, restriction_of, ranges_of}
use Rattle.search_machine.specs.Gathering.{columns_for, gather_fault, IsCompleteRound, IsGathered, IsBriefOf, Gathers, GatherStep, has_enough}
use Rattle.search_machine.specs.Settling.{settle_fault, Settles, SettleStep}
use Rattle.search_machine.specs.Publishing.{publish_fault, MayFollow, IsBetterStep, IsCrowdStep, Publishes, PublishStep}
use Rattle.search_machine.specs.Nodes.{IsSoundRound}
use Rattle.search_machine.specs.Soundness.{IsSound}
use Rattle.search_machine.proofs.Replacing.{node_at}
use Rattle.search_machine.proofs.Unrefused.{gather-unrefused, settle-unrefused, publish-unrefused}
use Rattle.search_machine.proofs.GatheredRounds.{gathered-all}
use Rattle.search_machine.proofs.SameColumns.{AreSame, value-same, stalled-same}
use Rattle.search_machine.proofs.OneAnswer.{no_more-not_improves, gains-not_no_gain}

-- Gatherings

-- at a complete round of the version, a gathering that does not want memory is taken and tells a brief
pub gather-goes : (s t : State) (id : BranchId) (version : ℕ) (node : Node) (round : Round) (answer : Gather) → IsCompleteRound s id version node round → GatherStep s id version (Ok answer) t
    → (brief : Brief) × (answer ≡ gather.Taken brief) × Gathers s id version brief t
gather-goes s t id version node round answer is step = by answer step
  where
    free : gather_fault s id version ≡ None
    free = gather-unrefused s id version node round is

    no : (a : Gather) → gather_fault s id version ≡ Some a → ⊥
    no a refused = let bad : ◌≡◌ {A = Option Gather} None (Some a) = sym free ∙ refused in cc

    by : (a : Gather) → GatherStep s id version (Ok a) t → (brief : Brief) × (a ≡ gather.Taken brief) × Gathers s id version brief t
    by (gather.Taken brief) e = (brief, refl, e)
    by (gather.Spent x) e = absurd (no (gather.Spent x) e.0)
    by (gather.Stale x) e = absurd (no (gather.Stale x) e.0)
    by (gather.Incomplete x) e = absurd (no (gather.Incomplete x) e.0)

-- after a gathering the round is gathered, at the same node
pub gather-gathers : (s t : State) (id : BranchId) (version : ℕ) (brief : Brief) → IsSound s → (e : Gathers s id version brief t) → IsGathered t id version e.node e.round
gather-gathers s t id version brief h e =
    let is = e.complete_round in
    subst (λ (x : State). IsGathered x id version e.node e.round) (sym e.becomes) (record {
      complete_round = record { not_spent = is.not_spent; is_node = is.is_node; is_round = is.is_round; is_version = is.is_version; complete = is.complete };
      gathered_all = gathered-all s id version e.node e.round h is;
    })

-- what is told is a brief of the instance
pub brief-fits : (s : State) (id : BranchId) (version : ℕ) (node : Node) (round : Round) (brief : Brief) → IsSound s → IsCompleteRound s id version node round → IsBriefOf s id node round brief
    → IsBriefFor s.problem s.cuts brief.prices brief.ranges brief.columns
brief-fits s id version node round brief h is b =
    let k = node_at s id.0 node h is.is_node in
    let sound : IsSoundRound s.problem s.cuts (restriction_of node) round = (rw is.is_round at (k.round)).1 in
    record {
      are_numbers = subst (AreNumbers s.problem s.cuts) (sym b.prices) sound.prices;
      are_ranges = subst (AreRanges s.problem) (sym b.ranges) k.ranges;
      list_count = b.count;
      paths = λ k below. subst (λ (paths : List (List ArcId)). All (λ path. IsSimplePath s.problem (demand_at s.problem k) path) paths) (sym (b.columns k below))
          (All-filter (is_permitted (restriction_of node) k) (λ path. IsSimplePath s.problem (demand_at s.problem k) path) (columns_at s.columns k) (h.columns.each k below).simple);
    }

-- Settlings

-- at a gathered round that is stalled, or of a node with enough versions, a settling settles the node
pub settle-goes : (s t : State) (id : BranchId) (version : ℕ) (node : Node) (round : Round) (answer : Settle) → IsGathered s id version node round
    → (has_enough s node ≡ true) ⊎ HasStalled s.problem s.cuts (ranges_of s.problem node) (columns_for s node) round.prices → SettleStep s id version answer t → Settles s id version t
settle-goes s t id version node round answer is more step = by answer step
  where
    no : (a : Settle) → settle_fault s id version ≡ Some a → ⊥
    no a refused = let bad : ◌≡◌ {A = Option Settle} None (Some a) = sym (settle-unrefused s id version node round is) ∙ refused in cc

    by : (a : Settle) → SettleStep s id version a t → Settles s id version t
    by settle.Done e = e
    by (settle.Improves before after) e = absurd (no_more-not_improves s id version t node round before after is more e)
    by (settle.Spent x) e = absurd (no (settle.Spent x) e.0)
    by (settle.Stale x) e = absurd (no (settle.Stale x) e.0)
    by (settle.Incomplete x) e = absurd (no (settle.Incomplete x) e.0)
    by (settle.Ungathered x) e = absurd (no (settle.Ungathered x) e.0)

-- where no trial gains, the round is stalled
pub same-stalled : (s : State) (id : BranchId) (node : Node) (round : Round) (brief : Brief) (value : ℤ) → IsBriefOf s id node round brief → IsStalled s.problem s.cuts brief.ranges (columns_at brief.columns) brief.prices value
    → HasStalled s.problem s.cuts (ranges_of s.problem node) (columns_for s node) round.prices
same-stalled s id node round brief value b h =
    let same = stalled-same s.problem s.cuts brief.ranges (columns_at brief.columns) (columns_for s node) brief.prices value b.columns h in
    let ranged : IsStalled s.problem s.cuts (ranges_of s.problem node) (columns_for s node) brief.prices value = subst (λ (ranges : List LoadRange). IsStalled s.problem s.cuts ranges (columns_for s node) brief.prices value) b.ranges same in
    (value, subst (λ (prices : List ℕ). IsStalled s.problem s.cuts (ranges_of s.problem node) (columns_for s node) prices value) b.prices ranged)

-- Publishings

-- prices of greater value over the columns of the brief are better for its round
pub rise-better : (s : State) (id : BranchId) (node : Node) (round : Round) (brief : Brief) (old : ℤ) (prices : List ℕ) (new : ℤ) → IsBriefOf s id node round brief
    → IsRiseOf s.problem s.cuts brief.ranges (columns_at brief.columns) brief.prices old prices new → IsBetterStep s node round prices
rise-better s id node round brief old prices new b h =
    let same : AreSame s.problem (columns_at brief.columns) (columns_for s node) = b.columns in
    let ranged = λ (ps : List ℕ) (value : ℤ) (v : IsRestrictedValue s.problem s.cuts brief.ranges (columns_at brief.columns) ps value).
    subst (λ (ranges : List LoadRange). IsRestrictedValue s.problem s.cuts ranges (columns_for s node) ps value) b.ranges (value-same s.problem s.cuts brief.ranges (columns_at brief.columns) (columns_for s node) ps value same v) in
    record {
      before = old;
      after = new;
      is_before = subst (λ (ps : List ℕ). IsRestrictedValue s.problem s.cuts (ranges_of s.problem node) (columns_for s node) ps old) b.prices (ranged brief.prices old h.is_old);
      is_after = ranged prices new h.is_new;
      greater = h.greater;
    }

-- prices that may follow and are better, or are the crowd step, are published with a slot and a version
pub publish-goes : (s t : State) (id : BranchId) (seen : ℕ) (prices : List ℕ) (node : Node) (round : Round) (answer : Publish) → MayFollow s id seen prices node round
    → IsBetterStep s node round prices ⊎ IsCrowdStep s node round prices → PublishStep s id seen prices answer t
    → (slot : ℕ) × (version : ℕ) × (answer ≡ publish.Published slot version) × Publishes s id seen prices slot version t
publish-goes s t id seen prices node round answer may gains step = by answer step
  where
    no : (a : Publish) → publish_fault s id seen prices ≡ Some a → ⊥
    no a refused = let bad : ◌≡◌ {A = Option Publish} None (Some a) = sym (publish-unrefused s id seen node round prices may) ∙ refused in cc

    by : (a : Publish) → PublishStep s id seen prices a t → (slot : ℕ) × (version : ℕ) × (a ≡ publish.Published slot version) × Publishes s id seen prices slot version t
    by (publish.Published slot version) e = (slot, version, refl, e)
    by (publish.NoGain v g) e = absurd (gains-not_no_gain s id seen prices t node round v g may gains e)
    by (publish.Spent x) e = absurd (no (publish.Spent x) e.0)
    by (publish.Stale x) e = absurd (no (publish.Stale x) e.0)
    by publish.Settled e = absurd (no publish.Settled e.0)
    by (publish.Incomplete x) e = absurd (no (publish.Incomplete x) e.0)
    by (publish.Rounds x) e = absurd (no (publish.Rounds x) e.0)
    by (publish.PriceCount x) e = absurd (no (publish.PriceCount x) e.0)
    by (publish.OverPrice x) e = absurd (no (publish.OverPrice x) e.0)
    by publish.Unlawful e = absurd (no publish.Unlawful e.0)
    by (publish.Ungathered x) e = absurd (no (publish.Ungathered x) e.0)
