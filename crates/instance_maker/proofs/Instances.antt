-- Each sample network stands for an instance within its limits.
use Rattle.std.proofs.Common.{◌≡◌, ◌≢◌, ℕ, ◌+◌, ◌-◌, ◌*◌, ◌/◌, ◌%◌, ◌^◌, ◌<◌, ◌≤◌, ◌⊎◌, inl, inr, true, List, [], ◌∷◌, length, map, All, refl, sym, ap, ◌∙◌, arith}
use Rattle.std.proofs.Math.Nat.{mod-lt, mod-eq_of_lt, mod-eq-sub-mod}
use Rattle.std.proofs.lemmas.Bool.{cases_lt}
use Rattle.std.proofs.lemmas.List.{length-append, length-map}
use Rattle.std.proofs.lemmas.List.Elements.{All-nil, All-cons, All-append, All-map}
use Rattle.std.proofs.lemmas.List.FromFn.{length-map-range_with_len}
use Rattle.std.proofs.lemmas.List.Sums.{sum_by-le}
use Rattle.plan_base.specs.declared.parts.Module.{Module}
use Rattle.plan_base.specs.declared.parts.Link.{Link}
use Rattle.plan_base.specs.declared.parts.Demand.{Demand}
use Rattle.plan_base.specs.Facts.{total_load, IsModule, IsLink, IsDemand, IsInstance}
use Rattle.plan_base.specs.Arcs.{link_at, no_link}
use Rattle.snd_model.specs.declared.keys.Key.{Key}
use Rattle.snd_model.specs.declared.keys.Key.TheVariants as keys
use Rattle.snd_model.specs.Grammar.{setting_of}
use Rattle.model_check.specs.Profile.{is_planned}
use Rattle.snd_model.specs.declared.values.HopModel.TheVariants as hops
use Rattle.model_check.specs.Reading.{link_of_record, demand_of, ReadsAs}
use Rattle.link_steps.specs.Costs.{HasMoreSteps}
use Rattle.instance_maker.specs.Draws.{next_state, state_after, draw}
use Rattle.instance_maker.specs.Samples.{sample_node, sample_modules, sample_link, ring_link, chord, ring_links, after_ring, chords, after_chords, sample_demand, sample_demands, sample_links, sample_network}
use Rattle.instance_maker.specs.Trials.{trial_model, sample_parts}
use Rattle.instance_maker.proofs.Numbered.{all_numbered}
use Rattle.instance_maker.proofs.Formed.{drawn_below}
use Rattle.instance_maker.proofs.Levels.{HasTens, few_levels}

-- a step forward on a ring, shorter than the ring, leads to another node
elsewhere : (nodes i step : ℕ) → i < nodes → 0 < step → step < nodes → i ≢ (i + step) % nodes
elsewhere nodes i step within some short = by (cases_lt (i + step) nodes)
  where
    by : (i + step < nodes) ⊎ (nodes ≤ i + step) → i ≢ (i + step) % nodes
    by (inl low) e = let same = mod-eq_of_lt low in absurd (omega (arith, e, same, some))
    by (inr high) e =
        let less : i + step - nodes < nodes = omega arith in
        let same = mod-eq-sub-mod high ∙ mod-eq_of_lt less in
        absurd (omega (arith, e, same, short, high))

-- ---- links

-- what a link of a sample is
record IsSampleLink (nodes : ℕ) (l : Link) : Type 0 where
  link : IsLink nodes l
  free : l.routing ≡ 0
  has_tens : HasTens l

sampled : (nodes state source target : ℕ) (name : List ℕ) → source < nodes → target < nodes → source ≢ target → IsSampleLink nodes (link_of_record (sample_link name source target (sample_modules state)))
sampled nodes state source target name from to apart =
    let small = drawn_below state 20 (omega arith) in
    let large = drawn_below (next_state state) 40 (omega arith) in
    let cheap : Module = record { capacity = 10 ^ 7; cost = (5 + draw state 20) * 10 ^ 6 * 10 ^ 6 } in
    let dear : Module = record { capacity = 4 * 10 ^ 7; cost = (15 + draw (next_state state) 40) * 10 ^ 6 * 10 ^ 6 } in
    record {
      link = record {
        module_count = omega arith;
        pre = omega arith;
        routing = omega arith;
        modules = All-cons IsModule cheap (dear ∷ []) (record { capacity = omega arith; cost = omega (arith, small) })
            (All-cons IsModule dear [] (record { capacity = omega arith; cost = omega (arith, large) }) (All-nil IsModule));
        source = from;
        target = to;
        different = apart;
      };
      free = refl;
      has_tens = record { pre = refl; small = (5 + draw state 20) * 10 ^ 6 * 10 ^ 6; large = (15 + draw (next_state state) 40) * 10 ^ 6 * 10 ^ 6; modules = refl };
    }

sampled-ring : (nodes state i : ℕ) → 4 ≤ nodes → i < nodes → IsSampleLink nodes (link_of_record (ring_link nodes state i))
sampled-ring nodes state i some within =
    sampled nodes state i ((i + 1) % nodes) (ring_link nodes state i).name within (mod-lt (i + 1) (omega arith)) (elsewhere nodes i 1 within (omega arith) (omega arith))

sampled-chord : (nodes state i : ℕ) → 4 ≤ nodes → i < nodes → IsSampleLink nodes (link_of_record (chord nodes state i))
sampled-chord nodes state i some within =
    let d = draw state (nodes - 3) in
    let low : d < nodes - 3 = drawn_below state (nodes - 3) (omega arith) in
    let same : i + 2 + d ≡ i + (2 + d) = omega arith in
    let apart : i ≢ (i + 2 + d) % nodes = λ e. elsewhere nodes i (2 + d) within (omega arith) (omega (arith, low)) (e ∙ ap (λ n. n % nodes) same) in
    sampled nodes (next_state state) i ((i + 2 + d) % nodes) (chord nodes state i).name within (mod-lt (i + 2 + d) (omega arith)) apart

all-sampled : (number nodes : ℕ) → 4 ≤ nodes → All (IsSampleLink nodes) (map link_of_record (sample_links number nodes))
all-sampled number nodes some =
    let state = after_ring number nodes in
    All-map (IsSampleLink nodes) link_of_record (sample_links number nodes) (All-append (λ l. IsSampleLink nodes (link_of_record l)) (ring_links number nodes) (chords state nodes)
    (all_numbered (λ l. IsSampleLink nodes (link_of_record l)) (λ i. ring_link nodes (state_after number (2 * i)) i) nodes (λ i within. sampled-ring nodes (state_after number (2 * i)) i some within))
    (all_numbered (λ l. IsSampleLink nodes (link_of_record l)) (λ i. chord nodes (state_after state (3 * i)) i) (nodes / 2) (λ i within. sampled-chord nodes (state_after state (3 * i)) i some (omega arith))))

count-links : (number nodes : ℕ) → length (map link_of_record (sample_links number nodes)) ≡ nodes + nodes / 2
count-links number nodes =
    let state = after_ring number nodes in
    length-map (sample_links number nodes) link_of_record ∙ length-append (ring_links number nodes) (chords state nodes)
    ∙ omega (arith, length-map-range_with_len (λ i. ring_link nodes (state_after number (2 * i)) i) 0 nodes, length-map-range_with_len (λ i. chord nodes (state_after state (3 * i)) i) 0 (nodes / 2))

-- ---- demands

sampled-demand : (nodes state i : ℕ) → 4 ≤ nodes → IsDemand nodes (demand_of hops.No (sample_demand nodes state i))
sampled-demand nodes state i some =
    let s = draw state nodes in
    let d = draw (next_state state) (nodes - 1) in
    let within : s < nodes = drawn_below state nodes (omega arith) in
    let low : d < nodes - 1 = drawn_below (next_state state) (nodes - 1) (omega arith) in
    let same : s + 1 + d ≡ s + (1 + d) = omega arith in
    record {
      source = within;
      target = mod-lt (s + 1 + d) (omega arith);
      different = λ e. elsewhere nodes s (1 + d) within (omega arith) (omega (arith, low)) (e ∙ ap (λ n. n % nodes) same);
    }

small-load : (nodes state i : ℕ) → (demand_of hops.No (sample_demand nodes state i)).load ≤ 9 * 10 ^ 6
small-load nodes state i = omega (arith, drawn_below (next_state (next_state state)) 9 (omega arith))

module _ (number nodes demands : ℕ) (some : 4 ≤ nodes) (few : nodes ≤ 64) (within : demands ≤ 4096) where
  state : ℕ
  state = after_chords (after_ring number nodes) nodes

  all-demands : (P : Demand → Type 0) → ((i : ℕ) → P (demand_of hops.No (sample_demand nodes (state_after (after_chords (after_ring number nodes) nodes) (3 * i)) i))) → All P (sample_parts number nodes demands).demands
  all-demands P each =
      let first = after_chords (after_ring number nodes) nodes in
      All-map P (demand_of hops.No) (sample_demands first nodes demands) (all_numbered (λ d. P (demand_of hops.No d)) (λ i. sample_demand nodes (state_after first (3 * i)) i) demands (λ i below. each i))

  count-demands : length (sample_parts number nodes demands).demands ≡ demands
  count-demands =
      let first = after_chords (after_ring number nodes) nodes in
      length-map (sample_demands first nodes demands) (demand_of hops.No) ∙ length-map-range_with_len (λ i. sample_demand nodes (state_after first (3 * i)) i) 0 demands

  -- the total load of a sample network is small
  pub small_total : total_load (sample_parts number nodes demands) ≤ 36864 * 10 ^ 6
  small_total =
      let first = after_chords (after_ring number nodes) nodes in
      let sum = sum_by-le (λ (k : Demand). k.load) (9 * 10 ^ 6) (sample_parts number nodes demands).demands (all-demands (λ k. k.load ≤ 9 * 10 ^ 6) (λ i. small-load nodes (state_after first (3 * i)) i)) in
      omega (arith, sum, count-demands, within)

  -- the parts of a sample network are an instance
  pub is_instance : IsInstance (sample_parts number nodes demands)
  is_instance =
      let links = all-sampled number nodes some in
      let first = after_chords (after_ring number nodes) nodes in
      record {
        nodes = omega (arith, few);
        link_count = omega (arith, count-links number nodes, few);
        demand_count = omega (arith, count-demands, within);
        links = λ i d below. (links i d below).link;
        demands = all-demands (IsDemand nodes) (λ i. sampled-demand nodes (state_after first (3 * i)) i some);
        total = omega (arith, small_total);
        routing = λ i d below. rw ((links i d below).free) (omega arith);
      }

  -- no link of a sample network has more steps than a plan may look at
  pub few_steps : (e : ℕ) → e < length (sample_parts number nodes demands).links → HasMoreSteps (sample_parts number nodes demands).law (total_load (sample_parts number nodes demands)) (link_at (sample_parts number nodes demands) e) 4096 → ⊥
  few_steps e below = few_levels (sample_parts number nodes demands).law (link_at (sample_parts number nodes demands) e) (all-sampled number nodes some e no_link below).has_tens (total_load (sample_parts number nodes demands)) small_total

  planned : (key : Key) → is_planned (setting_of trial_model key) ≡ true
  planned keys.Demand = refl
  planned keys.Link = refl
  planned keys.Capacity = refl
  planned keys.FixedCharge = refl
  planned keys.Routing = refl
  planned keys.Path = refl
  planned keys.Hop = refl
  planned keys.Survivability = refl

  -- a sample network with the sample's model reads as these parts
  pub reads : ReadsAs (sample_network number nodes demands) trial_model (sample_parts number nodes demands)
  reads = record {
    supported = record { values = planned; pair = λ _. refl };
    orient = refl;
    law = refl;
    nodes = sym (length-map-range_with_len sample_node 0 nodes);
    links = refl;
    demands = refl;
  }
