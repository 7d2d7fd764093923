-- What changes where a label is offered.
use Rattle.std.proofs.Common.{◌≡◌, ◌≢◌, ℕ, suc, ◌+◌, ◌-◌, ◌*◌, ◌<◌, ◌≤◌, inl, inr, nat_lt, List, length, Option, Some, None, IfSome, IsSome, slice_index_or, refl, sym, ◌∙◌, ap, subst, arith}
use Rattle.std.proofs.Math.ListN.{set, length-set}
use Rattle.std.proofs.lemmas.Bool.{ltb-true, ltb-false}
use Rattle.std.proofs.lemmas.List.{get_or-set_same, get_or-set_other, get_or_past}
use Rattle.std.proofs.Math.Nat.{suc-mul, mul-le-mul_right}
use Rattle.std_collections.proofs.IndexTableLemmas.Probe.{pigeonhole}
use Rattle.std.specs.Option.{unwrap_or}
use Rattle.plan_base.specs.declared.ids.NodeId.{NodeId}
use Rattle.plan_base.specs.declared.ids.ArcId.{ArcId}
use Rattle.plan_base.specs.declared.parts.Parts.{Parts}
use Rattle.plan_base.specs.Arcs.{tail_of, head_of}
use Rattle.plan_base.specs.Leaving.{AreLeaving}
use Rattle.plan_base.specs.Paths.{arc_at}
use Rattle.least_path.specs.declared.limits.TheConstants.{MAX_WEIGHT}
use Rattle.least_path.specs.Paths.{Weights, weight_at, AreWeights, IsUsable}
use Rattle.limited_path.specs.declared.label.Label.{Label}
use Rattle.limited_path.specs.Labels.{Labels, Latest, label_at, latest_at, written, free_place, place_beside, place_of, labels_with, latest_with, IsReached, IsLabel, IsKnown, IsOf, AreWays, HasAtMost, IsRelaxed, IsDone, IsNew, IsRound, IsSpread}
use Rattle.limited_path.proofs.WrittenLaws.{decide, same_or_not, lt_or_le, below_cases, some_same, written-here, written-longer, IsLonger, old, new_or_old}

-- no weight is above the limit
pub weight-small : (p : Parts) (ws : Weights) → AreWeights p ws → (a : ArcId) → weight_at ws a ≤ MAX_WEIGHT
weight-small p ws h a = elim (lt_or_le a.0 (length ws)) [
  | inl within ↦ h.small a.0 None within
  | inr past ↦ let none : weight_at ws a ≡ 0 = ap (λ (x : Option ℕ). unwrap_or x 0) (get_or_past ws a.0 None past) in omega (arith, none)
]

-- where a label goes that is shorter than what is known of its node
record Goes (ls : Labels) (la : Latest) (start : ℕ) (l : Label) (i : ℕ) : Type 0 where
  within : i ≤ length ls
  after : start ≤ i
  shorter : (b : ℕ) → latest_at la l.node.0 ≡ Some b → l.length < (label_at ls b).length
  replaced : i < length ls → latest_at la l.node.0 ≡ Some i
  fresh : (b : ℕ) → latest_at la l.node.0 ≡ Some b → start ≤ b → b ≡ i

-- what is known of the node is no longer than the label
record IsNoShorter (ls : Labels) (la : Latest) (l : Label) : Type 0 where
  latest : ℕ
  is : latest_at la l.node.0 ≡ Some latest
  no_longer : (label_at ls latest).length ≤ l.length

goes-new : (ls : Labels) (la : Latest) (start : ℕ) (l : Label) (i : ℕ) → start ≤ length ls → latest_at la l.node.0 ≡ None → length ls ≡ i → Goes ls la start l i
goes-new ls la start l i fits none is = record {
  within = omega (arith, is);
  after = omega (arith, is, fits);
  shorter = λ b some. absurd (let bad : None ≡ Some b = sym none ∙ some in cc);
  replaced = λ below. absurd (omega (arith, below, is));
  fresh = λ b some new. absurd (let bad : None ≡ Some b = sym none ∙ some in cc);
}

goes-shorter : (ls : Labels) (la : Latest) (start : ℕ) (l : Label) (b i : ℕ) → start ≤ length ls → b < length ls → latest_at la l.node.0 ≡ Some b → l.length < (label_at ls b).length → free_place ls start b ≡ i → Goes ls la start l i
goes-shorter ls la start l b i fits within known shorter is =
    let all : (c : ℕ) → latest_at la l.node.0 ≡ Some c → l.length < (label_at ls c).length = λ c at. subst (λ (x : ℕ). l.length < (label_at ls x).length) (some_same (latest_at la l.node.0) b c known at) shorter in
    elim (decide (nat_lt b start)) [
      | inl before ↦
          let last : length ls ≡ i = rw before at is in
          record {
            within = omega (arith, last);
            after = omega (arith, last, fits);
            shorter = all;
            replaced = λ below. absurd (omega (arith, below, last));
            fresh = λ c at new. absurd (omega (arith, some_same (latest_at la l.node.0) b c known at, new, ltb-true b start before));
          }
      | inr after ↦
          let here : b ≡ i = rw after at is in
          record {
            within = omega (arith, here, within);
            after = omega (arith, here, ltb-false b start after);
            shorter = all;
            replaced = λ below. known ∙ ap (λ (x : ℕ). Some x) here;
            fresh = λ c at new. sym (some_same (latest_at la l.node.0) b c known at) ∙ here;
          }
    ]

some-inside : (i j : ℕ) → Some i ≡ Some j → i ≡ j
some-inside i j h = cc

goes-beside : (ls : Labels) (la : Latest) (start : ℕ) (l : Label) (i : ℕ) (known : Option ℕ) → start ≤ length ls → ((b : ℕ) → known ≡ Some b → b < length ls) → latest_at la l.node.0 ≡ known → place_beside ls start l known ≡ Some i → Goes ls la start l i
goes-beside ls la start l i None fits inside known is = goes-new ls la start l i fits known (some-inside (length ls) i is)
goes-beside ls la start l i (Some b) fits inside known is = elim (decide (nat_lt l.length (label_at ls b).length)) [
  | inl shorter ↦ goes-shorter ls la start l b i fits (inside b refl) known (ltb-true l.length (label_at ls b).length shorter) (some-inside (free_place ls start b) i (rw shorter at is))
  | inr longer ↦ absurd (let bad : None ≡ Some i = rw longer at is in cc)
]

goes : (ls : Labels) (la : Latest) (start : ℕ) (l : Label) (i : ℕ) → start ≤ length ls → ((b : ℕ) → latest_at la l.node.0 ≡ Some b → b < length ls) → place_of ls la start l ≡ Some i → Goes ls la start l i
unfolding place_of
goes ls la start l i fits inside is = goes-beside ls la start l i (latest_at la l.node.0) fits inside refl is

no_shorter-beside : (ls : Labels) (la : Latest) (start : ℕ) (l : Label) (known : Option ℕ) → latest_at la l.node.0 ≡ known → place_beside ls start l known ≡ None → IsNoShorter ls la l
no_shorter-beside ls la start l None known is = absurd (let bad : Some (length ls) ≡ None = is in cc)
no_shorter-beside ls la start l (Some b) known is = elim (decide (nat_lt l.length (label_at ls b).length)) [
  | inl shorter ↦ absurd (let bad : Some (free_place ls start b) ≡ None = rw shorter at is in cc)
  | inr longer ↦ record { latest = b; is = known; no_longer = ltb-false l.length (label_at ls b).length longer }
]

no_shorter : (ls : Labels) (la : Latest) (start : ℕ) (l : Label) → place_of ls la start l ≡ None → IsNoShorter ls la l
unfolding place_of
no_shorter ls la start l is = no_shorter-beside ls la start l (latest_at la l.node.0) refl is

-- a label of round n that goes on from the one at place k
pub record GoesOn (p : Parts) (ws : Weights) (ls : Labels) (start n k : ℕ) (l : Label) : Type 0 where
  pub usable : IsUsable p ws l.via
  pub head : (head_of p l.via).0 ≡ l.node.0
  pub node_within : l.node.0 < p.nodes
  pub parent : l.parent ≡ k
  pub parent_before : k < start
  pub tail : (tail_of p l.via).0 ≡ (label_at ls k).node.0
  pub steps : l.steps ≡ n
  pub length_is : l.length ≡ (label_at ls k).length + weight_at ws l.via

-- the label that goes on along the arc at place i of those that leave the node
pub goes-on : (p : Parts) (ws : Weights) (ls : Labels) (start n k : ℕ) (from : Label) (arcs : List ArcId) (i weight : ℕ) (head : NodeId) → k < start → label_at ls k ≡ from → AreLeaving p from.node.0 arcs → i < length arcs
    → slice_index_or ws (arc_at arcs i).0 None ≡ Some weight → head ≡ head_of p (arc_at arcs i) → head.0 < p.nodes → GoesOn p ws ls start n k (record { node = head; length = from.length + weight; steps = n; via = arc_at arcs i; parent = k })
goes-on p ws ls start n k from arcs i weight head before is leaving within weighted head_is inside =
    let weight_is : weight_at ws (arc_at arcs i) ≡ weight = ap (λ (x : Option ℕ). unwrap_or x 0) weighted in
    record {
      usable = record { is_an_arc = leaving.are_arcs i within; weighted = subst (λ (x : Option ℕ). IsSome x) (sym weighted) refl };
      head = sym (ap (λ (v : NodeId). v.0) head_is);
      node_within = inside;
      parent = refl;
      parent_before = before;
      tail = leaving.leave i within ∙ sym (ap (λ (x : Label). x.node.0) is);
      steps = refl;
      length_is = omega (arith, ap (λ (x : Label). x.length) is, weight_is);
    }

-- a label of the round before is not written anew
before-kept : (ls : Labels) (la : Latest) (start : ℕ) (l : Label) (i j : ℕ) → start ≤ length ls → Goes ls la start l i → j < start → label_at (written ls i l) j ≡ label_at ls j
before-kept ls la start l i j fits g before = (old ls i l j (λ same. omega (arith, same, before, g.after)) (omega (arith, before, fits))).same

module _ (p : Parts) (ws : Weights) (s : NodeId) (ls : Labels) (la : Latest) (start n k : ℕ) (l : Label) (i : ℕ) (weights : AreWeights p ws) (h : IsRound p ws s ls la start n k) (on : GoesOn p ws ls start n k l) (g : Goes ls la start l i) where
  abbrev after : Labels
  after = written ls i l

  abbrev latest_after : Latest
  latest_after = set la l.node.0 (Some i)

  longer : IsLonger ls i l
  longer = written-longer ls i l g.within

  here : label_at after i ≡ l
  here = written-here ls i l g.within

  kept : (j : ℕ) → j < start → label_at after j ≡ label_at ls j
  kept j before = before-kept ls la start l i j h.start_within g before

  latest-here : latest_at latest_after l.node.0 ≡ Some i
  latest-here = get_or-set_same la l.node.0 (Some i) None (omega (arith, on.node_within, h.ways.count))

  latest-other : (v : ℕ) → v ≢ l.node.0 → latest_at latest_after v ≡ latest_at la v
  latest-other v other = get_or-set_other la l.node.0 v (Some i) None other

  -- the label that is replaced is one of the same node
  node-replaced : i < length ls → (label_at ls i).node.0 ≡ l.node.0
  node-replaced below = (h.ways.latest l.node.0 i (g.replaced below)).node_is

  -- a label that goes on from another one does so still
  reached-kept : (j : ℕ) → j < length ls → IsReached p ws ls j (label_at ls j) → IsReached p ws after j (label_at ls j)
  reached-kept j below r =
      let parent_before : (label_at ls j).parent < start = elim (lt_or_le j start) [
        | inl before ↦ omega (arith, before, r.earlier)
        | inr new ↦ (h.new j new below).earlier
      ] in
      let same = kept (label_at ls j).parent parent_before in
      record {
        usable = r.usable;
        head = r.head;
        earlier = r.earlier;
        tail = subst (λ (x : Label). (tail_of p (label_at ls j).via).0 ≡ x.node.0) (sym same) r.tail;
        steps = subst (λ (x : Label). (label_at ls j).steps ≡ suc x.steps) (sym same) r.steps;
        length_is = subst (λ (x : Label). (label_at ls j).length ≡ x.length + weight_at ws (label_at ls j).via) (sym same) r.length_is;
      }

  label-kept : (j : ℕ) → j < length ls → IsLabel p ws s after j (label_at ls j)
  label-kept j below =
      let was = h.ways.each j below in
      record {
        node_within = was.node_within;
        length_within = was.length_within;
        from_source = was.from_source;
        no_length = was.no_length;
        from_arc = λ some. reached-kept j below (was.from_arc some);
      }

  some-steps : l.steps ≢ 0
  some-steps none = omega (arith, none, on.steps, h.front k (omega arith) on.parent_before)

  parent-kept : label_at after l.parent ≡ label_at ls k
  parent-kept = ap (label_at after) on.parent ∙ kept k on.parent_before

  label-new : IsLabel p ws s after i l
  label-new =
      let parent = h.ways.each k (omega (arith, on.parent_before, h.start_within)) in
      let steps = h.front k (omega arith) on.parent_before in
      record {
        node_within = on.node_within;
        length_within = omega (arith, on.length_is, weight-small p ws weights l.via, parent.length_within, steps, on.steps);
        from_source = λ none. absurd (some-steps none);
        no_length = λ none. absurd (some-steps none);
        from_arc = λ some. record {
          usable = on.usable;
          head = on.head;
          earlier = omega (arith, on.parent, on.parent_before, g.after);
          tail = on.tail ∙ sym (ap (λ (x : Label). x.node.0) parent-kept);
          steps = omega (arith, on.steps, steps, ap (λ (x : Label). x.steps) parent-kept);
          length_is = subst (λ (x : Label). l.length ≡ x.length + weight_at ws l.via) (sym parent-kept) on.length_is;
        };
      }

  each-after : (j : ℕ) → j < length after → IsLabel p ws s after j (label_at after j)
  each-after j below = elim (new_or_old ls i l j g.within below) [
    | inl is ↦ subst (λ (x : Label). IsLabel p ws s after j x) (sym (ap (label_at after) is ∙ here)) (subst (λ (x : ℕ). IsLabel p ws s after x l) (sym is) label-new)
    | inr was ↦ subst (λ (x : Label). IsLabel p ws s after j x) (sym was.same) (label-kept j was.within)
  ]

  -- the label is shorter than each one of its node
  shorter-old : (a : ℕ) → a < length ls → a ≢ i → (label_at ls a).node.0 ≡ l.node.0 → l.length < (label_at ls a).length
  shorter-old a below other node =
      let known = h.ways.known a below in
      let known_is : latest_at la l.node.0 ≡ Some known.latest = subst (λ (v : ℕ). latest_at la v ≡ Some known.latest) node known.is in
      let latest = h.ways.latest l.node.0 known.latest known_is in
      let shorter = g.shorter known.latest known_is in
      elim (lt_or_le a known.latest) [
        | inl before ↦ omega (arith, shorter, h.ways.shorter a known.latest before latest.within (node ∙ sym latest.node_is))
        | inr at ↦
            let same : known.latest ≡ a = omega (arith, at, known.later) in
            subst (λ (x : ℕ). l.length < (label_at ls x).length) same shorter
      ]

  -- no label of its node stands behind the one that is replaced
  none-behind : (b : ℕ) → i < b → b < length ls → (label_at ls b).node.0 ≡ l.node.0 → ⊥
  none-behind b behind below node =
      let known = h.ways.known b below in
      let same = some_same (latest_at la l.node.0) known.latest i (subst (λ (v : ℕ). latest_at la v ≡ Some known.latest) node known.is) (g.replaced (omega (arith, behind, below))) in
      omega (arith, known.later, same, behind)

  shorter-after : (a b : ℕ) → a < b → b < length after → (label_at after a).node.0 ≡ (label_at after b).node.0 → (label_at after b).length < (label_at after a).length
  shorter-after a b before below node = elim (new_or_old ls i l a g.within (omega (arith, before, below))) [
    | inl is_a ↦ elim (new_or_old ls i l b g.within below) [
      | inl is_b ↦ absurd (omega (arith, is_a, is_b, before))
      | inr was_b ↦
          let node_b : (label_at ls b).node.0 ≡ l.node.0 = sym (ap (λ (x : Label). x.node.0) was_b.same) ∙ sym node ∙ ap (λ (x : ℕ). (label_at after x).node.0) is_a ∙ ap (λ (x : Label). x.node.0) here in
          absurd (none-behind b (omega (arith, is_a, before)) was_b.within node_b)
    ]
    | inr was_a ↦
        let length_a : (label_at after a).length ≡ (label_at ls a).length = ap (λ (x : Label). x.length) was_a.same in
        elim (new_or_old ls i l b g.within below) [
          | inl is_b ↦
              let label_b : label_at after b ≡ l = ap (label_at after) is_b ∙ here in
              let node_a : (label_at ls a).node.0 ≡ l.node.0 = sym (ap (λ (x : Label). x.node.0) was_a.same) ∙ node ∙ ap (λ (x : Label). x.node.0) label_b in
              omega (arith, length_a, ap (λ (x : Label). x.length) label_b, shorter-old a was_a.within was_a.other node_a)
          | inr was_b ↦
              let node_ab : (label_at ls a).node.0 ≡ (label_at ls b).node.0 = sym (ap (λ (x : Label). x.node.0) was_a.same) ∙ node ∙ ap (λ (x : Label). x.node.0) was_b.same in
              omega (arith, length_a, ap (λ (x : Label). x.length) was_b.same, h.ways.shorter a b before was_b.within node_ab)
        ]
  ]

  -- a label of the node stands no later than the new one
  no-later : (j : ℕ) → j < length ls → (label_at ls j).node.0 ≡ l.node.0 → j ≤ i
  no-later j below node = elim (lt_or_le i j) [
    | inl behind ↦ absurd (none-behind j behind below node)
    | inr upto ↦ upto
  ]

  known-old : (j : ℕ) → j < length ls → IsKnown latest_after j (label_at ls j)
  known-old j below = elim (same_or_not (label_at ls j).node.0 l.node.0) [
    | inl node ↦ record { latest = i; is = ap (latest_at latest_after) node ∙ latest-here; later = no-later j below node }
    | inr other ↦
        let was = h.ways.known j below in
        record { latest = was.latest; is = latest-other (label_at ls j).node.0 other ∙ was.is; later = was.later }
  ]

  known-after : (j : ℕ) → j < length after → IsKnown latest_after j (label_at after j)
  known-after j below = elim (new_or_old ls i l j g.within below) [
    | inl is ↦ subst (λ (x : Label). IsKnown latest_after j x) (sym (ap (label_at after) is ∙ here)) (record { latest = i; is = latest-here; later = omega (arith, is) })
    | inr was ↦ subst (λ (x : Label). IsKnown latest_after j x) (sym was.same) (known-old j was.within)
  ]

  of-old : (v b : ℕ) → v ≢ l.node.0 → IsOf ls v b → IsOf after v b
  of-old v b other was =
      let apart : b ≢ i = λ same. other (sym was.node_is ∙ ap (λ (x : ℕ). (label_at ls x).node.0) same ∙ node-replaced (omega (arith, was.within, same))) in
      let is = old ls i l b apart was.within in
      record { within = omega (arith, was.within, longer.kept); node_is = ap (λ (x : Label). x.node.0) is.same ∙ was.node_is }

  latest-is : (v b : ℕ) → latest_at latest_after v ≡ Some b → IsOf after v b
  latest-is v b is = elim (same_or_not v l.node.0) [
    | inl node ↦
        let at : b ≡ i = some_same (latest_at latest_after l.node.0) b i (subst (λ (x : ℕ). latest_at latest_after x ≡ Some b) node is) latest-here in
        record {
          within = omega (arith, at, longer.here);
          node_is = ap (λ (x : ℕ). (label_at after x).node.0) at ∙ ap (λ (x : Label). x.node.0) here ∙ sym node;
        }
    | inr other ↦ of-old v b other (h.ways.latest v b (sym (latest-other v other) ∙ is))
  ]

  ways-after : AreWays p ws s after latest_after
  ways-after =
      let first = kept 0 h.some_before in
      record {
        count = length-set la l.node.0 (Some i) ∙ h.ways.count;
        source_within = omega (arith, h.ways.source_within, longer.kept);
        source_node = ap (λ (x : Label). x.node.0) first ∙ h.ways.source_node;
        source_length = ap (λ (x : Label). x.length) first ∙ h.ways.source_length;
        source_steps = ap (λ (x : Label). x.steps) first ∙ h.ways.source_steps;
        each = each-after;
        shorter = shorter-after;
        known = known-after;
        latest = latest-is;
      }

  at_most-kept : (v bound steps : ℕ) → HasAtMost ls v bound steps → HasAtMost after v bound steps
  at_most-kept v bound steps was = elim (same_or_not was.place i) [
    | inl at ↦
        let below : i < length ls = omega (arith, at, was.is.within) in
        let old_node : (label_at ls i).node.0 ≡ v = subst (λ (x : ℕ). (label_at ls x).node.0 ≡ v) at was.is.node_is in
        let old_length : (label_at ls i).length ≤ bound = subst (λ (x : ℕ). (label_at ls x).length ≤ bound) at was.length_within in
        let old_steps : (label_at ls i).steps ≤ steps = subst (λ (x : ℕ). (label_at ls x).steps ≤ steps) at was.steps_within in
        record {
          place = i;
          is = record { within = longer.here; node_is = ap (λ (x : Label). x.node.0) here ∙ sym (node-replaced below) ∙ old_node };
          length_within = omega (arith, ap (λ (x : Label). x.length) here, g.shorter i (g.replaced below), old_length);
          steps_within = omega (arith, ap (λ (x : Label). x.steps) here, on.steps, (h.new i g.after below).steps, old_steps);
        }
    | inr apart ↦
        let is = old ls i l was.place apart was.is.within in
        record {
          place = was.place;
          is = record { within = omega (arith, was.is.within, longer.kept); node_is = ap (λ (x : Label). x.node.0) is.same ∙ was.is.node_is };
          length_within = omega (arith, ap (λ (x : Label). x.length) is.same, was.length_within);
          steps_within = omega (arith, ap (λ (x : Label). x.steps) is.same, was.steps_within);
        }
  ]

  latest-new : (j : ℕ) → start ≤ j → j ≢ i → j < length ls → latest_at latest_after (label_at ls j).node.0 ≡ Some j
  latest-new j from other below =
      let is = (h.new j from below).latest in
      elim (same_or_not (label_at ls j).node.0 l.node.0) [
        | inl node ↦ absurd (other (g.fresh j (subst (λ (v : ℕ). latest_at la v ≡ Some j) node is) from))
        | inr apart ↦ latest-other (label_at ls j).node.0 apart ∙ is
      ]

  new-after : (j : ℕ) → start ≤ j → j < length after → IsNew after latest_after start n j
  new-after j from below = elim (new_or_old ls i l j g.within below) [
    | inl is ↦
        let at : label_at after j ≡ l = ap (label_at after) is ∙ here in
        record {
          steps = ap (λ (x : Label). x.steps) at ∙ on.steps;
          earlier = omega (arith, ap (λ (x : Label). x.parent) at, on.parent, on.parent_before);
          latest = ap (λ (x : Label). latest_at latest_after x.node.0) at ∙ latest-here ∙ ap (λ (x : ℕ). Some x) (sym is);
        }
    | inr was ↦
        let new = h.new j from was.within in
        record {
          steps = ap (λ (x : Label). x.steps) was.same ∙ new.steps;
          earlier = omega (arith, ap (λ (x : Label). x.parent) was.same, new.earlier);
          latest = ap (λ (x : Label). latest_at latest_after x.node.0) was.same ∙ latest-new j from was.other was.within;
        }
  ]

  round-after : k ≤ start → IsRound p ws s after latest_after start n k
  round-after upto = record {
    ways = ways-after;
    some_before = h.some_before;
    start_within = omega (arith, h.start_within, longer.kept);
    few = h.few;
    before = λ j below. omega (arith, ap (λ (x : Label). x.steps) (kept j below), h.before j below);
    front = λ j from below. omega (arith, ap (λ (x : Label). x.steps) (kept j below), h.front j from below);
    done = λ j below. subst (λ (x : Label). IsDone p ws after x) (sym (kept j (omega (arith, below, upto)))) (λ a usable tail. at_most-kept _ _ _ (h.done j below a usable tail));
    new = new-after;
  }

  relaxed-here : HasAtMost after (head_of p l.via).0 ((label_at ls k).length + weight_at ws l.via) (suc (label_at ls k).steps)
  relaxed-here = record {
    place = i;
    is = record { within = longer.here; node_is = ap (λ (x : Label). x.node.0) here ∙ sym on.head };
    length_within = omega (arith, ap (λ (x : Label). x.length) here, on.length_is);
    steps_within = omega (arith, ap (λ (x : Label). x.steps) here, on.steps, h.front k (omega arith) on.parent_before);
  }

-- the search has gone on along one arc more
spread-more : (p : Parts) (ws : Weights) (s : NodeId) (ls : Labels) (la : Latest) (start n k : ℕ) (arcs : List ArcId) (m : ℕ) → IsRound p ws s ls la start n k
    → ((j : ℕ) → j < m → IsUsable p ws (arc_at arcs j) → IsRelaxed p ws ls (label_at ls k) (arc_at arcs j)) → (IsUsable p ws (arc_at arcs m) → IsRelaxed p ws ls (label_at ls k) (arc_at arcs m)) → IsSpread p ws s ls la start n k arcs (m + 1)
spread-more p ws s ls la start n k arcs m h before here = record {
  round = h;
  relaxed = λ j below usable. elim (below_cases j m (omega (arith, below))) [
    | inl earlier ↦ before j earlier usable
    | inr is ↦ subst (λ (x : ℕ). IsRelaxed p ws ls (label_at ls k) (arc_at arcs x)) (sym is) (here (subst (λ (x : ℕ). IsUsable p ws (arc_at arcs x)) is usable))
  ];
}

-- an arc that is not usable asks for nothing
pub spread-passed : (p : Parts) (ws : Weights) (s : NodeId) (ls : Labels) (la : Latest) (start n k : ℕ) (arcs : List ArcId) (m : ℕ) → IsSpread p ws s ls la start n k arcs m → (IsUsable p ws (arc_at arcs m) → ⊥) → IsSpread p ws s ls la start n k arcs (m + 1)
spread-passed p ws s ls la start n k arcs m h none = spread-more p ws s ls la start n k arcs m h.round h.relaxed (λ usable. absurd (none usable))

spread-taken : (p : Parts) (ws : Weights) (s : NodeId) (ls : Labels) (la : Latest) (start n k : ℕ) (arcs : List ArcId) (m : ℕ) (l : Label) (i : ℕ) → AreWeights p ws
    → IsSpread p ws s ls la start n k arcs m → GoesOn p ws ls start n k l → Goes ls la start l i → l.via ≡ arc_at arcs m → IsSpread p ws s (written ls i l) (set la l.node.0 (Some i)) start n k arcs (m + 1)
spread-taken p ws s ls la start n k arcs m l i weights h on g via =
    let same = before-kept ls la start l i k h.round.start_within g on.parent_before in
    spread-more p ws s (written ls i l) (set la l.node.0 (Some i)) start n k arcs m
    (round-after p ws s ls la start n k l i weights h.round on g (omega (arith, on.parent_before)))
    (λ j below usable. subst (λ (x : Label). IsRelaxed p ws (written ls i l) x (arc_at arcs j)) (sym same) (at_most-kept p ws s ls la start n k l i weights h.round on g _ _ _ (h.relaxed j below usable)))
    (λ usable. subst (λ (x : Label). IsRelaxed p ws (written ls i l) x (arc_at arcs m)) (sym same)
    (subst (λ (a : ArcId). IsRelaxed p ws (written ls i l) (label_at ls k) a) via (relaxed-here p ws s ls la start n k l i weights h.round on g)))

-- a label that is not shorter changes nothing: its node has one that is as short, of this round or before
spread-left : (p : Parts) (ws : Weights) (s : NodeId) (ls : Labels) (la : Latest) (start n k : ℕ) (arcs : List ArcId) (m : ℕ) (l : Label) → IsSpread p ws s ls la start n k arcs m → GoesOn p ws ls start n k l → IsNoShorter ls la l → l.via ≡ arc_at arcs m → IsSpread p ws s ls la start n k arcs (m + 1)
spread-left p ws s ls la start n k arcs m l h on known via =
    let is = h.round.ways.latest l.node.0 known.latest known.is in
    let steps : (label_at ls known.latest).steps ≤ n = elim (lt_or_le known.latest start) [
      | inl before ↦ omega (arith, h.round.before known.latest before)
      | inr new ↦ omega (arith, (h.round.new known.latest new is.within).steps)
    ] in
    let relaxed : IsRelaxed p ws ls (label_at ls k) l.via = record {
      place = known.latest;
      is = record { within = is.within; node_is = is.node_is ∙ sym on.head };
      length_within = omega (arith, known.no_longer, on.length_is);
      steps_within = omega (arith, steps, h.round.front k (omega arith) on.parent_before);
    } in
    spread-more p ws s ls la start n k arcs m h.round h.relaxed (λ usable. subst (λ (a : ArcId). IsRelaxed p ws ls (label_at ls k) a) via relaxed)

spread-with : (p : Parts) (ws : Weights) (s : NodeId) (ls : Labels) (la : Latest) (start n k : ℕ) (arcs : List ArcId) (m : ℕ) (l : Label) (place : Option ℕ) → AreWeights p ws → IsSpread p ws s ls la start n k arcs m
    → GoesOn p ws ls start n k l → l.via ≡ arc_at arcs m → place_of ls la start l ≡ place → IsSpread p ws s (labels_with ls l place) (latest_with la l place) start n k arcs (m + 1)
spread-with p ws s ls la start n k arcs m l None weights h on via is = spread-left p ws s ls la start n k arcs m l h on (no_shorter ls la start l is) via
spread-with p ws s ls la start n k arcs m l (Some i) weights h on via is = spread-taken p ws s ls la start n k arcs m l i weights h on (goes ls la start l i h.round.start_within (λ b known. (h.round.ways.latest l.node.0 b known).within) is) via

-- offering the head of a usable arc its label relaxes that arc and keeps the round right
pub spread-offered : (p : Parts) (ws : Weights) (s : NodeId) (ls : Labels) (la : Latest) (start n k : ℕ) (arcs : List ArcId) (m : ℕ) (l : Label) → AreWeights p ws → IsSpread p ws s ls la start n k arcs m
    → GoesOn p ws ls start n k l → l.via ≡ arc_at arcs m → IsSpread p ws s (labels_with ls l (place_of ls la start l)) (latest_with la l (place_of ls la start l)) start n k arcs (m + 1)
spread-offered p ws s ls la start n k arcs m l weights h on via = spread-with p ws s ls la start n k arcs m l (place_of ls la start l) weights h on via refl

-- what an offer asks for
pub latest-within : (p : Parts) (ws : Weights) (s : NodeId) (ls : Labels) (la : Latest) (v : ℕ) → AreWays p ws s ls la → IfSome (latest_at la v) (λ place. place < length ls)
latest-within p ws s ls la v h = by_cases (latest_at la v) refl
  where
    by_cases : (known : Option ℕ) → latest_at la v ≡ known → IfSome known (λ place. place < length ls)
    by_cases None is = tt
    by_cases (Some i) is = (h.latest v i is).within

-- an offer leaves the labels of the rounds before as they are
kept-with : (ls : Labels) (la : Latest) (start : ℕ) (l : Label) (j : ℕ) (place : Option ℕ) → start ≤ length ls → ((b : ℕ) → latest_at la l.node.0 ≡ Some b → b < length ls) → j < start → place_of ls la start l ≡ place → label_at (labels_with ls l place) j ≡ label_at ls j
kept-with ls la start l j None fits inside before is = refl
kept-with ls la start l j (Some i) fits inside before is = before-kept ls la start l i j fits (goes ls la start l i fits inside is) before

-- labels of earlier rounds stay as they are when a label is offered
pub kept-offered : (p : Parts) (ws : Weights) (s : NodeId) (ls : Labels) (la : Latest) (start n k : ℕ) (l : Label) → IsRound p ws s ls la start n k → k < start → label_at (labels_with ls l (place_of ls la start l)) k ≡ label_at ls k
kept-offered p ws s ls la start n k l h before = kept-with ls la start l k (place_of ls la start l) h.start_within (λ b known. (h.ways.latest l.node.0 b known).within) before refl

-- a round finds at most one label for each node
pub few-labels : (p : Parts) (ws : Weights) (s : NodeId) (ls : Labels) (la : Latest) (start n k : ℕ) → IsRound p ws s ls la start n k → length ls ≤ start + p.nodes
few-labels p ws s ls la start n k h =
    let found : ℕ = length ls - start in
    let few : found ≤ p.nodes = pigeonhole found p.nodes (λ j. (label_at ls (start + j)).node.0)
    (λ j below. (h.ways.each (start + j) (omega (arith, below, h.start_within))).node_within)
    (λ i j below_i below_j same.
    let at_i = (h.new (start + i) (omega arith) (omega (arith, below_i, h.start_within))).latest in
    let at_j = (h.new (start + j) (omega arith) (omega (arith, below_j, h.start_within))).latest in
    let one = some_same (latest_at la (label_at ls (start + j)).node.0) (start + i) (start + j) (subst (λ (v : ℕ). latest_at la v ≡ Some (start + i)) same at_i) at_j in
    omega (arith, one)) in
    omega (arith, few)

more-times : (n m : ℕ) → n < m → n * m + m ≤ m * m
more-times n m below =
    let one : suc n * m ≡ n * m + m = suc-mul n m in
    let all : suc n * m ≤ m * m = mul-le-mul_right m (let e : suc n ≤ m = omega (arith, below) in e) in
    omega (arith, one, all)

-- there is memory for one label more
pub memory-offered : (p : Parts) (ws : Weights) (s : NodeId) (ls : Labels) (la : Latest) (start n k : ℕ) (l : Label) → AreWeights p ws → n < p.nodes → IsRound p ws s ls la start n k → GoesOn p ws ls start n k l → place_of ls la start l ≡ Some (length ls) → length ls < p.nodes * p.nodes
memory-offered p ws s ls la start n k l weights small h on is =
    let i = length ls in
    let g = goes ls la start l i h.start_within (λ b known. (h.ways.latest l.node.0 b known).within) is in
    let after = round-after p ws s ls la start n k l i weights h on g (omega (arith, on.parent_before)) in
    let few = few-labels p ws s (written ls i l) (set la l.node.0 (Some i)) start n k after in
    omega (arith, few, (written-longer ls i l g.within).here, h.few, more-times n p.nodes small, on.node_within)
