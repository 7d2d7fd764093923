-- Where the search, a round and the way through a node's arcs begin and end.
use Rattle.std.proofs.Common.{◌≡◌, ℕ, ◌+◌, ◌-◌, ◌<◌, ◌≤◌, inl, inr, List, length, Option, Some, None, replicate, refl, sym, ◌∙◌, ap, subst, arith}
use Rattle.std.proofs.Math.ListN.{length-set}
use Rattle.std.proofs.lemmas.List.{get_or-set_same, get_or-set_other, get_or-replicate, get_or_past, length-replicate}
use Rattle.plan_base.specs.declared.ids.NodeId.{NodeId}
use Rattle.plan_base.specs.declared.ids.ArcId.{ArcId}
use Rattle.plan_base.specs.declared.parts.Parts.{Parts}
use Rattle.plan_base.specs.Leaving.{AreLeaving}
use Rattle.least_path.specs.Paths.{Weights, IsUsable}
use Rattle.limited_path.specs.declared.label.Label.{Label}
use Rattle.limited_path.specs.Labels.{Labels, Latest, label_at, latest_at, IsLabel, IsKnown, IsOf, AreWays, IsRelaxed, IsDone, IsRound, AreRounds, IsSpread, first_label_of, first_labels_of, first_latest_of}
use Rattle.limited_path.proofs.WrittenLaws.{same_or_not, lt_or_le, below_cases, some_same}
use Rattle.limited_path.proofs.OfferLaws.{few-labels}

-- the way through a label's arcs begins with none of them relaxed
pub spread-start : (p : Parts) (ws : Weights) (s : NodeId) (ls : Labels) (la : Latest) (start n k : ℕ) (arcs : List ArcId) → IsRound p ws s ls la start n k → IsSpread p ws s ls la start n k arcs 0
spread-start p ws s ls la start n k arcs h = record { round = h; relaxed = λ j below usable. absurd (omega (arith, below)) }

-- all arcs that leave the label's node are done
spread-done : (p : Parts) (ws : Weights) (s : NodeId) (ls : Labels) (la : Latest) (start n k : ℕ) (arcs : List ArcId) → AreLeaving p (label_at ls k).node.0 arcs → IsSpread p ws s ls la start n k arcs (length arcs) → IsDone p ws ls (label_at ls k)
spread-done p ws s ls la start n k arcs leaving h = λ a usable tail.
    let stands = leaving.complete a usable.is_an_arc tail in
    subst (λ (x : ArcId). IsRelaxed p ws ls (label_at ls k) x) stands.is (h.relaxed stands.place stands.within (subst (λ (x : ArcId). IsUsable p ws x) (sym stands.is) usable))

-- when the way through the arcs is at its end, the round goes on with the next label
pub spread-end : (p : Parts) (ws : Weights) (s : NodeId) (ls : Labels) (la : Latest) (start n k : ℕ) (here : Label) (arcs : List ArcId) (m : ℕ) → label_at ls k ≡ here → AreLeaving p here.node.0 arcs → m ≡ length arcs
    → IsSpread p ws s ls la start n k arcs m → IsRound p ws s ls la start n (k + 1)
spread-end p ws s ls la start n k here arcs m here_is leave all spread =
    let leaving : AreLeaving p (label_at ls k).node.0 arcs = subst (λ (x : Label). AreLeaving p x.node.0 arcs) (sym here_is) leave in
    let h : IsSpread p ws s ls la start n k arcs (length arcs) = subst (IsSpread p ws s ls la start n k arcs) all spread in
    record {
      ways = h.round.ways;
      some_before = h.round.some_before;
      start_within = h.round.start_within;
      few = h.round.few;
      before = h.round.before;
      front = λ i from below. h.round.front i (omega (arith, from)) below;
      done = λ i below. elim (below_cases i k (omega (arith, below))) [
        | inl earlier ↦ h.round.done i earlier
        | inr is ↦ subst (λ (x : ℕ). IsDone p ws ls (label_at ls x)) (sym is) (spread-done p ws s ls la start n k arcs leaving h)
      ];
      new = h.round.new;
    }

-- when all labels of the last round are spread, one more round is done
pub round-end : (p : Parts) (ws : Weights) (s : NodeId) (ls : Labels) (la : Latest) (start n : ℕ) → IsRound p ws s ls la start n start → AreRounds p ws s ls la start n
round-end p ws s ls la start n h = record {
  ways = h.ways;
  from_within = h.start_within;
  few = omega (arith, few-labels p ws s ls la start n start h, h.few);
  done = h.done;
  most = λ i below. elim (lt_or_le i start) [
    | inl before ↦ omega (arith, h.before i before)
    | inr after ↦ omega (arith, (h.new i after below).steps)
  ];
  last = λ i after below. (h.new i after below).steps;
}

-- the one label is that of the source
first-is : (s : NodeId) (i : ℕ) → i < length (first_labels_of s) → i ≡ 0
first-is s i below = omega (arith, below)

first-each : (p : Parts) (ws : Weights) (s : NodeId) → s.0 < p.nodes → IsLabel p ws s (first_labels_of s) 0 (first_label_of s)
first-each p ws s within = record {
  node_within = within;
  length_within = omega arith;
  from_source = λ none. refl;
  no_length = λ none. refl;
  from_arc = λ some. absurd (some refl);
}

first-latest : (nodes : ℕ) (s : NodeId) → s.0 < nodes → latest_at (first_latest_of nodes s) s.0 ≡ Some 0
first-latest nodes s within = get_or-set_same (replicate nodes None) s.0 (Some 0) None (omega (arith, within, length-replicate {A = Option ℕ} nodes None))

none-at : (nodes v : ℕ) → latest_at (replicate nodes None) v ≡ None
none-at nodes v = elim (lt_or_le v nodes) [
  | inl below ↦ get_or-replicate {A = Option ℕ} nodes v None None below
  | inr past ↦ get_or_past (replicate nodes None) v None (omega (arith, past, length-replicate {A = Option ℕ} nodes None))
]

first-of : (nodes : ℕ) (s : NodeId) → s.0 < nodes → (v i : ℕ) → latest_at (first_latest_of nodes s) v ≡ Some i → IsOf (first_labels_of s) v i
first-of nodes s within v i is = elim (same_or_not v s.0) [
  | inl here ↦
      let at : i ≡ 0 = some_same (latest_at (first_latest_of nodes s) s.0) i 0 (subst (λ (x : ℕ). latest_at (first_latest_of nodes s) x ≡ Some i) here is) (first-latest nodes s within) in
      record { within = omega (arith, at); node_is = ap (λ (x : ℕ). (label_at (first_labels_of s) x).node.0) at ∙ sym here }
  | inr other ↦ absurd (let bad : None ≡ Some i = sym (get_or-set_other (replicate nodes None) s.0 v (Some 0) None other ∙ none-at nodes v) ∙ is in cc)
]

first-ways : (p : Parts) (ws : Weights) (s : NodeId) → s.0 < p.nodes → AreWays p ws s (first_labels_of s) (first_latest_of p.nodes s)
first-ways p ws s within = record {
  count = length-set (replicate p.nodes None) s.0 (Some 0) ∙ length-replicate p.nodes None;
  source_within = omega arith;
  source_node = refl;
  source_length = refl;
  source_steps = refl;
  each = λ i below. subst (λ (x : ℕ). IsLabel p ws s (first_labels_of s) x (label_at (first_labels_of s) x)) (sym (first-is s i below)) (first-each p ws s within);
  shorter = λ i j before below same. absurd (omega (arith, before, first-is s j below));
  known = λ i below. subst (λ (x : ℕ). IsKnown (first_latest_of p.nodes s) x (label_at (first_labels_of s) x)) (sym (first-is s i below)) (record { latest = 0; is = first-latest p.nodes s within; later = omega arith });
  latest = first-of p.nodes s within;
}

-- before the first round the source alone has a label, with no arc
pub first-rounds : (p : Parts) (ws : Weights) (s : NodeId) → s.0 < p.nodes → AreRounds p ws s (first_labels_of s) (first_latest_of p.nodes s) 0 0
first-rounds p ws s within = record {
  ways = first-ways p ws s within;
  from_within = omega arith;
  few = omega arith;
  done = λ i below. absurd (omega (arith, below));
  most = λ i below. subst (λ (x : ℕ). (label_at (first_labels_of s) x).steps ≤ 0) (sym (first-is s i below)) (omega arith);
  last = λ i after below. ap (λ (x : ℕ). (label_at (first_labels_of s) x).steps) (first-is s i below);
}
