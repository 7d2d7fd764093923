-- The search before its first node, where a node is settled, and when all its arcs are done.
use Rattle.std.proofs.Common.{◌≡◌, ◌≢◌, ℕ, ◌+◌, ◌<◌, ◌≤◌, inl, inr, true, false, Bool, List, [], ◌∷◌, length, Option, Some, None, arith, refl, sym, ◌∙◌, subst, replicate}
use Rattle.std.proofs.Math.ListN.{set, length-set}
use Rattle.std.proofs.lemmas.List.{get_or-set_same, get_or-replicate, length-replicate}
use Rattle.std.proofs.lemmas.List.Sums.{sum_by-set, sum_by-append}
use Rattle.plan_base.specs.declared.ids.NodeId.{NodeId}
use Rattle.plan_base.specs.declared.ids.ArcId.{ArcId}
use Rattle.plan_base.specs.declared.parts.Parts.{Parts}
use Rattle.plan_base.specs.Arcs.{tail_of, head_of}
use Rattle.plan_base.specs.Leaving.{AreLeaving}
use Rattle.least_path.specs.declared.label.Label.{Label}
use Rattle.least_path.specs.declared.label.Stop.{Stop}
use Rattle.least_path.specs.Paths.{Weights, weight_at, IsUsable, IsBelow}
use Rattle.least_path.specs.Labels.{Labels, label_at, open_one, open_count, IsNearest, IsLabel, AreLabels, HasAtMost, IsWanted, IsRelaxed, IsSearch, IsSpread, first_label_of, first_labels_of}
use Rattle.least_path.proofs.NearestLaws.{same_or_not, label_within, some_same}
use Rattle.least_path.proofs.OfferLaws.{new_or_old, kept, reached-kept, old-label, open_one-unsettled}

-- the label once its node is settled
abbrev pub settled_label : Label → Label
settled_label l = record { length = l.length; steps = l.steps; via = l.via; settled = true }

-- the nearest node with its label, once it is settled
abbrev pub settled_stop : Stop → Stop
settled_stop stop = record { node = stop.node; label = settled_label stop.label }

-- the labels once the node is settled
abbrev pub settled_in : Labels → Stop → Labels
settled_in ls stop = set ls stop.node.0 (Some (settled_label stop.label))

nearest-open : (ls : Labels) (stop : Stop) → IsNearest ls stop → (k : Label) → label_at ls stop.node.0 ≡ Some k → k.settled ≡ false
nearest-open ls stop near k at = subst (λ (x : Label). x.settled ≡ false) (some_same (label_at ls stop.node.0) stop.label k near.is at) near.unsettled

-- settling the nearest node leaves one node fewer open
pub count-settled : (ls : Labels) (stop : Stop) → IsNearest ls stop → open_count (settled_in ls stop) + 1 ≡ open_count ls
count-settled ls stop near =
    let change : open_count (settled_in ls stop) + open_one (label_at ls stop.node.0) ≡ open_count ls + 0 = sum_by-set open_one ls stop.node.0 (Some (settled_label stop.label)) None (label_within ls stop.node.0 stop.label near.is) in
    let before : open_one (label_at ls stop.node.0) ≡ 1 = open_one-unsettled (label_at ls stop.node.0) (nearest-open ls stop near) in
    omega (arith, change, before)

-- a label of the source, of no length
record HasSource (s : NodeId) (ls : Labels) : Type 0 where
  label : Label
  is : label_at ls s.0 ≡ Some label
  no_length : label.length ≡ 0

source-settled : (p : Parts) (ws : Weights) (s t : NodeId) (ls : Labels) (stop : Stop) → AreLabels p ws s t ls → IsNearest ls stop → HasSource s (settled_in ls stop)
source-settled p ws s t ls stop h near =
    let within = label_within ls stop.node.0 stop.label near.is in
    elim (same_or_not s.0 stop.node.0) [
      | inl here ↦
          let same : h.source_label ≡ stop.label = some_same (label_at ls stop.node.0) h.source_label stop.label (subst (λ (k : ℕ). label_at ls k ≡ Some h.source_label) here h.source_is) near.is in
          record {
            label = settled_label stop.label;
            is = subst (λ (k : ℕ). label_at (settled_in ls stop) k ≡ Some (settled_label stop.label)) (sym here) (get_or-set_same ls stop.node.0 (Some (settled_label stop.label)) None within);
            no_length = subst (λ (x : Label). x.length ≡ 0) same h.source_length;
          }
      | inr other ↦ record { label = h.source_label; is = kept ls stop.node.0 (settled_label stop.label) s.0 h.source_label other h.source_is; no_length = h.source_length }
    ]

label-settled : (p : Parts) (ws : Weights) (s : NodeId) (ls : Labels) (stop : Stop) → IsNearest ls stop → IsLabel p ws s ls stop.node.0 stop.label → IsLabel p ws s (settled_in ls stop) stop.node.0 (settled_label stop.label)
label-settled p ws s ls stop near old = record {
  steps_within = omega (arith, old.steps_within, count-settled ls stop near);
  length_within = old.length_within;
  from_source = old.from_source;
  no_length = old.no_length;
  from_arc = λ some.
      let r = reached-kept p ws ls stop.node.0 (settled_label stop.label) stop.node.0 stop.label (nearest-open ls stop near) (old.from_arc some) in
      record { usable = r.usable; head = r.head; parent = r.parent; parent_is = r.parent_is; parent_settled = r.parent_settled; steps = r.steps; length_is = r.length_is };
}

settled-labels : (p : Parts) (ws : Weights) (s t : NodeId) (ls : Labels) (stop : Stop) → AreLabels p ws s t ls → IsNearest ls stop → stop.node.0 ≢ t.0 → AreLabels p ws s t (settled_in ls stop)
settled-labels p ws s t ls stop h near other =
    let v = stop.node.0 in
    let l = settled_label stop.label in
    let within = label_within ls v stop.label near.is in
    let source = source-settled p ws s t ls stop h near in
    record {
      count = length-set ls v (Some l) ∙ h.count;
      source_label = source.label;
      source_is = source.is;
      source_length = source.no_length;
      each = λ w m at. elim (new_or_old ls v l w m within at) [
        | inl is ↦ subst (λ (k : ℕ). IsLabel p ws s (settled_in ls stop) k m) (sym is.here) (subst (IsLabel p ws s (settled_in ls stop) v) is.same (label-settled p ws s ls stop near (h.each v stop.label near.is)))
        | inr is ↦ old-label p ws s ls v l w m (nearest-open ls stop near) (omega (arith, count-settled ls stop near)) (h.each w m is.is)
      ];
      ordered = λ w x m k at_w at_x settled unsettled. elim (new_or_old ls v l x k within at_x) [
        | inl new_x ↦ absurd (let bad : true ≡ false = subst (λ (y : Label). y.settled ≡ false) (sym new_x.same) unsettled in cc)
        | inr old_x ↦ elim (new_or_old ls v l w m within at_w) [
          | inl new_w ↦ subst (λ (y : Label). y.length ≤ k.length) new_w.same (near.least x k old_x.is unsettled)
          | inr old_w ↦ h.ordered w x m k old_w.is old_x.is settled unsettled
        ]
      ];
      target_open = λ m at. elim (new_or_old ls v l t.0 m within at) [
        | inl is ↦ absurd (other (sym is.here))
        | inr is ↦ h.target_open m is.is
      ];
    }

at_most-settled : (ls : Labels) (stop : Stop) (w bound : ℕ) → IsNearest ls stop → HasAtMost ls w bound → HasAtMost (settled_in ls stop) w bound
at_most-settled ls stop w bound near h =
    let within = label_within ls stop.node.0 stop.label near.is in
    elim (same_or_not w stop.node.0) [
      | inl here ↦
          let same : h.label ≡ stop.label = some_same (label_at ls stop.node.0) h.label stop.label (subst (λ (k : ℕ). label_at ls k ≡ Some h.label) here h.is) near.is in
          record {
            label = settled_label stop.label;
            is = subst (λ (k : ℕ). label_at (settled_in ls stop) k ≡ Some (settled_label stop.label)) (sym here) (get_or-set_same ls stop.node.0 (Some (settled_label stop.label)) None within);
            within = subst (λ (x : Label). x.length ≤ bound) same h.within;
          }
      | inr other ↦ record { label = h.label; is = kept ls stop.node.0 (settled_label stop.label) w h.label other h.is; within = h.within }
    ]

-- settling another node leaves the target's label
wanted-kept : (limit : Option ℕ) (t : NodeId) (ls : Labels) (stop : Stop) (n : ℕ) → stop.node.0 ≢ t.0 → IsWanted limit t (settled_in ls stop) n → IsWanted limit t ls n
wanted-kept limit t ls stop n other w = record {
  below = w.below;
  shorter = λ m at. w.shorter m (kept ls stop.node.0 (settled_label stop.label) t.0 m (λ same. other (sym same)) at);
}

-- when the nearest node is settled and is not the target, the way through its arcs can begin
pub spread-start : (p : Parts) (ws : Weights) (limit : Option ℕ) (s t : NodeId) (ls : Labels) (stop : Stop) → IsSearch p ws limit s t ls → IsNearest ls stop → stop.node.0 ≢ t.0 → IsSpread p ws limit s t (settled_in ls stop) (settled_stop stop) [] 0
spread-start p ws limit s t ls stop h near other =
    let v = stop.node.0 in
    let l = settled_label stop.label in
    let within = label_within ls v stop.label near.is in
    record {
      labels = settled-labels p ws s t ls stop h.labels near other;
      below = λ w m at. elim (new_or_old ls v l w m within at) [
        | inl is ↦ subst (λ (y : Label). IsBelow limit y.length) is.same (h.below v stop.label near.is)
        | inr is ↦ h.below w m is.is
      ];
      here = get_or-set_same ls v (Some l) None within;
      settled = refl;
      latest = λ w m at settled. elim (new_or_old ls v l w m within at) [
        | inl is ↦ subst (λ (y : Label). y.length ≤ stop.label.length) is.same (omega arith)
        | inr is ↦ h.labels.ordered w v m stop.label is.is near.is settled near.unsettled
      ];
      steps = omega (arith, (h.labels.each v stop.label near.is).steps_within, count-settled ls stop near);
      others = λ a usable elsewhere. λ m at settled wanted. elim (new_or_old ls v l (tail_of p a).0 m within at) [
        | inl is ↦ absurd (elsewhere is.here)
        | inr is ↦ at_most-settled ls stop (head_of p a).0 (m.length + weight_at ws a) near (h.relaxed a usable m is.is settled (wanted-kept limit t ls stop (m.length + weight_at ws a) other wanted))
      ];
      done = λ j below. absurd (omega arith);
    }

-- all arcs that leave the node are done
pub spread-end : (p : Parts) (ws : Weights) (limit : Option ℕ) (s t : NodeId) (ls : Labels) (stop : Stop) (arcs : List ArcId) → AreLeaving p stop.node.0 arcs → IsSpread p ws limit s t ls stop arcs (length arcs) → IsSearch p ws limit s t ls
spread-end p ws limit s t ls stop arcs leaving h = record {
  labels = h.labels;
  below = h.below;
  relaxed = λ a usable. elim (same_or_not (tail_of p a).0 stop.node.0) [
    | inl here ↦
        let stands = leaving.complete a usable.is_an_arc here in
        subst (IsRelaxed p ws limit t ls) stands.is (h.done stands.place stands.within (subst (IsUsable p ws) (sym stands.is) usable))
    | inr other ↦ h.others a usable other
  ];
}

-- before the first node is settled
none-replicated : (n w : ℕ) (m : Label) → label_at (replicate n None) w ≡ Some m → ⊥
none-replicated n w m at =
    let within : w < n = subst (λ (k : ℕ). w < k) (length-replicate n None) (label_within (replicate n None) w m at) in
    let bad : None ≡ Some m = sym (get_or-replicate n w None None within) ∙ at in
    cc

open_one-at_most : (x : Option Label) → open_one x ≤ 1
open_one-at_most None = omega arith
open_one-at_most (Some l) = one l.settled
  where
    one : (b : Bool) → open_one (Some (record { length = l.length; steps = l.steps; via = l.via; settled = b })) ≤ 1
    one true = omega arith
    one false = omega arith

open_count-at_most : (ls : Labels) → open_count ls ≤ length ls
open_count-at_most [] = omega arith
open_count-at_most (x ∷ ls) =
    let more : open_count (x ∷ ls) ≡ (0 + open_one x) + open_count ls = sum_by-append open_one (x ∷ []) ls in
    omega (arith, more, open_one-at_most x, open_count-at_most ls)

-- the node is the source, with the first label
pub record IsFirst (s w : ℕ) (m : Label) : Type 0 where
  pub here : w ≡ s
  pub same : first_label_of ≡ m

-- before the first step the source alone has a label
pub first-only : (n s w : ℕ) (m : Label) → s < n → label_at (first_labels_of n s) w ≡ Some m → IsFirst s w m
first-only n s w m within at = elim (new_or_old (replicate n None) s first_label_of w m (omega (arith, length-replicate {A = Option Label} n None)) at) [
  | inl is ↦ record { here = is.here; same = is.same }
  | inr is ↦ absurd (none-replicated n w m is.is)
]

first-open : (m : Label) → first_label_of ≡ m → m.settled ≡ false
first-open m same = subst (λ (x : Label). x.settled ≡ false) same refl

-- before the first step the labels are those of a search
pub first-search : (p : Parts) (ws : Weights) (limit : Option ℕ) (s t : NodeId) → s.0 < p.nodes → IsBelow limit 0 → IsSearch p ws limit s t (first_labels_of p.nodes s.0)
first-search p ws limit s t within some =
    let ls = first_labels_of p.nodes s.0 in
    let count : length ls ≡ p.nodes = length-set (replicate p.nodes None) s.0 (Some first_label_of) ∙ length-replicate p.nodes None in
    record {
      labels = record {
        count = count;
        source_label = first_label_of;
        source_is = get_or-set_same (replicate p.nodes None) s.0 (Some first_label_of) None (omega (arith, length-replicate {A = Option Label} p.nodes None));
        source_length = refl;
        each = λ w m at.
            let is = first-only p.nodes s.0 w m within at in
            subst (IsLabel p ws s ls w) is.same (record {
              steps_within = omega (arith, open_count-at_most ls, count);
              length_within = omega arith;
              from_source = λ none. is.here;
              no_length = λ none. refl;
              from_arc = λ some. absurd (some refl);
            });
        ordered = λ w x m k at_w at_x settled unsettled. absurd (let bad : true ≡ false = sym settled ∙ first-open m (first-only p.nodes s.0 w m within at_w).same in cc);
        target_open = λ m at. first-open m (first-only p.nodes s.0 t.0 m within at).same;
      };
      below = λ v m at. subst (λ (x : Label). IsBelow limit x.length) (first-only p.nodes s.0 v m within at).same some;
      relaxed = λ a usable m at settled. absurd (let bad : true ≡ false = sym settled ∙ first-open m (first-only p.nodes s.0 (tail_of p a).0 m within at).same in cc);
    }
