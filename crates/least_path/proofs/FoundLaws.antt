-- Potentials show that a path is least, and a closed set that there is none.
use Rattle.std.proofs.Common.{◌≡◌, ℕ, zero, suc, ◌+◌, ◌<◌, ◌≤◌, inl, inr, true, false, Bool, ◌&&◌, List, length, get_or, take, map, Option, Some, None, min, arith, refl, sym, ◌∙◌, ap, subst, sum_by, if◌then◌else◌}
use Rattle.std.proofs.lemmas.Bool.{ltb-true}
use Rattle.std.proofs.lemmas.List.{get_or-map, length-map, get_or_past}
use Rattle.std.proofs.lemmas.List.Sums.{sum_by_more, sum_by-take-le}
use Rattle.plan_base.specs.declared.ids.NodeId.{NodeId}
use Rattle.plan_base.specs.declared.ids.ArcId.{ArcId}
use Rattle.plan_base.specs.declared.parts.Parts.{Parts}
use Rattle.plan_base.specs.Facts.{IsInstance}
use Rattle.plan_base.specs.Arcs.{is_arc, tail_of, head_of, link_of, is_back, no_link, no_arc}
use Rattle.plan_base.specs.Paths.{arc_at, node_at}
use Rattle.plan_base.proofs.Bools.{and-first}
use Rattle.plan_base.proofs.PathLaws.{head-within}
use Rattle.least_path.specs.declared.label.Label.{Label}
use Rattle.least_path.specs.declared.label.Stop.{Stop}
use Rattle.least_path.specs.Paths.{Weights, weight_at, weight_of, IsUsable, IsUsablePath, IsLeastPath, ArePotentials, IsIn, IsClosedSet, IsBelow, HasNoUsablePath, HasNoneBelow}
use Rattle.least_path.specs.Labels.{Labels, label_at, way, is_labelled, potential_of, HasNoOpen, IsWanted, IsNearest, IsSearch}
use Rattle.least_path.specs.Trees.{RiseAlong}
use Rattle.least_path.proofs.NearestLaws.{decide, label_within, lt_or_le, some_same}
use Rattle.least_path.proofs.WayLaws.{way-path}

-- along a usable path potentials rise by at most the weights
rises : (p : Parts) (ws : Weights) (s t : NodeId) (potential : ℕ → ℕ) (arcs : List ArcId) → potential s.0 ≡ 0 → ((a : ArcId) → IsUsable p ws a → potential (head_of p a).0 ≤ potential (tail_of p a).0 + weight_at ws a)
    → IsUsablePath p ws s t arcs → (i : ℕ) → i ≤ length arcs → potential (node_at p s arcs i) ≤ sum_by (λ a. weight_at ws a) (take i arcs)
rises p ws s t potential arcs start along h zero within = omega (arith, start)
rises p ws s t potential arcs start along h (suc i) within =
    let a = arc_at arcs i in
    let before = rises p ws s t potential arcs start along h i (omega arith) in
    let step = along a (h.usable i (omega arith)) in
    let tail : potential (tail_of p a).0 ≡ potential (node_at p s arcs i) = ap potential (h.simple.goes_on i (omega arith)) in
    let more : sum_by (λ b. weight_at ws b) (take (suc i) arcs) ≡ sum_by (λ b. weight_at ws b) (take i arcs) + weight_at ws a =
    subst (λ (k : ℕ). sum_by (λ b. weight_at ws b) (take k arcs) ≡ sum_by (λ b. weight_at ws b) (take i arcs) + weight_at ws a) (let e : i + 1 ≡ suc i = omega arith in e) (sum_by_more (λ b. weight_at ws b) arcs i no_arc (omega arith)) in
    omega (arith, before, step, tail, more)

-- potentials from the source to the target bound the weight of each path from below
pub least : (p : Parts) (ws : Weights) (s t : NodeId) (weight : ℕ) (potentials : List ℕ) → ArePotentials p ws s t weight potentials → (other : List ArcId) → IsUsablePath p ws s t other → weight ≤ weight_of ws other
least p ws s t weight potentials h other path =
    let up = rises p ws s t (λ v. get_or potentials v 0) other h.at_source h.along path (length other) (omega arith) in
    let end : get_or potentials (node_at p s other (length other)) 0 ≡ weight = ap (λ (v : ℕ). get_or potentials v 0) path.simple.ends_at_target ∙ h.at_target in
    omega (arith, up, end, sum_by-take-le (λ a. weight_at ws a) other (length other))

either : {X : Type 0} (b : Bool) (P : X → Type 0) {x y : X} → P x → P y → P (if b then x else y)
either true P on_true on_false = on_true
either false P on_true on_false = on_false

-- the tail of an arc is a node
pub tail-within : (p : Parts) (a : ArcId) → IsInstance p → is_arc p a ≡ true → (tail_of p a).0 < p.nodes
tail-within p a inst is =
    let lawful = inst.links (link_of a) no_link (ltb-true (link_of a) (length p.links) (and-first _ _ is)) in
    either (is_back a) (λ (n : NodeId). n.0 < p.nodes) lawful.target lawful.source

-- a potential is at most the weight that caps it
pub potential-at_most : (weight : ℕ) (x : Option Label) → potential_of weight x ≤ weight
potential-at_most weight None = omega arith
potential-at_most weight (Some l) = omega arith

-- the potential at a place of the list is that of the node's label
pub potential-at : (ls : Labels) (weight v : ℕ) → v < length ls → get_or (map (potential_of weight) ls) v 0 ≡ potential_of weight (label_at ls v)
potential-at ls weight v within = get_or-map (potential_of weight) ls v None 0 within

-- a labelled node has the length of its label as potential, capped by the weight
pub potential-label : (ls : Labels) (weight v : ℕ) (l : Label) → label_at ls v ≡ Some l → get_or (map (potential_of weight) ls) v 0 ≡ min l.length weight
potential-label ls weight v l is = potential-at ls weight v (label_within ls v l is) ∙ ap (potential_of weight) is

-- the search is done with all ways that are shorter than this: no open node is nearer, and each such way is wanted
pub record IsDoneBelow (limit : Option ℕ) (t : NodeId) (ls : Labels) (weight : ℕ) : Type 0 where
  far : (v : ℕ) (l : Label) → label_at ls v ≡ Some l → l.settled ≡ false → weight ≤ l.length
  wanted : (n : ℕ) → n < weight → IsWanted limit t ls n

below-less : (limit : Option ℕ) (n most : ℕ) → n < most → IsBelow limit most → IsBelow limit n
below-less None n most less below = tt
below-less (Some limit) n most less below = omega (arith, less, below)

-- where the target is the nearest node
done-found : (p : Parts) (ws : Weights) (limit : Option ℕ) (s t : NodeId) (ls : Labels) (stop : Stop) → IsSearch p ws limit s t ls → IsNearest ls stop → stop.node.0 ≡ t.0 → IsDoneBelow limit t ls stop.label.length
done-found p ws limit s t ls stop h near target = record {
  far = near.least;
  wanted = λ n less. record {
    below = below-less limit n stop.label.length less (h.below stop.node.0 stop.label near.is);
    shorter = λ l at.
        let same : stop.label ≡ l = some_same (label_at ls t.0) stop.label l (subst (λ (v : ℕ). label_at ls v ≡ Some stop.label) target near.is) at in
        subst (λ (x : Label). n < x.length) same less;
  };
}

-- where no node is left, the target is not reached
unreached : (p : Parts) (ws : Weights) (limit : Option ℕ) (s t : NodeId) (ls : Labels) → IsSearch p ws limit s t ls → HasNoOpen ls → (l : Label) → label_at ls t.0 ≡ Some l → ⊥
unreached p ws limit s t ls h none l at = let bad : true ≡ false = sym (none t.0 l at) ∙ h.labels.target_open l at in cc

-- a search that has no open node left is done with all ways below its limit
pub done-all : (p : Parts) (ws : Weights) (limit : Option ℕ) (s t : NodeId) (ls : Labels) (weight : ℕ) → IsSearch p ws limit s t ls → HasNoOpen ls → ((n : ℕ) → n < weight → IsBelow limit n) → IsDoneBelow limit t ls weight
done-all p ws limit s t ls weight h none below = record {
  far = λ v l at open_. absurd (let bad : true ≡ false = sym (none v l at) ∙ open_ in cc);
  wanted = λ n less. record { below = below n less; shorter = λ l at. absurd (unreached p ws limit s t ls h none l at) };
}

-- along an arc whose tail has this label
along-arc : (p : Parts) (ws : Weights) (limit : Option ℕ) (s t : NodeId) (ls : Labels) (weight : ℕ) (a : ArcId) (known : Option Label) → IsSearch p ws limit s t ls → IsDoneBelow limit t ls weight → IsUsable p ws a
    → label_at ls (tail_of p a).0 ≡ known → (head_of p a).0 < length ls → (tail_of p a).0 < length ls → get_or (map (potential_of weight) ls) (head_of p a).0 0 ≤ get_or (map (potential_of weight) ls) (tail_of p a).0 0 + weight_at ws a
along-arc p ws limit s t ls weight a None h done usable is head tail =
    let at_tail : get_or (map (potential_of weight) ls) (tail_of p a).0 0 ≡ weight = potential-at ls weight (tail_of p a).0 tail ∙ ap (potential_of weight) is in
    omega (arith, at_tail, potential-at ls weight (head_of p a).0 head, potential-at_most weight (label_at ls (head_of p a).0))
along-arc p ws limit s t ls weight a (Some l) h done usable is head tail =
    let at_tail = potential-label ls weight (tail_of p a).0 l is in
    let most = potential-at_most weight (label_at ls (head_of p a).0) in
    elim (lt_or_le (l.length + weight_at ws a) weight) [
      | inl below ↦ elim (decide l.settled) [
        | inl settled ↦
            let reached = h.relaxed a usable l is settled (done.wanted (l.length + weight_at ws a) below) in
            let at_head = potential-label ls weight (head_of p a).0 reached.label reached.is in
            omega (arith, at_tail, at_head, reached.within)
        | inr open_ ↦ absurd (omega (arith, below, done.far (tail_of p a).0 l is open_))
      ]
      | inr beyond ↦ omega (arith, at_tail, beyond, potential-at ls weight (head_of p a).0 head, most)
    ]

-- once the search is done below a weight, potentials rise along no arc by more than its weight
pub all-along : (p : Parts) (ws : Weights) (limit : Option ℕ) (s t : NodeId) (ls : Labels) (weight : ℕ) → IsInstance p → IsSearch p ws limit s t ls → IsDoneBelow limit t ls weight → RiseAlong p ws (map (potential_of weight) ls)
all-along p ws limit s t ls weight inst h done = λ a usable. along-arc p ws limit s t ls weight a (label_at ls (tail_of p a).0) h done usable refl
    (omega (arith, head-within p a inst usable.is_an_arc, h.labels.count))
    (omega (arith, tail-within p a inst usable.is_an_arc, h.labels.count))

-- they show the weight of a path to a node that has this potential
pub all-shown : (p : Parts) (ws : Weights) (limit : Option ℕ) (s outside t : NodeId) (ls : Labels) (weight : ℕ) → IsInstance p → IsSearch p ws limit s outside ls
    → IsDoneBelow limit outside ls weight → get_or (map (potential_of weight) ls) t.0 0 ≡ weight → ArePotentials p ws s t weight (map (potential_of weight) ls)
all-shown p ws limit s outside t ls weight inst h done at_target = record {
  count = length-map ls (potential_of weight) ∙ h.labels.count;
  at_source = let at = potential-label ls weight s.0 h.labels.source_label h.labels.source_is in omega (arith, at, h.labels.source_length);
  at_target = at_target;
  along = all-along p ws limit s outside ls weight inst h done;
}

-- where the target is the nearest open node, the labels' lengths are potentials that show its length
pub potentials-right : (p : Parts) (ws : Weights) (limit : Option ℕ) (s t : NodeId) (ls : Labels) (stop : Stop) → IsInstance p → IsSearch p ws limit s t ls → IsNearest ls stop → stop.node.0 ≡ t.0 → ArePotentials p ws s t stop.label.length (map (potential_of stop.label.length) ls)
potentials-right p ws limit s t ls stop inst h near target =
    let at = potential-label ls stop.label.length t.0 stop.label (subst (λ (v : ℕ). label_at ls v ≡ Some stop.label) target near.is) in
    all-shown p ws limit s t t ls stop.label.length inst h (done-found p ws limit s t ls stop h near target) (omega (arith, at))

-- where the target is the nearest open node, the way of its label is a least path
pub found-path : (p : Parts) (ws : Weights) (limit : Option ℕ) (s t : NodeId) (ls : Labels) (stop : Stop) → IsInstance p → IsSearch p ws limit s t ls → IsNearest ls stop → stop.node.0 ≡ t.0 → IsLeastPath p ws s t (way p ls stop.label.steps stop.label) stop.label.length
found-path p ws limit s t ls stop inst h near target =
    let path = way-path p ws s t t ls stop.node.0 stop.label h.labels near.is target in
    record {
      path = path.path;
      weight_is = path.weight;
      least = least p ws s t stop.label.length (map (potential_of stop.label.length) ls) (potentials-right p ws limit s t ls stop inst h near target);
    }

-- a set that no usable arc leaves holds each node of a path
stays_in : (p : Parts) (ws : Weights) (s t : NodeId) (reached : List Bool) (arcs : List ArcId) → IsClosedSet p ws s t reached → IsUsablePath p ws s t arcs → (i : ℕ) → i ≤ length arcs → IsIn reached (node_at p s arcs i)
stays_in p ws s t reached arcs set path zero within = set.has_source
stays_in p ws s t reached arcs set path (suc i) within =
    set.closed (arc_at arcs i) (path.usable i (omega arith))
    (subst (IsIn reached) (sym (path.simple.goes_on i (omega arith))) (stays_in p ws s t reached arcs set path i (omega arith)))

-- where a set with the source and without the target is left by no usable arc, there is no path
pub closed-no_path : (p : Parts) (ws : Weights) (s t : NodeId) (reached : List Bool) → IsClosedSet p ws s t reached → HasNoUsablePath p ws s t
closed-no_path p ws s t reached set = λ arcs path.
    let there : IsIn reached t.0 = subst (IsIn reached) path.simple.ends_at_target (stays_in p ws s t reached arcs set path (length arcs) (omega arith)) in
    let bad : true ≡ false = sym there ∙ set.lacks_target in
    cc

-- there is a label, and this is it
pub record IsSomeLabel (x : Option Label) : Type 0 where
  pub label : Label
  pub is : x ≡ Some label

some-label : (x : Option Label) → is_labelled x ≡ true → IsSomeLabel x
some-label None h = absurd (let bad : false ≡ true = h in cc)
some-label (Some l) h = record { label = l; is = refl }

-- a node of the reached set has a label
pub in-label : (ls : Labels) (v : ℕ) → IsIn (map is_labelled ls) v → IsSomeLabel (label_at ls v)
in-label ls v h = elim (lt_or_le v (length ls)) [
  | inl within ↦ some-label (label_at ls v) (sym (get_or-map is_labelled ls v None false within) ∙ h)
  | inr past ↦ absurd (let bad : false ≡ true = sym (get_or_past (map is_labelled ls) v false (omega (arith, past, length-map {A = Option Label} {B = Bool} ls is_labelled))) ∙ h in cc)
]

-- a labelled node is in the reached set
pub label-in : (ls : Labels) (v : ℕ) (l : Label) → label_at ls v ≡ Some l → IsIn (map is_labelled ls) v
label-in ls v l is = get_or-map is_labelled ls v None false (label_within ls v l is) ∙ ap (λ (x : Option Label). is_labelled x) is

no_label_at : (x : Option Label) → ((l : Label) → x ≡ Some l → ⊥) → x ≡ None
no_label_at None h = refl
no_label_at (Some l) h = absurd (h l refl)

lacks : (ls : Labels) (v : ℕ) → label_at ls v ≡ None → get_or (map is_labelled ls) v false ≡ false
lacks ls v none = elim (lt_or_le v (length ls)) [
  | inl within ↦ get_or-map is_labelled ls v None false within ∙ ap (λ (x : Option Label). is_labelled x) none
  | inr past ↦ get_or_past (map is_labelled ls) v false (omega (arith, past, length-map {A = Option Label} {B = Bool} ls is_labelled))
]

-- where no node is open and there was no limit, the labelled nodes are a closed set
pub reached-closed : (p : Parts) (ws : Weights) (s outside t : NodeId) (ls : Labels) → IsSearch p ws None s outside ls → HasNoOpen ls → label_at ls t.0 ≡ None → IsClosedSet p ws s t (map is_labelled ls)
reached-closed p ws s outside t ls h none missed = record {
  count = length-map ls is_labelled ∙ h.labels.count;
  has_source = label-in ls s.0 h.labels.source_label h.labels.source_is;
  lacks_target = lacks ls t.0 missed;
  closed = λ a usable inside.
      let from = in-label ls (tail_of p a).0 inside in
      let wanted : IsWanted None outside ls (from.label.length + weight_at ws a) = record { below = tt; shorter = λ l at. absurd (unreached p ws None s outside ls h none l at) } in
      let to = h.relaxed a usable from.label from.is (none (tail_of p a).0 from.label from.is) wanted in
      label-in ls (head_of p a).0 to.label to.is;
}

-- where no node is open, the target has no label: it would be open itself
pub no-label : (p : Parts) (ws : Weights) (limit : Option ℕ) (s t : NodeId) (ls : Labels) → IsSearch p ws limit s t ls → HasNoOpen ls → label_at ls t.0 ≡ None
no-label p ws limit s t ls h none = no_label_at (label_at ls t.0) (unreached p ws limit s t ls h none)

-- where no node is left, no path is below the limit
pub none-below : (p : Parts) (ws : Weights) (limit : Option ℕ) (s t : NodeId) (ls : Labels) → IsInstance p → t.0 < p.nodes → IsSearch p ws limit s t ls → HasNoOpen ls → HasNoneBelow p ws s t limit
none-below p ws None s t ls inst target h none = closed-no_path p ws s t (map is_labelled ls) (reached-closed p ws s t t ls h none (no-label p ws None s t ls h none))
none-below p ws (Some most) s t ls inst target h none =
    let at = potential-at ls most t.0 (omega (arith, target, h.labels.count)) ∙ ap (potential_of most) (no-label p ws (Some most) s t ls h none) in
    least p ws s t most (map (potential_of most) ls) (all-shown p ws (Some most) s t t ls most inst h (done-all p ws (Some most) s t ls most h none (λ n less. less)) at)

-- no weight is below a limit of nothing
pub none-at_all : (p : Parts) (ws : Weights) (limit : Option ℕ) (s t : NodeId) → (IsBelow limit 0 → ⊥) → HasNoneBelow p ws s t limit
none-at_all p ws None s t not_below = absurd (not_below tt)
none-at_all p ws (Some zero) s t not_below = λ arcs path. omega arith
none-at_all p ws (Some (suc most)) s t not_below = absurd (not_below (omega arith))
