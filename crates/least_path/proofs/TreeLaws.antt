-- What a tree's labels say: a way of least weight to each node that is reached, and none to the others.
use Rattle.std.proofs.Common.{◌≡◌, ℕ, suc, ◌+◌, ◌<◌, ◌≤◌, inl, inr, Bool, List, [], ◌∷◌, ◌++◌, length, get_or, map, reverse, Option, Some, None, IfSome, IfNone, arith, refl, sym, ◌∙◌, ap, subst, if◌then◌else◌}
use Rattle.std.specs.Option.{unwrap_or}
use Rattle.std.proofs.lemmas.List.{append-nil, get_or_past}
use Rattle.plan_base.specs.declared.ids.NodeId.{NodeId}
use Rattle.plan_base.specs.declared.ids.ArcId.{ArcId}
use Rattle.plan_base.specs.declared.parts.Parts.{Parts}
use Rattle.plan_base.specs.Facts.{IsInstance}
use Rattle.plan_base.specs.Arcs.{tail_of}
use Rattle.least_path.specs.declared.label.Label.{Label}
use Rattle.least_path.specs.declared.label.Stop.{Stop}
use Rattle.least_path.specs.Paths.{Weights, IsLeastPath, ArePotentials, HasNoUsablePath}
use Rattle.least_path.specs.Labels.{Labels, label_at, way, is_labelled, potential_of, HasNoOpen, IsSearch, IsNearest}
use Rattle.least_path.specs.Trees.{IsTree, length_of_label, length_at, label_before, AreLengths, RiseAlong}
use Rattle.least_path.proofs.NearestLaws.{label_within, lt_or_le, below_cases, some_same}
use Rattle.least_path.proofs.FoundLaws.{IsDoneBelow, done-all, all-along, all-shown, least, potential-label, closed-no_path, reached-closed}
use Rattle.least_path.proofs.WayLaws.{IsReadBack, way-path, back-more, back-end, back-reached}

-- a search that met no open node has a tree
pub all-settled : (p : Parts) (ws : Weights) (s outside : NodeId) (ls : Labels) (found : Option Stop) → outside.0 ≡ p.nodes → IsSearch p ws None s outside ls → IfSome found (IsNearest ls) → IfSome found (λ last. last.node.0 ≡ outside.0) → IfNone found (HasNoOpen ls) → IsTree p ws s ls
all-settled p ws s outside ls None out h near at none = record {
  search = subst (λ (n : ℕ). IsSearch p ws None s (record { 0 = n }) ls) out h;
  done = none;
}
all-settled p ws s outside ls (Some stop) out h near at none =
    absurd (omega (arith, out, at, h.labels.count, label_within ls stop.node.0 stop.label near.is))

-- nothing is left out below any weight
tree-done : (p : Parts) (ws : Weights) (s : NodeId) (ls : Labels) (weight : ℕ) → IsTree p ws s ls → IsDoneBelow None (record { 0 = p.nodes }) ls weight
tree-done p ws s ls weight h = done-all p ws None s (record { 0 = p.nodes }) ls weight h.search h.done (λ n less. tt)

-- the lengths of a finished tree rise along no arc by more than its weight
pub tree_rises : (p : Parts) (ws : Weights) (s : NodeId) (ls : Labels) (weight : ℕ) (lengths : List ℕ) → lengths ≡ map (potential_of weight) ls → IsInstance p → IsTree p ws s ls → RiseAlong p ws lengths
tree_rises p ws s ls weight lengths are inst h = subst (RiseAlong p ws) (sym are) (all-along p ws None s (record { 0 = p.nodes }) ls weight inst h.search (tree-done p ws s ls weight h))

-- the way of each label of a finished tree is a least path to its node
pub tree_least : (p : Parts) (ws : Weights) (s t : NodeId) (ls : Labels) (l : Label) → IsInstance p → IsTree p ws s ls → label_at ls t.0 ≡ Some l → IsLeastPath p ws s t (way p ls l.steps l) l.length
tree_least p ws s t ls l inst h is =
    let path = way-path p ws s (record { 0 = p.nodes }) t ls t.0 l h.search.labels is refl in
    let at = potential-label ls l.length t.0 l is in
    let shown : ArePotentials p ws s t l.length (map (potential_of l.length) ls) = all-shown p ws None s (record { 0 = p.nodes }) t ls l.length inst h.search (tree-done p ws s ls l.length h) (omega (arith, at)) in
    record {
      path = path.path;
      weight_is = path.weight;
      least = least p ws s t l.length (map (potential_of l.length) ls) shown;
    }

-- a node without a label in a finished tree is not reached by any path
pub tree_none : (p : Parts) (ws : Weights) (s t : NodeId) (ls : Labels) → IsTree p ws s ls → label_at ls t.0 ≡ None → HasNoUsablePath p ws s t
tree_none p ws s t ls h none = closed-no_path p ws s t (map is_labelled ls) (reached-closed p ws s (record { 0 = p.nodes }) t ls h.search h.done none)

-- reading a way back, of which so many arcs are read
pub record IsReadTo (p : Parts) (ls : Labels) (last here : Label) (arcs : List ArcId) (n : ℕ) : Type 0 where
  pub back : IsReadBack p ls last here arcs
  pub left : here.steps + n ≡ last.steps

-- the label before one that is not the source's
before-at : (p : Parts) (ws : Weights) (s : NodeId) (ls : Labels) (last here : Label) (arcs : List ArcId) → IsTree p ws s ls → 0 < here.steps → IsReadBack p ls last here arcs → label_before p ls here ≡ label_at ls (tail_of p here.via).0
before-at p ws s ls last here arcs h some back =
    let r = back-reached p ws s (record { 0 = p.nodes }) ls last here arcs h.search.labels some back in
    ap (λ (b : Bool). if b then label_at ls (tail_of p here.via).0 else None) r.usable.is_an_arc

-- before the first arc is read, the way back stands at its node
pub read_start : (p : Parts) (ls : Labels) (v : ℕ) (last : Label) → label_at ls v ≡ Some last → IsReadTo p ls last last [] 0
read_start p ls v last is = record {
  back = record { node = v; is = is; way_is = sym (append-nil (way p ls last.steps last)) };
  left = omega arith;
}

-- with one arc read, the way back stands at the label before it
pub read_more : (p : Parts) (ws : Weights) (s : NodeId) (ls : Labels) (last here next : Label) (arcs : List ArcId) (n : ℕ) → IsTree p ws s ls → n < last.steps → IsReadTo p ls last here arcs n → label_before p ls here ≡ Some next → IsReadTo p ls last next (arcs ++ here.via ∷ []) (n + 1)
read_more p ws s ls last here next arcs n h within read at =
    let some : 0 < here.steps = omega (arith, within, read.left) in
    let r = back-reached p ws s (record { 0 = p.nodes }) ls last here arcs h.search.labels some read.back in
    let there : label_at ls (tail_of p here.via).0 ≡ Some next = sym (before-at p ws s ls last here arcs h some read.back) ∙ at in
    let same = ap (λ (l : Label). l.steps) (some_same (label_at ls (tail_of p here.via).0) r.parent next r.parent_is there) in
    record {
      back = back-more p ws s (record { 0 = p.nodes }) ls last here next arcs h.search.labels some read.back there;
      left = omega (arith, read.left, r.steps, same);
    }

-- while arcs are left to read, the label before is there
pub read_none : (p : Parts) (ws : Weights) (s : NodeId) (ls : Labels) (last here : Label) (arcs : List ArcId) (n : ℕ) → IsTree p ws s ls → n < last.steps → IsReadTo p ls last here arcs n → label_before p ls here ≡ None → ⊥
read_none p ws s ls last here arcs n h within read none =
    let some : 0 < here.steps = omega (arith, within, read.left) in
    let r = back-reached p ws s (record { 0 = p.nodes }) ls last here arcs h.search.labels some read.back in
    let bad : Some r.parent ≡ None = sym r.parent_is ∙ sym (before-at p ws s ls last here arcs h some read.back) ∙ none in
    cc

-- the arcs that were read, in reverse, are a least path
pub read_least : (p : Parts) (ws : Weights) (s t : NodeId) (ls : Labels) (last here : Label) (arcs : List ArcId) (n : ℕ) → IsInstance p → IsTree p ws s ls
    → label_at ls t.0 ≡ Some last → n ≡ last.steps → IsReadTo p ls last here arcs n → IsLeastPath p ws s t (reverse arcs) (unwrap_or (length_at ls t.0) 0)
read_least p ws s t ls last here arcs n inst h is all read =
    let length_is : unwrap_or (length_at ls t.0) 0 ≡ last.length = ap (λ (x : Option Label). unwrap_or (length_of_label x) 0) is in
    let arcs_are = back-end p ls last here arcs (omega (arith, all, read.left)) read.back in
    subst (IsLeastPath p ws s t (reverse arcs)) (sym length_is)
    (subst (λ (xs : List ArcId). IsLeastPath p ws s t xs last.length) (sym arcs_are) (tree_least p ws s t ls last inst h is))

-- the longest of the ways of one node more
pub longest_more : (ls : Labels) (i most more : ℕ) → ((v : ℕ) → v < i → unwrap_or (length_at ls v) 0 ≤ most) → most ≤ more → unwrap_or (length_at ls i) 0 ≤ more → (v : ℕ) → v < suc i → unwrap_or (length_at ls v) 0 ≤ more
longest_more ls i most more before grows here v within = elim (below_cases v i within) [
  | inl below ↦ omega (arith, before v below, grows)
  | inr last ↦ subst (λ (k : ℕ). unwrap_or (length_at ls k) 0 ≤ more) (sym last) here
]

-- a bound on the lengths of all nodes holds beyond the last node too
pub longest_all : (ls : Labels) (most : ℕ) → ((v : ℕ) → v < length ls → unwrap_or (length_at ls v) 0 ≤ most) → (v : ℕ) → unwrap_or (length_at ls v) 0 ≤ most
longest_all ls most each v = elim (lt_or_le v (length ls)) [
  | inl below ↦ each v below
  | inr past ↦
      let none : unwrap_or (length_at ls v) 0 ≡ 0 = ap (λ (x : Option Label). unwrap_or (length_of_label x) 0) (get_or_past ls v None past) in
      omega (arith, none)
]

labelled-length : (ls : Labels) (most v : ℕ) (known : Option Label) (n : ℕ) → label_at ls v ≡ known → length_of_label (label_at ls v) ≡ Some n → unwrap_or (length_at ls v) 0 ≤ most → get_or (map (potential_of most) ls) v 0 ≡ n
labelled-length ls most v None n is length_is within =
    absurd (let bad : None ≡ Some n = sym (ap length_of_label is) ∙ length_is in cc)
labelled-length ls most v (Some l) n is length_is within =
    let at = potential-label ls most v l is in
    let same : Some l.length ≡ Some n = sym (ap length_of_label is) ∙ length_is in
    let length_same : l.length ≡ n = ap (λ (x : Option ℕ). unwrap_or x 0) same in
    let here : unwrap_or (length_at ls v) 0 ≡ l.length = ap (λ (x : Option Label). unwrap_or (length_of_label x) 0) is in
    omega (arith, at, length_same, here, within)

-- a length that is at most the longest stands among the potentials
pub tree_lengths : (ls : Labels) (most : ℕ) → ((v : ℕ) → unwrap_or (length_at ls v) 0 ≤ most) → AreLengths ls (map (potential_of most) ls)
tree_lengths ls most each = λ v n is. labelled-length ls most v (label_at ls v) n refl is (each v)
