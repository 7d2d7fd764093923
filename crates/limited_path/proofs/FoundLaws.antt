-- After the last round no path of at most so many arcs is shorter than what was found.
use Rattle.std.proofs.Common.{◌≡◌, ℕ, zero, suc, ◌+◌, ◌-◌, ◌<◌, ◌≤◌, inl, inr, List, length, take, Some, None, min, sym, ◌∙◌, subst, arith, sum_by}
use Rattle.std.proofs.lemmas.List.Sums.{sum_by_more, sum_by-take-le}
use Rattle.plan_base.specs.declared.ids.NodeId.{NodeId}
use Rattle.plan_base.specs.declared.ids.ArcId.{ArcId}
use Rattle.plan_base.specs.declared.parts.Parts.{Parts}
use Rattle.plan_base.specs.Facts.{IsInstance}
use Rattle.plan_base.specs.Arcs.{no_arc}
use Rattle.plan_base.specs.Paths.{arc_at, node_at}
use Rattle.plan_base.proofs.PathLaws.{length-IsSimplePath}
use Rattle.least_path.specs.Paths.{Weights, weight_at, weight_of, IsUsablePath, from_to}
use Rattle.limited_path.specs.Within.{IsPathWithin, IsLeastWithin, HasNoneWithin}
use Rattle.limited_path.specs.Labels.{Labels, Latest, label_at, latest_at, way, HasAtMost, IsSearch}
use Rattle.limited_path.proofs.WrittenLaws.{lt_or_le, some_same}
use Rattle.limited_path.proofs.WayLaws.{way-path}

-- after i arcs of a path a node has a label of at most i arcs that weighs at most as much
along : (p : Parts) (ws : Weights) (s t : NodeId) (ls : Labels) (la : Latest) (limit : ℕ) (arcs : List ArcId) → IsSearch p ws s ls la limit → IsUsablePath p ws s t arcs → (i : ℕ) → i ≤ length arcs → i ≤ limit → HasAtMost ls (node_at p s arcs i) (sum_by (λ a. weight_at ws a) (take i arcs)) i
along p ws s t ls la limit arcs h path zero within few = record {
  place = 0;
  is = record { within = h.ways.source_within; node_is = h.ways.source_node };
  length_within = omega (arith, h.ways.source_length);
  steps_within = omega (arith, h.ways.source_steps);
}
along p ws s t ls la limit arcs h path (suc i) within few =
    let a = arc_at arcs i in
    let before = along p ws s t ls la limit arcs h path i (omega (arith, within)) (omega (arith, few)) in
    let next = h.done before.place before.is.within (omega (arith, before.steps_within, few)) a (path.usable i (omega (arith, within))) (path.simple.goes_on i (omega (arith, within)) ∙ sym before.is.node_is) in
    let more : sum_by (λ b. weight_at ws b) (take (suc i) arcs) ≡ sum_by (λ b. weight_at ws b) (take i arcs) + weight_at ws a =
    subst (λ (k : ℕ). sum_by (λ b. weight_at ws b) (take k arcs) ≡ sum_by (λ b. weight_at ws b) (take i arcs) + weight_at ws a) (let e : i + 1 ≡ suc i = omega arith in e) (sum_by_more (λ b. weight_at ws b) arcs i no_arc (omega (arith, within))) in
    record {
      place = next.place;
      is = next.is;
      length_within = omega (arith, next.length_within, before.length_within, more);
      steps_within = omega (arith, next.steps_within, before.steps_within);
    }

-- the target has a label that weighs at most as much as the path
at-target : (p : Parts) (ws : Weights) (s t : NodeId) (ls : Labels) (la : Latest) (limit : ℕ) (arcs : List ArcId) → IsSearch p ws s ls la limit → IsPathWithin p ws s t limit arcs → HasAtMost ls t.0 (weight_of ws arcs) (length arcs)
at-target p ws s t ls la limit arcs h path =
    let end = along p ws s t ls la limit arcs h path.path (length arcs) (omega arith) path.short in
    record {
      place = end.place;
      is = record { within = end.is.within; node_is = end.is.node_is ∙ path.path.simple.ends_at_target };
      length_within = omega (arith, end.length_within, sum_by-take-le (λ a. weight_at ws a) arcs (length arcs));
      steps_within = end.steps_within;
    }

-- the latest label of a node is no longer than any other of it
latest-least : (p : Parts) (ws : Weights) (s : NodeId) (ls : Labels) (la : Latest) (limit v b bound steps : ℕ) → IsSearch p ws s ls la limit → latest_at la v ≡ Some b → HasAtMost ls v bound steps → (label_at ls b).length ≤ bound
latest-least p ws s ls la limit v b bound steps h is one =
    let known = h.ways.known one.place one.is.within in
    let same : known.latest ≡ b = some_same (latest_at la v) known.latest b (subst (λ (x : ℕ). latest_at la x ≡ Some known.latest) one.is.node_is known.is) is in
    let of = h.ways.latest v b is in
    elim (lt_or_le one.place b) [
      | inl before ↦ omega (arith, h.ways.shorter one.place b before of.within (one.is.node_is ∙ sym of.node_is), one.length_within)
      | inr after ↦
          let at : one.place ≡ b = omega (arith, after, known.later, same) in
          subst (λ (x : ℕ). (label_at ls x).length ≤ bound) at one.length_within
    ]

found-limit : (p : Parts) (ws : Weights) (s t : NodeId) (ls : Labels) (la : Latest) (limit b : ℕ) → IsSearch p ws s ls la limit → latest_at la t.0 ≡ Some b → IsLeastWithin p ws s t limit (way ls (label_at ls b).steps (label_at ls b)) (label_at ls b).length
found-limit p ws s t ls la limit b h is =
    let of = h.ways.latest t.0 b is in
    let path = way-path p ws s t ls la b h.ways of.within of.node_is in
    record {
      within = record { path = path.path; short = omega (arith, path.size, h.most b of.within) };
      weight_is = path.weight;
      least = λ other short. latest-least p ws s ls la limit t.0 b (weight_of ws other) (length other) h is (at-target p ws s t ls la limit other h short);
    }

none-limit : (p : Parts) (ws : Weights) (s t : NodeId) (ls : Labels) (la : Latest) (limit : ℕ) → IsSearch p ws s ls la limit → latest_at la t.0 ≡ None → HasNoneWithin p ws s t limit
none-limit p ws s t ls la limit h none = λ arcs short.
    let one = at-target p ws s t ls la limit arcs h short in
    let known = h.ways.known one.place one.is.within in
    let bad : None ≡ Some known.latest = sym none ∙ subst (λ (x : ℕ). latest_at la x ≡ Some known.latest) one.is.node_is known.is in
    cc

-- no path has as many arcs as there are nodes
within-enough : (p : Parts) (ws : Weights) (s t : NodeId) (hops : ℕ) (arcs : List ArcId) → IsInstance p → s.0 < p.nodes → IsPathWithin p ws s t hops arcs → IsPathWithin p ws s t (min hops (p.nodes - 1)) arcs
within-enough p ws s t hops arcs inst source path =
    let few = length-IsSimplePath p (from_to s t) arcs inst source path.path.simple in
    record { path = path.path; short = omega (arith, few, path.short) }

-- after the last round, the latest label of the target is a least path of at most so many arcs
pub found : (p : Parts) (ws : Weights) (s t : NodeId) (ls : Labels) (la : Latest) (hops b : ℕ) → IsInstance p → s.0 < p.nodes → IsSearch p ws s ls la (min hops (p.nodes - 1))
    → latest_at la t.0 ≡ Some b → IsLeastWithin p ws s t hops (way ls (label_at ls b).steps (label_at ls b)) (label_at ls b).length
found p ws s t ls la hops b inst source h is =
    let limit = min hops (p.nodes - 1) in
    let least = found-limit p ws s t ls la limit b h is in
    record {
      within = record { path = least.within.path; short = omega (arith, least.within.short) };
      weight_is = least.weight_is;
      least = λ other path. least.least other (within-enough p ws s t hops other inst source path);
    }

-- where the target has no label after the last round, no path has at most so many arcs
pub none-found : (p : Parts) (ws : Weights) (s t : NodeId) (ls : Labels) (la : Latest) (hops : ℕ) → IsInstance p → s.0 < p.nodes → IsSearch p ws s ls la (min hops (p.nodes - 1)) → latest_at la t.0 ≡ None → HasNoneWithin p ws s t hops
none-found p ws s t ls la hops inst source h none = λ arcs path. none-limit p ws s t ls la (min hops (p.nodes - 1)) h none arcs (within-enough p ws s t hops arcs inst source path)
