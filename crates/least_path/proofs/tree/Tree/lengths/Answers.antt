use Rattle.std.proofs.Common.{◌≡◌, ◌∙◌, ap, map, length, ℕ, List, sym, subst}
use Rattle.std.proofs.lemmas.List.{length-map}
use Rattle.least_path.specs.Labels.{Labels, potential_of}
use Rattle.least_path.specs.Trees.{AreLengths}
use Rattle.least_path.proofs.TreeLaws.{tree_rises, tree_lengths}
use Rattle.least_path.proofs.tree.Tree.lengths.Goals as goal

pub returns-clause-count : goal.returns-clause-count
returns-clause-count c =
    let same : c.deref-2.result.now ≡ c.args.self.now = c.deref-2.ensures.value ∙ c.self.view_is in
    ap (λ (ns : List ℕ). length ns) c.in_ok-lengths.ensures ∙ length-map c.deref-2.result.now (potential_of c.longest-most.result) ∙ ap (λ (ls : Labels). length ls) same

pub returns-clause-reached : goal.returns-clause-reached
returns-clause-reached c =
    let most = c.longest-most.result in
    let first : c.deref.result.now ≡ c.args.self.now = c.deref.ensures.value ∙ c.self.view_is in
    let same : c.deref-2.result.now ≡ c.args.self.now = c.deref-2.ensures.value ∙ c.self.view_is in
    subst (AreLengths c.args.self.now) (sym (c.in_ok-lengths.ensures ∙ ap (λ (ls : Labels). map (potential_of most) ls) same)) (tree_lengths c.args.self.now most (rw first at c.longest-most.ensures))

pub returns-clause-along : goal.returns-clause-along
returns-clause-along c = λ p ws s inst h.
    let same : c.deref-2.result.now ≡ c.args.self.now = c.deref-2.ensures.value ∙ c.self.view_is in
    tree_rises p ws s c.args.self.now c.longest-most.result c.in_ok-lengths.lengths (c.in_ok-lengths.ensures ∙ ap (λ (ls : Labels). map (potential_of c.longest-most.result) ls) same) inst h
