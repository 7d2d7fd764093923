use Rattle.std.proofs.Common.{◌++◌, List, Some, None, refl, reverse, sym, ap, subst, ◌∙◌}
use Rattle.link_steps.specs.Ranges.{no_range, range_at}
use Rattle.plan_base.specs.declared.ids.ArcId.{ArcId}
use Rattle.arc_restrict.specs.Restrictions.{with_forbidden}
use Rattle.proof_tree.specs.declared.tree.TreeNode.{TreeNode}
use Rattle.proof_tree.specs.declared.tree.TreeNode.TheVariants.{Split, Loads}
use Rattle.proof_tree.specs.Regions.{with_arcs, up_to, above}
use Rattle.proof_tree.specs.Trees.{children_at, leaf_here}
use Rattle.verifier_paths.specs.Kept.{Marks, forbidden_by}
use Rattle.cert_verifier.specs.Bounds.{IsLeastBoundIn}
use Rattle.cert_verifier.specs.SplitRules.{SplitFinds}
use Rattle.cert_verifier.specs.RecordRules.{RecordFinds}
use Rattle.cert_verifier.specs.Walks.{region_of_marks, AreLeft}
use Rattle.cert_verifier.proofs.SplitLaws.{split_found_none, loads_found_none}
use Rattle.cert_verifier.proofs.LeastLaws.{least_kept}
use Rattle.cert_verifier.proofs.WalkLaws.{record-is, region-is, entered, stands-ranges}
use Rattle.cert_verifier.proofs.walk.Walk.visit.Goals as goal

pub visit_leaf-requires-clause-ranges : goal.visit_leaf-requires-clause-ranges
visit_leaf-requires-clause-ranges c = stands-ranges _ _ _ _ c.requires.stands

pub visit_loads-requires : goal.visit_loads-requires
visit_loads-requires c = (stands-ranges _ _ _ _ c.requires.stands).count

pub returns-in_ok-go_on-in-Leaf-clause-least : goal.returns-in_ok-go_on-in-Leaf-clause-least
returns-in_ok-go_on-in-Leaf-clause-least c = λ node leaves found least.
    let p = c.args.against.now.inst.now in
    let g = region_of_marks c.args.self.now.forbidden c.args.self.now.ranges in
    let same = record-is c.args.against.now.plan.now.tree c.nodes.result.now c.args.index c.index-nodes-index.result c.nodes.ensures.value c.index-nodes-index.is node found in
    subst (λ n. IsLeastBoundIn p c.args.against.now.plan.now.cuts (leaves ++ leaf_here g n) c.go_on.new.self.least) same
    (subst (λ b. IsLeastBoundIn p c.args.against.now.plan.now.cuts (leaves ++ leaf_here g c.index-nodes-index.result) b) (sym c.go_on.ensures.least) (c.in_ok-visit_leaf-in-Leaf.ensures.least leaves least))

pub returns-in_ok-visit_split-in-Split-clause-found : goal.returns-in_ok-visit_split-in-Split-clause-found
returns-in_ok-visit_split-in-Split-clause-found c = λ node found other.
    let p = c.args.against.now.inst.now in
    let r = forbidden_by c.args.self.now.forbidden in
    let same = sym c.in-Split.is ∙ record-is c.args.against.now.plan.now.tree c.nodes.result.now c.args.index c.index-nodes-index.result c.nodes.ensures.value c.index-nodes-index.is node found in
    subst (λ n. RecordFinds p c.args.against.now.plan.now (region_of_marks c.args.self.now.forbidden c.args.self.now.ranges) c.args.index n None) same
    (subst (λ left. SplitFinds p r c.args.index c.in-Split.demand c.in-Split.node left c.in-Split.right None) c.as_slice.ensures.value
    (subst (λ right. SplitFinds p r c.args.index c.in-Split.demand c.in-Split.node c.as_slice.result.now right None) c.as_slice-in-Split.ensures.value (c.in_ok-visit_split-in-Split.ensures.found other)))

pub returns-in_ok-visit_split-in-Split-clause-left : goal.returns-in_ok-visit_split-in-Split-clause-left
returns-in_ok-visit_split-in-Split-clause-left c = λ node gs found place.
    let p = c.args.against.now.inst.now in
    let r = forbidden_by c.args.self.now.forbidden in
    let g = region_of_marks c.args.self.now.forbidden c.args.self.now.ranges in
    let split = Split c.in-Split.demand c.in-Split.node c.in-Split.left c.in-Split.right in
    let to = with_arcs g c.in-Split.demand c.in-Split.left in
    let same = sym c.in-Split.is ∙ record-is c.args.against.now.plan.now.tree c.nodes.result.now c.args.index c.index-nodes-index.result c.nodes.ensures.value c.index-nodes-index.is node found in
    let finds = subst (λ left. SplitFinds p r c.args.index c.in-Split.demand c.in-Split.node left c.in-Split.right None) c.as_slice.ensures.value
    (subst (λ right. SplitFinds p r c.args.index c.in-Split.demand c.in-Split.node c.as_slice.result.now right None) c.as_slice-in-Split.ensures.value (c.in_ok-visit_split-in-Split.ensures.found (λ e. cc))) in
    let is_left = region-is to c.visit_split.new.self.forbidden c.visit_split.new.self.ranges
    (c.in_ok-visit_split-in-Split.ensures.forbidden ∙ ap (λ (left : List ArcId). with_forbidden r c.in-Split.demand left) c.as_slice.ensures.value) c.visit_split.ensures.ranges in
    subst (λ n. AreLeft p c.args.against.now.plan.now.tree (reverse c.visit_split.new.self.turns.items) (region_of_marks c.visit_split.new.self.forbidden c.visit_split.new.self.ranges) (children_at g n ++ gs)) same
    (entered p c.args.against.now.plan.now.tree c.args.index c.args.self.now.turns.items c.visit_split.new.self.turns.items g (region_of_marks c.visit_split.new.self.forbidden c.visit_split.new.self.ranges) to (with_arcs g c.in-Split.demand c.in-Split.right) gs split no_range
    (found ∙ ap (λ (n : TreeNode). Some n) (sym same)) (split_found_none p r c.args.index c.in-Split.demand c.in-Split.node c.in-Split.left c.in-Split.right finds) refl is_left
    c.in_ok-visit_split-in-Split.ensures.turns place)

pub returns-in_ok-visit_split-in-Split-clause-least : goal.returns-in_ok-visit_split-in-Split-clause-least
returns-in_ok-visit_split-in-Split-clause-least c = λ node leaves found least.
    let same = sym c.in-Split.is ∙ record-is c.args.against.now.plan.now.tree c.nodes.result.now c.args.index c.index-nodes-index.result c.nodes.ensures.value c.index-nodes-index.is node found in
    least_kept _ _ _ leaves _ node _ _ refl same c.visit_split.ensures.least least

pub returns-in_ok-visit_loads-in-Loads-clause-found : goal.returns-in_ok-visit_loads-in-Loads-clause-found
returns-in_ok-visit_loads-in-Loads-clause-found c = λ node found other.
    let same = sym c.in-Loads.is ∙ record-is c.args.against.now.plan.now.tree c.nodes.result.now c.args.index c.index-nodes-index.result c.nodes.ensures.value c.index-nodes-index.is node found in
    subst (λ n. RecordFinds c.args.against.now.inst.now c.args.against.now.plan.now (region_of_marks c.args.self.now.forbidden c.args.self.now.ranges) c.args.index n None) same (c.in_ok-visit_loads-in-Loads.ensures.found other)

pub returns-in_ok-visit_loads-in-Loads-clause-left : goal.returns-in_ok-visit_loads-in-Loads-clause-left
returns-in_ok-visit_loads-in-Loads-clause-left c = λ node gs found place.
    let p = c.args.against.now.inst.now in
    let g = region_of_marks c.args.self.now.forbidden c.args.self.now.ranges in
    let q = c.in-Loads.place in
    let load = c.in-Loads.load in
    let same = sym c.in-Loads.is ∙ record-is c.args.against.now.plan.now.tree c.nodes.result.now c.args.index c.index-nodes-index.result c.nodes.ensures.value c.index-nodes-index.is node found in
    let splits = loads_found_none p c.args.self.now.ranges c.args.index q load (c.in_ok-visit_loads-in-Loads.ensures.found (λ e. cc)) in
    let is_left = region-is (up_to g q load) c.visit_loads.new.self.forbidden c.visit_loads.new.self.ranges (ap (λ (m : Marks). forbidden_by m) c.visit_loads.ensures.forbidden) c.in_ok-visit_loads-in-Loads.ensures.ranges in
    subst (λ n. AreLeft p c.args.against.now.plan.now.tree (reverse c.visit_loads.new.self.turns.items) (region_of_marks c.visit_loads.new.self.forbidden c.visit_loads.new.self.ranges) (children_at g n ++ gs)) same
    (entered p c.args.against.now.plan.now.tree c.args.index c.args.self.now.turns.items c.visit_loads.new.self.turns.items g (region_of_marks c.visit_loads.new.self.forbidden c.visit_loads.new.self.ranges) (up_to g q load) (above g q load) gs (Loads q load) (range_at c.args.self.now.ranges q)
    (found ∙ ap (λ (n : TreeNode). Some n) (sym same)) (splits, refl) refl is_left c.in_ok-visit_loads-in-Loads.ensures.turns place)

pub returns-in_ok-visit_loads-in-Loads-clause-least : goal.returns-in_ok-visit_loads-in-Loads-clause-least
returns-in_ok-visit_loads-in-Loads-clause-least c = λ node leaves found least.
    let same = sym c.in-Loads.is ∙ record-is c.args.against.now.plan.now.tree c.nodes.result.now c.args.index c.index-nodes-index.result c.nodes.ensures.value c.index-nodes-index.is node found in
    least_kept _ _ _ leaves _ node _ _ refl same c.visit_loads.ensures.least least
