use Rattle.std.proofs.Common.{◌≡◌, ◌≤◌, ◌<◌, ◌+◌, ◌∷◌, [], ◌++◌, ◌∙◌, length, drop, ap, List, rules}
use Rattle.std.proofs.lemmas.List.{nil_from_length}
use Rattle.proof_tree.specs.declared.tree.TreeNode.{TreeNode}
use Rattle.proof_tree.specs.declared.plan.Plan.{Plan}
use Rattle.proof_tree.specs.Regions.{whole}
use Rattle.proof_tree.specs.Plans.{stated_cost}
use Rattle.plan_table.specs.Tables.{tree_ranges}
use Rattle.plan_table.proofs.RangeSteps.{at_record, one_on, none_pending, no_records}
use Rattle.plan_table.proofs.ranges.push_ranges.Goals as goal

pub loop-index-preserved : goal.loop-index-preserved
loop-index-preserved c =
    let net = c.args.named.now.net in
    let p = c.args.named.now.parts in
    let cuts = c.args.named.now.plan.cuts in
    let cost = stated_cost c.args.named.now.plan in
    let i = c.loop-index.index in
    let nodes = c.nodes-nodes.result.now in
    let all = c.args.text.now.items ++ tree_ranges net p 0 (whole p ∷ []) nodes in
    let within : i < length nodes = search rules in
    let here =
    at_record net p cuts cost i c.loop-index.pending.items c.pop.new.self.items c.in-Some.ranges c.index-nodes-index.result nodes c.loop-index.text.items all c.loop-index.invariant c.in-Some.ensures.items within c.index-nodes-index.is in
    one_on net p cuts cost i c.pop.new.self.items c.add_children.new.pending.items c.in-Some.ranges c.index-nodes-index.result (drop (i + 1) nodes) c.loop-index.text.items c.push_leaf.new.text.items all here c.in_ok-push_leaf.ensures c.in_ok-add_children.ensures

pub returns-in-None : goal.returns-in-None
returns-in-None c =
    let net = c.args.named.now.net in
    let p = c.args.named.now.parts in
    let none : c.loop-index.pending.items ≡ [] = search (rules, nil_from_length) in
    none_pending net p c.args.named.now.plan.cuts
    (stated_cost c.args.named.now.plan) c.loop-index.index c.loop-index.pending.items (drop c.loop-index.index c.nodes-nodes.result.now) c.loop-index.text.items (c.args.text.now.items ++ tree_ranges net p 0 (whole p ∷ []) c.nodes-nodes.result.now) c.loop-index.invariant none
    ∙ ap (λ (ns : List TreeNode). c.args.text.now.items ++ tree_ranges net p 0 (whole p ∷ []) ns) (c.nodes-nodes.ensures.value ∙ ap (λ (plan : Plan). plan.tree) c.plan.ensures.value)

pub returns : goal.returns
returns c =
    let net = c.args.named.now.net in
    let p = c.args.named.now.parts in
    let ended : length c.nodes-nodes.result.now ≤ c.loop-index.index = search rules in
    no_records net p c.args.named.now.plan.cuts
    (stated_cost c.args.named.now.plan) c.loop-index.index c.loop-index.pending.items c.nodes-nodes.result.now c.loop-index.text.items (c.args.text.now.items ++ tree_ranges net p 0 (whole p ∷ []) c.nodes-nodes.result.now) c.loop-index.invariant ended
    ∙ ap (λ (ns : List TreeNode). c.args.text.now.items ++ tree_ranges net p 0 (whole p ∷ []) ns) (c.nodes-nodes.ensures.value ∙ ap (λ (plan : Plan). plan.tree) c.plan.ensures.value)
