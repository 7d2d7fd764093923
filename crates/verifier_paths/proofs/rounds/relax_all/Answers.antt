use Rattle.std.proofs.Common.{◌≡◌, ◌+◌, ℕ, List, Option, ap, sym, arith, subst, rules}
use Rattle.verifier_paths.specs.Labels.{open_arcs, AreOffered, LeavesBelow}
use Rattle.verifier_paths.proofs.Offers.{offered-none, offered-node, offered-over}
use Rattle.verifier_paths.proofs.rounds.relax_all.Goals as goal
use Rattle.verifier_paths.proofs.rounds.relax_all.Goals.{then-is_changed, else-is_changed}

pub loop-node-init : goal.loop-node-init
loop-node-init c =
    let p = c.args.ways.now.inst.now in
    let takes = open_arcs c.args.ways.now in
    subst (λ (xs : List (Option ℕ)). AreOffered p takes c.args.prices.now c.args.old.now (LeavesBelow p 0) c.args.old.now xs) (sym c.requires.same)
    (offered-none p takes c.args.prices.now c.args.old.now c.args.old.now (LeavesBelow p 0) (λ a below. omega (arith, below)))

pub loop-node-preserved : goal.loop-node-preserved
loop-node-preserved c =
    let p = c.args.ways.now.inst.now in
    let takes = open_arcs c.args.ways.now in
    let prices = c.args.prices.now in
    let old = c.args.old.now in
    let n = c.loop-node.node in
    elim c.if-is_changed.branch [
      | then-is_changed w ↦ subst (AreOffered p takes prices old (LeavesBelow p (n + 1)) old) (sym (ap (λ v. v.items) w.new-is))
          (offered-node p takes prices old n old c.loop-node.new.items w.relax_from.new.new.items w.relax_from.ensures c.loop-node.invariant)
      | else-is_changed w ↦ subst (AreOffered p takes prices old (LeavesBelow p (n + 1)) old) (sym (ap (λ v. v.items) w.new-is))
          (offered-over p takes prices c.args.earlier.now old n c.loop-node.new.items c.requires.offered (c.is_changed.ensures.0 w.if-is_changed.false) c.loop-node.invariant)
    ]

pub returns : goal.returns
returns c =
    let p = c.args.ways.now.inst.now in
    let takes = open_arcs c.args.ways.now in
    let end : c.loop-node.node ≡ p.nodes = search rules in
    subst (λ (n : ℕ). AreOffered p takes c.args.prices.now c.args.old.now (LeavesBelow p n) c.args.old.now c.loop-node.new.items) end c.loop-node.invariant
