use Rattle.std.proofs.Common.{subst, sym, ap, ◌∙◌, ℕ, Option}
use Rattle.least_path.specs.Paths.{IsBelow}
use Rattle.least_path.specs.Labels.{Labels, IsSearch, first_labels_of}
use Rattle.least_path.proofs.SettleLaws.{first-search}
use Rattle.least_path.proofs.spread.Query.answer_slow.Goals as goal

pub go_out_slow-last-requires-clause-search : goal.go_out_slow-last-requires-clause-search
go_out_slow-last-requires-clause-search g c =
    let p = c.args.self.now.inst.now in
    subst (λ (x : Labels). IsSearch p (g.W.Weigher.weights c.args.self.now.weigher.now) c.args.self.now.limit c.args.self.now.source c.args.self.now.target x)
    (sym (c.in_ok-labels.ensures ∙ ap (λ (n : ℕ). first_labels_of n c.args.self.now.source.0) c.nodes.ensures.value))
    (first-search p (g.W.Weigher.weights c.args.self.now.weigher.now) c.args.self.now.limit c.args.self.now.source c.args.self.now.target c.requires.source (subst (λ (limit : Option ℕ). IsBelow limit 0) (sym c.requires.unlimited) tt))
