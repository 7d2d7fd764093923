use Rattle.std.proofs.Common.{subst, sym, ap, ◌∙◌, ℕ, Option}
use Rattle.least_path.specs.Paths.{IsBelow}
use Rattle.least_path.specs.Labels.{Labels, IsSearch, first_labels_of}
use Rattle.least_path.proofs.SettleLaws.{first-search}
use Rattle.least_path.proofs.spread.Query.reach.Goals as goal

pub go_out-requires-clause-search : goal.go_out-requires-clause-search
go_out-requires-clause-search g c =
    let p = c.args.self.now.inst.now in
    subst (λ (x : Labels). IsSearch p (g.W.Weigher.weights c.args.self.now.weigher.now) c.args.self.now.limit c.args.self.now.source c.args.self.now.target x)
    (sym (c.in_ok-begin.ensures.labels ∙ ap (λ (n : ℕ). first_labels_of n c.args.self.now.source.0) c.nodes.ensures.value))
    (first-search p (g.W.Weigher.weights c.args.self.now.weigher.now) c.args.self.now.limit c.args.self.now.source c.args.self.now.target c.requires.source (subst (λ (limit : Option ℕ). IsBelow limit 0) (sym c.requires.unlimited) tt))

pub begin-requires : goal.begin-requires
begin-requires g c = rw c.nodes.ensures.value c.requires.source

pub go_out-requires-clause-waits : goal.go_out-requires-clause-waits
go_out-requires-clause-waits g c = c.in_ok-begin.ensures.waits

pub returns-clause-search : goal.returns-clause-search
returns-clause-search g c = c.in_ok-found.ensures.search

pub returns-clause-nearest : goal.returns-clause-nearest
returns-clause-nearest g c = c.in_ok-found.ensures.nearest

pub returns-clause-at_target : goal.returns-clause-at_target
returns-clause-at_target g c = c.in_ok-found.ensures.at_target

pub returns-clause-none : goal.returns-clause-none
returns-clause-none g c = c.in_ok-found.ensures.none
