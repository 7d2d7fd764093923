use Rattle.std.proofs.Common.{subst, sym, List, Bool, ℕ, Option, None, IfNone}
use Rattle.least_path.specs.declared.label.Stop.{Stop}
use Rattle.least_path.specs.Paths.{IsClosedSet}
use Rattle.least_path.specs.Labels.{HasNoOpen, IsSearch}
use Rattle.least_path.proofs.FoundLaws.{reached-closed, no-label, closed-no_path}
use Rattle.least_path.proofs.spread.Query.told.Goals as goal

pub returns-in_ok-reached_nodes-in-None : goal.returns-in_ok-reached_nodes-in-None
returns-in_ok-reached_nodes-in-None g c =
    let p = c.args.self.now.inst.now in
    let ws = (g.W.Weigher.weights c.args.self.now.weigher.now) in
    let s = c.args.self.now.source in
    let t = c.args.self.now.target in
    let ls = c.args.labels.now in
    let none : HasNoOpen ls = subst (λ (found : Option Stop). IfNone found (HasNoOpen ls)) c.in-None.is c.requires.none in
    let search : IsSearch p ws None s t ls = subst (λ (limit : Option ℕ). IsSearch p ws limit s t ls) c.requires.unlimited c.requires.search in
    let set : IsClosedSet p ws s t c.in_ok-reached_nodes-in-None.field-0 = subst (λ (x : List Bool). IsClosedSet p ws s t x) (sym c.in_ok-reached_nodes-in-None.ensures) (reached-closed p ws s t t ls search none (no-label p ws None s t ls search none)) in
    (closed-no_path p ws s t c.in_ok-reached_nodes-in-None.field-0 set, set)
