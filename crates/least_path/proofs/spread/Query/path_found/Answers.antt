use Rattle.std.proofs.Common.{subst, sym, List, ℕ}
use Rattle.plan_base.specs.declared.ids.ArcId.{ArcId}
use Rattle.least_path.specs.Paths.{IsLeastPath, ArePotentials}
use Rattle.least_path.proofs.FoundLaws.{found-path, potentials-right}
use Rattle.least_path.proofs.spread.Query.path_found.Goals as goal

pub returns : goal.returns
returns g c =
    let p = c.args.self.now.inst.now in
    let ws = (g.W.Weigher.weights c.args.self.now.weigher.now) in
    let limit = c.args.self.now.limit in
    let s = c.args.self.now.source in
    let t = c.args.self.now.target in
    let stop = c.args.last.now in (
      subst (λ (arcs : List ArcId). IsLeastPath p ws s t arcs stop.label.length) (sym c.in_ok-way_to.ensures) (found-path p ws limit s t c.args.labels.now stop c.requires.lawful c.requires.search c.requires.nearest c.requires.at_target),
      subst (λ (potentials : List ℕ). ArePotentials p ws s t stop.label.length potentials) (sym c.in_ok-potentials.ensures) (potentials-right p ws limit s t c.args.labels.now stop c.requires.lawful c.requires.search c.requires.nearest c.requires.at_target),
    )
