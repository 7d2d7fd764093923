use Rattle.std.proofs.Common.{◌≡◌, Some, rules, arith, length, sym, subst}
use Rattle.plan_base.specs.declared.parts.Parts.{Parts}
use Rattle.arc_restrict.specs.Rows.{forbids}
use Rattle.second_path.specs.Searching.{ArePaths}
use Rattle.search_machine.specs.State.{left_of, round_of}
use Rattle.search_machine.specs.Machine.{IsReachable}
use Rattle.search_view.proofs.Routes.{permitted-paths}
use Rattle.search_view.proofs.view.PoolView.determined.Goals as goal

pub determine_among-requires : goal.determine_among-requires
determine_among-requires c =
    let is : Some c.in-Some.round.now ≡ round_of c.args.self.now c.args.node = rw c.in-Some.is at c.active_round.ensures in
    let complete : left_of c.in-Some.round.now ≡ 0 = search (rules, arith) in
    subst (λ (p : Parts). ArePaths p (forbids c.args.rows.now) (length p.demands) c.in_ok-paths.paths) (sym c.problem-inst.ensures)
    (permitted-paths c.args.self.now c.args.node (forbids c.args.rows.now) c.in-Some.round.now c.in_ok-paths.paths (subst IsReachable c.self.view_is c.self.invariant.pool.reachable) c.requires is complete c.in_ok-paths.ensures)
