use Rattle.std.proofs.Common.{◌≡◌, ℕ, length, sym, subst, arith}
use Rattle.completions.specs.Completions.{ArePaths}
use Rattle.search_worker.proofs.PathLists.{AreFirstPaths, no_paths, one_path, all_paths}
use Rattle.search_worker.proofs.told.Told.least_paths.Goals as goal

pub loop-number-init : goal.loop-number-init
loop-number-init g c = subst (AreFirstPaths c.args.inst.now 0) (sym c.in_ok-paths.ensures.items) (no_paths c.args.inst.now)

pub loop-number-preserved : goal.loop-number-preserved
loop-number-preserved g c =
    one_path c.args.inst.now c.loop-number.number c.loop-number.paths.items c.push.new.self.items c.in_ok-path.path c.loop-number.invariant c.in_ok-path.ensures c.in_ok-push.ensures.items

pub returns : goal.returns
returns g c =
    let done : c.loop-number.number ≡ length c.args.inst.now.demands = omega (arith, c.loop-number.auto.number-end, c.loop-number-test.false, c.demands-number-end.ensures.value) in
    subst (ArePaths c.args.inst.now) (sym c.from_vec.ensures)
    (all_paths c.args.inst.now c.loop-number.paths.items (subst (λ (n : ℕ). AreFirstPaths c.args.inst.now n c.loop-number.paths.items) done c.loop-number.invariant))
