use Rattle.std.proofs.Common.{◌≡◌, false, arith, length, ◌≤◌, rules}
use Rattle.std.specs.Option.{is_some}
use Rattle.verifier_paths.specs.Kept.{forbidden_by}
use Rattle.verifier_paths.proofs.LeftOut.{none_more, only_of_left_out}
use Rattle.verifier_paths.proofs.uniqueness.has_second.Goals as goal

pub loop-arc-preserved : goal.loop-arc-preserved
loop-arc-preserved c =
    let none : false ≡ is_some c.in_ok-find_path.field-0 = search rules in
    none_more c.args.inst.now (forbidden_by c.args.forbidden.now) c.args.demand.0 c.args.path.now c.loop-arc.arc-index c.in_ok-find_path.field-0 none c.in_ok-find_path.ensures.none c.loop-arc.invariant

pub returns-clause-no : goal.returns-clause-no
returns-clause-no c =
    let end : length c.args.path.now ≤ c.loop-arc.arc-index = omega arith in
    λ no. only_of_left_out c.args.inst.now (forbidden_by c.args.forbidden.now) c.args.demand.0 c.args.path.now c.requires.path (λ i within. c.loop-arc.invariant i (omega (arith, within, end)))
