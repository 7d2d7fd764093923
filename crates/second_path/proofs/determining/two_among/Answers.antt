use Rattle.std.proofs.Common.{rules, length}
use Rattle.arc_restrict.specs.Rows.{forbids}
use Rattle.second_path.specs.Searching.{IsHeld}
use Rattle.second_path.proofs.Deciding.{is_two}
use Rattle.second_path.proofs.determining.two_among.Goals as goal

pub returns-clause-two : goal.returns-clause-two
returns-clause-two c =
    let p = c.args.inst.now in
    let r = forbids c.args.r.now in
    let is_held : IsHeld p r c.args.paths.now (length p.demands) c.in-Some.field-0 = search rules in
    is_two p r c.args.paths.now c.in-Some.field-0 c.in_ok-first.first c.in_ok-first.second c.requires is_held c.in_ok-first.ensures.first c.in_ok-first.ensures.second
