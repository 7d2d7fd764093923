use Rattle.std.proofs.Common.{rules, ◌≡◌, ◌<◌, true, length, sym}
use Rattle.plan_picture.specs.Pictures.{ends_at}
use Rattle.plan_picture.proofs.NodeEnds.{some_found}
use Rattle.plan_picture.proofs.picture.is_any_end.Goals as goal

pub returns-then-ends_at : goal.returns-then-ends_at
returns-then-ends_at c =
    let within : c.loop-place.place < length c.args.inst.now.demands = search rules in
    let here : ends_at c.args.inst.now c.args.node c.loop-place.place ≡ true = search rules in
    sym (some_found c.args.inst.now c.args.node c.loop-place.place (length c.args.inst.now.demands) within here)
