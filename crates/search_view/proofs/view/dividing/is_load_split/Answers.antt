use Rattle.std.proofs.Common.{◌<◌, refl, arith}
use Rattle.plan_base.specs.Places.{places}
use Rattle.search_view.proofs.Dividings.{sides-split, no_place-split}
use Rattle.search_view.proofs.view.dividing.is_load_split.Goals as goal

pub at-requires : goal.at-requires
at-requires c = let place : c.args.split.place < places c.args.inst.now = c.if-is_place.ensures.0 refl in let count = c.requires.count in omega arith

pub returns-then-is_place : goal.returns-then-is_place
returns-then-is_place c =
    sides-split c.args.inst.now c.args.ranges.now c.args.split.place c.args.split.load c.at.result c.has_both_sides.result (c.if-is_place.ensures.0 refl) c.at.ensures c.has_both_sides.ensures

pub returns : goal.returns
returns c = no_place-split c.args.inst.now c.args.ranges.now c.args.split.place c.args.split.load c.if-is_place.ensures
