use Rattle.std.proofs.Common.{◌≡◌, List, ◌<◌, ◌≤◌, length, vec_len, ap, sym, ◌∙◌, arith}
use Rattle.plan_base.specs.declared.ids.NodeId.{NodeId}
use Rattle.plan_base.specs.declared.ids.ArcId.{ArcId}
use Rattle.plan_base.specs.Arcs.{tail_of, demand_at}
use Rattle.plan_base.specs.Paths.{arc_at, node_at}
use Rattle.arc_restrict.specs.Rows.{forbids}
use Rattle.second_path.proofs.Blocking.{blocked_none, blocked_more}
use Rattle.second_path.proofs.Closing.{only_path}
use Rattle.second_path.proofs.others.other_path.Goals as goal

pub returns-clause-none : goal.returns-clause-none
returns-clause-none c =
    let done : length c.args.path.now ≤ c.loop-place.place = omega (arith, c.loop-place-test.false, c.as_slice-next-items.ensures.len) in
    only_path c.args.inst.now (forbids c.args.r.now) c.args.k.0 c.args.path.now c.requires.path (λ i within. c.loop-place.invariant.2 i (omega (arith, within, done)))

pub loop-place-init : goal.loop-place-init
loop-place-init c = (
  record { blocked = c.unblock.ensures.len ∙ c.requires.room.blocked; met = ap vec_len c.unblock.ensures.met ∙ c.requires.room.met },
  blocked_none c.args.inst.now (demand_at c.args.inst.now c.args.k.0).source c.args.path.now c.unblock.new.self.blocked.items c.unblock.ensures.free,
  λ i below. absurd (omega (arith, below)),
)

pub other_at-requires-clause-blocked : goal.other_at-requires-clause-blocked
other_at-requires-clause-blocked c =
    let p = c.args.inst.now in
    let path = c.args.path.now in
    let source = (demand_at p c.args.k.0).source in
    let place = c.loop-place.place in
    let within : place < length path = omega (arith, c.loop-place-test.true, c.as_slice-next-items.ensures.len) in
    let is_arc : c.tail.result ≡ tail_of p (arc_at path place) = c.tail.ensures.value ∙ ap (λ (arcs : List ArcId). tail_of p (arc_at arcs place)) c.as_slice-next-items.ensures.value in
    let here : node_at p source path place ≡ c.tail.result.0 = sym (ap (λ (v : NodeId). v.0) is_arc ∙ c.requires.path.simple.goes_on place within) in
    blocked_more p source path place c.tail.result.0 c.loop-place.search.blocked.items c.block.new.self.blocked.items c.loop-place.invariant.1 here (omega (arith, c.loop-place.invariant.0.blocked, c.tail.ensures.within)) c.block.ensures.value
