use Rattle.std.proofs.Common.{◌≡◌, ◌∙◌, true, Bool, List, length, vec_len, IsTrue, All, ap, sym, subst}
use Rattle.plan_base.specs.declared.ids.ArcId.{ArcId}
use Rattle.plan_base.specs.Arcs.{is_arc}
use Rattle.arc_restrict.specs.Rows.{forbids}
use Rattle.second_path.specs.Ways.{may_take}
use Rattle.second_path.specs.Others.{holds}
use Rattle.second_path.specs.Searching.{IsBefore, IsTree}
use Rattle.second_path.proofs.Visits.{takes_arcs}
use Rattle.second_path.proofs.Blocking.{arrivals_are_arcs, met_before}
use Rattle.second_path.proofs.route.find_route.Goals as goal

pub route_to-requires : goal.route_to-requires
route_to-requires c =
    let p = c.args.ways.now.inst.now in
    subst (λ (arcs : List ArcId). All (λ a. IsTrue (is_arc p a)) arcs) (sym c.as_slice.ensures.value)
    (arrivals_are_arcs p _ _ c.args.start c.run.new.self.arrivals.items (takes_arcs p _ _ _) c.in_ok-run.ensures.whole.search.tree)

pub returns-clause-route : goal.returns-clause-route
returns-clause-route c =
    let p = c.args.ways.now.inst.now in
    let takes : ArcId → Bool = may_take p (forbids c.args.ways.now.restriction.now) c.args.ways.now.demand.0 c.args.ways.now.left_out in
    let search_is = c.in_ok-run.ensures.whole.search in
    let is_met : holds c.run.new.self.met.items c.args.target.0 ≡ true = sym c.has_met.ensures ∙ c.if-not-has_met.false in
    c.in_ok-arcs.ensures takes c.args.search.now.blocked.items c.args.start (takes_arcs p (forbids c.args.ways.now.restriction.now) c.args.ways.now.demand.0 c.args.ways.now.left_out)
    (subst (λ (arcs : List ArcId). IsTree p takes c.args.search.now.blocked.items c.args.start arcs) (sym c.as_slice.ensures.value) search_is.tree)
    (subst (λ (arcs : List ArcId). IsBefore p c.args.start arcs (length arcs) c.args.target.0) (sym c.as_slice.ensures.value)
    (met_before p takes c.args.search.now.blocked.items c.run.new.self.met.items c.args.start c.run.new.self.arrivals.items c.args.target.0 search_is c.requires.target_free is_met))

pub returns-then-not-has_met-clause-none : goal.returns-then-not-has_met-clause-none
returns-then-not-has_met-clause-none c = record { whole = c.in_ok-run.ensures.whole; unmet = sym c.has_met.ensures ∙ c.if-not-has_met.true }

pub returns-then-not-has_met-clause-room : goal.returns-then-not-has_met-clause-room
returns-then-not-has_met-clause-room c = record { blocked = ap vec_len c.in_ok-run.ensures.blocked ∙ c.requires.room.blocked; met = c.in_ok-run.ensures.nodes }

pub returns-clause-room : goal.returns-clause-room
returns-clause-room c = record { blocked = ap vec_len c.in_ok-run.ensures.blocked ∙ c.requires.room.blocked; met = c.in_ok-run.ensures.nodes }
