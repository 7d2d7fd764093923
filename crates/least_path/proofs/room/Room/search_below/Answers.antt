use Rattle.std.proofs.Common.{◌≡◌, true, false, subst, sym, ap, ◌∙◌, List, ℕ, Option, IfSome, IfNone}
use Rattle.plan_base.specs.declared.ids.ArcId.{ArcId}
use Rattle.least_path.specs.Paths.{IsLeastPath}
use Rattle.least_path.specs.declared.label.Stop.{Stop}
use Rattle.least_path.specs.Labels.{Labels, IsSearch, IsNearest, HasNoOpen, way, first_labels_of}
use Rattle.least_path.proofs.SettleLaws.{first-search}
use Rattle.least_path.proofs.FoundLaws.{none-below, none-at_all, found-path}
use Rattle.least_path.proofs.room.Room.search_below.Goals as goal

pub go_out-requires-clause-search : goal.go_out-requires-clause-search
go_out-requires-clause-search g c =
    let p = c.args.inst.now in
    subst (λ (x : Labels). IsSearch p (g.W.Weigher.weights c.args.weigher.now) c.args.limit c.args.source c.args.target x)
    (sym (c.in_ok-begin.ensures.labels ∙ ap (λ (n : ℕ). first_labels_of n c.args.source.0) c.nodes.ensures.value))
    (first-search p (g.W.Weigher.weights c.args.weigher.now) c.args.limit c.args.source c.args.target c.requires.source (c.is_below.ensures.0 c.if-not-is_below.false))

pub begin-requires : goal.begin-requires
begin-requires g c = rw c.nodes.ensures.value c.requires.source

pub go_out-requires-clause-waits : goal.go_out-requires-clause-waits
go_out-requires-clause-waits g c = c.in_ok-begin.ensures.waits

pub way_to-requires-clause-search : goal.way_to-requires-clause-search
way_to-requires-clause-search g c = rw c.deref.ensures.value c.in_ok-found.ensures.search

pub way_to-requires-clause-last : goal.way_to-requires-clause-last
way_to-requires-clause-last g c =
    let near = subst (λ (found : Option Stop). IfSome found (IsNearest c.go_out.new.labels.items)) c.in-Some.is c.in_ok-found.ensures.nearest in
    rw c.deref.ensures.value near.is

pub returns-then-not-is_below-clause-none : goal.returns-then-not-is_below-clause-none
returns-then-not-is_below-clause-none g c = none-at_all c.args.inst.now (g.W.Weigher.weights c.args.weigher.now) c.args.limit c.args.source c.args.target
    (λ below. let bad : false ≡ true = sym c.if-not-is_below.true ∙ c.is_below.ensures.1 below in cc)

pub returns-in_default-clause-none : goal.returns-in_default-clause-none
returns-in_default-clause-none g c =
    let p = c.args.inst.now in
    let ws = (g.W.Weigher.weights c.args.weigher.now) in
    let ls = c.go_out.new.labels.items in
    let none : HasNoOpen ls = subst (λ (found : Option Stop). IfNone found (HasNoOpen ls)) c.in_default.is c.in_ok-found.ensures.none in
    none-below p ws c.args.limit c.args.source c.args.target ls c.lawful.ensures c.requires.target c.in_ok-found.ensures.search none

pub returns-clause-path : goal.returns-clause-path
returns-clause-path g c =
    let p = c.args.inst.now in
    let ws = (g.W.Weigher.weights c.args.weigher.now) in
    let s = c.args.source in
    let t = c.args.target in
    let stop = c.in-Some.last in
    let ls = c.go_out.new.labels.items in
    let near = subst (λ (found : Option Stop). IfSome found (IsNearest ls)) c.in-Some.is c.in_ok-found.ensures.nearest in
    let at_target = subst (λ (found : Option Stop). IfSome found (λ last. last.node.0 ≡ t.0)) c.in-Some.is c.in_ok-found.ensures.at_target in
    subst (λ (arcs : List ArcId). IsLeastPath p ws s t arcs stop.label.length) (sym (c.in_ok-self-inside.ensures ∙ ap (λ (x : Labels). way p x stop.label.steps stop.label) c.deref.ensures.value))
    (found-path p ws c.args.limit s t ls stop c.lawful.ensures c.in_ok-found.ensures.search near at_target)

pub returns-clause-below : goal.returns-clause-below
returns-clause-below g c =
    let near = subst (λ (found : Option Stop). IfSome found (IsNearest c.go_out.new.labels.items)) c.in-Some.is c.in_ok-found.ensures.nearest in
    c.in_ok-found.ensures.search.below c.in-Some.last.node.0 c.in-Some.last.label near.is
