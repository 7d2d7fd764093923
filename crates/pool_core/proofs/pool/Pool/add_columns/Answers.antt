use Rattle.std.proofs.Common.{◌≡◌, ◌<◌, length, sym, subst, ◌∙◌, rules}
use Rattle.std.specs.Arc.{arc_value}
use Rattle.std.specs.declared.alloc.AllocError.{AllocError}
use Rattle.pool_core.specs.contracts.pool.Pool.{the_view}
use Rattle.search_machine.specs.State.{State}
use Rattle.search_machine.specs.Gathering.{gathered, GathersFront}
use Rattle.search_machine.specs.Soundness.{IsSound}
use Rattle.search_machine.proofs.Runs.{IsReachable-sound}
use Rattle.search_view.specs.Valuing.{ForRound}
use Rattle.pool_core.specs.Valuing.{IsCompleteAt}
use Rattle.pool_core.proofs.TaskLaws.{has-some}
use Rattle.search_view.proofs.Reading.{has-within, read-round, shown-some, shown-value, if_ok}
use Rattle.search_view.proofs.Valuing.{round-lists, round-few}
use Rattle.pool_core.proofs.Gatherings.{complete-round, complete-found, with_columns, front-of, front-added, added-at, gathered-kept}
use Rattle.pool_core.proofs.pool.Pool.add_columns.Goals as goal

pub index-requires : goal.index-requires
index-requires c =
    let s = the_view c.self.inside in
    let h : IsCompleteAt s c.args.node c.args.version = subst (λ (x : State). IsCompleteAt x c.args.node c.args.version) (sym c.self.view_is) c.requires in
    let within : c.args.node.0 < length c.self.inside.state.nodes.items = has-within s c.args.node (complete-round s c.args.node c.args.version h) in
    search rules

pub unwrap-round-requires : goal.unwrap-round-requires
unwrap-round-requires c =
    let s = the_view c.self.inside in
    let h : IsCompleteAt s c.args.node c.args.version = subst (λ (x : State). IsCompleteAt x c.args.node c.args.version) (sym c.self.view_is) c.requires in
    let has = complete-round s c.args.node c.args.version h in
    let read = read-round c.self.inside.state.nodes.items c.args.node.0 c.index.result.now (has-within s c.args.node has) c.index.ensures in
    shown-some _ _ _ (c.round.ensures ∙ sym read) (has-some s c.args.node has)

pub add_to-requires : goal.add_to-requires
add_to-requires c =
    let s = the_view c.self.inside in
    let h : IsCompleteAt s c.args.node c.args.version = subst (λ (x : State). IsCompleteAt x c.args.node c.args.version) (sym c.self.view_is) c.requires in
    let read = read-round c.self.inside.state.nodes.items c.args.node.0 c.index.result.now (has-within s c.args.node (complete-round s c.args.node c.args.version h)) c.index.ensures in
    let sound : IsSound s = IsReachable-sound s c.self.invariant.kept.pool.reachable in
    let is = shown-value _ _ _ _ c.round.ensures c.unwrap-round.ensures ∙ sym read in
    record { lists = round-lists s c.args.node c.unwrap-round.result.now sound is; few = round-few s c.args.node c.unwrap-round.result.now sound is }

pub invariant_of-self : goal.invariant_of-self
invariant_of-self c =
    let s = the_view c.self.inside in
    let sound : IsSound s = IsReachable-sound s c.self.invariant.kept.pool.reachable in
    let h : IsCompleteAt s c.args.node c.args.version = subst (λ (x : State). IsCompleteAt x c.args.node c.args.version) (sym c.self.view_is) c.requires in
    let read = read-round c.self.inside.state.nodes.items c.args.node.0 c.index.result.now (has-within s c.args.node (complete-round s c.args.node c.args.version h)) c.index.ensures in
    let found = complete-found s c.args.node c.args.version h c.unwrap-round.result.now (shown-value _ _ _ _ c.round.ensures c.unwrap-round.ensures ∙ sym read) in
    let wanting : AllocError = record {} in
    record {
      kept = gathered-kept s c.args.node c.args.version c.add_to.new.columns wanting (arc_value c.self.inside.state.table) c.self.inside.state.grounds.items c.self.inside.places.items
          (front-added s c.args.node c.args.version h sound c.unwrap-round.result.now.found found c.add_to.new.columns
          (front-of c.add_to.result c.self.inside.state.columns c.add_to.new.columns c.unwrap-round.result.now.found c.add_to.ensures.added c.add_to.ensures.front))
          c.self.invariant.kept;
      room_is = c.self.invariant.room_is;
    }

pub returns : goal.returns
returns c =
    let s = the_view c.self.inside in
    let sound : IsSound s = IsReachable-sound s c.self.invariant.kept.pool.reachable in
    let h : IsCompleteAt s c.args.node c.args.version = subst (λ (x : State). IsCompleteAt x c.args.node c.args.version) (sym c.self.view_is) c.requires in
    let read = read-round c.self.inside.state.nodes.items c.args.node.0 c.index.result.now (has-within s c.args.node (complete-round s c.args.node c.args.version h)) c.index.ensures in
    let found = complete-found s c.args.node c.args.version h c.unwrap-round.result.now (shown-value _ _ _ _ c.round.ensures c.unwrap-round.ensures ∙ sym read) in
    record {
      added = if_ok c.add_to.result _ _
          (λ x is. subst (λ (u : State). ForRound u c.args.node (λ n round. with_columns (the_view c.self.inside) c.add_to.new.columns ≡ with_columns u (gathered u.columns round.found (length u.problem.demands)))) c.self.view_is
          (added-at s c.args.node c.args.version h sound c.unwrap-round.result.now.found found c.add_to.new.columns is))
          c.add_to.ensures.added;
      front = λ bad. subst (λ (u : State). GathersFront u c.args.node c.args.version (with_columns (the_view c.self.inside) c.add_to.new.columns)) c.self.view_is
          (front-added s c.args.node c.args.version h sound c.unwrap-round.result.now.found found c.add_to.new.columns (c.add_to.ensures.front bad));
    }
