use Rattle.std.proofs.Common.{refl, sym, ◌∙◌}
use Rattle.search_machine.proofs.Runs.{IsReachable-sound}
use Rattle.search_view.proofs.TaskLaws.{has-round, active-some, none-examine_cut, none-close_fault, to-price, to-advance, to-examine}
use Rattle.search_view.proofs.view.PoolView.step_of_round.Goals as goal

pub round_at-round-requires : goal.round_at-round-requires
round_at-round-requires c = active-some c.args.self.now c.args.node c.requires.active

pub returns-then-has_cut : goal.returns-then-has_cut
returns-then-has_cut c = (
  refl,
  none-examine_cut c.args.self.now c.args.node (IsReachable-sound c.args.self.now c.requires.reachable) c.requires.not_spent
      (has-round c.args.self.now c.args.node (active-some c.args.self.now c.args.node c.requires.active)) (sym c.if-has_cut.ensures),
)

pub returns-then-is_closable : goal.returns-then-is_closable
returns-then-is_closable c = (
  refl,
  none-close_fault c.args.self.now c.args.node (IsReachable-sound c.args.self.now c.requires.reachable) c.requires.not_spent
      (has-round c.args.self.now c.args.node (active-some c.args.self.now c.args.node c.requires.active)) (sym c.if-is_closable.ensures),
)

pub returns-in-Some : goal.returns-in-Some
returns-in-Some c = (
  refl,
  to-price c.args.self.now c.args.node c.round_at-round.result.now c.slot.result c.version-version.result c.in-Some.demand c.requires.not_spent c.round_at-round.ensures
      (sym c.if-has_cut.ensures) c.slot.ensures c.version-version.ensures (sym c.first_gap.ensures ∙ c.in-Some.is),
)

pub returns-then-may_go_on : goal.returns-then-may_go_on
returns-then-may_go_on c = (
  refl,
  to-advance c.args.self.now c.args.node c.round_at-round.result.now c.version-version.result c.requires.not_spent c.round_at-round.ensures
      (sym c.if-is_closable.ensures) c.version-version.ensures (sym c.first_gap.ensures ∙ c.in_default.is) (sym c.if-may_go_on.ensures),
)

pub returns : goal.returns
returns c = (
  refl,
  to-examine c.args.self.now c.args.node c.round_at-round.result.now (IsReachable-sound c.args.self.now c.requires.reachable) c.requires.not_spent c.round_at-round.ensures
      (sym c.if-has_cut.ensures) (sym c.if-is_closable.ensures) (sym c.first_gap.ensures ∙ c.in_default.is) (sym c.if-may_go_on.ensures),
)
