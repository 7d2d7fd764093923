use Rattle.std.proofs.Common.{◌≡◌, ap, ◌∙◌, List, [], ◌∷◌, ◌++◌, reverse}
use Rattle.cert_verifier.specs.declared.walk.Turn.{Turn}
use Rattle.cert_verifier.proofs.WalkLaws.{turn-read, turn-within, to_right, leave_left, leave_right, reverse_push}
use Rattle.cert_verifier.proofs.walk.Walk.leave.Goals as goal

pub go_up-requires : goal.go_up-requires
go_up-requires c = turn-within _ _ _ _ c.args.self.now.forbidden c.args.self.now.ranges _ (turn-read _ _ _ _ _ _ c.requires.stands c.nodes.ensures.value c.index-nodes-turn.result c.index-nodes-turn.is) c.requires.rows c.requires.stands

pub turn_right-requires : goal.turn_right-requires
turn_right-requires c = turn-within _ _ _ _ c.args.self.now.forbidden c.args.self.now.ranges _ (turn-read _ _ _ _ _ _ c.requires.stands c.nodes.ensures.value c.index-nodes-turn.result c.index-nodes-turn.is) c.requires.rows c.requires.stands

pub returns-then-turn-clause-after : goal.returns-then-turn-clause-after
returns-then-turn-clause-after c = λ gs place.
    let read = turn-read _ _ _ _ _ _ c.requires.stands c.nodes.ensures.value c.index-nodes-turn.result c.index-nodes-turn.is in
    leave_right c.args.against.now.inst.now c.args.against.now.plan.now.tree c.args.turn _ _ _ _ gs c.index-nodes-turn.result read c.if-turn.true (c.go_up.ensures.up c.args.against.now.inst.now) (ap (λ (ts : List Turn). reverse ts) c.go_up.ensures.kept.turns) place

pub returns-clause-after : goal.returns-clause-after
returns-clause-after c = λ gs place.
    let next = to_right c.args.turn in
    let turned : reverse c.push.new.self.items ≡ next ∷ reverse c.args.self.now.turns.items =
    ap (λ (ts : List Turn). reverse ts) (c.in_ok-push.ensures.items ∙ ap (λ (ts : List Turn). ts ++ (next ∷ [])) c.turn_right.ensures.kept.turns) ∙ reverse_push c.args.self.now.turns.items next in
    let read = turn-read _ _ _ _ _ _ c.requires.stands c.nodes.ensures.value c.index-nodes-turn.result c.index-nodes-turn.is in
    leave_left c.args.against.now.inst.now c.args.against.now.plan.now.tree c.args.turn _ _ _ _ gs c.index-nodes-turn.result read c.if-turn.false (c.turn_right.ensures.over c.args.against.now.inst.now) turned place
