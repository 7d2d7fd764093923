use Rattle.dual_versions.proofs.Moves.{shows}
use Rattle.dual_versions.proofs.Puts.{folded_number}
use Rattle.dual_versions.proofs.Looks.{at_ok}
use Rattle.dual_versions.proofs.Shows.{still_board, shows_pending}
use Rattle.dual_versions.specs.Boards.{with_pending_shown}
use Rattle.dual_versions.specs.Views.{known_by}
use Rattle.std.proofs.Common.{ap, ◌∙◌, rules, drop, length, ◌<◌}
use Rattle.dual_versions.proofs.writer.BoardWriter.shown.Goals as goal

pub publish_as-writer-requires : goal.publish_as-writer-requires
publish_as-writer-requires g c next is =
    let w = c.self.inside.writer in
    let now = w.desk.shown.value in
    let ps = drop w.behind w.log.items in
    let some' : 0 < length ps = search rules in
    shows _ _ now next c.self.invariant.fresh (ap (λ s. s.0) is ∙ folded_number (length now.rows.items) c.self.inside.prices now.number now.number now.rows.items ps some' c.self.invariant.puts)

pub invariant_of-result-2 : goal.invariant_of-result-2
invariant_of-result-2 g c =
    let w = c.self.inside.writer in
    let ps = drop w.behind w.log.items in
    let some' : 0 < length ps = search rules in
    let done = at_ok _ _ c.publish_as-writer.result.1 (c.publish_as-writer.ensures.succeeds tt) c.publish_as-writer.ensures.values in
    let told = at_ok _ _ c.publish_as-writer.result.1 (c.publish_as-writer.ensures.succeeds tt) c.publish_as-writer.ensures.rule in
    still_board _ _ _ _ _ ps _ c.self.invariant some' done.1.0 done.1.1 told.1

pub returns : goal.returns
returns g c =
    let w = c.self.inside.writer in
    let ps = drop w.behind w.log.items in
    let some' : 0 < length ps = search rules in
    let done = at_ok _ _ c.publish_as-writer.result.1 (c.publish_as-writer.ensures.succeeds tt) c.publish_as-writer.ensures.values in
    let told = at_ok _ _ c.publish_as-writer.result.1 (c.publish_as-writer.ensures.succeeds tt) c.publish_as-writer.ensures.rule in
    shows_pending c.self.inside.prices (known_by w.desk.place) (known_by c.publish_as-writer.result.0.desk.place) w.desk.shown.value c.publish_as-writer.result.0.desk.shown.value
    ps (drop c.publish_as-writer.result.0.behind c.publish_as-writer.result.0.log.items) c.self.invariant some' done.1.0 done.1.1 told.1 ∙ ap with_pending_shown c.self.view_is
