use Rattle.arc_restrict.specs.Rows.{forbids}
use Rattle.search_view.specs.Valuing.{ArePermittedLists}
use Rattle.search_view.proofs.view.gathering.permitted_lists.Given as goal

abbrev pub invariant-loop-place : goal.invariant-loop-place
invariant-loop-place l = ArePermittedLists l.place (forbids l.restriction) l.columns l.lists.items
