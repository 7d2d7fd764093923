use Rattle.std.proofs.Common.{ℕ, ◌≡◌, ◌<◌, slice_index}
use Rattle.master_step.specs.Outcomes.{crowd_price}
use Rattle.search_view.proofs.view.publishing.are_crowded.Given as goal

abbrev pub invariant-loop-place : goal.invariant-loop-place
invariant-loop-place l = (q : ℕ) → q < l.place → slice_index l.crowd q ≡ crowd_price l.inst l.numbers q
