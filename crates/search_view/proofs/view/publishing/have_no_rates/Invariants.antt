use Rattle.std.proofs.Common.{ℕ, ◌≡◌, ◌<◌, ◌≤◌, slice_index}
use Rattle.plan_base.specs.Places.{places}
use Rattle.search_view.proofs.view.publishing.have_no_rates.Given as goal

-- the rates before this place are 0
abbrev pub invariant-loop-place : goal.invariant-loop-place
invariant-loop-place l = (i : ℕ) → places l.inst ≤ i → i < l.place → slice_index l.numbers i ≡ 0
