use Rattle.std.proofs.Common.{◌≡◌, length}
use Rattle.plan_picture.proofs.sites.spans_of.Given as goal

-- each link before this one has its span
abbrev pub invariant-loop-place : goal.invariant-loop-place
invariant-loop-place l = length l.spans.items ≡ l.place
