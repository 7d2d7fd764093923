use Rattle.std.proofs.Common.{ℕ, ◌≡◌, ◌<◌, false, slice_index}
use Rattle.std.specs.Prelude.{IsTrue}
use Rattle.plan_base.specs.Facts.{is_useful}
use Rattle.plan_base.specs.Arcs.{link_at}
use Rattle.plan_base.specs.Places.{link_of_place}
use Rattle.proof_tree.specs.Evidence.{is_cut_short}
use Rattle.cert_verifier.proofs.leaves.are_free_on_useful.Given as goal

abbrev pub invariant-loop-place : goal.invariant-loop-place
invariant-loop-place l = (q : ℕ) → q < l.place → IsTrue (is_useful (link_at l.inst (link_of_place l.inst q))) → is_cut_short l.inst l.ranges q ≡ false → slice_index l.prices q ≡ 0
