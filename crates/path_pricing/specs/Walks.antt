-- Pieces of the check of a path by a walk. No public clause cites this module.
use Rattle.std.specs.Prelude.{ℕ, Bool, not, ◌&&◌, Option, ◌==◌}
use Rattle.base_items.specs.Met.{Stamps, is_met}
use Rattle.plan_base.specs.declared.ids.ArcId.{ArcId}
use Rattle.plan_base.specs.declared.parts.Parts.{Parts}
use Rattle.plan_base.specs.First.{◌or_else◌, when}
use Rattle.plan_base.specs.Arcs.{is_arc, tail_of, head_of}
use Rattle.path_pricing.specs.declared.priced.Unfit.{Unfit}
use Rattle.path_pricing.specs.declared.priced.Unfit.TheVariants.{NotPermitted}

-- what is wrong with an arc where the walk stands at a node, and has met these nodes
unfoldable pub step_fault : Parts → (ArcId → Bool) → Stamps → ℕ → ℕ → ArcId → Option Unfit
step_fault p forbids met here i a =
    when (not (is_arc p a && ((tail_of p a).0 == here))) (NotPermitted i)
    or_else when (is_met met (head_of p a).0) (NotPermitted i)
    or_else when (forbids a) (NotPermitted i)
