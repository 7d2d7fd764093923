-- The loads of a link's places, as they are read from a list of the loads of all places.
use Rattle.std.proofs.Common.{◌≡◌, ℕ, ◌<◌, List, length, slice_index, arith}
use Rattle.plan_base.specs.declared.parts.Parts.{Parts}
use Rattle.plan_base.specs.declared.path.Design.{Design}
use Rattle.plan_base.specs.declared.limits.TheConstants.{MAX_PLACES}
use Rattle.plan_base.specs.Facts.{IsInstance}
use Rattle.plan_base.specs.Places.{there_of, back_of}
use Rattle.plan_base.specs.Designs.{load_at}
use Rattle.plan_base.proofs.PlaceSums.{there-same, back-same, places-few}

module _ (p : Parts) (d : Design) (loads : List ℕ) (lawful : IsInstance p) (are : (q : ℕ) → q < MAX_PLACES → slice_index loads q ≡ load_at p d q) where
  -- the load of the link's place
  pub there-load : (e : ℕ) → e < length p.links → there_of p (slice_index loads) e ≡ there_of p (load_at p d) e
  there-load e within = there-same p (slice_index loads) (load_at p d) e within (λ q inside. are q (omega (arith, inside, places-few p lawful)))

  -- that of its other place
  pub back-load : (e : ℕ) → e < length p.links → back_of p (slice_index loads) e ≡ back_of p (load_at p d) e
  back-load e within = back-same p (slice_index loads) (load_at p d) e within (λ q inside. are q (omega (arith, inside, places-few p lawful)))

-- what a link's places carry
pub ruleset place_loads = (there-load, back-load)
