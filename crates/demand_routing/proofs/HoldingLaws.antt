-- Step costs that are held.
use Rattle.std.proofs.Common.{ℕ, ◌≡◌, ◌∙◌, ◌<◌, false, replicate, sym, ap, true≢false, arith}
use Rattle.std.proofs.lemmas.List.{get_or-replicate, length-replicate}
use Rattle.plan_base.specs.declared.parts.Parts.{Parts}
use Rattle.demand_routing.specs.declared.weights.Held.{Held}
use Rattle.demand_routing.specs.Holding.{AreHeld}

-- where nothing is known, nothing false is held
pub none-held : (p : Parts) (count : ℕ) (h : Held) → h.known ≡ false → AreHeld p (replicate count h)
none-held p count h none e other below known =
    let within : e < count = omega (arith, length-replicate count h, below) in
    absurd (true≢false (sym known ∙ ap (λ (x : Held). x.known) (get_or-replicate count e h other within) ∙ none))
