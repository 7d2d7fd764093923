-- Two designs of the only paths have the same loads.
use Rattle.std.proofs.Common.{◌≡◌, ℕ, ◌<◌, length, max, ap, ◌∙◌, if◌then◌else◌}
use Rattle.plan_base.specs.declared.parts.Parts.{Parts}
use Rattle.plan_base.specs.declared.path.Design.{Design}
use Rattle.plan_base.specs.Arcs.{demand_at}
use Rattle.plan_base.specs.Places.{there_of, back_of}
use Rattle.plan_base.specs.Paths.{uses_place}
use Rattle.plan_base.specs.Designs.{path_at, load_from, load_at, need}
use Rattle.plan_base.proofs.SumsBelow.{sum_below-same}
use Rattle.plan_base.proofs.PlaceSums.{there-same, back-same}
use Rattle.arc_restrict.specs.Restrictions.{Forbidden}
use Rattle.proof_tree.specs.Evidence.{AreOnlyPaths}

-- two designs of the only paths put the same load on each place
pub only_loads : (p : Parts) (r : Forbidden) (one other : Design) (q : ℕ) → AreOnlyPaths p r one → AreOnlyPaths p r other → load_at p one q ≡ load_at p other q
unfolding load_from
only_loads p r one other q first second =
    sum_below-same (load_from p one q) (load_from p other q) (length p.demands) (λ k within.
    ap (λ arcs. if uses_place p q arcs then (demand_at p k).load else 0) ((second k within).only (path_at one k) (first k within).permitted))

-- so a link's places have the same loads
pub only_there : (p : Parts) (r : Forbidden) (one other : Design) (e : ℕ) → e < length p.links → AreOnlyPaths p r one → AreOnlyPaths p r other → there_of p (load_at p one) e ≡ there_of p (load_at p other) e
only_there p r one other e within first second = there-same p (load_at p one) (load_at p other) e within (λ q place. only_loads p r one other q first second)

-- two designs of the only paths put the same load on the way from target to source of each link
pub only_back : (p : Parts) (r : Forbidden) (one other : Design) (e : ℕ) → e < length p.links → AreOnlyPaths p r one → AreOnlyPaths p r other → back_of p (load_at p one) e ≡ back_of p (load_at p other) e
only_back p r one other e within first second = back-same p (load_at p one) (load_at p other) e within (λ q place. only_loads p r one other q first second)

-- and it needs as much
pub only_need : (p : Parts) (r : Forbidden) (one other : Design) (e : ℕ) → e < length p.links → AreOnlyPaths p r one → AreOnlyPaths p r other → need p one e ≡ need p other e
only_need p r one other e within first second =
    ap (λ (x : ℕ). max x (back_of p (load_at p one) e)) (only_there p r one other e within first second)
    ∙ ap (λ (y : ℕ). max (there_of p (load_at p other) e) y) (only_back p r one other e within first second)
