-- One arc more is added, removed or weighed.
use Rattle.std.proofs.Common.{◌≡◌, ℕ, ◌+◌, ◌*◌, ◌-◌, ◌<◌, inl, inr, min, Bool, true, false, cond, if◌then◌else◌, ◌==◌, List, [], ◌∷◌, ◌++◌, length, get_or, slice_index, take, sum_by, Option, Some, None, IfSome, IfNone, sym, ◌∙◌, arith, length-append}
use Rattle.std.proofs.lemmas.List.{get_or-take, get_or_append_left, get_or_push, length-take-le}
use Rattle.std.proofs.lemmas.List.Sums.{sum_by_more, sum_by_push}
use Rattle.plan_base.specs.declared.ids.ArcId.{ArcId}
use Rattle.plan_base.specs.declared.parts.Parts.{Parts}
use Rattle.plan_base.specs.Arcs.{no_arc}
use Rattle.plan_base.specs.Places.{place_of}
use Rattle.plan_base.specs.Paths.{arc_at}
use Rattle.link_steps.proofs.Order.{before_or_last}
use Rattle.demand_routing.specs.Traffic.{arcs_along, IsRise, AreRises, HasTooMuch, IsRiseAlong}

-- how many arcs are of a place, with one arc more
along-next : (p : Parts) (q : ℕ) (arcs : List ArcId) (i : ℕ) (d : ArcId) → i < length arcs → arcs_along p q (take (i + 1) arcs) ≡ arcs_along p q (take i arcs) + cond (place_of p (get_or arcs i d) == q) 1 0
along-next p q arcs i d within = sum_by_more (λ (a : ArcId). cond (place_of p a == q) 1 0) arcs i d within

added : (here : Bool) (old now before load most n : ℕ) → before ≡ min (old + n * load) most → now ≡ (if here then min (before + load) most else before) → now ≡ min (old + (n + cond here 1 0) * load) most
added true old now before load most n is step = grind arith
added false old now before load most n is step = grind arith

removed : (here : Bool) (old now before load n : ℕ) → before ≡ old - n * load → now ≡ (if here then before - load else before) → now ≡ old - (n + cond here 1 0) * load
removed true old now before load n is step = grind arith
removed false old now before load n is step = grind arith

-- what a place carries where the load of one arc more is added
pub added-next : (p : Parts) (q old now before load most : ℕ) (arcs : List ArcId) (i : ℕ) (d : ArcId) → i < length arcs → before ≡ min (old + arcs_along p q (take i arcs) * load) most
    → now ≡ (if place_of p (get_or arcs i d) == q then min (before + load) most else before) → now ≡ min (old + arcs_along p q (take (i + 1) arcs) * load) most
added-next p q old now before load most arcs i d within is step =
    rw (along-next p q arcs i d within) (added (place_of p (get_or arcs i d) == q) old now before load most (arcs_along p q (take i arcs)) is step)

-- what a place carries where the load of one arc more is taken away
pub removed-next : (p : Parts) (q old now before load : ℕ) (arcs : List ArcId) (i : ℕ) (d : ArcId) → i < length arcs → before ≡ old - arcs_along p q (take i arcs) * load
    → now ≡ (if place_of p (get_or arcs i d) == q then before - load else before) → now ≡ old - arcs_along p q (take (i + 1) arcs) * load
removed-next p q old now before load arcs i d within is step =
    rw (along-next p q arcs i d within) (removed (place_of p (get_or arcs i d) == q) old now before load (arcs_along p q (take i arcs)) is step)

-- the rises along a path with one arc more
pub rises-next : (p : Parts) (loads : List ℕ) (load most sum more now i : ℕ) (arcs : List ArcId) (a : ArcId) → i < length arcs → a ≡ arc_at arcs i → AreRises p loads load (take i arcs) most sum
    → IsRise p (slice_index loads) (place_of p a) load more → now ≡ min (sum + more) most → AreRises p loads load (take (i + 1) arcs) most now
rises-next p loads load most sum more now i arcs a within is before rise step =
    let long : length (take i arcs) ≡ i = length-take-le i arcs (omega arith) in
    let longer : length (take (i + 1) arcs) ≡ i + 1 = length-take-le (i + 1) arcs (omega arith) in
    let size : length before.rises ≡ i = before.count ∙ long in
    record {
      rises = before.rises ++ more ∷ [];
      count = omega (arith, length-append before.rises (more ∷ []), size, longer);
      each = λ k below.
          elim (before_or_last k i (omega (arith, below, longer))) [
            | inl earlier ↦
                (let same : arc_at (take (i + 1) arcs) k ≡ arc_at (take i arcs) k = get_or-take (i + 1) arcs k no_arc (omega arith) ∙ sym (get_or-take i arcs k no_arc earlier) in
                let old : slice_index (before.rises ++ more ∷ []) k ≡ slice_index before.rises k = get_or_append_left before.rises (more ∷ []) 0 k (omega (arith, size)) in
                rw (same, old) (before.each k (omega (arith, long))))
            | inr last ↦
                (let same : arc_at (take (i + 1) arcs) i ≡ a = get_or-take (i + 1) arcs i no_arc (omega arith) ∙ sym is in
                let new : slice_index (before.rises ++ more ∷ []) i ≡ more = get_or_push before.rises more 0 i size in
                rw (last, same, new) rise)
          ];
      is_sum =
          let total : sum_by (λ (rise : ℕ). rise) (before.rises ++ more ∷ []) ≡ sum_by (λ (rise : ℕ). rise) before.rises + more = sum_by_push (λ (rise : ℕ). rise) before.rises more in
          capped sum more most now (sum_by (λ (rise : ℕ). rise) before.rises) (sum_by (λ (rise : ℕ). rise) (before.rises ++ more ∷ [])) total before.is_sum step;
    }
  where
    capped : (sum more most now old new : ℕ) → new ≡ old + more → sum ≡ min old most → now ≡ min (sum + more) most → now ≡ min new most
    capped sum more most now old new total is step = omega arith

-- what the arcs of a path add together, or none
pub rise_told : (p : Parts) (loads : List ℕ) (load : ℕ) (arcs : List ArcId) (rise : Option ℕ) → IfSome rise (AreRises p loads load arcs 340282366920938463463374607431768211455) → IfNone rise (HasTooMuch p loads load arcs) → IsRiseAlong p loads load arcs rise
rise_told p loads load arcs (Some rise) some none = some
rise_told p loads load arcs None some none = none
