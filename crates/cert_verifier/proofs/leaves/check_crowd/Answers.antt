use Rattle.std.proofs.Common.{inl, inr, refl, ◌≡◌, true, false, rules}
use Rattle.cert_verifier.specs.LeafRules.{LeafFinds}
use Rattle.cert_verifier.specs.Walks.{region_of_marks}
use Rattle.cert_verifier.proofs.LeafFindings.{not_so, crowd_decided}
use Rattle.cert_verifier.proofs.leaves.check_crowd.Goals as goal

pub returns-then-not-are_within_limit : goal.returns-then-not-are_within_limit
unfolding LeafFinds
returns-then-not-are_within_limit c = λ differs.
    let fails : c.are_within_limit.result ≡ false = search rules in
    let limit = rw c.as_slice-numerators.ensures.value at c.are_within_limit.ensures in
    rw c.broken.ensures (inl (refl, inr (not_so c.are_within_limit.result _ limit fails, refl)))

pub returns-then-not-are_free_on_useful : goal.returns-then-not-are_free_on_useful
unfolding LeafFinds
returns-then-not-are_free_on_useful c = λ differs.
    let fits : c.are_within_limit.result ≡ true = search rules in
    let limit = rw c.as_slice-numerators.ensures.value at c.are_within_limit.ensures in
    let fails : c.are_free_on_useful.result ≡ false = search rules in
    let free = rw c.as_slice-numerators.ensures.value at c.are_free_on_useful.ensures in
    rw c.broken-then-not-are_free_on_useful.ensures
    (inr (inl ((limit.0 fits), refl), inl (refl, inr (not_so c.are_free_on_useful.result _ free fails, refl))))

pub returns-in-Some : goal.returns-in-Some
returns-in-Some c = λ differs.
    let at = c.args.at.now in
    let fits : c.are_within_limit.result ≡ true = search rules in
    let limit = rw c.as_slice-numerators.ensures.value at c.are_within_limit.ensures in
    let is_free : c.are_free_on_useful.result ≡ true = search rules in
    let free = rw c.as_slice-numerators.ensures.value at c.are_free_on_useful.ensures in
    let is = rw (c.in-Some.is, c.as_slice-numerators.ensures.value) at c.in_ok-total.ensures.total in
    let more = rw c.as_slice-numerators.ensures.value at c.is_crowded.ensures in
    crowd_decided at.inst.now at.cuts.now at.cost (region_of_marks at.forbidden.now at.ranges.now) at.index c.args.prices.now c.in-Some.total c.is_crowded.result _ (limit.0 fits) (free.0 is_free) is more
    c.holds_or.ensures.ok c.holds_or.ensures.broken

pub returns-in-None : goal.returns-in-None
unfolding LeafFinds
returns-in-None c = λ differs.
    let fits : c.are_within_limit.result ≡ true = search rules in
    let limit = rw c.as_slice-numerators.ensures.value at c.are_within_limit.ensures in
    let is_free : c.are_free_on_useful.result ≡ true = search rules in
    let free = rw c.as_slice-numerators.ensures.value at c.are_free_on_useful.ensures in
    let without = rw c.in-None.is at c.in_ok-total.ensures.none in
    rw c.broken-in-None.ensures (inr (inl ((limit.0 fits), refl), inr (inl (free.0 is_free, refl), inl (refl, inr (without, refl)))))
