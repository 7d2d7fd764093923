use Rattle.std.proofs.Common.{◌≡◌, inl, inr, refl, true, false, ◌<◌, length, arith, rules}
use Rattle.cert_verifier.specs.LeafRules.{LeafFinds}
use Rattle.cert_verifier.specs.Walks.{region_of_marks}
use Rattle.cert_verifier.specs.Routings.{bare_design}
use Rattle.cert_verifier.proofs.RoutingLaws.{loads_are, not_only_paths}
use Rattle.cert_verifier.proofs.LeafFindings.{not_so, overfull_outside, overfull_decided}
use Rattle.cert_verifier.proofs.leaves.check_overfull.Goals as goal

pub returns-then-link-links : goal.returns-then-link-links
unfolding LeafFinds
returns-then-link-links c = λ differs.
    rw c.broken.ensures (inl (refl, inr ((λ within. absurd (omega (arith, within))), refl)))

pub returns-in-Missing : goal.returns-in-Missing
unfolding LeafFinds
returns-in-Missing c = λ differs.
    let within : c.args.link.0 < length c.args.at.now.inst.now.links = omega arith in
    let without = rw c.in-Missing.is at c.in_ok-only_paths.ensures.left in
    rw c.broken-in-Missing.ensures (inr (inl (within, refl), inl (refl, inr (without, refl))))

pub returns-in-Second : goal.returns-in-Second
unfolding LeafFinds
returns-in-Second c = λ differs.
    let within : c.args.link.0 < length c.args.at.now.inst.now.links = omega arith in
    let second = rw c.in-Second.is at c.in_ok-only_paths.ensures.left in
    rw c.broken-in-Second.ensures (inr (inl (within, refl), inr (inl (second.0, refl), inl (refl, inr (not_only_paths _ _ second.1, refl)))))

pub returns-then-not-are_in_range : goal.returns-then-not-are_in_range
returns-then-not-are_in_range c = λ differs.
    let at = c.args.at.now in
    let only = rw c.in-Only.is at c.in_ok-only_paths.ensures.left in
    let fails : c.are_in_range.result ≡ false = search rules in
    overfull_outside at.inst.now at.cuts.now at.cost (region_of_marks at.forbidden.now at.ranges.now) at.index c.args.link (bare_design c.in-Only.paths) _ (omega arith) only.1 (loads_are _ _ _ c.links.ensures.lawful c.loads_of_paths-loads.ensures.value) (not_so c.are_in_range.result _ c.are_in_range.ensures fails)

pub returns-else-not-are_in_range : goal.returns-else-not-are_in_range
returns-else-not-are_in_range c = λ differs.
    let at = c.args.at.now in
    let only = rw c.in-Only.is at c.in_ok-only_paths.ensures.left in
    let holds : c.are_in_range.result ≡ true = search rules in
    overfull_decided at.inst.now at.cuts.now at.cost (region_of_marks at.forbidden.now at.ranges.now) at.index c.args.link (bare_design c.in-Only.paths) _ c.cannot_carry.result _ (omega arith) only.1 (loads_are _ _ _ c.links.ensures.lawful c.loads_of_paths-loads.ensures.value) (c.are_in_range.ensures.0 holds) c.cannot_carry.ensures
    c.holds_or.ensures.ok c.holds_or.ensures.broken
