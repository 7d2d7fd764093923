use Rattle.std.proofs.Common.{inl, inr, refl, ◌≡◌, true, false, rules}
use Rattle.std.proofs.lemmas.Int.{to_z-of_z}
use mir.Syntax.{w128}
use mir.Val.{SFits}
use Rattle.cert_verifier.specs.LeafRules.{LeafFinds}
use Rattle.cert_verifier.specs.Walks.{region_of_marks}
use Rattle.cert_verifier.proofs.LeafFindings.{not_so, bound_decided}
use Rattle.cert_verifier.proofs.leaves.check_bound.Goals as goal

pub returns-then-not-are_lawful : goal.returns-then-not-are_lawful
unfolding LeafFinds
returns-then-not-are_lawful c = λ differs.
    let fails : c.are_lawful.result ≡ false = search rules in
    rw c.broken.ensures (inl (refl, inr (not_so c.are_lawful.result _ c.are_lawful.ensures fails, refl)))

pub returns-in-Some : goal.returns-in-Some
returns-in-Some c = λ differs.
    let at = c.args.at.now in
    let lawful : c.are_lawful.result ≡ true = search rules in
    let is = rw c.in-Some.is at c.in_ok-bound.ensures.bound in
    let small : SFits w128 c.in-Some.bound = search rules in
    let above = rw (to_z-of_z w128 c.in-Some.bound small) at c.is_above.ensures in
    bound_decided at.inst.now at.cuts.now at.cost (region_of_marks at.forbidden.now at.ranges.now) at.index c.args.numbers.now c.in-Some.bound at.unit c.is_above.result _ c.requires.unit (c.are_lawful.ensures.0 lawful) is above c.holds_or.ensures.ok c.holds_or.ensures.broken

pub returns-in-None : goal.returns-in-None
unfolding LeafFinds
returns-in-None c = λ differs.
    let lawful : c.are_lawful.result ≡ true = search rules in
    let without = rw c.in-None.is at c.in_ok-bound.ensures.none in
    rw c.broken-in-None.ensures (inr (inl ((c.are_lawful.ensures.0 lawful), refl), inl (refl, inr (without, refl))))
