-- What a good design costs at most, in cost grains.
use Rattle.std.proofs.Common.{◌≡◌, ℕ, zero, suc, ◌*◌, ◌^◌, ◌<◌, ◌≤◌, length, slice_index, Option, Some, None, subst, arith}
use Rattle.std.specs.Prelude.{IfSome}
use Rattle.std.specs.Option.{option_map}
use Rattle.std.proofs.Math.Nat.{mul-le-mul_left}
use Rattle.plan_base.specs.declared.limits.TheConstants.{MAX_LINKS, MAX_MODULES, MAX_ROUTING_COST, MAX_COUNT_COST}
use Rattle.plan_base.specs.declared.parts.Parts.{Parts}
use Rattle.plan_base.specs.declared.path.Design.{Design}
use Rattle.plan_base.specs.Sums.{sum_below}
use Rattle.plan_base.specs.Facts.{IsInstance, total_load}
use Rattle.plan_base.specs.Arcs.{link_at, no_link}
use Rattle.plan_base.specs.Designs.{carried, counts_at, module_at, module_cost_with, link_cost, cost_of, IsGoodDesign}
use Rattle.plan_base.proofs.LoadLaws.{carried-le-totals}
use Rattle.cert_verifier.specs.PlanRules.{DesignFinds}
use Rattle.cert_verifier.proofs.PlanLaws.{stated_found_none}

-- a sum of so many numbers, none of them above the most
sum-most : (f : ℕ → ℕ) (most n : ℕ) → ((i : ℕ) → i < n → f i ≤ most) → sum_below f n ≤ n * most
sum-most f most zero h = omega arith
sum-most f most (suc n) h =
    let rest = sum-most f most n (λ i below. h i (omega arith)) in
    let last = h n (omega arith) in
    omega arith

modules-most : (p : Parts) (d : Design) (e : ℕ) → IsGoodDesign p d → e < length p.links → module_cost_with (link_at p e) (counts_at d e) ≤ length (link_at p e).modules * MAX_COUNT_COST
modules-most p d e good within = sum-most (λ m. slice_index (counts_at d e) m * (module_at (link_at p e) m).cost) MAX_COUNT_COST (length (link_at p e).modules) (λ m below. (good.in_shape e within m below).cost_within)

routing-most : (p : Parts) (d : Design) (e : ℕ) → IsInstance p → e < length p.links → (link_at p e).routing * carried p d e ≤ 2 * MAX_ROUTING_COST
routing-most p d e inst within =
    let all : (link_at p e).routing * total_load p ≤ MAX_ROUTING_COST = inst.routing e no_link within in
    let more : (link_at p e).routing * carried p d e ≤ (link_at p e).routing * (2 * total_load p) = mul-le-mul_left (link_at p e).routing (carried-le-totals p d e) in
    let twice : (link_at p e).routing * (2 * total_load p) ≡ 2 * ((link_at p e).routing * total_load p) = grind arith in
    omega (arith, all, more, twice)

link-most : (p : Parts) (d : Design) (e : ℕ) → IsInstance p → IsGoodDesign p d → e < length p.links → link_cost p d e ≤ 34 * 10 ^ 30
link-most p d e inst good within =
    let few : length (link_at p e).modules ≤ MAX_MODULES = (inst.links e no_link within).module_count in
    let routed = routing-most p d e inst within in
    let modules = modules-most p d e good within in
    omega arith

-- a good design of an instance costs less than 2^115 cost grains
pub good-cost : (p : Parts) (d : Design) → IsInstance p → IsGoodDesign p d → cost_of p d < 2 ^ 115
good-cost p d inst good =
    let sum = sum-most (link_cost p d) (34 * 10 ^ 30) (length p.links) (λ e within. link-most p d e inst good within) in
    let few : length p.links ≤ MAX_LINKS = inst.link_count in
    omega arith

-- so does a design whose stated cost is right
pub stated-small : (p : Parts) (design : Option (ℕ × Design)) → IsInstance p → DesignFinds p design None → IfSome (option_map (λ design. design.0) design) (λ cost. cost < 2 ^ 127)
stated-small p None inst h = tt
stated-small p (Some (cost, d)) inst h =
    let stated = stated_found_none p (Some (cost, d)) h in
    let small : cost < 2 ^ 115 = subst (λ n. n < 2 ^ 115) stated.cost_is (good-cost p d inst stated.good) in
    omega (arith, small)
