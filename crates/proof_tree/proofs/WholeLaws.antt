-- Over whole ranges evidence is what it is without ranges.
use Rattle.std.proofs.Common.{◌≡◌, ℕ, ◌+◌, ◌*◌, ◌/◌, ◌<◌, ◌≤◌, max, inl, inr, Bool, true, false, length, if◌then◌else◌, sym, ap, subst, arith}
use Rattle.std.proofs.lemmas.Bool.{le-ltb}
use Rattle.plan_base.specs.declared.ids.LinkId.{LinkId}
use Rattle.plan_base.specs.declared.parts.Parts.{Parts}
use Rattle.plan_base.specs.declared.path.Design.{Design}
use Rattle.plan_base.specs.Facts.{top_load}
use Rattle.plan_base.specs.Arcs.{link_at}
use Rattle.plan_base.specs.Places.{is_two_way, places, link_of_place, there_of, back_of}
use Rattle.plan_base.specs.Designs.{load_at, need}
use Rattle.plan_base.proofs.LoadLaws.{need-le-total}
use Rattle.link_steps.specs.declared.range.LoadRange.{LoadRange}
use Rattle.link_steps.specs.Costs.{CannotCarry}
use Rattle.link_steps.specs.Ranges.{no_range, range_at, whole_ranges, IsIn}
use Rattle.link_steps.proofs.Carrying.{carried-le-top}
use Rattle.arc_restrict.specs.Restrictions.{Forbidden}
use Rattle.proof_tree.specs.Regions.{whole, AreInRange}
use Rattle.proof_tree.specs.Evidence.{AreOnlyPaths, is_cut_short, room_at, ClosedByOverfull}
use Rattle.proof_tree.proofs.RangeLaws.{whole-at}

-- loads up to the top load are in a place's whole range
in_whole : (p : Parts) (q e load : ℕ) → q < places p → link_of_place p q ≡ e → load ≤ top_load p (link_at p e) → IsIn (range_at (whole_ranges p) q) load
in_whole p q e load is_place of_link few =
    subst (λ (r : LoadRange). IsIn r load) (sym (whole-at p q is_place)) (record { enough = omega arith; few = subst (λ (n : ℕ). load ≤ top_load p (link_at p n)) (sym of_link) few })

loads-in_whole : (p : Parts) (d : Design) (e : ℕ) → e < length p.links → need p d e ≤ top_load p (link_at p e) → AreInRange p (whole_ranges p) d e
loads-in_whole p d e within few = record {
  there = there (is_two_way p.orient) (λ q load below of le. in_whole p q e load below of le) (first (there_of p (load_at p d) e) (back_of p (load_at p d) e) few);
  back = back (is_two_way p.orient) (λ q load below of le. in_whole p q e load below of le) (second (there_of p (load_at p d) e) (back_of p (load_at p d) e) few);
}
  where
    top : ℕ
    top = top_load p (link_at p e)

    first : (x y : ℕ) → max x y ≤ top → x ≤ top
    first x y le = omega arith

    second : (x y : ℕ) → max x y ≤ top → y ≤ top
    second x y le = omega arith

    there : (b : Bool) → ((q load : ℕ) → q < (if b then 2 * length p.links else length p.links) → (if b then q / 2 else q) ≡ e → load ≤ top → IsIn (range_at (whole_ranges p) q) load)
        → load_at p d (if b then 2 * e else e) ≤ top → IsIn (range_at (whole_ranges p) (if b then 2 * e else e)) (load_at p d (if b then 2 * e else e))
    there true each le = each (2 * e) _ (omega (arith, within)) (omega arith) le
    there false each le = each e _ within (omega arith) le

    back : (b : Bool) → ((q load : ℕ) → q < (if b then 2 * length p.links else length p.links) → (if b then q / 2 else q) ≡ e → load ≤ top → IsIn (range_at (whole_ranges p) q) load)
        → (if b then load_at p d (2 * e + 1) else 0) ≤ top → IsIn (if b then range_at (whole_ranges p) (2 * e + 1) else no_range) (if b then load_at p d (2 * e + 1) else 0)
    back true each le = each (2 * e + 1) _ (omega (arith, within)) (omega arith) le
    back false each le = record { enough = omega arith; few = omega arith }

-- an overfull link cannot carry what it needs for the only paths
pub overfull-cannot_carry : (p : Parts) (r : Forbidden) (link : LinkId) → ClosedByOverfull p (record (whole p) { forbidden = r }) link → (routing : Design) × AreOnlyPaths p r routing × CannotCarry p link.0 (need p routing link.0)
overfull-cannot_carry p r link closed = (
  closed.routing,
  closed.only,
  elim closed.overfull [
    | inl cannot ↦ cannot
    | inr outside ↦ λ counts carries. outside (loads-in_whole p closed.routing link.0 closed.is_link (carried-le-top p (link_at p link.0) (need p closed.routing link.0) (need-le-total p closed.routing link.0) (counts, carries)))
  ],
)

-- no whole range is cut short
pub whole-not_short : (p : Parts) (q : ℕ) → q < places p → is_cut_short p (whole_ranges p) q ≡ false
whole-not_short p q is_place =
    le-ltb _ _ (let same : (range_at (whole_ranges p) q).most ≡ top_load p (link_at p (link_of_place p q)) = ap (λ (r : LoadRange). r.most) (whole-at p q is_place) in omega (arith, same))

-- what a place carries at most is what is pre-installed
pub whole-room : (p : Parts) (q : ℕ) → q < places p → room_at p (whole_ranges p) q ≡ (link_at p (link_of_place p q)).pre
whole-room p q is_place = ap (λ (b : Bool). if b then (range_at (whole_ranges p) q).most else (link_at p (link_of_place p q)).pre) (whole-not_short p q is_place)
