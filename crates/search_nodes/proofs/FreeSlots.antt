-- Slots that are free, and those that name a node.
use Rattle.std.proofs.Common.{◌≡◌, ℕ, ◌+◌, ◌<◌, ◌≤◌, ◌⊎◌, inl, inr, true, false, List, length, get_or, Some, slice_get, sym, ap, subst, ◌∙◌, arith, count_by, cond}
use Rattle.std.proofs.lemmas.Option.{slice_get-get_or, get_or_from_slice_get}
use Rattle.std.proofs.lemmas.List.Sums.{sum_by-le}
use Rattle.plan_base.specs.declared.ids.BranchId.{BranchId}
use Rattle.search_nodes.specs.declared.slot.Slot.{Slot}
use Rattle.search_nodes.specs.declared.slot.Slot.TheVariants.{Free, Of}
use Rattle.search_nodes.specs.Slots.{is_free}

-- where no place is free, none is counted
pub none_free : (places : List Slot) → ((k : ℕ) → k < length places → (n : BranchId) × (slice_get places k ≡ Some (Of n))) → count_by is_free places ≡ 0
none_free places h =
    let most = sum_by-le (λ (o : Slot). cond (is_free o) 1 0) 0 places
    (λ k d within. let w = h k within in subst (λ (o : Slot). cond (is_free o) 1 0 ≤ 0) (sym (get_or_from_slice_get places k (Of w.0) d w.1)) (omega arith)) in
    omega arith

-- a place that is not free names a node
pub named : (places : List Slot) (slot : ℕ) (read : Slot) → slot < length places → read ≡ get_or places slot read → is_free read ≡ false → (n : BranchId) × (slice_get places slot ≡ Some (Of n))
named places slot (Free place) within at not_free = absurd (let bad : true ≡ false = not_free in cc)
named places slot (Of n) within at not_free = (n, slice_get-get_or places slot (Of n) within ∙ ap (λ (x : Slot). Some x) (sym at))

below-or-last : (i n : ℕ) → i < n + 1 → (i < n) ⊎ (i ≡ n)
below-or-last i n h = grind arith

-- one place more
pub named-more : (places : List Slot) (slot : ℕ) → ((k : ℕ) → k < slot → (n : BranchId) × (slice_get places k ≡ Some (Of n))) → (n : BranchId) × (slice_get places slot ≡ Some (Of n))
    → (k : ℕ) → k < slot + 1 → (n : BranchId) × (slice_get places k ≡ Some (Of n))
named-more places slot before here k below = elim (below-or-last k slot below) [
  | inl less ↦ before k less
  | inr last ↦ (here.0, subst (λ (i : ℕ). slice_get places i ≡ Some (Of here.0)) (sym last) here.1)
]
