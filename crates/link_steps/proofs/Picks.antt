-- Counts that add to at most one: no module, or one module once.
use Rattle.std.proofs.Common.{◌≡◌, ℕ, zero, suc, ◌+◌, ◌<◌, ◌≤◌, ◌⊎◌, inl, inr, List, [], ◌∷◌, length, slice_index, replicate, Option, Some, None, refl, sym, ap, ◌∙◌, arith}
use Rattle.std.specs.Prelude.{sum_by}
use Rattle.std.proofs.Math.ListN.{set, length-set}
use Rattle.std.proofs.Math.Nat.{mul-zero}
use Rattle.std.proofs.lemmas.List.{length-map, get_or-map, length-replicate, get_or-replicate}
use Rattle.std.proofs.lemmas.List.Sums.{sum_by-cons, sum_by-set}
use Rattle.std.proofs.lemmas.List.Folds.{sum_by-replicate}
use Rattle.plan_base.specs.declared.parts.Module.{Module}
use Rattle.plan_base.specs.declared.parts.Link.{Link}
use Rattle.plan_base.specs.Designs.{module_at, no_module, capacity_with, module_cost_with}
use Rattle.plan_base.proofs.CountSums.{none_of_each, capacity-none, cost-none, capacity-set, cost-set}
use Rattle.explicit_steps.specs.declared.choices.Choice.{Choice}
use Rattle.explicit_steps.specs.Choices.{choice_at, IsPick, reach_with, cost_with}
use Rattle.link_steps.specs.Choices.{choice_of, choices_of}

-- counts that add to nothing are all none
none_of : (counts : List ℕ) → sum_by (λ n. n) counts ≤ 0 → counts ≡ replicate (length counts) 0
none_of [] h = refl
none_of (zero ∷ rest) h = ap (λ (xs : List ℕ). 0 ∷ xs) (none_of rest (omega (arith, sum_by-cons (λ (n : ℕ). n) 0 rest)))
none_of (suc c ∷ rest) h = absurd (omega (arith, sum_by-cons (λ (n : ℕ). n) (suc c) rest))

-- all are none, but perhaps for one of one
abbrev IsNoneOrOne : List ℕ → Type 0
IsNoneOrOne counts = (counts ≡ replicate (length counts) 0) ⊎ ((m : ℕ) × (m < length counts) × (counts ≡ set (replicate (length counts) 0) m 1))

none_before : (rest : List ℕ) → IsNoneOrOne rest → IsNoneOrOne (0 ∷ rest)
none_before rest (inl none) = inl (ap (λ (xs : List ℕ). 0 ∷ xs) none)
none_before rest (inr (m, within, one)) = inr (suc m, omega arith, ap (λ (xs : List ℕ). 0 ∷ xs) one)

none_or_one : (counts : List ℕ) → sum_by (λ n. n) counts ≤ 1 → IsNoneOrOne counts
none_or_one [] h = inl refl
none_or_one (zero ∷ rest) h = none_before rest (none_or_one rest (omega (arith, sum_by-cons (λ (n : ℕ). n) 0 rest)))
none_or_one (suc zero ∷ rest) h =
    inr (0, omega arith, ap (λ (xs : List ℕ). 1 ∷ xs) (none_of rest (omega (arith, sum_by-cons (λ (n : ℕ). n) 1 rest))))
none_or_one (suc (suc c) ∷ rest) h = absurd (omega (arith, sum_by-cons (λ (n : ℕ). n) (suc (suc c)) rest))

-- the counts of no module, or of this one
abbrev pub counts_with : Link → Option ℕ → List ℕ
counts_with l None = none_of_each l
counts_with l (Some m) = set (none_of_each l) m 1

-- there are as many choices as modules
pub length-choices : (modules : List Module) → length (choices_of modules) ≡ length modules
length-choices modules = length-map modules choice_of

-- the choice of a number is the module of that number as a choice
pub choices_of-at : (l : Link) (m : ℕ) → m < length l.modules → choice_at (choices_of l.modules) m ≡ choice_of (module_at l m)
choices_of-at l m within = get_or-map choice_of l.modules m no_module (record { capacity = 0; cost = 0 }) within

-- the counts of one module: they add to one, and have its capacity and its cost
pub record AreOfOne (l : Link) (m : ℕ) (counts : List ℕ) : Type 0 where
  pub count : length counts ≡ length l.modules
  pub lawful : sum_by (λ n. n) counts ≤ 1
  pub reach : capacity_with l counts ≡ l.pre + (module_at l m).capacity
  pub cost : module_cost_with l counts ≡ (module_at l m).cost

-- none of each adds to nothing
pub sum-zeros : (n : ℕ) → sum_by (λ c. c) (replicate n 0) ≡ 0
sum-zeros n = sum_by-replicate (λ (c : ℕ). c) n 0 ∙ mul-zero n

-- one of a module and none of the others are the counts of that module
pub AreOfOne-counts : (l : Link) (m : ℕ) → m < length l.modules → AreOfOne l m (set (none_of_each l) m 1)
AreOfOne-counts l m within =
    let long : length (none_of_each l) ≡ length l.modules = length-replicate (length l.modules) 0 in
    let none : slice_index (none_of_each l) m ≡ 0 = get_or-replicate {A = ℕ} (length l.modules) m 0 0 within in
    let sum : sum_by (λ n. n) (set (none_of_each l) m 1) + 0 ≡ sum_by (λ n. n) (none_of_each l) + 1 = rw none at (sum_by-set (λ (n : ℕ). n) (none_of_each l) m 1 0 (omega (arith, long, within))) in
    let far = rw none at (capacity-set l (none_of_each l) m 1 within long) in
    let dear = rw none at (cost-set l (none_of_each l) m 1 within long) in
    record {
      count = length-set (none_of_each l) m 1 ∙ long;
      lawful = omega (arith, sum, sum-zeros (length l.modules));
      reach = omega (arith, far, capacity-none l);
      cost = omega (arith, dear, cost-none l);
    }

-- what the counts of a pick are
pub record ArePicked (l : Link) (pick : Option ℕ) (counts : List ℕ) : Type 0 where
  pub count : length counts ≡ length l.modules
  pub lawful : sum_by (λ n. n) counts ≤ 1
  pub reach : capacity_with l counts ≡ reach_with l.pre (choices_of l.modules) pick
  pub cost : module_cost_with l counts ≡ cost_with (choices_of l.modules) pick

-- the counts of a pick add to at most one, and have its reach and its cost
pub ArePicked-counts : (l : Link) (pick : Option ℕ) → IsPick (choices_of l.modules) pick → ArePicked l pick (counts_with l pick)
ArePicked-counts l None is =
    record {
      count = length-replicate (length l.modules) 0;
      lawful = omega (arith, sum-zeros (length l.modules));
      reach = capacity-none l;
      cost = cost-none l;
    }
ArePicked-counts l (Some m) is =
    let within : m < length l.modules = omega (arith, is, length-choices l.modules) in
    let one = AreOfOne-counts l m within in
    let same = choices_of-at l m within in
    record {
      count = one.count;
      lawful = one.lawful;
      reach = one.reach ∙ ap (λ (choice : Choice). l.pre + choice.capacity) (sym same);
      cost = one.cost ∙ ap (λ (choice : Choice). choice.cost) (sym same);
    }

-- what counts that add to at most one are
pub record HasPick (l : Link) (counts : List ℕ) : Type 0 where
  pub pick : Option ℕ
  pub is_pick : IsPick (choices_of l.modules) pick
  pub picked : ArePicked l pick counts

has-pick : (l : Link) (counts : List ℕ) (pick : Option ℕ) → IsPick (choices_of l.modules) pick → counts ≡ counts_with l pick → HasPick l counts
has-pick l counts pick is same = record { pick = pick; is_pick = is; picked = rw same (ArePicked-counts l pick is) }

by-kind : (l : Link) (counts : List ℕ) → length counts ≡ length l.modules → IsNoneOrOne counts → HasPick l counts
by-kind l counts long (inl none) = has-pick l counts None tt (none ∙ ap (λ (n : ℕ). replicate {A = ℕ} n 0) long)
by-kind l counts long (inr (m, within, one)) =
    has-pick l counts (Some m) (omega (arith, within, long, length-choices l.modules)) (one ∙ ap (λ (n : ℕ). set (replicate {A = ℕ} n 0) m 1) long)

-- counts that add to at most one have the reach and the cost of some pick
pub HasPick-counts : (l : Link) (counts : List ℕ) → length counts ≡ length l.modules → sum_by (λ n. n) counts ≤ 1 → HasPick l counts
HasPick-counts l counts long lawful = by-kind l counts long (none_or_one counts lawful)
