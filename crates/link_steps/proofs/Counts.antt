-- Counts with one module more or less.
use Rattle.std.proofs.Common.{◌≡◌, ℕ, zero, suc, ◌+◌, ◌*◌, ◌<◌, ◌≤◌, inl, inr, List, length, slice_index, sym, ◌∙◌, ◌-◌, arith}
use Rattle.std.proofs.Math.ListN.{set, length-set}
use Rattle.std.proofs.Math.Nat.{mul-le-mul_left}
use Rattle.std.proofs.lemmas.List.{length-replicate, get_or-replicate}
use Rattle.plan_base.specs.declared.parts.CountLaw.TheVariants.{Any}
use Rattle.plan_base.specs.declared.parts.Link.{Link}
use Rattle.plan_base.specs.Designs.{module_at, capacity_with, module_cost_with}
use Rattle.plan_base.proofs.SumsBelow.{term-sum_below}
use Rattle.plan_base.proofs.CountSums.{none_of_each, capacity-none, cost-none, capacity-set, cost-set}
use Rattle.link_steps.specs.declared.step.Step.{Step}
use Rattle.link_steps.specs.Steps.{IsFree, IsFirstStep, Attains}
use Rattle.link_steps.proofs.Order.{either_way}

-- one more of a module
pub Attains-more : (l : Link) (reach cost m : ℕ) → m < length l.modules → Attains Any l reach cost → Attains Any l (reach + (module_at l m).capacity) (cost + (module_at l m).cost)
Attains-more l reach cost m within h =
    let same = h.carries.count in
    let enough = h.carries.enough in
    let attained = h.attained in
    let far = capacity-set l h.counts m (slice_index h.counts m + 1) within same in
    let dear = cost-set l h.counts m (slice_index h.counts m + 1) within same in
    record {
      counts = set h.counts m (slice_index h.counts m + 1);
      carries = record { count = length-set h.counts m (slice_index h.counts m + 1) ∙ same; enough = omega arith; lawful = tt };
      attained = omega arith;
    }

-- as many free modules as the load has grains
free-attained : (l : Link) (m load : ℕ) → IsFree l m → Attains Any l load 0
free-attained l m load free =
    let within = free.within in
    let same : length (none_of_each l) ≡ length l.modules = length-replicate (length l.modules) 0 in
    let none : slice_index (none_of_each l) m ≡ 0 = get_or-replicate {A = ℕ} (length l.modules) m 0 0 within in
    let far = rw none at (capacity-set l (none_of_each l) m load within same) in
    let dear = rw (none, free.cost) at (cost-set l (none_of_each l) m load within same) in
    let no_cost = cost-none l in
    let enough : load * 1 ≤ load * (module_at l m).capacity = mul-le-mul_left load free.capacity in
    record {
      counts = set (none_of_each l) m load;
      carries = record { count = length-set (none_of_each l) m load ∙ same; enough = omega arith; lawful = tt };
      attained = omega arith;
    }

-- some counts carry a load as far as a first step reaches, at its cost
pub first-attained : (total : ℕ) (l : Link) (step : Step) → IsFirstStep total l step → Attains Any l step.reach step.cost
first-attained total l step first =
    elim (either_way step.reach l.pre) [
      | inl pre ↦
          (let far = capacity-none l in
          record { counts = none_of_each l; carries = record { count = length-replicate (length l.modules) 0; enough = omega arith; lawful = tt }; attained = cost-none l ∙ sym first.no_cost })
      | inr past ↦ rw first.no_cost (free-attained l step.added step.reach (first.free past))
    ]

-- one less of a module
pub record LacksOne (l : Link) (counts : List ℕ) : Type 0 where
  pub number : ℕ
  pub within : number < length l.modules
  pub positive : 0 < (module_at l number).capacity
  pub rest : List ℕ
  pub count : length rest ≡ length l.modules
  pub capacity : capacity_with l rest + (module_at l number).capacity ≡ capacity_with l counts
  pub cost : module_cost_with l rest + (module_at l number).cost ≡ module_cost_with l counts

product-positive : (a b : ℕ) → 0 < a * b → (0 < a) × (0 < b)
product-positive zero b h = absurd (omega arith)
product-positive (suc a) zero h = absurd (omega arith)
product-positive (suc a) (suc b) h = (omega arith, omega arith)

-- what has more than the pre-installed capacity has a module that can be taken away
pub LacksOne-counts : (l : Link) (counts : List ℕ) → length counts ≡ length l.modules → l.pre < capacity_with l counts → LacksOne l counts
LacksOne-counts l counts same past =
    let term = term-sum_below (λ m. slice_index counts m * (module_at l m).capacity) (length l.modules) (omega arith) in
    let m = term.place in
    let within : m < length l.modules = term.within in
    let both = product-positive (slice_index counts m) (module_at l m).capacity term.positive in
    let some : 0 < slice_index counts m = both.0 in
    let less : (slice_index counts m - 1) + 1 ≡ slice_index counts m = omega arith in
    let far = capacity-set l counts m (slice_index counts m - 1) within same in
    let dear = cost-set l counts m (slice_index counts m - 1) within same in
    record {
      number = m;
      within = within;
      positive = both.1;
      rest = set counts m (slice_index counts m - 1);
      count = length-set counts m (slice_index counts m - 1) ∙ same;
      capacity = one_less_of (slice_index counts m - 1) (slice_index counts m) _ _ _ less far;
      cost = one_less_of (slice_index counts m - 1) (slice_index counts m) _ _ _ less dear;
    }
  where
    one_less_of : (less count weight after before : ℕ) → less + 1 ≡ count → after + count * weight ≡ before + less * weight → after + weight ≡ before
    one_less_of less count weight after before is h = let h' = rw (← is) at h in omega arith
