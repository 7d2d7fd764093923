-- A design has no fault exactly where it is feasible and in shape.
use Rattle.std.proofs.Common.{◌≡◌, ℕ, ◌<◌, ◌≤◌, ◌==◌, nat_lt, length, Option, Some, None, refl}
use Rattle.std.proofs.lemmas.Bool.{eqb-true, eq-eqb, ltb-false, le-ltb}
use Rattle.plan_base.specs.declared.ids.DemandId.{DemandId}
use Rattle.plan_base.specs.declared.parts.Parts.{Parts}
use Rattle.plan_base.specs.declared.path.Design.{Design}
use Rattle.plan_base.specs.declared.design_fault.DesignFault.TheVariants.{WrongCount, Short, TooLong}
use Rattle.plan_base.specs.First.{◌or_else◌, first_fault}
use Rattle.plan_base.specs.Faults.{link_id, demand_id}
use Rattle.plan_base.specs.Arcs.{link_at, demand_at}
use Rattle.plan_base.specs.Paths.{IsSimplePath}
use Rattle.plan_base.specs.Designs.{path_at, counts_at, need, capacity_with, AreLawful, AreCountsInShape, KeepsLimit, KeepsLimits, IsGoodDesign}
use Rattle.plan_base.specs.DesignFaults.{counts_fault, load_fault, carries_fault, wrong_count, path_fault, length_fault, demand_path_fault, design_fault}
use Rattle.plan_base.proofs.Bools.{not_and-both, both-not_and}
use Rattle.plan_base.proofs.FirstFault.{or_else-none, none-or_else, when-none, none-when, first_fault-none, none-first_fault}
use Rattle.plan_base.proofs.CountLaws.{length-counts_fault, shape-counts_fault, lawful-counts_fault, counts_fault-in_shape}
use Rattle.plan_base.proofs.PathLaws.{IsSimplePath-path_fault, path_fault-IsSimplePath}

-- a link's counts are in shape and lawful, and it carries its load
record Carries (p : Parts) (d : Design) (e : ℕ) : Type 0 where
  counts : length (counts_at d e) ≡ length (link_at p e).modules
  shape : AreCountsInShape (link_at p e) (counts_at d e)
  lawful : AreLawful p.law (counts_at d e)
  load : need p d e ≤ capacity_with (link_at p e) (counts_at d e)

Carries-carries_fault : (p : Parts) (d : Design) (e : ℕ) → carries_fault p d e ≡ None → Carries p d e
unfolding carries_fault
Carries-carries_fault p d e h =
    let both = or_else-none (counts_fault p.law (link_id e) (link_at p e) (counts_at d e)) (load_fault (link_id e) (need p d e) (capacity_with (link_at p e) (counts_at d e))) h in
    record {
      counts = length-counts_fault p.law (link_id e) (link_at p e) (counts_at d e) both.0;
      shape = shape-counts_fault p.law (link_id e) (link_at p e) (counts_at d e) both.0;
      lawful = lawful-counts_fault p.law (link_id e) (link_at p e) (counts_at d e) both.0;
      load = ltb-false _ _ (when-none (nat_lt (capacity_with (link_at p e) (counts_at d e)) (need p d e)) (Short (link_id e) (need p d e) (capacity_with (link_at p e) (counts_at d e))) both.1);
    }

carries_fault-Carries : (p : Parts) (d : Design) (e : ℕ) → Carries p d e → carries_fault p d e ≡ None
unfolding carries_fault
carries_fault-Carries p d e h =
    none-or_else (counts_fault p.law (link_id e) (link_at p e) (counts_at d e)) (load_fault (link_id e) (need p d e) (capacity_with (link_at p e) (counts_at d e)))
    (counts_fault-in_shape p.law (link_id e) (link_at p e) (counts_at d e) h.counts h.shape h.lawful)
    (none-when (nat_lt (capacity_with (link_at p e) (counts_at d e)) (need p d e)) (Short (link_id e) (need p d e) (capacity_with (link_at p e) (counts_at d e))) (le-ltb _ _ h.load))

-- the three groups of checks, none of which finds a fault
record HasNoFault (p : Parts) (d : Design) : Type 0 where
  counts : wrong_count p d ≡ None
  paths : first_fault (demand_path_fault p d) (length p.demands) ≡ None
  links : first_fault (carries_fault p d) (length p.links) ≡ None

HasNoFault-design_fault : (p : Parts) (d : Design) → design_fault p d ≡ None → HasNoFault p d
unfolding design_fault
HasNoFault-design_fault p d h =
    let a = or_else-none (wrong_count p d) (first_fault (demand_path_fault p d) (length p.demands) or_else first_fault (carries_fault p d) (length p.links)) h in
    let b = or_else-none (first_fault (demand_path_fault p d) (length p.demands)) (first_fault (carries_fault p d) (length p.links)) a.1 in
    record { counts = a.0; paths = b.0; links = b.1 }

design_fault-HasNoFault : (p : Parts) (d : Design) → HasNoFault p d → design_fault p d ≡ None
unfolding design_fault
design_fault-HasNoFault p d h = rw (h.counts, h.paths, h.links) refl

-- a path within the limit, if there is one, has no fault of length, and the other way round
length_fault-within : (id : DemandId) (hops : Option ℕ) (arcs : ℕ) → length_fault id hops arcs ≡ None → KeepsLimit hops arcs
length_fault-within id None arcs h = tt
length_fault-within id (Some limit) arcs h = ltb-false _ _ (when-none (nat_lt limit arcs) (TooLong id arcs limit) h)

within-length_fault : (id : DemandId) (hops : Option ℕ) (arcs : ℕ) → KeepsLimit hops arcs → length_fault id hops arcs ≡ None
within-length_fault id None arcs h = refl
within-length_fault id (Some limit) arcs h = none-when (nat_lt limit arcs) (TooLong id arcs limit) (le-ltb _ _ h)

-- the two checks of a path, none of which finds a fault
record HasNoPathFault (p : Parts) (d : Design) (k : ℕ) : Type 0 where
  walk : path_fault p (demand_id k) (demand_at p k) (path_at d k) ≡ None
  length : length_fault (demand_id k) (demand_at p k).hops (length (path_at d k)) ≡ None

parts-demand_path_fault : (p : Parts) (d : Design) (k : ℕ) → demand_path_fault p d k ≡ None → HasNoPathFault p d k
unfolding demand_path_fault
parts-demand_path_fault p d k h =
    let both = or_else-none (path_fault p (demand_id k) (demand_at p k) (path_at d k)) (length_fault (demand_id k) (demand_at p k).hops (length (path_at d k))) h in
    record { walk = both.0; length = both.1 }

demand_path_fault-parts : (p : Parts) (d : Design) (k : ℕ) → HasNoPathFault p d k → demand_path_fault p d k ≡ None
unfolding demand_path_fault
demand_path_fault-parts p d k h =
    none-or_else (path_fault p (demand_id k) (demand_at p k) (path_at d k)) (length_fault (demand_id k) (demand_at p k).hops (length (path_at d k))) h.walk h.length

-- paths without a fault are simple paths
pub paths_are_simple : (p : Parts) (d : Design) → first_fault (demand_path_fault p d) (length p.demands) ≡ None → (k : ℕ) → k < length p.demands → IsSimplePath p (demand_at p k) (path_at d k)
paths_are_simple p d none k within =
    IsSimplePath-path_fault p (demand_id k) (demand_at p k) (path_at d k)
    (parts-demand_path_fault p d k (first_fault-none (demand_path_fault p d) (length p.demands) none k within)).walk

-- and within their limits
paths_keep_limits : (p : Parts) (d : Design) → first_fault (demand_path_fault p d) (length p.demands) ≡ None → KeepsLimits p d
paths_keep_limits p d none k within =
    length_fault-within (demand_id k) (demand_at p k).hops (length (path_at d k))
    (parts-demand_path_fault p d k (first_fault-none (demand_path_fault p d) (length p.demands) none k within)).length

-- a design without a fault is feasible and in shape
pub IsGoodDesign-design_fault : (p : Parts) (d : Design) → design_fault p d ≡ None → IsGoodDesign p d
IsGoodDesign-design_fault p d h =
    let none = HasNoFault-design_fault p d h in
    let same = not_and-both (length d.paths == length p.demands) (length d.counts == length p.links) (when-none _ WrongCount none.counts) in
    let carries = λ (e : ℕ) (within : e < length p.links). Carries-carries_fault p d e (first_fault-none (carries_fault p d) (length p.links) none.links e within) in
    record {
      design = record {
        path_count = eqb-true _ _ same.0;
        list_count = eqb-true _ _ same.1;
        paths = paths_are_simple p d none.paths;
        counts = λ e within. (carries e within).counts;
        lawful = λ e within. (carries e within).lawful;
      };
      feasible = record { carried = λ e within. (carries e within).load; limits = paths_keep_limits p d none.paths };
      in_shape = λ e within. (carries e within).shape;
    }

-- a feasible design in shape has no fault
pub design_fault-IsGoodDesign : (p : Parts) (d : Design) → IsGoodDesign p d → design_fault p d ≡ None
design_fault-IsGoodDesign p d h = design_fault-HasNoFault p d (record {
  counts = none-when _ WrongCount (both-not_and _ _ (eq-eqb _ _ h.design.path_count) (eq-eqb _ _ h.design.list_count));
  paths = none-first_fault (demand_path_fault p d) (length p.demands) (λ k within. demand_path_fault-parts p d k (record {
    walk = path_fault-IsSimplePath p (demand_id k) (demand_at p k) (path_at d k) (h.design.paths k within);
    length = within-length_fault (demand_id k) (demand_at p k).hops (length (path_at d k)) (h.feasible.limits k within);
  }));
  links = none-first_fault (carries_fault p d) (length p.links) (λ e within. carries_fault-Carries p d e (record {
    counts = h.design.counts e within;
    shape = h.in_shape e within;
    lawful = h.design.lawful e within;
    load = h.feasible.carried e within;
  }));
})

-- what ties the first fault of a design to its being feasible
pub ruleset design_laws = (IsGoodDesign-design_fault, design_fault-IsGoodDesign)
