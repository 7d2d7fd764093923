-- What can be wrong with the parts of a network that is well formed.
use Rattle.std.proofs.Common.{◌≡◌, ℕ, ◌<◌, ◌≤◌, ◌*◌, ◌^◌, Bool, true, false, List, length, map, get_or, All, Option, Some, None, refl, sym, ap, subst, ◌∙◌, arith, nat_lt}
use Rattle.std.specs.Prelude.{option_and_then, ◌==◌}
use Rattle.std.specs.List.{slice_get, list_any}
use Rattle.std.proofs.lemmas.Option.{get_or_from_slice_get, slice_get_within}
use Rattle.std.proofs.lemmas.List.Elements.{All-map}
use Rattle.std.proofs.lemmas.List.Folds.{list_any_none}
use Rattle.std.proofs.lemmas.Bool.Decides.{nat_tests}
use Rattle.plan_base.specs.declared.ids.NodeId.{NodeId}
use Rattle.plan_base.specs.declared.parts.Link.{Link}
use Rattle.plan_base.specs.declared.parts.Parts.{Parts}
use Rattle.plan_base.specs.declared.build_fault.BuildFault.{BuildFault}
use Rattle.plan_base.specs.declared.build_fault.BuildFault.TheVariants.{LoopLink, LoopDemand, EndOutOfRange, OverLimit, OutOfMemory}
use Rattle.plan_base.specs.declared.limits.TheConstants.{MAX_NODES, MAX_LINKS, MAX_DEMANDS, MAX_MODULES, MAX_TOTAL_LOAD, MAX_ROUTING_COST, CAPACITY_BOUND, MODULE_COST_BOUND}
use Rattle.plan_base.specs.First.{◌or_else◌, when, fault_at, first_in}
use Rattle.plan_base.specs.Facts.{total_load}
use Rattle.plan_base.specs.declared.build_fault.End.TheVariants as end
use Rattle.plan_base.specs.Faults.{link_id, demand_id, told_of, is_large, has_large_number_of, has_end_outside, size_fault, link_fault, demand_fault, total_fault, routing_fault, build_fault, IsBuildFault}
use Rattle.plan_base.proofs.FirstFault.{IsFirst-first_fault}
use Rattle.snd_network.specs.declared.file.LinkRecord.{LinkRecord}
use Rattle.snd_network.specs.declared.file.DemandRecord.{DemandRecord}
use Rattle.snd_network.specs.declared.file.NetworkFile.{NetworkFile}
use Rattle.snd_network.specs.WellFormed.{IsModule, IsGoodLink, IsGoodDemand, IsWellFormed}
use Rattle.snd_model.specs.declared.values.HopModel.{HopModel}
use Rattle.snd_model.specs.declared.file.ModelFile.{ModelFile}
use Rattle.model_check.specs.Reading.{module_of, link_of_record, demand_of}
use Rattle.model_check.specs.Refusals.{parts_of_files, CanComeOfParts, CanCome}
use Rattle.model_check.specs.Telling.{as_check_fault}

-- a fault that is found is one that can come
abbrev Can : Option BuildFault → Type 0
Can found = (e : BuildFault) → found ≡ Some e → CanComeOfParts e

can_when : (test : Bool) (fault : BuildFault) → CanComeOfParts fault → Can (when test fault)
can_when true fault can e found =
    let same : fault ≡ e = (let these : Some fault ≡ Some e = found in cc) in
    subst CanComeOfParts same can
can_when false fault can e found = absurd (let bad : None ≡ Some e = found in cc)

never_when : (test : Bool) (fault : BuildFault) → test ≡ false → Can (when test fault)
never_when test fault never e found =
    absurd (let bad : None ≡ Some e = sym (ap (λ b. when b fault) never) ∙ found in cc)

can_or : (a b : Option BuildFault) → Can a → (a ≡ None → Can b) → Can (a or_else b)
can_or None b can_a can_b e found = can_b refl e found
can_or (Some d) b can_a can_b e found = can_a e found

-- a limit with a number from 3 to 8
can_limit : (test : Bool) (limit at : ℕ) → 3 ≤ limit → limit ≤ 8 → Can (when test (OverLimit limit at))
can_limit test limit at low high = can_when test (OverLimit limit at) (low, high)

can_at : {X : Type 0} (check : ℕ → X → Option BuildFault) (xs : List X) (i : ℕ) (o : Option X) → slice_get xs i ≡ o → All (λ x. (j : ℕ) → Can (check j x)) xs → Can (option_and_then (check i) o)
can_at check xs i None is each e found = absurd (let bad : None ≡ Some e = found in cc)
can_at check xs i (Some x) is each e found =
    subst (λ y. (j : ℕ) → Can (check j y)) (get_or_from_slice_get xs i x x is) (each i x (slice_get_within xs i x is)) i e found

can_in : {X : Type 0} (check : ℕ → X → Option BuildFault) (xs : List X) → All (λ x. (j : ℕ) → Can (check j x)) xs → Can (first_in check xs)
can_in check xs each e found =
    let first = IsFirst-first_fault (fault_at check xs) (length xs) e found in
    can_at check xs first.place (slice_get xs first.place) refl each e first.found

-- the numbers of a module are below their bounds
small_module : (m : ℕ × ℕ) → IsModule m → is_large (module_of m) ≡ false
small_module m h =
    let capacity : m.0 < CAPACITY_BOUND = h.0 in
    let cost : m.1 * 10 ^ 6 < MODULE_COST_BOUND = omega (arith, h.1) in
    grind (arith, nat_tests)

small_modules : (ms : List (ℕ × ℕ)) → All IsModule ms → list_any is_large (map module_of ms) ≡ false
small_modules ms h =
    list_any_none is_large (map module_of ms) (All-map (λ m. is_large m ≡ false) module_of ms (λ k d within. small_module _ (h k d within)))

small_link : (count : ℕ) (r : LinkRecord) → IsGoodLink count r → has_large_number_of (link_of_record r) ≡ false
small_link count r h =
    let pre : r.pre < CAPACITY_BOUND = h.pre in
    let routing : r.routing < CAPACITY_BOUND = h.routing in
    let modules : list_any is_large (map module_of r.modules) ≡ false = small_modules r.modules h.modules in
    grind (arith, nat_tests)

ends_inside : (count : ℕ) (source target : NodeId) → source.0 < count → target.0 < count → has_end_outside count source target ≡ false
ends_inside count source target a b = grind (arith, nat_tests)

can_link : (count : ℕ) (r : LinkRecord) → IsGoodLink count r → (e : ℕ) → Can (link_fault count e (link_of_record r))
unfolding link_fault
can_link count r h e =
    let l : Link = link_of_record r in
    let loop = when (l.source.0 == l.target.0) (LoopLink (link_id e)) in
    let outside = when (has_end_outside count l.source l.target) (EndOutOfRange (end.Link (link_id e))) in
    let large = when (has_large_number_of l) (OverLimit 10 e) in
    can_or (when (nat_lt MAX_MODULES (length l.modules)) (OverLimit 6 e)) (large or_else outside or_else loop) (can_limit (nat_lt MAX_MODULES (length l.modules)) 6 e (omega arith) (omega arith)) (λ _.
    can_or large (outside or_else loop) (never_when (has_large_number_of l) (OverLimit 10 e) (small_link count r h)) (λ _.
    can_or outside loop (never_when (has_end_outside count l.source l.target) (EndOutOfRange (end.Link (link_id e))) (ends_inside count r.source r.target h.source h.target)) (λ _.
    can_when (l.source.0 == l.target.0) (LoopLink (link_id e)) tt)))

can_links : (count : ℕ) (rs : List LinkRecord) → All (IsGoodLink count) rs → Can (first_in (link_fault count) (map link_of_record rs))
can_links count rs h =
    can_in (link_fault count) (map link_of_record rs) (All-map (λ l. (e : ℕ) → Can (link_fault count e l)) link_of_record rs (λ k d within. can_link count _ (h k d within)))

can_demand : (hop : HopModel) (count : ℕ) (r : DemandRecord) → IsGoodDemand count r → (k : ℕ) → Can (demand_fault count k (demand_of hop r))
unfolding demand_fault
can_demand hop count r h k =
    can_or (when (has_end_outside count r.source r.target) (EndOutOfRange (end.Demand (demand_id k)))) (when (r.source.0 == r.target.0) (LoopDemand (demand_id k)))
    (never_when (has_end_outside count r.source r.target) (EndOutOfRange (end.Demand (demand_id k))) (ends_inside count r.source r.target h.source h.target)) (λ _.
    can_when (r.source.0 == r.target.0) (LoopDemand (demand_id k)) tt)

can_demands : (hop : HopModel) (count : ℕ) (rs : List DemandRecord) → All (IsGoodDemand count) rs → Can (first_in (demand_fault count) (map (demand_of hop) rs))
can_demands hop count rs h =
    can_in (demand_fault count) (map (demand_of hop) rs) (All-map (λ d. (k : ℕ) → Can (demand_fault count k d)) (demand_of hop) rs (λ k d within. can_demand hop count _ (h k d within)))

can_sizes : (p : Parts) → Can (size_fault p)
can_sizes p =
    let links = when (nat_lt MAX_LINKS (length p.links)) (OverLimit 4 (told_of (length p.links))) in
    let demands = when (nat_lt MAX_DEMANDS (length p.demands)) (OverLimit 5 (told_of (length p.demands))) in
    can_or (when (nat_lt MAX_NODES p.nodes) (OverLimit 3 p.nodes)) (links or_else demands) (can_limit (nat_lt MAX_NODES p.nodes) 3 p.nodes (omega arith) (omega arith)) (λ _.
    can_or links demands (can_limit (nat_lt MAX_LINKS (length p.links)) 4 (told_of (length p.links)) (omega arith) (omega arith)) (λ _.
    can_limit (nat_lt MAX_DEMANDS (length p.demands)) 5 (told_of (length p.demands)) (omega arith) (omega arith)))

can_routing : (total : ℕ) (ls : List Link) → Can (first_in (routing_fault total) ls)
can_routing total ls =
    can_in (routing_fault total) ls (λ k d within e. can_limit (nat_lt MAX_ROUTING_COST ((get_or ls k d).routing * total)) 8 e (omega arith) (omega arith))

-- within the limit of nodes the count is told as it is
told_whole : (p : Parts) (n : ℕ) → p.nodes ≡ told_of n → size_fault p ≡ None → told_of n ≡ n
told_whole p n is none =
    let small : p.nodes ≤ MAX_NODES = grind (arith, nat_tests) in
    omega (arith, small, is)

can_parts : (net : NetworkFile) (model : ModelFile) → IsWellFormed net → Can (build_fault (parts_of_files net model))
unfolding build_fault
can_parts net model h =
    let p : Parts = parts_of_files net model in
    let routing = first_in (routing_fault (total_load p)) p.links in
    let demands = first_in (demand_fault p.nodes) p.demands in
    let links = first_in (link_fault p.nodes) p.links in
    can_or (size_fault p) (links or_else demands or_else total_fault p or_else routing) (can_sizes p) (λ none.
    let count = told_whole p (length net.nodes) refl none in
    can_or links (demands or_else total_fault p or_else routing) (can_links p.nodes net.links (subst (λ n. All (IsGoodLink n) net.links) (sym count) h.links)) (λ _.
    can_or demands (total_fault p or_else routing) (can_demands model.hop p.nodes net.demands (subst (λ n. All (IsGoodDemand n) net.demands) (sym count) h.demands)) (λ _.
    can_or (total_fault p) routing (can_limit (nat_lt MAX_TOTAL_LOAD (total_load p)) 7 0 (omega arith) (omega arith)) (λ _.
    can_routing (total_load p) p.links))))

-- what is told of parts that are not built
pub told_can : (net : NetworkFile) (model : ModelFile) (fault : BuildFault) → IsWellFormed net → IsBuildFault (parts_of_files net model) fault → CanCome (as_check_fault fault)
told_can net model (LoopLink link) h is = tt
told_can net model (LoopDemand demand) h is = tt
told_can net model (EndOutOfRange what) h is = can_parts net model h (EndOutOfRange what) (is (λ same. cc))
told_can net model (OverLimit limit at) h is = can_parts net model h (OverLimit limit at) (is (λ same. cc))
told_can net model OutOfMemory h is = tt
