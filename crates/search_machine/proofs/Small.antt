-- The counts of a sound state stay small.
use Rattle.std.proofs.Common.{◌+◌, ◌*◌, ◌^◌, ◌<◌, ◌≤◌, length, arith, mul-le-mul}
use Rattle.std.proofs.lemmas.List.Sums.{sum_by-le, sum_by-le-sum_by}
use Rattle.std.proofs.lemmas.List.Elements.{All-weaker}
use Rattle.search_machine.specs.State.{Fate, Undone, ClosedBy, DividedBy, State, examined_in, divided_in, examined_by, divided_by_fate}
use Rattle.search_machine.specs.Nodes.{IsSoundNode}
use Rattle.search_machine.specs.Soundness.{IsSound}
use Rattle.search_machine.specs.Counts.{versions_of}
use Rattle.search_machine.proofs.Replacing.{versions_of-le}

divided-le : (fate : Fate) → divided_by_fate fate ≤ examined_by fate
divided-le Undone = omega arith
divided-le (ClosedBy found) = omega arith
divided-le (DividedBy d) = omega arith

-- a sound state has at most one node more than twice its budget
pub IsSound-nodes : (s : State) → IsSound s → length s.nodes ≤ 1 + 2 * s.budget
IsSound-nodes s h =
    let less = sum_by-le-sum_by divided_in examined_in s.nodes (λ node. divided-le node.fate) in
    let size = h.size in
    let e = h.counts.examined in
    let b = h.counts.within_budget in
    omega arith

-- with a budget of at most 4096, the next version is at most 139282
pub IsSound-next_version : (s : State) → IsSound s → s.budget ≤ 4096 → s.next_version ≤ 139282
IsSound-next_version s h small =
    let most = sum_by-le versions_of 17 s.nodes (All-weaker (IsSoundNode s.problem s.cuts) (λ node. versions_of node ≤ 17) (λ node k. let a = versions_of-le node in let b = k.version_count in omega arith) s.nodes h.nodes) in
    let nodes = IsSound-nodes s h in
    let v = h.counts.versions in
    omega arith

-- with a budget of at most 4096, the count of accepted paths stays below 2 to the 64
pub IsSound-accepted : (s : State) → IsSound s → s.budget ≤ 4096 → s.accepted < 2 ^ 64
IsSound-accepted s h small =
    let v = IsSound-next_version s h small in
    let a = h.counts.accepted in
    let d = h.lawful.demand_count in
    let m : length s.problem.demands * s.next_version ≤ 4096 * 139282 = mul-le-mul d v in
    omega arith
