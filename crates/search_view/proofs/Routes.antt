-- The paths of a complete round.
use Rattle.std.proofs.Common.{[], ◌≡◌, ℕ, zero, suc, ◌+◌, ◌<◌, List, ◌∷◌, length, Option, Some, None, slice_get, refl, sym, ap, subst, ◌∙◌, arith, sum_by}
use Rattle.std.specs.Prelude.{is_some, IsSomeAnd, IfSome}
use Rattle.std.proofs.lemmas.List.Sums.{sum_by-cons}
use Rattle.std.proofs.lemmas.Option.{get_or_from_slice_get}
use Rattle.plan_base.specs.declared.ids.ArcId.{ArcId}
use Rattle.plan_base.specs.declared.ids.BranchId.{BranchId}
use Rattle.plan_base.specs.declared.parts.Parts.{Parts}
use Rattle.plan_base.specs.Arcs.{demand_at}
use Rattle.plan_base.specs.Paths.{IsSimplePath}
use Rattle.arc_restrict.specs.Restrictions.{Forbidden, IsPermittedPath}
use Rattle.proof_tree.specs.declared.cuts.Cut.{Cut}
use Rattle.completions.specs.Completions.{ArePaths}
use Rattle.search_machine.specs.declared.tree.Found.{Found}
use Rattle.second_path.specs.Searching.{ArePaths as ArePermitted}
use Rattle.search_machine.specs.State.{Round, Node, State, restriction_of, gap_of, left_of, round_of}
use Rattle.search_machine.specs.Machine.{IsReachable}
use Rattle.search_machine.specs.Nodes.{IsSoundRound}
use Rattle.search_nodes.specs.Rounds.{paths_of}
use Rattle.search_machine.proofs.Runs.{IsReachable-sound}
use Rattle.search_view.proofs.TaskLaws.{has-round, round_of-has}
use Rattle.search_view.proofs.Reading.{sound-round}

gaps-none : (x rest : ℕ) (xs : ℕ) → xs ≡ x + rest → xs ≡ 0 → (x ≡ 0) × (rest ≡ 0)
gaps-none x rest xs e z = (omega arith, omega arith)

paths_of-length : (found : List (Option Found)) → sum_by gap_of found ≡ 0 → length (paths_of found) ≡ length found
paths_of-length [] h = refl
paths_of-length (None ∷ found) h = absurd (let e : 1 ≡ 0 = (gaps-none 1 (sum_by gap_of found) _ (sum_by-cons gap_of None found) h).0 in omega arith)
paths_of-length (Some one ∷ found) h = ap suc (paths_of-length found (gaps-none 0 (sum_by gap_of found) _ (sum_by-cons gap_of (Some one) found) h).1)

-- in a complete round each demand has a path, and it stands at the demand's place among the paths
pub paths_of-at : (found : List (Option Found)) (k : ℕ) → sum_by gap_of found ≡ 0 → k < length found
    → (one : Found) × (slice_get found k ≡ Some (Some one)) × (slice_get (paths_of found) k ≡ Some one.path)
paths_of-at [] k h within = absurd (omega arith)
paths_of-at (None ∷ found) k h within = absurd (let e : 1 ≡ 0 = (gaps-none 1 (sum_by gap_of found) _ (sum_by-cons gap_of None found) h).0 in omega arith)
paths_of-at (Some one ∷ found) zero h within = (one, refl, refl)
paths_of-at (Some one ∷ found) (suc k) h within = paths_of-at found k (gaps-none 0 (sum_by gap_of found) _ (sum_by-cons gap_of (Some one) found) h).1 (omega arith)

-- the paths of a complete round are paths of the instance
pub round-paths : (p : Parts) (cuts : List Cut) (r : Forbidden) (round : Round) → IsSoundRound p cuts r round → left_of round ≡ 0 → ArePaths p (paths_of round.found)
round-paths p cuts r round sound complete = record {
  count = paths_of-length round.found complete ∙ sound.count;
  simple = λ k within.
      let count = sound.count in
      let w = paths_of-at round.found k complete (omega (arith, within, count)) in
      subst (IsSimplePath p (demand_at p k)) (sym (get_or_from_slice_get (paths_of round.found) k w.0.path [] w.2)) (sound.least k w.0 w.1).permitted.simple;
}

-- the paths of the node's round
pub node-paths : (s : State) (id : BranchId) (round : Round) → IsReachable s → round_of s id ≡ Some round → left_of round ≡ 0 → ArePaths s.problem (paths_of round.found)
node-paths s id round reachable is complete =
    let sound = IsReachable-sound s reachable in
    let h = has-round s id (ap is_some is) in
    let same : h.round ≡ round = (let e : Some h.round ≡ Some round = sym (round_of-has s id h) ∙ is in cc) in
    round-paths s.problem s.cuts (restriction_of h.node) round (subst (IsSoundRound s.problem s.cuts (restriction_of h.node)) same (sound-round s id sound h)) complete

-- the paths told of a complete round are one simple path for each demand
pub complete-paths : (s : State) (id : BranchId) (round : Round) (paths : List (List ArcId)) → IsReachable s → IsSomeAnd (round_of s id) (λ r. left_of r ≡ 0)
    → Some round ≡ round_of s id → paths ≡ paths_of round.found → ArePaths s.problem paths
complete-paths s id round paths h complete is e =
    subst (ArePaths s.problem) (sym e) (node-paths s id round h (sym is) (subst (λ (o : Option Round). IsSomeAnd o (λ r. left_of r ≡ 0)) (sym is) complete))

-- and where the node permits them, they are permitted to their demands
pub permitted-paths : (s : State) (id : BranchId) (r : Forbidden) (round : Round) (paths : List (List ArcId)) → IsReachable s → IfSome (slice_get s.nodes id.0) (λ (x : Node). r ≡ restriction_of x)
    → Some round ≡ round_of s id → left_of round ≡ 0 → paths ≡ paths_of round.found → ArePermitted s.problem r (length s.problem.demands) paths
permitted-paths s id r round paths reachable same is complete e =
    let sound = IsReachable-sound s reachable in
    let h = has-round s id (ap is_some (sym is)) in
    let one : h.round ≡ round = (let e : Some h.round ≡ Some round = sym (round_of-has s id h) ∙ sym is in cc) in
    let at = subst (IsSoundRound s.problem s.cuts (restriction_of h.node)) one (sound-round s id sound h) in
    let forbidden : r ≡ restriction_of h.node = subst (λ (o : Option Node). IfSome o (λ (x : Node). r ≡ restriction_of x)) h.is_node same in
    subst (ArePermitted s.problem r (length s.problem.demands)) (sym e) (subst (λ (q : Forbidden). ArePermitted s.problem q (length s.problem.demands) (paths_of round.found)) (sym forbidden) (record {
      count = paths_of-length round.found complete ∙ at.count;
      permitted = λ k within.
          let count = at.count in
          let w = paths_of-at round.found k complete (omega (arith, within, count)) in
          subst (IsPermittedPath s.problem (restriction_of h.node) k) (sym (get_or_from_slice_get (paths_of round.found) k w.0.path [] w.2)) (at.least k w.0 w.1).permitted;
    }))
