-- A node that is closed with evidence leaves a state sound.
use Rattle.std.proofs.Common.{◌≡◌, ℕ, suc, ◌+◌, inr, false, List, length, Option, Some, None, refl, sym, ap, subst, arith, pos, ◌+ℤ◌}
use Rattle.std.specs.Prelude.{IsSomeAnd, ◌<ℤ◌}
use Rattle.plan_base.specs.declared.ids.BranchId.{BranchId}
use Rattle.plan_base.specs.declared.ids.DemandId.{DemandId}
use Rattle.plan_base.specs.declared.parts.Parts.{Parts}
use Rattle.plan_base.specs.Places.{places}
use Rattle.link_steps.specs.Unit.{IsUnit}
use Rattle.proof_tree.specs.declared.cuts.Cut.{Cut}
use Rattle.proof_tree.specs.RatedEvidence.{HasRatedEvidence, ClosedByRatedBound}
use Rattle.proof_tree.specs.declared.tree.TreeNode.TheVariants.{Leaf}
use Rattle.proof_tree.specs.Plans.{is_open}
use Rattle.proof_tree.specs.Spellings.{FitsEvidence}
use Rattle.proof_tree.specs.declared.tree.Evidence.{Evidence}
use Rattle.proof_tree.specs.declared.tree.Evidence.TheVariants as evidence
use Rattle.search_machine.specs.State.{Undone, Node, State, region_of, cutoff_of, examined_by, examined_in, divided_by_fate}
use Rattle.search_machine.specs.Closing.{closed_by, ClosesBy, by_crowd, by_bound, Closes}
use Rattle.search_machine.specs.Changes.{examined_with}
use Rattle.search_machine.specs.Readiness.{IsExamined}
use Rattle.search_machine.specs.Examining.{ClosesByCut, ClosesFar, ClosesOverfull}
use Rattle.search_machine.specs.Nodes.{IsSoundNode, IsSoundBest}
use Rattle.search_machine.specs.Soundness.{IsSound}
use Rattle.search_machine.proofs.Frames.{AreApart-set}
use Rattle.search_machine.proofs.Replacing.{replaced-sound, node_at, versions_of-le}

IsSomeAnd-weaker : {X : Type 0} (P Q : X → Type 0) → ((x : X) → P x → Q x) → (o : Option X) → IsSomeAnd o P → IsSomeAnd o Q
IsSomeAnd-weaker P Q f None h = h
IsSomeAnd-weaker P Q f (Some x) h = f x h

-- a state stays sound when an open node is closed by evidence that holds at its region
pub closed-sound : (s : State) (id : BranchId) (node : Node) (found : Evidence) → IsSound s → IsExamined s id node
    → is_open (Leaf found) ≡ false → HasRatedEvidence s.problem s.cuts (cutoff_of s) (region_of s.problem node) found → FitsEvidence s.problem.nodes (places s.problem + length s.cuts) found
    → IsSound (examined_with s id (closed_by found node))
closed-sound s id node found h is not_open has fits =
    let new : Node = closed_by found node in
    let k = node_at s id.0 node h is.is_node in
    let waits : new.fate ≡ Undone → new.round ≡ None → node.completed ≡ 0 = λ undone none. cc in
    let sound : IsSoundNode s.problem s.cuts new = assumption (k, waits) in
    replaced-sound s id.0 node new (suc s.examined) s.next_version s.accepted is.is_node h (record { limits = refl; first_prices = refl })
    tt sound (not_open, has, fits) (sym (ap divided_by_fate is.undone))
    (AreApart-set s.next_version s.nodes id.0 node new is.is_node (inr refl) h.apart)
    (record {
      examined_is = (let old : examined_in node ≡ 0 = ap examined_by is.undone in omega arith);
      within_budget = (let spent = is.not_spent in omega arith);
      versions = (let most = versions_of-le node in omega arith);
      accepted_within = omega arith;
    })

-- the evidence by which a closable node is closed
ClosesBy-evidence : (p : Parts) (cuts : List Cut) (unit : ℕ) (cost : Option ℕ) (node : Node) (found : Evidence) → IsUnit p unit → IsSoundNode p cuts node → ClosesBy unit cost node found
    → (is_open (Leaf found) ≡ false) × HasRatedEvidence p cuts cost (region_of p node) found × FitsEvidence p.nodes (places p + length cuts) found
ClosesBy-evidence p cuts unit cost node found is_unit k (by_crowd prices is) = let crowd = rw is at (k.crowd) in (refl, crowd.0, crowd.1)
ClosesBy-evidence p cuts unit cost node found is_unit k (by_bound best none is enough) =
    let b : IsSoundBest p cuts (region_of p node) node.first_prices node.completed best = rw is at (k.best) in (
      refl,
      IsSomeAnd-weaker (λ c. pos c <ℤ (best.bound +ℤ pos unit)) (λ c. ClosedByRatedBound p cuts (region_of p node) best.prices c)
          (λ c reaches. record { lawful = b.prices.lawful; bound = best.bound; is_bound = b.is_bound; unit = unit; is_unit = is_unit; enough = reaches }) cost enough,
      b.prices.count,
    )

module _ (s : State) (id : BranchId) (h : IsSound s) where
  -- a state stays sound when an open leaf is closed by its crowd proof or its bound
  pub Closes-sound : (t : State) → Closes s id t → IsSound t
  Closes-sound t e =
      let has = ClosesBy-evidence s.problem s.cuts s.unit (cutoff_of s) e.node e.found h.unit (node_at s id.0 e.node h e.is_node) e.closes_by in
      subst IsSound (sym e.becomes) (closed-sound s id e.node e.found h (record { not_spent = e.not_spent; is_node = e.is_node; undone = e.undone }) has.0 has.1 has.2)

  -- a state stays sound when a node is closed by the cut that it holds
  pub ClosesByCut-sound : (t : State) → ClosesByCut s id t → IsSound t
  ClosesByCut-sound t e =
      let k = node_at s id.0 e.node h e.open_node.is_node in
      let cut = rw e.is_cut at (k.cut) in
      subst IsSound (sym e.becomes) (closed-sound s id e.node (evidence.Cut e.cut.demand e.cut.reached) h e.open_node refl cut.0 cut.1)

  -- a state stays sound when a node is closed by a demand without a path that keeps its limit
  pub ClosesFar-sound : (t : State) (demand : DemandId) → ClosesFar s id demand t → IsSound t
  ClosesFar-sound t demand e = subst IsSound (sym e.becomes) (closed-sound s id e.node (evidence.Far demand) h e.ready.open_node refl e.far.closed tt)

  -- a state stays sound when a node is closed by a link that its only paths overfill or load out of range
  pub ClosesOverfull-sound : (t : State) → ClosesOverfull s id t → IsSound t
  ClosesOverfull-sound t e = subst IsSound (sym e.becomes) (closed-sound s id e.node (evidence.Overfull e.link) h e.ready.open_node refl e.overfull tt)
