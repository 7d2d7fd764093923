-- A settling keeps a state sound: it sets a mark, of which no part speaks.
use Rattle.std.proofs.Common.{ℕ, inl, true, set, refl, sym, subst, arith}
use Rattle.plan_base.specs.declared.ids.BranchId.{BranchId}
use Rattle.search_machine.specs.State.{Node, State, cutoff_of}
use Rattle.search_machine.specs.Settling.{Settles}
use Rattle.search_machine.specs.Nodes.{IsSoundNode, HasSoundFate}
use Rattle.search_machine.specs.Soundness.{IsSound}
use Rattle.search_machine.proofs.Lists.{All-at}
use Rattle.search_machine.proofs.Replacing.{replaced-sound}
use Rattle.search_machine.proofs.Frames.{AreApart-set, no_children}

-- a state stays sound when a node gets the mark that no further version follows
pub Settles-sound : (s t : State) (id : BranchId) (version : ℕ) → IsSound s → Settles s id version t → IsSound t
Settles-sound s t id version h e =
    let node = e.node in
    let is = e.is_gathered.complete_round in
    let new : Node = record node { settled = true } in
    let k = All-at (IsSoundNode s.problem s.cuts) s.nodes id.0 node h.nodes is.is_node in
    let fate = All-at (HasSoundFate s.problem s.cuts (cutoff_of s)) s.nodes id.0 node h.fates is.is_node in
    let sound : IsSoundNode s.problem s.cuts new = assumption k in
    let undone = (rw is.is_round at (k.round)).0 in
    subst IsSound (sym e.becomes)
    (replaced-sound s id.0 node new s.examined s.next_version s.accepted is.is_node h (record { limits = refl; first_prices = refl })
    (no_children (set s.nodes id.0 new) id.0 new node.fate undone) sound fate refl
    (AreApart-set s.next_version s.nodes id.0 node new is.is_node (inl refl) h.apart)
    (record { examined_is = refl; within_budget = h.counts.within_budget; versions = omega arith; accepted_within = omega arith }))
