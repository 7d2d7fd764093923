-- An examination of a node where a demand is far is one event.
use Rattle.std.proofs.Common.{◌≡◌, ◌<◌, true, slice_get}
use Rattle.std.specs.Prelude.{Ok}
use Rattle.plan_base.specs.declared.ids.BranchId.{BranchId}
use Rattle.plan_base.specs.declared.ids.DemandId.{DemandId}
use Rattle.proof_tree.specs.declared.tree.Evidence.TheVariants as evidence
use Rattle.search_machine.specs.declared.answers.Examined.TheVariants as examined
use Rattle.search_nodes.specs.declared.reason.Reason.TheVariants as reason
use Rattle.search_machine.specs.State.{State, state_of}
use Rattle.search_machine.specs.Changes.{is_open_state}
use Rattle.search_machine.specs.Examining.{ClosesFar}
use Rattle.search_machine.specs.Machine.{Examining, to_examining, IsReachable}
use Rattle.search_machine.proofs.Runs.{IsReachable-step}
use Rattle.search_view.specs.Views.{closed_at}
use Rattle.search_view.specs.Examining.{IsFarAt}
use Rattle.pool_core.proofs.Examining.{open-at, shown-closed}

module _ (s : State) (id : BranchId) (demand : DemandId) (at : IsFarAt s id demand) where
  -- a node that may be examined and has a far demand is in an open state
  pub far-open : is_open_state (state_of s id) ≡ true
  far-open = open-at s id at.node at.ready.open_node

  -- the budget is not spent where a node with a far demand may be examined
  pub far-not_spent : s.examined < s.budget
  far-not_spent = at.ready.open_node.not_spent

  -- to close the node by its first far demand is the event
  pub far-closes : ClosesFar s id demand (closed_at s id (reason.Shown (evidence.Far demand)) (slice_get s.nodes id.0))
  far-closes = record {
    node = at.node;
    ready = at.ready;
    far = at.far;
    becomes = shown-closed s id at.node (evidence.Far demand) at.ready.open_node.is_node;
  }

  -- the state with the node closed by its first far demand is reachable
  pub far-reachable : IsReachable s → IsReachable (closed_at s id (reason.Shown (evidence.Far demand)) (slice_get s.nodes id.0))
  far-reachable h = IsReachable-step s (closed_at s id (reason.Shown (evidence.Far demand)) (slice_get s.nodes id.0)) (Examining id) (to_examining (Ok (examined.Far demand))) h far-closes
