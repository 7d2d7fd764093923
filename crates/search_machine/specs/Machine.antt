-- The machine: from which state an event leads where, and with which answer; and where many of them lead.
use Rattle.std.specs.Prelude.{ℕ, ◌+◌, ◌≡◌, List, [], ◌∷◌, None, sum_by, Result, Ok}
use Rattle.std.specs.declared.alloc.AllocError.{AllocError}
use Rattle.plan_base.specs.declared.ids.BranchId.{BranchId}
use Rattle.plan_base.specs.declared.parts.Parts.{Parts}
use Rattle.plan_base.specs.declared.path.Design.{Design}
use Rattle.plan_base.specs.declared.design_fault.DesignFault.{DesignFault}
use Rattle.plan_base.specs.Facts.{IsInstance}
use Rattle.link_steps.specs.Unit.{IsUnit}
use Rattle.column_pool.specs.Columns.{no_columns}
use Rattle.proof_tree.specs.declared.cuts.Cut.{Cut}
use Rattle.proof_tree.specs.Cuts.{IsCutList}
use Rattle.cut_values.specs.Numbers.{AreNumbers, AreStartNumbers}
use Rattle.search_machine.specs.declared.answers.Opened.{Opened}
use Rattle.search_machine.specs.declared.answers.RoundFault.{RoundFault}
use Rattle.search_machine.specs.declared.answers.Offer.{Offer}
use Rattle.search_machine.specs.declared.answers.Offered.{Offered}
use Rattle.search_machine.specs.declared.answers.Gather.{Gather}
use Rattle.search_machine.specs.declared.answers.Publish.{Publish}
use Rattle.search_machine.specs.declared.answers.Publish.TheVariants as publish
use Rattle.search_machine.specs.declared.answers.Settle.{Settle}
use Rattle.search_machine.specs.declared.answers.Closing.{Closing}
use Rattle.search_machine.specs.declared.answers.Examined.{Examined}
use Rattle.search_machine.specs.declared.answers.ExamineFault.{ExamineFault}
use Rattle.search_machine.specs.declared.answers.Better.{Better}
use Rattle.search_machine.specs.State.{Node, State}
use Rattle.search_machine.specs.Changes.{waiting_with}
pub use Rattle.search_machine.specs.Opening.{OpenStep}
use Rattle.search_machine.specs.Offering.{accepted_by}
pub use Rattle.search_machine.specs.Offering.{OfferStep}
pub use Rattle.search_machine.specs.Gathering.{GatherStep}
pub use Rattle.search_machine.specs.Publishing.{PublishStep}
pub use Rattle.search_machine.specs.Settling.{SettleStep}
pub use Rattle.search_machine.specs.Closing.{CloseStep}
pub use Rattle.search_machine.specs.Examining.{ExamineStep}
pub use Rattle.search_machine.specs.Bettering.{BetterStep}

-- a call on the pool
pub data Event : Type 0 where
  Opening : BranchId → Event
  Offering : Offer → Event
  Gathering : BranchId → ℕ → Event
  Publishing : BranchId → ℕ → List ℕ → Event
  Settling : BranchId → ℕ → Event
  Closing_of : BranchId → Event
  Examining : BranchId → Event
  Bettering : Design → Event

-- what such a call answers
pub data Answer : Type 0 where
  to_opening : Result Opened RoundFault → Answer
  to_offering : Offered → Answer
  to_gathering : Result Gather AllocError → Answer
  to_publishing : Publish → Answer
  to_settling : Settle → Answer
  to_closing : Closing → Answer
  to_examining : Result Examined ExamineFault → Answer
  to_bettering : Result Better DesignFault → Answer

-- from old, the event may be answered so and lead to new
abbrev pub Step : State → Event → Answer → State → Type 0
Step old (Opening id) (to_opening answer) new = OpenStep old id answer new
Step old (Offering offer) (to_offering answer) new = OfferStep old offer answer new
Step old (Gathering id version) (to_gathering answer) new = GatherStep old id version answer new
Step old (Publishing id seen prices) (to_publishing answer) new = PublishStep old id seen prices answer new
Step old (Settling id version) (to_settling answer) new = SettleStep old id version answer new
Step old (Closing_of id) (to_closing answer) new = CloseStep old id answer new
Step old (Examining id) (to_examining answer) new = ExamineStep old id answer new
Step old (Bettering design) (to_bettering answer) new = BetterStep old design answer new
-- no other answer is given
Step old event answer new = ⊥

-- an event and its answer
pub record Entry : Type 0 where
  pub event : Event
  pub answer : Answer

-- 1 for an answer that accepts a path
abbrev pub accepted_in : Answer → ℕ
accepted_in (to_offering answer) = accepted_by answer
accepted_in _ = 0

-- 1 for a new version
abbrev pub versions_made_by : Answer → ℕ
versions_made_by (to_opening (Ok opened)) = 1
versions_made_by (to_publishing (publish.Published slot version)) = 1
versions_made_by _ = 0

-- these events may be answered so, one after another, and lead from old to new
abbrev pub Run : State → List Entry → State → Type 0
Run old [] new = new ≡ old
Run old (entry ∷ entries) new = (mid : State) × Step old entry.event entry.answer mid × Run mid entries new

-- the counts after a run are those before it and of its answers
pub record IsCounted (s : State) (entries : List Entry) (t : State) : Type 0 where
  pub accepted : t.accepted ≡ s.accepted + sum_by (λ (e : Entry). accepted_in e.answer) entries
  pub next_version : t.next_version ≡ s.next_version + sum_by (λ (e : Entry). versions_made_by e.answer) entries

-- a node without a split above it, that waits with these prices
abbrev pub root_with : List ℕ → Node
root_with prices = waiting_with [] prices

-- the state in which only a root is there, which waits with these prices
abbrev pub opening_with : Parts → List Cut → ℕ → ℕ → List ℕ → State
opening_with p cuts unit budget prices = record {
  problem = p;
  cuts = cuts;
  unit = unit;
  nodes = root_with prices ∷ [];
  columns = no_columns p;
  incumbent = None;
  examined = 0;
  budget = budget;
  next_version = 1;
  accepted = 0;
}

-- the root waits with the start prices and with rates of 0, and nothing else is there
pub record IsOpeningState (p : Parts) (cuts : List Cut) (budget : ℕ) (s : State) : Type 0 where
  pub lawful : IsInstance p
  pub are_cuts : IsCutList p cuts
  pub unit : ℕ
  pub is_unit : IsUnit p unit
  pub prices : List ℕ
  pub are_start : AreStartNumbers p cuts prices
  pub are_numbers : AreNumbers p cuts prices
  pub is_state : s ≡ opening_with p cuts unit budget prices

-- some events lead to the state from the opening state of its own problem, cuts and budget
pub record IsReachable (s : State) : Type 0 where
  pub opening : State
  pub entries : List Entry
  pub is_opening : IsOpeningState s.problem s.cuts s.budget opening
  pub run : Run opening entries s
