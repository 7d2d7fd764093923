-- The calls of a hub with their answers, and where each may lead: an event of the machine, a reading, or a call for which
-- memory was wanting.
use Rattle.std.specs.Prelude.{ℕ, ◌≡◌, ◌↔◌, true, List, [], Option, None, option_map, slice_get, Result, Ok, Err, IfSome, IsSome}
use Rattle.std.specs.declared.alloc.AllocError.{AllocError}
use Rattle.plan_base.specs.declared.ids.BranchId.{BranchId}
use Rattle.plan_base.specs.declared.path.Design.{Design}
use Rattle.plan_base.specs.declared.design_fault.DesignFault.{DesignFault}
use Rattle.arc_restrict.specs.Rows.{Rows, forbids}
use Rattle.path_pricing.specs.declared.priced.Priced.TheVariants as priced
use Rattle.column_pool.specs.Columns.{no_columns}
use Rattle.dual_versions.specs.declared.published.Published.{Published}
use Rattle.search_machine.specs.declared.answers.Opened.{Opened}
use Rattle.search_machine.specs.declared.answers.RoundFault.{RoundFault}
use Rattle.search_machine.specs.declared.answers.Offer.{Offer}
use Rattle.search_machine.specs.declared.answers.Offered.{Offered}
use Rattle.search_machine.specs.declared.answers.Gather.{Gather}
use Rattle.search_machine.specs.declared.answers.Publish.{Publish}
use Rattle.search_machine.specs.declared.answers.Settle.{Settle}
use Rattle.search_machine.specs.declared.answers.Closing.{Closing}
use Rattle.search_machine.specs.declared.answers.Examined.{Examined}
use Rattle.search_machine.specs.declared.answers.ExamineFault.{ExamineFault}
use Rattle.search_machine.specs.declared.answers.Better.{Better}
use Rattle.search_machine.specs.declared.task.Task.{Task}
use Rattle.search_machine.specs.declared.task.Task.TheVariants as task
use Rattle.search_machine.specs.State.{State, state_of, restriction_of}
use Rattle.search_machine.specs.Changes.{is_open_state}
use Rattle.pool_core.specs.Views.{IsPublishedAt, design_of}
use Rattle.search_worker.specs.Searches.{no_problem}
use Rattle.pool_desk.specs.Events.{OpenStep, OfferStep, GatherStep, PublishStep, SettleStep, CloseStep, ExamineStep, BetterStep, IsLawfulTask}

-- a call, with its answer. What a call hands in by reference stands here by its value
pub data Call : Type 0 where
  Tasking : Task → Call
  Opening : BranchId → Result (Result Opened RoundFault) AllocError → Call
  Offering : Offer → Offered → Call
  Gathering : BranchId → ℕ → Result Gather AllocError → Call
  Publishing : BranchId → ℕ → List ℕ → Result Publish AllocError → Call
  Settling : BranchId → ℕ → Settle → Call
  Closing_of : BranchId → Closing → Call
  Examining : BranchId → Result Examined ExamineFault → Call
  Bettering : Design → Result Better DesignFault → Call
  Grounding : BranchId → Result (Option Rows) AllocError → Call
  Pricing : ℕ → Result (Option Published) AllocError → Call
  Learning : Result (Option Design) AllocError → Call

-- what is forbidden at a node is told where it is an open leaf, and only there
pub record IsGroundOf (s : State) (id : BranchId) (found : Option Rows) : Type 0 where
  pub leaf : IsSome found ↔ (is_open_state (state_of s id) ≡ true)
  pub value : IfSome found (λ rows. IfSome (slice_get s.nodes id.0) (λ node. forbids rows ≡ restriction_of node))

-- from old, the call may be answered so and lead to new. One for which memory was wanting, as for the board or for a copy,
-- changes nothing; gatherings and examinations have answers of their own for that
abbrev pub Moves : State → Call → State → Type 0
Moves old (Tasking task) new = IsLawfulTask old task × (new ≡ old)
Moves old (Opening id (Ok answer)) new = OpenStep old id answer new
Moves old (Opening id (Err wanting)) new = new ≡ old
Moves old (Offering offer answer) new = OfferStep old offer answer new
Moves old (Gathering id version answer) new = GatherStep old id version answer new
Moves old (Publishing id seen prices (Ok answer)) new = PublishStep old id seen prices answer new
Moves old (Publishing id seen prices (Err wanting)) new = new ≡ old
Moves old (Settling id version answer) new = SettleStep old id version answer new
Moves old (Closing_of id answer) new = CloseStep old id answer new
Moves old (Examining id answer) new = ExamineStep old id answer new
Moves old (Bettering design answer) new = BetterStep old design answer new
Moves old (Grounding id (Ok found)) new = IsGroundOf old id found × (new ≡ old)
Moves old (Grounding id (Err wanting)) new = new ≡ old
Moves old (Pricing slot (Ok found)) new = IsPublishedAt old slot found × (new ≡ old)
Moves old (Pricing slot (Err wanting)) new = new ≡ old
Moves old (Learning (Ok found)) new = (found ≡ design_of old) × (new ≡ old)
Moves old (Learning (Err wanting)) new = new ≡ old

-- what stands for a state that none has picked
abbrev pub no_state : State
no_state = record { problem = no_problem; cuts = []; unit = 0; nodes = []; columns = no_columns no_problem; incumbent = None; examined = 0; budget = 0; next_version = 0; accepted = 0 }

-- what stands for an offer that none has picked
abbrev pub no_offer : Offer
no_offer = record { node = record { 0 = 0 }; version = 0; demand = record { 0 = 0 }; found = priced.NoPath [] }

-- what stands for a design that none has picked
abbrev pub no_design : Design
no_design = record { paths = []; counts = [] }

-- what stands for a call that none has picked
abbrev pub no_call : Call
no_call = Tasking task.Done

-- the rows that are shared
abbrev pub shared_rows : {A : Type 0} → (A → Rows) → Result (Option A) AllocError → Result (Option Rows) AllocError
shared_rows rows_of (Ok found) = Ok (option_map rows_of found)
shared_rows rows_of (Err wanting) = Err wanting
