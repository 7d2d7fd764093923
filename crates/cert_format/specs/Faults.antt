-- What is wrong with a text that spells no plan, and what may be answered.
use Rattle.std.specs.Prelude.{ℕ, ◌≡◌, ◌⊎◌, List, Result, Ok, Err}
use Rattle.proof_tree.specs.declared.plan.Plan.{Plan}
use Rattle.cert_format.specs.declared.fault.PlanFault.{PlanFault}
use Rattle.cert_format.specs.declared.fault.PlanFault.TheVariants.{Line, Ended, OutOfMemory}
use Rattle.cert_format.specs.Drafts.{IsMisplaced, IsUnfinished}

-- this is wrong with the text; want of memory may be told of any text
abbrev pub IsFault : List ℕ → PlanFault → Type 0
IsFault text (Line at) = IsMisplaced text at
IsFault text (Ended at) = IsUnfinished text at
IsFault text OutOfMemory = Unit {0}

-- the answer is this plan, or want of memory
abbrev pub OnlyPlan : Result Plan PlanFault → Plan → Type 0
OnlyPlan (Ok found) plan = found ≡ plan
OnlyPlan (Err fault) plan = fault ≡ OutOfMemory

-- the answer is this fault, or want of memory
abbrev pub OnlyPlanFault : Result Plan PlanFault → PlanFault → Type 0
OnlyPlanFault (Ok found) f = f ≡ OutOfMemory
OnlyPlanFault (Err fault) f = (fault ≡ OutOfMemory) ⊎ ((f ≡ OutOfMemory) ⊎ (fault ≡ f))
